-- The opening at the front of a text is read, and what is read is that opening.
use Rattle.std.proofs.Common.{◌≡◌, ℕ, ◌+◌, ◌≢◌, Bool, true, false, Result, Ok, Err, IfOk, MatchResult, List, [], ◌∷◌, ◌++◌, map, length, drop, get_or, codes, All, AllPairs, bytes_eq, refl, sym, ap, subst, subst₂, ◌∙◌, arith, append_assoc, append-nil, length-append}
use Rattle.std.specs.List.{list_any}
use Rattle.std.specs.Cmp.Lexicographic.{bytes_decides}
use Rattle.std.proofs.Math.ListN.{get_or-append}
use Rattle.std.proofs.Math.Seq.{get_or-append_seam}
use Rattle.std.proofs.lemmas.Bool.{false_from_ne_true}
use Rattle.std.proofs.lemmas.List.{length-map, map-append}
use Rattle.std.proofs.lemmas.List.Folds.{list_any_none}
use Rattle.sb_amount.specs.Limit.{IsWithinLimit}
use Rattle.sb_rows.specs.Balances.{Balances, IsBalances, IsSavings}
use Rattle.sb_rows.specs.Customer.{Customer, IsBank, names_of, balances_of, customers_of}
use Rattle.sb_rows.specs.Directory.{IsDirectory}
use Rattle.sb_rows.specs.Name.{IsName}
use Rattle.sb_rows.specs.Opening.{◌>>=◌, OpeningText, customer_line, opening_lines, customers_from, customer_of, opening_of}
use Rattle.sb_rows.specs.OpeningReads.{Reads}
use Rattle.sb_rows.specs.Rows.{SameCustomers}
use Rattle.sb_rows.specs.Text.{lines, words, bytes_of_lines, after_lines}
use Rattle.sb_rows.specs.declared.fault.LineFault.{LineFault}
use Rattle.sb_rows.specs.declared.fault.OpeningFault.{OpeningFault}
use Rattle.sb_rows.specs.declared.fault.OpeningFault.TheVariants.{Line, OutOfMemory}
use Rattle.sb_rows.specs.declared.opening.Opening.{Opening}
use Rattle.sb_rows.proofs.Customers.{names_of-customers_of, balances_of-customers_of}
use Rattle.sb_rows.proofs.OpeningSteps.{customers_from-begin, customers_from-more, customers_from-fault, customers_from-nil, with_consumed}
use Rattle.sb_rows.proofs.CustomerSpelling.{IsNext, customer_of-customer_line, customer_line-begin, line_read}
use Rattle.sb_rows.proofs.TextAfterLines.{lines-after_lines, drop-bytes_of_lines}

-- ---- customers of a bank may come one after another

-- what holds for each element holds for the one in between
All-seam : {X : Type 0} (P : X → Type 0) (xs : List X) (y : X) (ys : List X) → All P (xs ++ y ∷ ys) → P y
All-seam P xs y ys h = subst P (get_or-append_seam xs y ys y) (h (length xs) y (omega (arith, length-append xs (y ∷ ys))))

-- the same for the images of the elements
All-part : {X : Type 0} (P : X → Type 0) (f : Customer → X) (before : List Customer) (c : Customer) (cs : List Customer)
    → All P (map f (before ++ c ∷ cs)) → P (f c)
All-part P f before c cs h = All-seam P (map f before) (f c) (map f cs) (rw map-append at h)

-- if names are different, each is new after those before it
new_among : (names : List (List ℕ)) (name : List ℕ) (more : List (List ℕ)) → AllPairs (λ a b. a ≢ b) (names ++ name ∷ more)
    → list_any (bytes_eq name) names ≡ false
new_among names name more h = list_any_none (bytes_eq name) names (λ k d l. false_from_ne_true _ (λ same.
    h k (length names) d l (omega (arith, length-append names (name ∷ more)))
    (get_or-append names (name ∷ more) d k l ∙ sym ((bytes_decides name (get_or names k d)).0 same) ∙ sym (get_or-append_seam names name more d))))

-- a customer of a bank may come after those before it
next_from_bank : (before : List Customer) (c : Customer) (cs : List Customer) → IsBank (before ++ c ∷ cs) → IsNext before c
next_from_bank before c cs h =
    let split = map-append (λ (x : Customer). x.name) before (c ∷ cs) in
    record {
      valid = All-part IsName (λ x. x.name) before c cs h.names.valid;
      new = new_among (names_of before) c.name (names_of cs) (rw split at h.names.different);
      room = omega (arith, h.names.limit, length-map (before ++ c ∷ cs) (λ (x : Customer). x.name), length-append before (c ∷ cs));
      savings = All-part IsSavings (λ x. x.savings) before c cs h.balances.savings;
      checking = All-part IsWithinLimit (λ x. x.checking) before c cs h.balances.checking;
    }

-- ---- a text that spells an opening is read

-- the lines of customers are read as these customers
customers_from-opening : (before cs : List Customer) (rest : List (List ℕ)) → IsBank (before ++ cs)
    → customers_from before (opening_lines cs ++ rest) ≡ Ok (before ++ cs)
customers_from-opening before [] rest bank = customers_from-begin before (codes "begin") rest refl ∙ ap Ok (sym (append-nil before))
customers_from-opening before (c ∷ cs) rest bank =
    let next = next_from_bank before c cs bank in
    let order : (before ++ c ∷ []) ++ cs ≡ before ++ c ∷ cs = append_assoc before (c ∷ []) cs in
    customers_from-more before (customer_line c) (opening_lines cs ++ rest) c (customer_line-begin before c next) (customer_of-customer_line before c next)
    ∙ customers_from-opening (before ++ c ∷ []) cs rest (subst IsBank (sym order) bank) ∙ ap Ok order

-- what a text says if it spells an opening
opening_of-opening : (text : List ℕ) (customers : List Customer) (rest : List (List ℕ)) → IsBank customers → lines text ≡ opening_lines customers ++ rest
    → opening_of text ≡ Ok (record { names = names_of customers; balances = balances_of customers; consumed = bytes_of_lines (length customers + 1) text })
opening_of-opening text customers rest bank h =
    ap (λ r. r >>= with_consumed text) (ap (customers_from []) h ∙ customers_from-opening [] customers rest bank)

-- ---- what is read spells the text

-- the customers that were read from lines, and what the lines are
record IsRead (before : List Customer) (ls : List (List ℕ)) (customers : List Customer) : Type 0 where
  more : List Customer
  rest : List (List ℕ)
  all : customers ≡ before ++ more
  spelled : ls ≡ opening_lines more ++ rest

-- one more line, if the reading of the lines after it is known
read_line : (before : List Customer) (line : List ℕ) (ls : List (List ℕ)) (customers : List Customer)
    → ((after : List Customer) → customers_from after ls ≡ Ok customers → IsRead after ls customers) → customers_from before (line ∷ ls) ≡ Ok customers
    → (b : Bool) (r : Result Customer LineFault) → bytes_eq line (codes "begin") ≡ b → customer_of before (words line) ≡ r → IsRead before (line ∷ ls) customers
read_line before line ls customers further h true r e k =
    let ended : ◌≡◌ {A = Result (List Customer) (ℕ × LineFault)} (Ok customers) (Ok before) = sym h ∙ customers_from-begin before line ls e in
    let same : customers ≡ before = cc in
    record { more = []; rest = ls; all = same ∙ sym (append-nil before); spelled = ap (λ l. l ∷ ls) ((bytes_decides line (codes "begin")).0 e) }
read_line before line ls customers further h false (Ok c) e k =
    let next = further (before ++ c ∷ []) (sym (customers_from-more before line ls c e k) ∙ h) in
    record {
      more = c ∷ next.more;
      rest = next.rest;
      all = next.all ∙ append_assoc before (c ∷ []) next.more;
      spelled = λ i. line_read before line c k i ∷ next.spelled i;
    }
read_line before line ls customers further h false (Err fault) e k = let stopped = customers_from-fault before line ls fault e k in cc

-- what is read determines the lines
IsRead-from : (before : List Customer) (ls : List (List ℕ)) (customers : List Customer) → customers_from before ls ≡ Ok customers → IsRead before ls customers
IsRead-from before [] customers h = let none = customers_from-nil before in cc
IsRead-from before (line ∷ ls) customers h =
    read_line before line ls customers (λ after. IsRead-from after ls customers) h (bytes_eq line (codes "begin")) (customer_of before (words line)) refl refl

-- names and balances give the customers back
customers_back : (customers : List Customer) → customers_of (names_of customers) (balances_of customers) ≡ customers
customers_back [] = refl
customers_back (c ∷ cs) = ap (λ l. c ∷ l) (customers_back cs)

-- one line for each customer, and `begin`
length-opening_lines : (customers : List Customer) → length (opening_lines customers) ≡ length customers + 1
length-opening_lines customers =
    length-append (map customer_line customers) (codes "begin" ∷ []) ∙ ap (λ n. n + 1) (length-map customers customer_line)

-- the lines that were read, and where the text goes on after them
lines-opening : (text : List ℕ) (customers : List Customer) → customers_from [] (lines text) ≡ Ok customers
    → lines text ≡ opening_lines customers ++ lines (drop (bytes_of_lines (length customers + 1) text) text)
lines-opening text customers h =
    let got = IsRead-from [] (lines text) customers h in
    let spelled : lines text ≡ opening_lines customers ++ got.rest = got.spelled ∙ ap (λ cs. opening_lines cs ++ got.rest) (sym got.all) in
    let there : lines (drop (bytes_of_lines (length customers + 1) text) text) ≡ got.rest =
    ap lines (drop-bytes_of_lines (length customers + 1) text) ∙ ap (λ n. lines (after_lines n text)) (sym (length-opening_lines customers))
    ∙ lines-after_lines text (opening_lines customers) got.rest spelled in
    spelled ∙ ap (λ ls. opening_lines customers ++ ls) (sym there)

-- a text begins with the opening of these customers, and goes on after these bytes
abbrev IsSpelled : List ℕ → List Customer → ℕ → Type 0
IsSpelled text customers consumed = lines text ≡ opening_lines customers ++ lines (drop consumed text)

-- a text spells what it says
spelled_from_read : (text : List ℕ) (names : List (List ℕ)) (b : Balances) (consumed : ℕ) (r : Result (List Customer) (ℕ × LineFault))
    → customers_from [] (lines text) ≡ r → opening_of text ≡ Ok (record { names = names; balances = b; consumed = consumed })
    → IsSpelled text (customers_of names b) consumed
spelled_from_read text names b consumed (Ok cs) e h =
    let said : OpeningText = record { names = names; balances = b; consumed = consumed } in
    let read : OpeningText = record { names = names_of cs; balances = balances_of cs; consumed = bytes_of_lines (length cs + 1) text } in
    let result : ◌≡◌ {A = Result OpeningText (ℕ × LineFault)} (Ok read) (Ok said) = sym (ap (λ r. r >>= with_consumed text) e) ∙ h in
    let same : read ≡ said = cc in
    let customers : cs ≡ customers_of names b = sym (customers_back cs) ∙ (λ i. customers_of (same i).names (same i).balances) in
    subst₂ (IsSpelled text) customers (ap (λ (o : OpeningText). o.consumed) same) (lines-opening text cs e)
spelled_from_read text names b consumed (Err fault) e h =
    let result : ◌≡◌ {A = Result OpeningText (ℕ × LineFault)} (Err fault) (Ok (record { names = names; balances = b; consumed = consumed })) =
    sym (ap (λ r. r >>= with_consumed text) e) ∙ h in cc

-- names and balances of the same customers make a bank
IsBank-customers_of : (names : List (List ℕ)) (b : Balances) → SameCustomers names b → IsBank (customers_of names b)
IsBank-customers_of names b h = record {
  names = subst IsDirectory (sym (names_of-customers_of names b h)) h.names;
  balances = subst IsBalances (sym (balances_of-customers_of names b h)) h.balances;
}

-- ---- what a reader answers that is exact

-- what is read spells the text
pub Reads-spelled : (text : List ℕ) (r : Result Opening OpeningFault) → Reads r (opening_of text)
    → IfOk r (λ o. IsBank (customers_of o.directory o.columns) × IsSpelled text (customers_of o.directory o.columns) o.consumed)
Reads-spelled text (Ok o) h = (
  IsBank-customers_of o.directory o.columns o.same_customers,
  spelled_from_read text o.directory o.columns o.consumed (customers_from [] (lines text)) refl h,
)
Reads-spelled text (Err fault) h = tt

-- a text that spells an opening is read, unless memory is refused
pub Reads-taken : (text : List ℕ) (r : Result Opening OpeningFault) → Reads r (opening_of text)
    → (customers : List Customer) (rest : List (List ℕ)) → IsBank customers → lines text ≡ opening_lines customers ++ rest
    → MatchResult r (λ o. (o.directory ≡ names_of customers) × (o.columns ≡ balances_of customers)) (λ fault. fault ≡ OutOfMemory)
Reads-taken text (Ok o) h customers rest bank e =
    let read : OpeningText = record { names = names_of customers; balances = balances_of customers; consumed = bytes_of_lines (length customers + 1) text } in
    let said : OpeningText = record { names = o.directory; balances = o.columns; consumed = o.consumed } in
    let result : ◌≡◌ {A = Result OpeningText (ℕ × LineFault)} (Ok said) (Ok read) = sym h ∙ opening_of-opening text customers rest bank e in
    let same : said ≡ read = cc in
    (ap (λ (x : OpeningText). x.names) same, ap (λ (x : OpeningText). x.balances) same)
Reads-taken text (Err (Line number fault)) h customers rest bank e = let read = opening_of-opening text customers rest bank e in cc
Reads-taken text (Err OutOfMemory) h customers rest bank e = refl
