-- The text of an opening is read as that opening.
use Rattle.std.proofs.Common.{◌≡◌, ◌≢◌, ℕ, suc, ◌+◌, ℤ, true, false, not, ◌==◌, ◌&&◌, nat_le, Ok, List, [], ◌∷◌, ◌++◌, length, get_or, map, codes, All, AllPairs, bytes_eq, refl, sym, ap, subst, ◌∙◌, inl, inr, arith, append_assoc, append-nil, length-append, le_antisymm}
use Rattle.std.proofs.Math.ListN.{get_or-append}
use Rattle.std.proofs.Math.Seq.{get_or-append_seam}
use Rattle.std.specs.List.{count_by, list_all, list_any, position_or_len, slice_split}
use Rattle.std.specs.Cmp.Lexicographic.{bytes_decides}
use Rattle.std.proofs.lemmas.Bool.{and_parts, cases_lt, false_from_ne_true, not-true}
use Rattle.std.proofs.lemmas.Bool.Decides.{nat_tests}
use Rattle.std.proofs.lemmas.List.{length-map, map-append}
use Rattle.std.proofs.lemmas.List.Elements.{All-append, All-cons}
use Rattle.std.proofs.lemmas.List.Folds.{list_any_none}
use Rattle.std.proofs.lemmas.List.Splits.{slice_split_at, length-slice_split}
use Rattle.std.proofs.lemmas.List.Sums.{AllPass-from_list_all, prefix_len-le-length}
use Rattle.sb_amount.specs.Limit.{IsWithinLimit}
use Rattle.sb_amount.specs.Money.{money}
use Rattle.sb_amount.proofs.Money.{money_lacks, nat_abs-within}
use Rattle.sb_rows.specs.Balances.{Balances, IsBalances, IsSavings}
use Rattle.sb_rows.specs.Customer.{Customer, IsBank, customers_of, names_of}
use Rattle.sb_rows.specs.Directory.{IsDirectory}
use Rattle.sb_rows.specs.Name.{IsName, is_name_byte}
use Rattle.sb_rows.specs.Opening.{customer_line, customers_from, opening_lines, opening_of}
use Rattle.sb_rows.specs.Rows.{SameCustomers}
use Rattle.sb_rows.specs.Text.{after_lines, bytes_of_lines, is_line_feed, lines, unlines, without_empty_last}
use Rattle.sb_rows.specs.declared.name.TheConstants.{NAME_BYTES}
use Rattle.sb_rows.proofs.CustomerSpelling.{IsNext, customer_line-begin, customer_of-customer_line}
use Rattle.sb_rows.proofs.Customers.{balances_of-customers_of, length-customers_of, names_of-customers_of}
use Rattle.sb_rows.proofs.OpeningSteps.{customers_from-begin, customers_from-more, opening_of-ok}
use Rattle.sb_rows.proofs.SplitAtFirstByte.{lines-at, lines-one}
use Rattle.sb_rows.proofs.TextAfterLines.{lines-after_lines}

-- no byte ends a line
abbrev IsClear : List ℕ → Type 0
IsClear text = All (λ c. is_line_feed c ≡ false) text

name_byte_clear : (c : ℕ) → is_name_byte c ≡ true → is_line_feed c ≡ false
name_byte_clear c h = grind (arith, nat_tests)

name_clear : (text : List ℕ) → IsName text → IsClear text
name_clear text h =
    let bytes = (and_parts (nat_le 1 (length text) && nat_le (length text) NAME_BYTES) (list_all is_name_byte text) h).1 in
    λ k d l. name_byte_clear _ (AllPass-from_list_all is_name_byte text bytes k d l)

money_clear : (v : ℤ) → IsWithinLimit v → IsClear (money v)
money_clear v h =
    let small = nat_abs-within v h in
    let bytes = money_lacks 10 refl v (omega arith) in
    λ k d l. not-true _ (AllPass-from_list_all (λ c. not (c == 10)) (money v) bytes k d l)

after_space : (text : List ℕ) → IsClear text → IsClear (32 ∷ text)
after_space text h = All-cons (λ c. is_line_feed c ≡ false) 32 text refl h

customer_clear : (c : Customer) → IsName c.name → IsSavings c.savings → IsWithinLimit c.checking → IsClear (customer_line c)
customer_clear c name savings checking =
    let clear : ℕ → Type 0 = λ c. is_line_feed c ≡ false in
    All-append clear c.name ((32 ∷ money c.savings) ++ (32 ∷ money c.checking)) (name_clear c.name name)
    (All-append clear (32 ∷ money c.savings) (32 ∷ money c.checking) (after_space (money c.savings) (money_clear c.savings savings.within))
    (after_space (money c.checking) (money_clear c.checking checking)))

-- ---- the lines of a text

keeps_first : (line : List ℕ) (pieces : List (List ℕ)) (n : ℕ) → length pieces ≡ n + 1
    → without_empty_last (line ∷ pieces) ≡ line ∷ without_empty_last pieces
keeps_first line [] n h = absurd (omega arith)
keeps_first line (piece ∷ pieces) n h = refl

first_line : (line rest : List ℕ) → IsClear line → lines ((line ++ 10 ∷ []) ++ rest) ≡ line ∷ lines rest
unfolding lines
first_line line rest clear =
    ap (λ (text : List ℕ). without_empty_last (slice_split is_line_feed text)) (append_assoc line (10 ∷ []) rest)
    ∙ ap without_empty_last (slice_split_at is_line_feed line 10 rest clear refl)
    ∙ keeps_first line (slice_split is_line_feed rest) (count_by is_line_feed rest) (length-slice_split is_line_feed rest)

first_of : {X : Type 0} (P : X → Type 0) (x : X) (xs : List X) → All P (x ∷ xs) → P x
first_of P x xs h = h 0 x (omega arith)

rest_of : {X : Type 0} (P : X → Type 0) (x : X) (xs : List X) → All P (x ∷ xs) → All P xs
rest_of P x xs h k d l = h (suc k) d (omega arith)

lines_of_customers : (customers : List Customer) → All IsName (map (λ c. c.name) customers) → All IsSavings (map (λ c. c.savings) customers)
    → All IsWithinLimit (map (λ c. c.checking) customers) → lines (unlines (opening_lines customers)) ≡ opening_lines customers
unfolding lines
lines_of_customers [] names savings checking = refl
lines_of_customers (c ∷ cs) names savings checking =
    let clear = customer_clear c (first_of IsName c.name (map (λ c. c.name) cs) names) (first_of IsSavings c.savings (map (λ c. c.savings) cs) savings)
    (first_of IsWithinLimit c.checking (map (λ c. c.checking) cs) checking) in
    let others = lines_of_customers cs (rest_of IsName c.name (map (λ c. c.name) cs) names) (rest_of IsSavings c.savings (map (λ c. c.savings) cs) savings)
    (rest_of IsWithinLimit c.checking (map (λ c. c.checking) cs) checking) in
    first_line (customer_line c) (unlines (opening_lines cs)) clear ∙ ap (λ (rest : List (List ℕ)). customer_line c ∷ rest) others

-- ---- the customers of a bank, one after another

-- what holds for all holds for the one in between
of_next : {X : Type 0} (P : X → Type 0) (f : Customer → X) (before : List Customer) (c : Customer) (cs : List Customer)
    → All P (map f (before ++ c ∷ cs)) → P (f c)
of_next P f before c cs h =
    let all : All P (map f before ++ f c ∷ map f cs) = rw map-append at h in
    let count = length (map f before) in
    subst P (get_or-append_seam (map f before) (f c) (map f cs) (f c))
    (all count (f c) (omega (arith, length-append (map f before) (f c ∷ map f cs))))

-- a name that differs from all others is new after those before it
new_after : (names : List (List ℕ)) (name : List ℕ) (more : List (List ℕ)) → AllPairs (λ a b. a ≢ b) (names ++ name ∷ more)
    → list_any (bytes_eq name) names ≡ false
new_after names name more h = list_any_none (bytes_eq name) names (λ k d l. false_from_ne_true _ (λ same.
    h k (length names) d l (omega (arith, length-append names (name ∷ more)))
    (get_or-append names (name ∷ more) d k l ∙ sym ((bytes_decides name (get_or names k d)).0 same) ∙ sym (get_or-append_seam names name more d))))

next_of_bank : (before : List Customer) (c : Customer) (cs : List Customer) → IsBank (before ++ c ∷ cs) → IsNext before c
next_of_bank before c cs bank =
    let names = map-append (λ (x : Customer). x.name) before (c ∷ cs) in
    record {
      valid = of_next IsName (λ x. x.name) before c cs bank.names.valid;
      new = new_after (names_of before) c.name (names_of cs) (rw names at bank.names.different);
      room = omega (arith, bank.names.limit, length-map (before ++ c ∷ cs) (λ (x : Customer). x.name), length-append before (c ∷ cs));
      savings = of_next IsSavings (λ x. x.savings) before c cs bank.balances.savings;
      checking = of_next IsWithinLimit (λ x. x.checking) before c cs bank.balances.checking;
    }

customers_of_lines : (before cs : List Customer) → IsBank (before ++ cs) → customers_from before (opening_lines cs) ≡ Ok (before ++ cs)
customers_of_lines before [] bank = customers_from-begin before (codes "begin") [] refl ∙ ap Ok (sym (append-nil before))
customers_of_lines before (c ∷ cs) bank =
    let next = next_of_bank before c cs bank in
    let order : (before ++ c ∷ []) ++ cs ≡ before ++ c ∷ cs = append_assoc before (c ∷ []) cs in
    customers_from-more before (customer_line c) (opening_lines cs) c (customer_line-begin before c next) (customer_of-customer_line before c next)
    ∙ customers_of_lines (before ++ c ∷ []) cs (subst IsBank (sym order) bank) ∙ ap Ok order

-- ---- the whole text

-- a text without lines is empty
no_lines : (text : List ℕ) → lines text ≡ [] → length text ≡ 0
no_lines [] none = refl
no_lines (byte ∷ rest) none =
    let text : List ℕ = byte ∷ rest in
    let first = position_or_len is_line_feed text in
    elim (cases_lt first (length text)) [
      | inl within ↦ let one = lines-at text first within refl in absurd cc
      | inr past ↦
          let whole : first ≡ length text = le_antisymm (prefix_len-le-length (λ c. not (is_line_feed c)) text) past in
          let one = lines-one text whole (omega arith) in absurd cc
    ]

-- with as many lines as it has, a text ends
bytes_of_all_lines : (text : List ℕ) (all : List (List ℕ)) → lines text ≡ all → bytes_of_lines (length all) text ≡ length text
bytes_of_all_lines text all is =
    let left = lines-after_lines text all [] (is ∙ sym (append-nil all)) in
    omega (arith, no_lines (after_lines (length all) text) left)

-- the text of an opening is read as it, to its last byte
pub opening_reads_back : (names : List (List ℕ)) (balances : Balances) → SameCustomers names balances
    → let text = unlines (opening_lines (customers_of names balances)) in
    opening_of text ≡ Ok (record { names = names; balances = balances; consumed = length text })
opening_reads_back names balances same =
    let customers = customers_of names balances in
    let text = unlines (opening_lines customers) in
    let bank : IsBank customers = record {
      names = subst IsDirectory (sym (names_of-customers_of names balances same)) same.names;
      balances = subst IsBalances (sym (balances_of-customers_of names balances same)) same.balances;
    } in
    let read = lines_of_customers customers bank.names.valid bank.balances.savings bank.balances.checking in
    let count : length (opening_lines customers) ≡ length names + 1 =
    length-append (map customer_line customers) (codes "begin" ∷ [])
    ∙ ap (λ n. n + 1) (length-map customers customer_line ∙ length-customers_of names balances same) in
    opening_of-ok text names balances (length text) same (ap (customers_from []) read ∙ customers_of_lines [] customers bank)
    (ap (λ n. bytes_of_lines n text) (sym count) ∙ bytes_of_all_lines text (opening_lines customers) read)
