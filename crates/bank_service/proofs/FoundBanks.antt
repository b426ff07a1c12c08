-- The bank of a log's file: the text of a new log is an opening up to its end, and why no bank is found.
use Rattle.std.proofs.Common.{◌≡◌, ℕ, suc, ◌+◌, ◌-◌, ◌<◌, ◌≤◌, ◌==◌, ◌≢◌, Bool, true, false, eqb-true, if◌then◌else◌, Result, Ok, Err, List, [], ◌∷◌, ◌++◌, length, slice_index, take, drop, inl, inr, refl, sym, ap, subst, ◌∙◌, arith, length-drop}
use Rattle.std.proofs.Math.ListN.{drop_of_length-le}
use Rattle.std.proofs.Math.Seq.{drop-cons}
use Rattle.std.proofs.lemmas.List.{append_cancel_right, nil_from_length, take-append-drop}
use Rattle.sb_rows.specs.Customer.{Customer, names_of, balances_of}
use Rattle.sb_rows.specs.Opening.{OpeningText, customers_from, opening_of, ◌>>=◌}
use Rattle.sb_rows.specs.Text.{lines, bytes_of_lines}
use Rattle.sb_rows.specs.declared.fault.LineFault.{LineFault}
use Rattle.sb_rows.specs.declared.fault.LineFault.TheVariants.{NoBegin}
use Rattle.sb_rows.proofs.OpeningSteps.{customers_from-nil, opening_of-fault}
use Rattle.sb_rows.proofs.SplitAtFirstByte.{lines-nil}
use Rattle.sb_calls.specs.declared.ask.Key.{Key}
use Rattle.sb_calls.specs.declared.call.Call.{Call}
use Rattle.sb_log.specs.LogFiles.{LogFileOf}
use Rattle.sb_log.specs.Records.{records}
use Rattle.sb_log.specs.declared.log_fault.LogFault.{LogFault}
use Rattle.sb_log.specs.declared.log_fault.LogFault.TheVariants.{Damaged, Device, InUse, OutOfMemory}
use Rattle.sb_ask_log.specs.LogFile.{IsOpeningText, with_line_end}
use Rattle.sb_ask_log.specs.Recovery.{AreRead, FailsToMake, FailsToRecover, HasPartOfOpening, ReadsAskLog}
use Rattle.bank_server.specs.Input.{in_opening}
use Rattle.bank_server.specs.declared.fault.InputFault.{InputFault}
use Rattle.bank_server.specs.declared.fault.RunFault.TheVariants as run
use Rattle.bank_service.specs.FoundBank.{HasNoLog, IsFindFault}
use Rattle.bank_service.specs.Opening.{with_nothing_behind, whole_opening_of}
use Rattle.bank_service.specs.declared.serve_fault.ServeFault.{ServeFault}
use Rattle.bank_service.specs.declared.serve_fault.ServeFault.TheVariants.{AnotherOpening, Log, PortTaken, ReadBack, Run, Store, StoreInUse}
use Rattle.bank_service.specs.inner.FindSteps.{IsCreateFault, IsMatchFault}
use Rattle.bank_service.proofs.WholeOpenings.{whole_if_all, whole_is}

-- ---- the end of the last line

-- the last byte stands last
ends_at : (text : List ℕ) → 0 < length text → slice_index text (length text - 1) ≡ 10
    → (front : List ℕ) × (text ≡ front ++ 10 ∷ [])
ends_at text some is =
    let k = length text - 1 in
    let below : k < length text = omega arith in
    let none : drop (suc k) text ≡ [] = drop_of_length-le text {i = suc k} (omega arith) in
    let last : drop k text ≡ 10 ∷ [] = drop-cons text k 0 below ∙ (rw (is, none) refl) in
    (take k text, sym (take-append-drop k text) ∙ ap (λ (l : List ℕ). take k text ++ l) last)

-- a text that isn't empty ends a line then
ends_line : (text : List ℕ) → 0 < length text → (front : List ℕ) × (with_line_end text ≡ front ++ 10 ∷ [])
ends_line text some = by (length text == 0) (slice_index text (length text - 1) == 10) refl refl
  where
    by : (none ends : Bool) → (length text == 0) ≡ none → (slice_index text (length text - 1) == 10) ≡ ends
        → (front : List ℕ) × ((if none then [] else if ends then text else text ++ 10 ∷ []) ≡ front ++ 10 ∷ [])
    by true ends none is = let zero_long : length text ≡ 0 = eqb-true (length text) 0 none in absurd (omega arith)
    by false true none is = ends_at text some (eqb-true (slice_index text (length text - 1)) 10 is)
    by false false none is = (text, refl)

-- ---- the bytes that an opening takes

-- no more than there are
taken_within : (text : List ℕ) (opening : OpeningText) → opening_of text ≡ Ok opening → opening.consumed ≤ length text
taken_within text opening is = by (customers_from [] (lines text)) is
  where
    by : (read : Result (List Customer) (ℕ × LineFault))
        → (read >>= λ customers. Ok (record {
          names = names_of customers;
          balances = balances_of customers;
          consumed = bytes_of_lines (length customers + 1) text;
        })) ≡ Ok opening
        → opening.consumed ≤ length text
    by (Ok customers) e =
        let read : OpeningText = record {
          names = names_of customers;
          balances = balances_of customers;
          consumed = bytes_of_lines (length customers + 1) text;
        } in
        let same : read ≡ opening = cc in
        let at : bytes_of_lines (length customers + 1) text ≡ opening.consumed = ap (λ (o : OpeningText). o.consumed) same in
        omega (arith, at)
    by (Err fault) e = cc

-- all, if nothing is behind
whole_takes : (text : List ℕ) (opening : OpeningText) → whole_opening_of text ≡ Ok opening
    → (opening_of text ≡ Ok opening) × (opening.consumed ≡ length text)
whole_takes text opening is = by (opening_of text) refl
  where
    behind : (found : OpeningText) → opening_of text ≡ Ok found → (rest : List ℕ) → drop found.consumed text ≡ rest
        → with_nothing_behind found rest ≡ Ok opening → (opening_of text ≡ Ok opening) × (opening.consumed ≡ length text)
    behind found read [] none e =
        let same : found ≡ opening = cc in
        let within : found.consumed ≤ length text = taken_within text found read in
        let all : found.consumed ≡ length text = omega (arith, ap length none, length-drop found.consumed text) in
        (cc, sym (ap (λ (o : OpeningText). o.consumed) same) ∙ all)
    behind found read (byte ∷ rest) some e = cc

    by : (read : Result OpeningText (ℕ × LineFault)) → opening_of text ≡ read
        → (opening_of text ≡ Ok opening) × (opening.consumed ≡ length text)
    by (Ok found) read = behind found read (drop found.consumed text) refl (sym (whole_is text (Ok found) read) ∙ is)
    by (Err fault) read =
        let e : whole_opening_of text ≡ in_opening (Err fault) = whole_is text (Err fault) read in
        cc

-- an empty text isn't an opening
none_of_nothing : opening_of [] ≡ Err (1, NoBegin)
none_of_nothing = opening_of-fault [] 1 NoBegin (ap (λ (ls : List (List ℕ)). customers_from [] ls) (lines-nil [] refl) ∙ customers_from-nil [])

-- a whole opening with the end of its last line is an opening text
pub opening_text : (input text : List ℕ) (opening : OpeningText) → text ≡ with_line_end input
    → whole_opening_of text ≡ Ok opening → IsOpeningText text
opening_text [] text opening same is =
    let none : text ≡ [] = same in
    let read : opening_of text ≡ Ok opening = (whole_takes text opening is).0 in
    let not_read : opening_of text ≡ Err (1, NoBegin) = ap (λ (t : List ℕ). opening_of t) none ∙ none_of_nothing in
    cc
opening_text (byte ∷ rest) text opening same is =
    let e = whole_takes text opening is in
    let ended = ends_line (byte ∷ rest) (omega arith) in
    record {
      opening = opening;
      read = e.0;
      whole = e.1;
      ended = (ended.0, same ∙ ended.1);
    }

-- ---- tests

-- a text of no bytes is empty, and one of some bytes isn't
pub none_if_empty : (text : List ℕ) (count : ℕ) → count ≡ length text → (count == 0) ≡ true → text ≡ []
none_if_empty text count is none = nil_from_length text (sym is ∙ eqb-true count 0 none)

pub some_if_filled : (text : List ℕ) (count : ℕ) → count ≡ length text → (count == 0) ≡ false → text ≢ []
some_if_filled text count is some none =
    let no_byte : count ≡ 0 = is ∙ ap length none in
    let zero : (count == 0) ≡ true = rw no_byte refl in
    cc

-- ---- why no bank is found

-- the text of a log is a whole opening
log_opening : (bodies : List (List ℕ)) (text : List ℕ) (log : List (Key × Call)) → AreRead bodies text log → text ≢ [] → IsOpeningText text
log_opening [] text log read some = absurd (some read.0)
log_opening (body ∷ bodies) text log read some = read.opening

no_line_fault : (text : List ℕ) (line : ℕ) (fault : InputFault) → IsOpeningText text → whole_opening_of text ≡ Err (line, fault) → ⊥
no_line_fault text line fault opening is =
    let whole : whole_opening_of text ≡ Ok opening.opening = whole_if_all text opening.opening opening.read (omega (arith, opening.whole)) in
    cc

-- there is a log, and the input doesn't match it
pub matches_not : (content input new text : List ℕ) (asks : List (Key × Call)) (rest : List ℕ) (fault : ServeFault) → ReadsAskLog content text asks rest
    → content ≡ new ++ rest → text ≢ [] → IsMatchFault text input fault → IsFindFault content input fault new
matches_not content input new text asks rest (Run (run.Input line fault)) read left some is =
    absurd (no_line_fault text line fault (log_opening read.bodies text asks read.are some) is)
matches_not content input new text asks rest (Run (run.Strayed node reason)) read left some is = absurd is
matches_not content input new text asks rest (Run run.CrewGone) read left some is = absurd is
matches_not content input new text asks rest (Run run.Device) read left some is = absurd is
matches_not content input new text asks rest (Run run.OutOfMemory) read left some is =
    inl (inr (read.bodies, rest, read.reads, read.torn, append_cancel_right new (records read.bodies) rest (sym left ∙ read.reads.whole)))
matches_not content input new text asks rest ReadBack read left some is = absurd is
matches_not content input new text asks rest Store read left some is = absurd is
matches_not content input new text asks rest StoreInUse read left some is = absurd is
matches_not content input new text asks rest (PortTaken port) read left some is = absurd is
matches_not content input new text asks rest (Log fault) read left some is = absurd is
matches_not content input new text asks rest AnotherOpening read left some is = (text, asks, rest, read, some, is.0, is.1, left)

-- no log is made with this text
pub create_fault : (failed : Bool) (Honest : Type 0) (text wanted new : List ℕ) (fault : LogFault) → text ≡ wanted
    → FailsToMake text fault failed Honest new → Honest → IsCreateFault wanted (Log fault) new
create_fault failed Honest text wanted new Device same is honest = subst (λ (t : List ℕ). HasPartOfOpening t new) same (is.1 honest)
create_fault failed Honest text wanted new OutOfMemory same is honest = subst (λ (t : List ℕ). HasPartOfOpening t new) same (is honest)
create_fault failed Honest text wanted new (Damaged byte behind) same is honest = absurd is
create_fault failed Honest text wanted new InUse same is honest = absurd is

pub device_failed : {A : Type 0} (failed : Bool) (Honest : Type 0) (text new : List ℕ) (fault : LogFault) → FailsToMake text fault failed Honest new
    → ◌≡◌ {A = Result A ServeFault} (Err (Log fault)) (Err (Log Device)) → failed ≡ true
device_failed failed Honest text new Device is e = is.0
device_failed failed Honest text new OutOfMemory is e = cc
device_failed failed Honest text new (Damaged byte behind) is e = absurd is
device_failed failed Honest text new InUse is e = absurd is

-- and no bank is found then in a file that has no log
pub creates_not : (content input text new : List ℕ) (asks : List (Key × Call)) (rest : List ℕ) (fault : ServeFault) → text ≡ [] → asks ≡ []
    → ReadsAskLog content text asks rest → IsCreateFault (with_line_end input) fault new → IsFindFault content input fault new
creates_not content input text new asks rest fault none no_ask read is = by fault is
  where
    no_log : HasNoLog content
    no_log = (rest, subst (λ (t : List ℕ). ReadsAskLog content t [] rest) none (subst (λ (l : List (Key × Call)). ReadsAskLog content text l rest) no_ask read))

    by : (fault : ServeFault) → IsCreateFault (with_line_end input) fault new → IsFindFault content input fault new
    by (Run (run.Input line fault)) is = (no_log, is.0, is.1)
    by (Run (run.Strayed node reason)) is = absurd is
    by (Run run.CrewGone) is = absurd is
    by (Run run.Device) is = absurd is
    by (Run run.OutOfMemory) is = inr (no_log, is)
    by ReadBack is = absurd is
    by Store is = absurd is
    by StoreInUse is = absurd is
    by (PortTaken port) is = absurd is
    by (Log (Damaged byte behind)) is = absurd is
    by (Log Device) is = inr (no_log, is)
    by (Log OutOfMemory) is = inr (no_log, is)
    by (Log InUse) is = absurd is
    by AnotherOpening is = absurd is

-- nor in a file that isn't recovered
pub recover_fault : (before after : LogFileOf) (input : List ℕ) (fault : LogFault) → FailsToRecover before fault after
    → IsFindFault before.content input (Log fault) after.content
recover_fault before after input (Damaged byte behind) is = (is.0, is.1.content_is)
recover_fault before after input Device is = inl is
recover_fault before after input OutOfMemory is = inl is
recover_fault before after input InUse is = absurd is

-- a log's fault again
pub log_again : {A B : Type 0} (x y : LogFault) → ◌≡◌ {A = Result A ServeFault} (Err (Log x)) (Err (Log y)) → ◌≡◌ {A = Result B LogFault} (Err x) (Err y)
log_again x y e = let same : x ≡ y = cc in ap (λ (f : LogFault). Err f) same
