-- Outcomes that are told, one after another.
use Rattle.std.proofs.Common.{◌≡◌, ℕ, ◌+◌, ◌<◌, List, [], ◌∷◌, ◌++◌, length, drop, refl, sym, ap, subst, ◌∙◌, arith, append_assoc, append-nil, length-append, length-drop, Option, Result, Ok, Err}
use Rattle.std.specs.Prelude.{◌≢◌}
use Rattle.std.specs.List.{flat_map}
use Rattle.std.proofs.KnownBytes.{Consumes-nil}
use Rattle.std.proofs.lemmas.Grind.{flat_map-append}
use Rattle.std.proofs.lemmas.List.{drop-drop}
use Rattle.sb_rows.specs.Text.{unlines}
use Rattle.sb_calls.specs.declared.call.Call.{Call}
use Rattle.sb_frames.specs.Grammar.{spelling}
use Rattle.sb_frames.specs.declared.frame.AskOutcome.{AskOutcome}
use Rattle.sb_frames.specs.declared.frame.Frame.{Frame}
use Rattle.sb_frames.specs.declared.frame.Frame.TheVariants.{Outcome}
use Rattle.ask_client.specs.Batches.{BatchOf, after_outcomes, outcome_frames}
use Rattle.ask_client.specs.Conversations.{Hears, TellsFirst}
use Rattle.ask_client.specs.OutcomeLines.{outcome_line, outcome_lines}
use Rattle.ask_client.specs.declared.talk_fault.TalkFault.{TalkFault}
use Rattle.ask_client.specs.declared.talk_fault.TalkFault.TheVariants.{Connection, OutOfMemory, Unexpected}

-- a list that isn't empty has an element
pub some_element : {X : Type 0} (xs : List X) → xs ≢ [] → 0 < length xs
some_element [] some = absurd (some refl)
some_element (x ∷ xs) some = omega arith

pub outcome_frames-append : (client first : ℕ) (xs ys : List AskOutcome)
    → outcome_frames client first (xs ++ ys) ≡ outcome_frames client first xs ++ outcome_frames client (first + length xs) ys
outcome_frames-append client first [] ys = let same : first ≡ first + 0 = omega arith in ap (λ (n : ℕ). outcome_frames client n ys) same
outcome_frames-append client first (x ∷ xs) ys =
    let next : (first + 1) + length xs ≡ first + length (x ∷ xs) = omega arith in
    ap (λ (l : List Frame). Outcome client first x ∷ l) (outcome_frames-append client (first + 1) xs ys
    ∙ ap (λ (n : ℕ). outcome_frames client (first + 1) xs ++ outcome_frames client n ys) next)

pub outcome_lines-append : (first : ℕ) (xs ys : List AskOutcome)
    → outcome_lines first (xs ++ ys) ≡ outcome_lines first xs ++ outcome_lines (first + length xs) ys
outcome_lines-append first [] ys = let same : first ≡ first + 0 = omega arith in ap (λ (n : ℕ). outcome_lines n ys) same
outcome_lines-append first (x ∷ xs) ys =
    let next : (first + 1) + length xs ≡ first + length (x ∷ xs) = omega arith in
    ap (λ (l : List (List ℕ)). outcome_line first x ∷ l) (outcome_lines-append (first + 1) xs ys
    ∙ ap (λ (n : ℕ). outcome_lines (first + 1) xs ++ outcome_lines n ys) next)

-- the lines of outcomes, and then of more
pub unlines-append : (first : ℕ) (xs ys : List AskOutcome)
    → unlines (outcome_lines first (xs ++ ys)) ≡ unlines (outcome_lines first xs) ++ unlines (outcome_lines (first + length xs) ys)
unlines-append first xs ys =
    ap unlines (outcome_lines-append first xs ys)
    ∙ flat_map-append (λ (line : List ℕ). line ++ 10 ∷ []) (outcome_lines first xs) (outcome_lines (first + length xs) ys)

-- their frames, and then more
pub spellings-append : (client first : ℕ) (xs ys : List AskOutcome)
    → flat_map spelling (outcome_frames client first (xs ++ ys))
    ≡ flat_map spelling (outcome_frames client first xs) ++ flat_map spelling (outcome_frames client (first + length xs) ys)
spellings-append client first xs ys =
    ap (flat_map spelling) (outcome_frames-append client first xs ys)
    ∙ flat_map-append spelling (outcome_frames client first xs) (outcome_frames client (first + length xs) ys)

-- no outcome leaves a batch as it is
pub after_none : (batch : BatchOf) → batch ≡ after_outcomes 0 batch
after_none batch =
    let with_first : ℕ → BatchOf = λ n. record { client = batch.client; first = n; calls = batch.calls } in
    let same : batch.first ≡ batch.first + 0 = omega arith in
    ap with_first same

-- outcomes, and then more
pub after_more : (batch : BatchOf) (xs ys : List AskOutcome)
    → after_outcomes (length ys) (after_outcomes (length xs) batch) ≡ after_outcomes (length (xs ++ ys)) batch
after_more batch xs ys =
    let m = length xs in
    let n = length ys in
    let with_calls : List Call → BatchOf = λ calls. record { client = batch.client; first = (batch.first + m) + n; calls = calls } in
    let with_first : ℕ → BatchOf = λ k. record { client = batch.client; first = k; calls = drop (m + n) batch.calls } in
    let sum : (batch.first + m) + n ≡ batch.first + (m + n) = omega arith in
    ap with_calls (drop-drop n m batch.calls) ∙ ap with_first sum ∙ ap (λ (k : ℕ). after_outcomes k batch) (sym (length-append xs ys))

-- nothing is told
pub tells_nothing : (batch : BatchOf) (bytes text : List ℕ) → TellsFirst batch bytes bytes text text batch
tells_nothing batch bytes text =
    record { told = []; within = omega arith; bytes_are = refl; lines_are = sym (append-nil text); left_is = after_none batch }

-- one outcome is told
pub tells_one : (batch left : BatchOf) (outcome : AskOutcome) (bytes rest a b : List ℕ)
    → bytes ≡ spelling (Outcome batch.client batch.first outcome) ++ rest → batch.calls ≢ []
    → b ≡ a ++ (outcome_line batch.first outcome ++ 10 ∷ []) → left ≡ after_outcomes 1 batch → TellsFirst batch bytes rest a b left
tells_one batch left outcome bytes rest a b parts some line is =
    let frame = Outcome batch.client batch.first outcome in
    let text = outcome_line batch.first outcome ++ 10 ∷ [] in
    let has = some_element batch.calls some in
    record {
      told = outcome ∷ [];
      within = omega (arith, has);
      bytes_are = parts ∙ ap (λ (l : List ℕ). l ++ rest) (sym (append-nil (spelling frame)));
      lines_are = line ∙ ap (λ (l : List ℕ). a ++ l) (sym (append-nil text));
      left_is = is;
    }

-- outcomes are told, and then more
pub tells_more : (batch mid left : BatchOf) (bytes rest end a b c : List ℕ) → TellsFirst batch bytes rest a b mid → TellsFirst mid rest end b c left
    → TellsFirst batch bytes end a c left
tells_more batch mid left bytes rest end a b c first second =
    let xs = first.told in
    let then : TellsFirst (after_outcomes (length xs) batch) rest end b c left =
    subst (λ (m : BatchOf). TellsFirst m rest end b c left) first.left_is second in
    let ys = then.told in
    let early = flat_map spelling (outcome_frames batch.client batch.first xs) in
    let late = flat_map spelling (outcome_frames batch.client (batch.first + length xs) ys) in
    let old = unlines (outcome_lines batch.first xs) in
    let new = unlines (outcome_lines (batch.first + length xs) ys) in
    record {
      told = xs ++ ys;
      within = omega (arith, length-append xs ys, length-drop (length xs) batch.calls, first.within, then.within);
      bytes_are = first.bytes_are ∙ ap (λ (l : List ℕ). early ++ l) then.bytes_are ∙ sym (append_assoc early late end)
          ∙ ap (λ (l : List ℕ). l ++ end) (sym (spellings-append batch.client batch.first xs ys));
      lines_are = then.lines_are ∙ ap (λ (l : List ℕ). l ++ new) first.lines_are ∙ append_assoc a old new
          ∙ ap (λ (l : List ℕ). a ++ l) (sym (unlines-append batch.first xs ys));
      left_is = then.left_is ∙ after_more batch xs ys;
    }

-- more bytes come behind
pub tells_fed : (batch left : BatchOf) (bytes rest more a b : List ℕ) → TellsFirst batch bytes rest a b left
    → TellsFirst batch (bytes ++ more) (rest ++ more) a b left
tells_fed batch left bytes rest more a b told =
    let early = flat_map spelling (outcome_frames batch.client batch.first told.told) in
    record {
      told = told.told;
      within = told.within;
      bytes_are = ap (λ (l : List ℕ). l ++ more) told.bytes_are ∙ append_assoc early rest more;
      lines_are = told.lines_are;
      left_is = told.left_is;
    }

-- nothing was asked, and so nothing was heard
pub hears_nothing : (unread : Option (List ℕ)) (batch : BatchOf) (lines : List ℕ) (fault : TalkFault) → fault ≢ Unexpected
    → Hears batch (Err fault) unread unread lines lines batch
hears_nothing unread batch lines Connection other = ([], [], Consumes-nil unread, tells_nothing batch [] lines, _)
hears_nothing unread batch lines OutOfMemory other = ([], [], Consumes-nil unread, tells_nothing batch [] lines, _)
hears_nothing unread batch lines Unexpected other = absurd (other refl)
