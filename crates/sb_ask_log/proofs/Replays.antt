-- How the bodies of a file are taken again.
use Rattle.std.proofs.Common.{◌≡◌, ◌≢◌, ℕ, List, [], ◌∷◌, ◌++◌, Result, Ok, Err, length, map, refl, sym, ap, subst, ◌∙◌, inl, inr, ⊎_elim, append_assoc, append-nil}
use Rattle.std.specs.Prelude.{MatchResult}
use Rattle.std.specs.List.{All}
use Rattle.std.proofs.lemmas.List.{drop_at, take_at}
use Rattle.std.proofs.lemmas.List.Concat.{flat_map-append}
use Rattle.std.proofs.lemmas.List.Elements.{All-drop, All-head, All-take}
use Rattle.sb_calls.specs.declared.ask.Key.{Key}
use Rattle.sb_calls.specs.declared.call.Call.{Call}
use Rattle.sb_sequencer.specs.Numbering.{IsLog}
use Rattle.sb_log.specs.Records.{body_bytes}
use Rattle.sb_log.specs.Replaying.{IsReplayFault, ReplaysAll}
use Rattle.sb_log.specs.declared.replay.ReplayFault.{ReplayFault}
use Rattle.sb_log.specs.declared.replay.ReplayFault.TheVariants.{OutOfMemory, Refused}
use Rattle.sb_ask_log.specs.Asks.{IsAsk, asks_field}
use Rattle.sb_ask_log.specs.LogFile.{AreBodiesOf, IsOpeningText, log_magic}
use Rattle.sb_ask_log.specs.Recovery.{AreRead}
use Rattle.sb_ask_log.specs.inner.Replaying.{AskReplayOf, RefusesBody, TakesBatch, TakesBody, TakesOpening}
use Rattle.sb_ask_log.proofs.Bodies.{all_of, batch_more, joined_fields, opened, text_of}
use Rattle.sb_ask_log.proofs.Fields.{same_fields}
use Rattle.sb_ask_log.proofs.Openings.{opening_filled}

-- the first body was taken, or no log has it
pub opening_taken : (old new : AskReplayOf) (body : List ℕ) → old.text ≡ [] → new.log ≡ old.log → (result : Result (Unit {0}) ReplayFault)
    → MatchResult result (λ done. (body ≡ log_magic ++ new.text) × IsOpeningText new.text)
    (IsReplayFault ((other : List ℕ) → body ≡ log_magic ++ other → IsOpeningText other → ⊥))
    → MatchResult result (λ done. TakesBody old body new) (IsReplayFault (RefusesBody old body))
opening_taken old new body first same (Ok done) taken =
    inl (record { first = first; body_is = taken.0; opening = taken.1; log_is = same })
opening_taken old new body first same (Err Refused) none = λ other takes. ⊎_elim
    (λ (t : TakesOpening old body other). none other.text t.body_is t.opening)
    (λ (t : TakesBatch old body other). t.opened first)
    takes
opening_taken old new body first same (Err OutOfMemory) none = tt

-- nothing is taken yet
abbrev pub nothing_taken : AskReplayOf
nothing_taken = record { text = []; log = [] }

-- further bodies were taken, each one batch
batches_taken : (done bodies : List (List ℕ)) (old new : AskReplayOf) → AreBodiesOf done old.text old.log → ReplaysAll TakesBody old bodies new
    → AreBodiesOf (done ++ bodies) new.text new.log
batches_taken done [] old new are same =
    subst (λ (it : AskReplayOf). AreBodiesOf (done ++ []) it.text it.log) (sym same)
    (subst (λ (l : List (List ℕ)). AreBodiesOf l old.text old.log) (sym (append-nil done)) are)
batches_taken done (body ∷ bodies) old new are all =
    let mid = all.0 in
    let more : AreBodiesOf (done ++ body ∷ []) mid.text mid.log = ⊎_elim
    (λ (t : TakesOpening old body mid). absurd (opening_filled old.text are.opening t.first))
    (λ (t : TakesBatch old body mid).
    let longer = batch_more done old.text old.log t.batch are t.some t.valid (subst IsLog t.log_is t.one_each) in
    let log_is = subst (AreBodiesOf (done ++ asks_field t.batch ∷ []) old.text) (sym t.log_is) longer in
    let text_is = subst (λ (text : List ℕ). AreBodiesOf (done ++ asks_field t.batch ∷ []) text mid.log) (sym t.text_is) log_is in
    subst (λ (b : List ℕ). AreBodiesOf (done ++ b ∷ []) mid.text mid.log) (sym t.body_is) text_is)
    all.1 in
    subst (λ (l : List (List ℕ)). AreBodiesOf l new.text new.log) (append_assoc done (body ∷ []) bodies)
    (batches_taken (done ++ body ∷ []) bodies mid new more all.2)

-- the bodies that were taken are those of a log
pub taken_are : (bodies : List (List ℕ)) (new : AskReplayOf) → ReplaysAll TakesBody nothing_taken bodies new → AreRead bodies new.text new.log
taken_are [] new same = (ap (λ (it : AskReplayOf). it.text) same, ap (λ (it : AskReplayOf). it.log) same)
taken_are (body ∷ bodies) new all =
    let mid = all.0 in
    let first : AreBodiesOf (body ∷ []) mid.text mid.log = ⊎_elim
    (λ (t : TakesOpening nothing_taken body mid).
    let alone = opened mid.text t.opening in
    let log_is = subst (AreBodiesOf ((log_magic ++ mid.text) ∷ []) mid.text) (sym t.log_is) alone in
    subst (λ (b : List ℕ). AreBodiesOf (b ∷ []) mid.text mid.log) (sym t.body_is) log_is)
    (λ (t : TakesBatch nothing_taken body mid). absurd (t.opened refl))
    all.1 in
    batches_taken (body ∷ []) bodies mid new first all.2

-- ---- what is refused

-- a list that another one and one more element are the images of
record Split (front : List (List ℕ)) (last : List ℕ) (batches : List (List (Key × Call))) : Type 0 where
  first : List (List (Key × Call))
  batch : List (Key × Call)
  batches_are : batches ≡ first ++ batch ∷ []
  front_is : map asks_field first ≡ front
  last_is : asks_field batch ≡ last

split : (front : List (List ℕ)) (last : List ℕ) (batches : List (List (Key × Call))) → map asks_field batches ≡ front ++ last ∷ [] → Split front last batches
split [] last [] e = absurd cc
split [] last (batch ∷ []) e = record { first = []; batch = batch; batches_are = refl; front_is = refl; last_is = cc }
split [] last (batch ∷ other ∷ batches) e = absurd cc
split (body ∷ front) last [] e = absurd cc
split (body ∷ front) last (batch ∷ batches) e =
    let inner = split front last batches cc in
    let here : asks_field batch ≡ body = cc in
    record {
      first = batch ∷ inner.first;
      batch = inner.batch;
      batches_are = ap (λ (l : List (List (Key × Call))). batch ∷ l) inner.batches_are;
      front_is = ap (λ (b : List ℕ). b ∷ map asks_field inner.first) here ∙ ap (λ (l : List (List ℕ)). body ∷ l) inner.front_is;
      last_is = inner.last_is;
    }

-- the parts of asks that are valid
front_valid : (front behind : List (Key × Call)) → All IsAsk (front ++ behind) → All IsAsk front
front_valid front behind valid =
    subst (All IsAsk) (take_at front behind (length front) refl) (All-take IsAsk (length front) (front ++ behind) valid)

behind_valid : (front behind : List (Key × Call)) → All IsAsk (front ++ behind) → All IsAsk behind
behind_valid front behind valid =
    subst (All IsAsk) (drop_at front behind (length front) refl) (All-drop IsAsk (length front) (front ++ behind) valid)

-- no log has these bodies and one that is refused
pub no_longer_log : (bodies : List (List ℕ)) (mid : AskReplayOf) (body : List ℕ) → AreRead bodies mid.text mid.log → RefusesBody mid body
    → (text : List ℕ) (longer : List (Key × Call)) → AreRead (bodies ++ body ∷ []) text longer → ⊥
no_longer_log [] mid body read refuses text longer are =
    let same : body ≡ log_magic ++ text = cc (are.bodies_are) in
    refuses (record { text = text; log = mid.log }) (inl (record { first = read.0; body_is = same; opening = are.opening; log_is = refl }))
no_longer_log (b ∷ bs) mid body read refuses text longer are =
    let same = text_of text mid.text (map asks_field are.batches) (map asks_field read.batches ++ body ∷ [])
    (sym are.bodies_are ∙ ap (λ (l : List (List ℕ)). l ++ body ∷ []) read.bodies_are) in
    let s = split (map asks_field read.batches) body are.batches same.1 in
    let parts : longer ≡ all_of s.first ++ s.batch =
    are.log_is.log_is ∙ ap all_of s.batches_are ∙ flat_map-append (λ (batch : List (Key × Call)). batch) s.first (s.batch ∷ [])
    ∙ ap (λ (l : List (Key × Call)). all_of s.first ++ l) (append-nil s.batch) in
    let valid : All IsAsk (all_of s.first ++ s.batch) = subst (All IsAsk) parts are.log_is.valid in
    let field : asks_field (all_of s.first) ≡ asks_field mid.log =
    sym (joined_fields s.first) ∙ ap body_bytes s.front_is ∙ joined_fields read.batches ∙ ap asks_field (sym read.log_is.log_is) in
    let front : all_of s.first ≡ mid.log =
    same_fields mid.log (all_of s.first) read.log_is.valid (front_valid (all_of s.first) s.batch valid) field in
    let Some : List (Key × Call) → Type 0 = λ batch. batch ≢ [] in
    let some : All Some (s.batch ∷ []) =
    subst (All Some) (drop_at s.first (s.batch ∷ []) (length s.first) refl)
    (All-drop Some (length s.first) (s.first ++ s.batch ∷ []) (subst (All Some) s.batches_are are.log_is.some)) in
    refuses (record { text = mid.text; log = longer }) (inr (record {
      opened = opening_filled mid.text read.opening;
      text_is = refl;
      batch = s.batch;
      some = All-head Some s.batch [] some;
      valid = behind_valid (all_of s.first) s.batch valid;
      body_is = sym s.last_is;
      log_is = parts ∙ ap (λ (l : List (Key × Call)). l ++ s.batch) front;
      one_each = are.log_is.one_each;
    }))
