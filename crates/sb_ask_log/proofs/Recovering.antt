-- What is read of a log's file.
use Rattle.std.proofs.Common.{◌≡◌, ◌≢◌, ◌⊎◌, ℕ, ◌+◌, max, false, true, List, [], ◌∷◌, ◌++◌, Result, Err, length, map, take, refl, sym, ap, subst, ◌∙◌, inl, inr, ⊎_elim, arith, rules, append_assoc, append-nil, length-append}
use Rattle.std.specs.List.{All}
use Rattle.std.proofs.lemmas.List.Elements.{All-head, All-tail}
use Rattle.sha2.specs.Hashers.{Holds256}
use Rattle.sha2.specs.declared.Sha256.{Sha256}
use Rattle.sb_calls.specs.declared.ask.Key.{Key}
use Rattle.sb_calls.specs.declared.call.Call.{Call}
use Rattle.sb_log.specs.Lives.{Append, Crash, Cut, Happens, HappensAll, Life, ReadBack, Sync, newborn}
use Rattle.sb_log.specs.LogCalls.{IsDamagedAt, IsFileOf, ReadsLog, ReadsTo, Recovers}
use Rattle.sb_log.specs.LogFiles.{LogFileOf}
use Rattle.sb_log.specs.Reading.{Begins, IsTorn, ReadsRecords}
use Rattle.sb_log.specs.Records.{IsBody, body_bytes, record_after, records}
use Rattle.sb_log.specs.Replaying.{HoldsReplayed, ReplaysAll}
use Rattle.sb_log.specs.declared.log_end.LogEnd.{LogEnd}
use Rattle.sb_log.specs.declared.log_fault.LogFault.{LogFault}
use Rattle.sb_log.specs.declared.log_fault.LogFault.TheVariants.{Damaged, Device, InUse, OutOfMemory}
use Rattle.sb_log.proofs.Lives.{keeps_what_it_told}
use Rattle.sb_log.proofs.Records.{records_push}
use Rattle.sb_ask_log.specs.LogFile.{AreBodiesOf, log_bytes, log_magic}
use Rattle.sb_ask_log.specs.Recovery.{AreRead, FailsToRecover, IsDamagedAskLog, IsReadFault, IsSameOrCut, ReadsAskLog, RecoversAsks}
use Rattle.sb_ask_log.specs.inner.Replaying.{AskReplayOf, RefusesBody, TakesBody}
use Rattle.sb_ask_log.specs.Telling.{RecoversWhatItTold, Tells}
use Rattle.sb_ask_log.proofs.Bodies.{bodies_begin, joined_log}
use Rattle.sb_ask_log.proofs.Openings.{opening_filled}
use Rattle.sb_ask_log.proofs.Replays.{no_longer_log, nothing_taken, taken_are}
use Rattle.sb_ask_log.proofs.Saving.{happens_more}

-- with an opening the bodies are those of a log
log_read : (bodies : List (List ℕ)) (text : List ℕ) (log : List (Key × Call)) → AreRead bodies text log → text ≢ [] → AreBodiesOf bodies text log
log_read [] text log read some = absurd (some read.0)
log_read (body ∷ bodies) text log read some = read

-- and without one there are none
none_read : (bodies : List (List ℕ)) (text : List ℕ) (log : List (Key × Call)) → AreRead bodies text log → text ≡ [] → (bodies ≡ []) × (log ≡ [])
none_read [] text log read none = (refl, read.1)
none_read (body ∷ bodies) text log read none = absurd (opening_filled text read.opening none)

-- what was replayed
pub read_is : (content : List ℕ) (bodies : List (List ℕ)) (rest : List ℕ) (end : LogEnd) (new : AskReplayOf)
    → ReadsTo TakesBody RefusesBody content nothing_taken bodies rest end new
    → (left : List ℕ) × ReadsAskLog content new.text new.log left × (end.torn ≡ length left) × (end.records + end.torn ≡ length content)
read_is content bodies rest end new r = (
  rest,
  record { bodies = bodies; reads = r.reads; torn = r.torn; are = taken_are bodies new r.replayed },
  r.torn_is,
  omega (arith, r.records_is, r.torn_is, ap length r.reads.whole, length-append (records bodies) rest),
)

-- whatever file was read: the hasher holds the log
pub read_holds : (old mid new : AskReplayOf) (hasher : Sha256) → old ≡ nothing_taken → new ≡ mid → HoldsReplayed TakesBody old hasher mid
    → new.text ≢ [] → Holds256 hasher (log_bytes new.text new.log)
read_holds old mid new hasher before after r some =
    let replayed : ReplaysAll TakesBody nothing_taken r.bodies new =
    subst (λ (it : AskReplayOf). ReplaysAll TakesBody nothing_taken r.bodies it) (sym after)
    (subst (λ (it : AskReplayOf). ReplaysAll TakesBody it r.bodies mid) before r.replayed) in
    subst (Holds256 hasher) (joined_log r.bodies new.text new.log (log_read r.bodies new.text new.log (taken_are r.bodies new replayed) some)) r.holds

damage_is : (content : List ℕ) (byte behind : ℕ) → IsDamagedAt TakesBody RefusesBody content nothing_taken byte behind → IsDamagedAskLog content byte behind
damage_is content byte behind d =
    let are = taken_are d.bodies d.mid d.replayed in
    record {
      bodies = d.bodies;
      rest = d.rest;
      text = d.mid.text;
      log = d.mid.log;
      whole = d.whole;
      are = are;
      byte_is = d.byte_is;
      behind_is = d.behind_is;
      why = ⊎_elim
          (λ (no_record : ReadsRecords content d.bodies d.rest × (IsTorn d.rest → ⊥)). inl no_record)
          (λ (refused : (body more : List ℕ) × IsBody body × (d.rest ≡ record_after (body_bytes d.bodies) body ++ more) × RefusesBody d.mid body).
          inr (refused.0, refused.1, refused.2, refused.3, no_longer_log d.bodies d.mid refused.0 are refused.4))
          d.why;
    }

pub read_fault : (content : List ℕ) (fault : LogFault) (new : AskReplayOf) → ReadsLog TakesBody RefusesBody content nothing_taken (Err fault) new
    → IsReadFault content fault
read_fault content (Damaged byte behind) new d = damage_is content byte behind d
read_fault content Device new d = tt
read_fault content OutOfMemory new d = tt
read_fault content InUse new d = absurd d

-- ---- what is recovered

-- the life of a file, of which no more is known
abbrev pub life_of : LogFileOf → Life
life_of file = record { content = file.content; synced = file.synced; given = []; told = []; healthy = false }

pub is_life_of : (file : LogFileOf) → IsFileOf file (life_of file)
is_life_of file = record { content_is = refl; synced_in = omega arith; syncable_in = λ healthy. absurd (search (rules, healthy)) }

left_over : (before after : LogFileOf) (n m : Life) → m ≡ record n { healthy = false }
    → (n ≡ life_of before) ⊎ ((bodies : List (List ℕ)) × (rest : List ℕ) × Happens (life_of before) (Cut bodies rest) n)
    → IsFileOf after m → IsSameOrCut before.content after.content
left_over before after n m ails how is =
    let content : after.content ≡ n.content = sym is.content_is ∙ ap (λ (k : Life). k.content) ails in
    ⊎_elim
    (λ (same : n ≡ life_of before). inl (content ∙ ap (λ (k : Life). k.content) same))
    (λ (cut : (bodies : List (List ℕ)) × (rest : List ℕ) × Happens (life_of before) (Cut bodies rest) n).
    inr (cut.0, cut.1, cut.2.0, cut.2.1, content ∙ ap (λ (k : Life). k.content) cut.2.2))
    how

-- a damaged file stays, and after another fault it is the same, or its torn rest is cut off
pub unrecovered : (before after : LogFileOf) (fault : LogFault) (new : AskReplayOf) (m : Life)
    → Recovers TakesBody RefusesBody (life_of before) nothing_taken (Err fault) new m → IsFileOf after m → FailsToRecover before fault after
unrecovered before after (Damaged byte behind) new m d is = (
  damage_is before.content byte behind d.0,
  record {
    content_is = sym is.content_is ∙ ap (λ (k : Life). k.content) d.1;
    synced_in = omega (arith, is.synced_in, ap (λ (k : Life). k.synced) d.1);
  },
)
unrecovered before after Device new m d is = left_over before after d.0 m d.1 d.2 is
unrecovered before after OutOfMemory new m d is = left_over before after d.0 m d.1 d.2 is
unrecovered before after InUse new m d is = absurd d

-- a file to which these bodies were appended, and one that was told them
abbrev appended : List (List ℕ) → Life
appended done = record { content = records done; synced = 0; given = done; told = []; healthy = true }

abbrev pub all_told : List (List ℕ) → Life
all_told done = record { content = records done; synced = length (records done); given = done; told = done; healthy = true }

-- a newborn file to which bodies are appended, and that is synced then, was told them
pub tells_all : (done bodies : List (List ℕ)) → All IsBody bodies → HappensAll (appended done) (map Append bodies ++ Sync ∷ []) (all_told (done ++ bodies))
tells_all done [] fit = (all_told done, (refl, refl), ap all_told (append-nil done))
tells_all done (body ∷ bodies) fit =
    let longer = done ++ body ∷ [] in
    let one : appended longer ≡ record (appended done) { content = records done ++ record_after (body_bytes done) body; given = longer } =
    λ i. record { content = records_push done body i; synced = 0; given = longer; told = []; healthy = true } in (
      appended longer,
      (refl, All-head IsBody body bodies fit, one),
      subst (λ (l : List (List ℕ)). HappensAll (appended longer) (map Append bodies ++ Sync ∷ []) (all_told l)) (append_assoc done (body ∷ []) bodies)
          (tells_all longer bodies (All-tail IsBody body bodies fit)),
    )

pub recovered_tells : (content : List ℕ) (after : LogFileOf) (bodies : List (List ℕ)) (rest : List ℕ) (end : LogEnd) (new : AskReplayOf)
    (l m : Life) → ReadsTo TakesBody RefusesBody content nothing_taken bodies rest end new → Happens l (ReadBack bodies rest) m
    → IsFileOf after m → new.text ≢ [] → Tells after false end.hasher new.text new.log
recovered_tells content after bodies rest end new l m r back is some =
    let are = log_read bodies new.text new.log (taken_are bodies new r.replayed) some in
    record {
      l = all_told bodies;
      events = map Append bodies ++ Sync ∷ [];
      lived = tells_all [] bodies r.reads.fit;
      file = record { file = subst (IsFileOf after) back.2 is; healthy_is = refl; holds = λ f. r.holds };
      told_are = are;
      given = new.log;
      given_are = are;
      only = λ f. refl;
    }

-- what was replayed; the file has the records that were read, and nothing behind them
pub recovered_is : (content : List ℕ) (after : LogFileOf) (bodies : List (List ℕ)) (rest : List ℕ) (end : LogEnd) (new : AskReplayOf)
    (l m : Life) → ReadsTo TakesBody RefusesBody content nothing_taken bodies rest end new → Happens l (ReadBack bodies rest) m
    → IsFileOf after m → RecoversAsks content new.text new.log end.torn after.content
recovered_is content after bodies rest end new l m r back is =
    let are : AreRead bodies new.text new.log = taken_are bodies new r.replayed in
    record {
      rest = rest;
      read = record { bodies = bodies; reads = r.reads; torn = r.torn; are = are };
      torn_is = r.torn_is;
      cut = r.reads.whole ∙ ap (λ (c : List ℕ). c ++ rest) (sym (ap (λ (k : Life). k.content) back.2) ∙ is.content_is);
      empty = λ none.
          let no = none_read bodies new.text new.log are none in
          let m_is : m ≡ all_told [] = back.2 ∙ ap all_told no.0 in
          (sym is.content_is ∙ ap (λ (k : Life). k.content) m_is, no.1);
    }

-- ---- what was told is read

-- bodies that begin with those of a log
pub read_behind : (told bodies : List (List ℕ)) (text read_text : List ℕ) (asks read : List (Key × Call)) → AreBodiesOf told text asks → Begins told bodies
    → AreRead bodies read_text read → AreBodiesOf bodies read_text read
read_behind told [] text read_text asks read are begins it =
    let none : [] ≡ (log_magic ++ text) ∷ _ = begins.1 ∙ ap (λ (l : List (List ℕ)). l ++ begins.0) are.bodies_are in
    absurd (cc (none))
read_behind told (body ∷ bodies) text read_text asks read are begins it = it

pub recovers_what_it_told : RecoversWhatItTold
recovers_what_it_told now failed hasher text told tells kept read_text read rest reads =
    let l = tells.l in
    -- what the file has synced beyond the life's claim counts as kept
    let left = max now.synced kept in
    let crashed : Life = record l { content = take (max l.synced left) l.content; healthy = false } in
    let content : take left now.content ≡ crashed.content =
    ap (λ (n : ℕ). take n now.content) (omega (arith, tells.file.file.synced_in))
    ∙ ap (λ (c : List ℕ). take (max l.synced left) c) (sym tells.file.file.content_is) in
    let begins = keeps_what_it_told (tells.events ++ Crash left ∷ []) crashed reads.bodies rest
    (happens_more tells.events newborn l crashed (Crash left) tells.lived refl)
    (subst (λ (c : List ℕ). ReadsRecords c reads.bodies rest) content reads.reads) in
    bodies_begin l.told reads.bodies text read_text told read tells.told_are
    (read_behind l.told reads.bodies text read_text told read tells.told_are begins.0 reads.are) begins.0

-- ---- the same, by what the code knows of the values

pub read_at : (content : List ℕ) (old mid new : AskReplayOf) (result : Result LogEnd LogFault) → old ≡ nothing_taken → new ≡ mid
    → ReadsLog TakesBody RefusesBody content old result mid → ReadsLog TakesBody RefusesBody content nothing_taken result new
read_at content old mid new result before after r =
    subst (λ (it : AskReplayOf). ReadsLog TakesBody RefusesBody content nothing_taken result it) (sym after)
    (subst (λ (it : AskReplayOf). ReadsLog TakesBody RefusesBody content it result mid) before r)

pub recovered_at : (l m : Life) (old mid new : AskReplayOf) (result : Result LogEnd LogFault) → old ≡ nothing_taken → new ≡ mid
    → Recovers TakesBody RefusesBody l old result mid m → Recovers TakesBody RefusesBody l nothing_taken result new m
recovered_at l m old mid new result before after r =
    subst (λ (it : AskReplayOf). Recovers TakesBody RefusesBody l nothing_taken result it m) (sym after)
    (subst (λ (it : AskReplayOf). Recovers TakesBody RefusesBody l it result mid m) before r)

-- a fault that is passed on
pub err_again : {A B E : Type 0} (x y : E) → ◌≡◌ {A = Result A E} (Err x) (Err y) → ◌≡◌ {A = Result B E} (Err x) (Err y)
err_again x y e = let same : x ≡ y = cc in ap Err same
