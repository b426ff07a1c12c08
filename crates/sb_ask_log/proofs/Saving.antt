-- What a log's file was told, after an append and a sync.
use Rattle.std.proofs.Common.{◌≡◌, ◌≢◌, ℕ, Bool, true, false, not, List, [], ◌∷◌, ◌++◌, length, take, drop, refl, sym, ap, subst, ◌∙◌, true≢false, ⊎_elim, append-nil}
use Rattle.std.specs.Prelude.{Result, Ok, Err, MatchResult}
use Rattle.std.specs.List.{All}
use Rattle.std.proofs.Math.Seq.{take-length}
use Rattle.std.proofs.lemmas.List.{take-append-drop}
use Rattle.sha2.specs.Hashers.{Holds256}
use Rattle.sha2.specs.declared.Sha256.{Sha256}
use Rattle.sb_calls.specs.declared.ask.Key.{Key}
use Rattle.sb_calls.specs.declared.call.Call.{Call}
use Rattle.sb_sequencer.specs.Numbering.{IsLog}
use Rattle.sb_log.specs.Lives.{Append, AppendFails, Event, Happens, HappensAll, Life, Sync, SyncFails, newborn}
use Rattle.sb_log.specs.LogCalls.{DoesAppend, DoesCreate, DoesSync, IsFileOf, IsLogOf}
use Rattle.sb_log.specs.LogFiles.{LogFileOf}
use Rattle.sb_log.specs.Records.{body_bytes, record_after}
use Rattle.sb_log.specs.declared.log_end.LogEnd.{LogEnd}
use Rattle.sb_log.specs.declared.log_fault.LogFault.{LogFault}
use Rattle.sb_log.specs.declared.log_fault.LogFault.TheVariants.{Damaged, Device, InUse, OutOfMemory}
use Rattle.sb_ask_log.specs.Asks.{IsAsk, asks_field}
use Rattle.sb_ask_log.specs.LogFile.{AreBodiesOf, IsOpeningText, log_magic}
use Rattle.sb_ask_log.specs.Recovery.{HasPartOfOpening}
use Rattle.sb_ask_log.specs.Telling.{Tells}
use Rattle.sb_ask_log.proofs.Bodies.{batch_more, opened}

-- what holds after an error
pub after_err : {A E : Type 0} (result : Result A E) (P Q : Type 0) (fault : E) → result ≡ Err fault → Q → MatchResult result (λ done. P) (λ fault. Q)
after_err {A} {E} result P Q fault is q = subst (λ (r : Result A E). MatchResult r (λ done. P) (λ fault. Q)) (sym is) q

same_not : (a b : Bool) → not a ≡ not b → a ≡ b
same_not true true e = refl
same_not true false e = absurd (true≢false (sym e))
same_not false true e = absurd (true≢false e)
same_not false false e = refl

pub happens_more : (events : List Event) (l m n : Life) (event : Event) → HappensAll l events m → Happens m event n → HappensAll l (events ++ event ∷ []) n
happens_more [] l m n event all one = (n, subst (λ (k : Life). Happens k event n) all one, refl)
happens_more (first ∷ events) l m n event all one = (all.0, all.1, happens_more events all.0 m n event all.2 one)

-- the rest of a log, as one batch with this body
pub record IsRest (log : List (Key × Call)) (saved : ℕ) (body : List ℕ) : Type 0 where
  pub some : drop saved log ≢ []
  pub valid : All IsAsk (drop saved log)
  pub is_log : IsLog log
  pub body_is : body ≡ asks_field (drop saved log)

-- a healthy log that is given the rest has the whole
given_all : {before : LogFileOf} {failed : Bool} {hasher : Sha256} (text : List ℕ) (log : List (Key × Call)) (saved : ℕ) (body : List ℕ)
    → IsRest log saved body → (tells : Tells before failed hasher text (take saved log)) → tells.l.healthy ≡ true
    → AreBodiesOf (tells.l.given ++ body ∷ []) text log
given_all {failed = failed} text log saved body rest tells healthy =
    let l = tells.l in
    let only : tells.given ≡ take saved log = tells.only (same_not failed false (sym tells.file.healthy_is ∙ healthy)) in
    let so_far : AreBodiesOf l.given text (take saved log) = subst (AreBodiesOf l.given text) only tells.given_are in
    let whole : take saved log ++ drop saved log ≡ log = take-append-drop saved log in
    let more : AreBodiesOf (l.given ++ asks_field (drop saved log) ∷ []) text (take saved log ++ drop saved log) =
    batch_more l.given text (take saved log) (drop saved log) so_far rest.some rest.valid (subst IsLog (sym whole) rest.is_log) in
    subst (λ (b : List ℕ). AreBodiesOf (l.given ++ b ∷ []) text log) (sym rest.body_is)
    (subst (AreBodiesOf (l.given ++ asks_field (drop saved log) ∷ []) text) whole more)

-- the rest was appended and synced
pub tells_more : (before after : LogFileOf) (failed failed_new : Bool) (hasher hasher_new : Sha256) (text : List ℕ)
    (log : List (Key × Call)) (saved : ℕ) (body : List ℕ) → IsRest log saved body → (tells : Tells before failed hasher text (take saved log))
    → (m n : Life) → Happens tells.l (Append body) m → Happens m Sync n → IsLogOf after failed_new hasher_new n
    → Tells after failed_new hasher_new text log
tells_more before after failed failed_new hasher hasher_new text log saved body rest tells m n appended synced_now is =
    let l = tells.l in
    let all : AreBodiesOf m.given text log =
    subst (λ (k : Life). AreBodiesOf k.given text log) (sym appended.2) (given_all text log saved body rest tells appended.0) in
    record {
      l = n;
      events = (tells.events ++ Append body ∷ []) ++ Sync ∷ [];
      lived = happens_more (tells.events ++ Append body ∷ []) newborn m n Sync (happens_more tells.events newborn l m
          (Append body) tells.lived appended) synced_now;
      file = is;
      told_are = subst (λ (k : Life). AreBodiesOf k.told text log) (sym synced_now.1) all;
      given = log;
      given_are = subst (λ (k : Life). AreBodiesOf k.given text log) (sym synced_now.1) all;
      only = λ f. refl;
    }

-- the rest was given, and not told
given_more : (before after : LogFileOf) (failed failed_new : Bool) (hasher hasher_new : Sha256) (text : List ℕ)
    (log : List (Key × Call)) (saved : ℕ) (body : List ℕ) → IsRest log saved body → (tells : Tells before failed hasher text (take saved log))
    → tells.l.healthy ≡ true → (events : List Event) (n : Life) → HappensAll newborn events n → n.told ≡ tells.l.told
    → n.given ≡ tells.l.given ++ body ∷ [] → IsLogOf after failed_new hasher_new n → failed_new ≡ true
    → Tells after failed_new hasher_new text (take saved log)
given_more before after failed failed_new hasher hasher_new text log saved body rest tells healthy events n lived told given is ill
    = record {
      l = n;
      events = events;
      lived = lived;
      file = is;
      told_are = subst (λ (b : List (List ℕ)). AreBodiesOf b text (take saved log)) (sym told) tells.told_are;
      given = log;
      given_are = subst (λ (b : List (List ℕ)). AreBodiesOf b text log) (sym given) (given_all text log saved body rest tells healthy);
      only = λ f. absurd (true≢false (sym ill ∙ f));
    }

-- nothing happened, and the log had failed
unmoved : (before after : LogFileOf) (failed failed_new : Bool) (hasher hasher_new : Sha256) (text : List ℕ)
    (told : List (Key × Call)) → (tells : Tells before failed hasher text told) (m : Life) → m ≡ tells.l
    → IsLogOf after failed_new hasher_new m → failed_new ≡ true → Tells after failed_new hasher_new text told
unmoved before after failed failed_new hasher hasher_new text told tells m same is ill = record {
  l = tells.l;
  events = tells.events;
  lived = tells.lived;
  file = subst (IsLogOf after failed_new hasher_new) same is;
  told_are = tells.told_are;
  given = tells.given;
  given_are = tells.given_are;
  only = λ f. absurd (true≢false (sym ill ∙ f));
}

pub append_failed : (before after : LogFileOf) (failed failed_new : Bool) (hasher hasher_new : Sha256) (text : List ℕ)
    (log : List (Key × Call)) (saved : ℕ) (body : List ℕ) (fault : LogFault) → IsRest log saved body
    → (tells : Tells before failed hasher text (take saved log)) (m : Life) → DoesAppend tells.l body (Err fault) m
    → IsLogOf after failed_new hasher_new m → failed_new ≡ true → Tells after failed_new hasher_new text (take saved log)
append_failed before after failed failed_new hasher hasher_new text log saved body Device rest tells m how is ill =
    ⊎_elim
    (λ (torn : (kept : ℕ) × Happens tells.l (AppendFails body kept) m).
    given_more before after failed failed_new hasher hasher_new text log saved body rest tells torn.1.0
    (tells.events ++ AppendFails body torn.0 ∷ []) m (happens_more tells.events newborn tells.l m (AppendFails body torn.0) tells.lived torn.1)
    (ap (λ (k : Life). k.told) torn.1.2) (ap (λ (k : Life). k.given) torn.1.2) is ill)
    (λ (stays : (tells.l.healthy ≡ false) × (m ≡ tells.l)).
    unmoved before after failed failed_new hasher hasher_new text (take saved log) tells m stays.1 is ill)
    how
append_failed before after failed failed_new hasher hasher_new text log saved body
    (Damaged byte behind) rest tells m how is ill = absurd how
append_failed before after failed failed_new hasher hasher_new text log saved body OutOfMemory rest tells m how is ill = absurd how
append_failed before after failed failed_new hasher hasher_new text log saved body InUse rest tells m how is ill = absurd how

pub sync_failed : (before after : LogFileOf) (failed failed_new : Bool) (hasher hasher_new : Sha256) (text : List ℕ)
    (log : List (Key × Call)) (saved : ℕ) (body : List ℕ) (fault : LogFault) → IsRest log saved body
    → (tells : Tells before failed hasher text (take saved log)) (m n : Life) → Happens tells.l (Append body) m → DoesSync m (Err fault) n
    → IsLogOf after failed_new hasher_new n → failed_new ≡ true → Tells after failed_new hasher_new text (take saved log)
sync_failed before after failed failed_new hasher hasher_new text log saved body Device rest tells m n appended how is ill =
    let given = tells.events ++ Append body ∷ [] in
    let lived = happens_more tells.events newborn tells.l m (Append body) tells.lived appended in
    let told_is : m.told ≡ tells.l.told = ap (λ (k : Life). k.told) appended.2 in
    let given_is : m.given ≡ tells.l.given ++ body ∷ [] = ap (λ (k : Life). k.given) appended.2 in
    ⊎_elim
    (λ (fails : Happens m SyncFails n).
    given_more before after failed failed_new hasher hasher_new text log saved body rest tells appended.0
    (given ++ SyncFails ∷ []) n (happens_more given newborn m n SyncFails lived fails)
    (ap (λ (k : Life). k.told) fails.1 ∙ told_is) (ap (λ (k : Life). k.given) fails.1 ∙ given_is) is ill)
    (λ (stays : (m.healthy ≡ false) × (n ≡ m)).
    given_more before after failed failed_new hasher hasher_new text log saved body rest tells appended.0
    given m lived told_is given_is (subst (IsLogOf after failed_new hasher_new) stays.1 is) ill)
    how
sync_failed before after failed failed_new hasher hasher_new text log saved body
    (Damaged byte behind) rest tells m n appended how is ill = absurd how
sync_failed before after failed failed_new hasher hasher_new text log saved body OutOfMemory rest tells m n appended how is ill =
    absurd how
sync_failed before after failed failed_new hasher hasher_new text log saved body InUse rest tells m n appended how is ill = absurd how

-- an opening was appended and synced
pub tells_opening : (now : LogFileOf) (failed : Bool) (hasher : Sha256) (text body : List ℕ) (m n : Life) → body ≡ log_magic ++ text
    → IsOpeningText text → Happens newborn (Append body) m → Happens m Sync n → IsLogOf now failed hasher n
    → Tells now failed hasher text []
tells_opening now failed hasher text body m n body_is opening appended synced_now is =
    let alone : AreBodiesOf (body ∷ []) text [] =
    subst (λ (b : List ℕ). AreBodiesOf (b ∷ []) text []) (sym body_is) (opened text opening) in
    let all : AreBodiesOf m.given text [] = subst (λ (k : Life). AreBodiesOf k.given text []) (sym appended.2) alone in
    record {
      l = n;
      events = Append body ∷ Sync ∷ [];
      lived = (m, appended, (n, synced_now, refl));
      file = is;
      told_are = subst (λ (k : Life). AreBodiesOf k.told text []) (sym synced_now.1) all;
      given = [];
      given_are = subst (λ (k : Life). AreBodiesOf k.given text []) (sym synced_now.1) all;
      only = λ f. refl;
    }

-- ---- a log that is made

-- the first record is on the disk, and its opening was told
pub tells_created : (now : LogFileOf) (end : LogEnd) (text body : List ℕ) (l : Life) → body ≡ log_magic ++ text → IsOpeningText text
    → DoesCreate body (Ok end) l → IsFileOf now l → Holds256 end.hasher body → Tells now false end.hasher text []
tells_created now end text body l body_is opening made is holds =
    let m = made.0 in
    let n = made.2.0 in
    let same : l ≡ n = made.2.2 in
    let given : n.given ≡ body ∷ [] = ap (λ (k : Life). k.given) made.2.1.1 ∙ ap (λ (k : Life). k.given) made.1.2 in
    let healthy : n.healthy ≡ true = ap (λ (k : Life). k.healthy) made.2.1.1 ∙ made.2.1.0 in
    let log : IsLogOf now false end.hasher n = record {
      file = subst (IsFileOf now) same is;
      healthy_is = healthy;
      holds = λ f. subst (λ (bodies : List (List ℕ)). Holds256 end.hasher (body_bytes bodies)) (sym given)
          (subst (Holds256 end.hasher) (sym (append-nil body)) holds);
    } in
    tells_opening now false end.hasher text body m n body_is opening made.1 made.2.1 log

-- a beginning of the first record is there
pub part_created : (now : LogFileOf) (fault : LogFault) (text body : List ℕ) (l : Life) → body ≡ log_magic ++ text
    → DoesCreate body (Err fault) l → IsFileOf now l → HasPartOfOpening text now.content
part_created now Device text body l body_is made is =
    let first : record_after [] body ≡ record_after [] (log_magic ++ text) = ap (λ (b : List ℕ). record_after [] b) body_is in
    ⊎_elim
    (λ (torn : (kept : ℕ) × HappensAll newborn (AppendFails body kept ∷ []) l).
    let happened = torn.1 in (
      torn.0,
      sym is.content_is ∙ ap (λ (k : Life). k.content) happened.2 ∙ ap (λ (k : Life). k.content) happened.1.2 ∙ ap (λ (r : List ℕ). take torn.0 r) first,
    ))
    (λ (whole : HappensAll newborn (Append body ∷ SyncFails ∷ []) l). (
      length (record_after [] (log_magic ++ text)),
      sym is.content_is ∙ ap (λ (k : Life). k.content) whole.2.2 ∙ ap (λ (k : Life). k.content) whole.2.1.1 ∙ ap (λ (k : Life). k.content) whole.1.2
          ∙ first ∙ sym (take-length (record_after [] (log_magic ++ text))),
    ))
    made
part_created now (Damaged byte behind) text body l body_is made is = absurd made
part_created now OutOfMemory text body l body_is made is = absurd made
part_created now InUse text body l body_is made is = absurd made
