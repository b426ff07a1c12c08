-- What reading a log keeps.
use Rattle.std.proofs.Common.{◌≡◌, ℕ, ◌+◌, List, [], ◌∷◌, ◌++◌, length, drop, refl, sym, ap, subst, ◌∙◌, arith, append_assoc, length-append, inr, Err}
use Rattle.std.specs.List.{All}
use Rattle.std.proofs.lemmas.List.{drop_at}
use Rattle.std.proofs.lemmas.List.Elements.{All-push}
use Rattle.sha2.specs.declared.Sha256.{Sha256}
use Rattle.sha2.specs.Hashers.{Holds256}
use Rattle.sb_log.specs.LogCalls.{ReadsLog}
use Rattle.sb_log.specs.inner.Refusals.{IsRefusalAt}
use Rattle.sb_log.specs.Reading.{ReadsRecords}
use Rattle.sb_log.specs.inner.Front.{HasNoRecord}
use Rattle.sb_log.specs.Records.{IsBody, body_bytes, record_after, records}
use Rattle.sb_log.specs.Replaying.{HoldsReplayed, ReplaysAll}
use Rattle.sb_log.specs.declared.log_fault.LogFault.{LogFault}
use Rattle.sb_log.specs.declared.log_fault.LogFault.TheVariants.{Damaged, Device, InUse, OutOfMemory}
use Rattle.sb_log.proofs.Records.{joined_push, records_push}

-- so many bytes of records are read, and replayed
pub record ReadSoFar {T : Type 0} (replays : T → List ℕ → T → Type 0) (content : List ℕ) (old : T) (size : ℕ) (hasher : Sha256) (new : T)
    : Type 0 where
  pub bodies : List (List ℕ)
  pub fit : All IsBody bodies
  pub whole : content ≡ records bodies ++ drop size content
  pub size_is : size ≡ length (records bodies)
  pub holds : Holds256 hasher (body_bytes bodies)
  pub replayed : ReplaysAll replays old bodies new

pub replays_push : {T : Type 0} (replays : T → List ℕ → T → Type 0) (old mid new : T) (bodies : List (List ℕ)) (body : List ℕ)
    → ReplaysAll replays old bodies mid → replays mid body new → ReplaysAll replays old (bodies ++ body ∷ []) new
replays_push replays old mid new [] body all last = (new, subst (λ m. replays m body new) all last, refl)
replays_push replays old mid new (first ∷ bodies) body all last =
    (all.0, all.1, replays_push replays all.0 mid new bodies body all.2 last)

-- one more record is read, and replayed
pub one_read : {T : Type 0} (replays : T → List ℕ → T → Type 0) (content : List ℕ) (old mid new : T) (size : ℕ) (before after : Sha256)
    (bytes body more : List ℕ) (s : ReadSoFar replays content old size before mid) → IsBody body → bytes ≡ record_after (body_bytes s.bodies) body
    → drop size content ≡ bytes ++ more → Holds256 after (body_bytes s.bodies ++ body) → replays mid body new
    → ReadSoFar replays content old (size + length bytes) after new
one_read replays content old mid new size before after bytes body more s fits bytes_is front holds replayed =
    let all : content ≡ records (s.bodies ++ body ∷ []) ++ more =
    s.whole ∙ ap (λ (l : List ℕ). records s.bodies ++ l) (front ∙ ap (λ (l : List ℕ). l ++ more) bytes_is)
    ∙ sym (append_assoc (records s.bodies) (record_after (body_bytes s.bodies) body) more)
    ∙ ap (λ (l : List ℕ). l ++ more) (sym (records_push s.bodies body)) in
    let sized : size + length bytes ≡ length (records (s.bodies ++ body ∷ [])) =
    omega (
      arith,
      s.size_is,
      ap length bytes_is,
      ap length (records_push s.bodies body),
      length-append (records s.bodies) (record_after
          (body_bytes s.bodies) body),
    ) in
    record {
      bodies = s.bodies ++ body ∷ [];
      fit = All-push IsBody s.bodies body s.fit fits;
      whole = all ∙ ap (λ (l : List ℕ). records (s.bodies ++ body ∷ []) ++ l)
          (sym (drop_at (records (s.bodies ++ body ∷ [])) more (size + length bytes) (sym sized)) ∙ ap (λ (l : List ℕ). drop (size + length bytes) l)
          (sym all));
      size_is = sized;
      holds = subst (Holds256 after) (sym (joined_push s.bodies body)) holds;
      replayed = replays_push replays old mid new s.bodies body s.replayed replayed;
    }

-- no whole record is left
pub reads_all : {T : Type 0} (replays : T → List ℕ → T → Type 0) (content : List ℕ) (old new : T) (size : ℕ) (hasher : Sha256)
    (s : ReadSoFar replays content old size hasher new) → HasNoRecord (body_bytes s.bodies) (drop size content)
    → ReadsRecords content s.bodies (drop size content)
reads_all replays content old new size hasher s none = record { fit = s.fit; whole = s.whole; longest = none }

-- a body is refused, or no more is known
pub refused : {T : Type 0} (replays : T → List ℕ → T → Type 0) (refuses : T → List ℕ → Type 0) (Honest : Type 0) (content : List ℕ) (old mid new : T)
    (size : ℕ) (hasher : Sha256) (bytes body more : List ℕ) (s : ReadSoFar replays content old size hasher mid) → Honest
    → IsBody body → bytes ≡ record_after (body_bytes s.bodies) body → drop size content ≡ bytes ++ more
    → (fault : LogFault) → IsRefusalAt Honest content size (refuses mid body) fault → ReadsLog replays refuses content old (Err fault) new
refused replays refuses Honest content old mid new size hasher bytes body more s honest fits bytes_is front (Damaged byte behind) refusal = record {
  bodies = s.bodies;
  rest = drop size content;
  whole = s.whole;
  byte_is = refusal.1 ∙ s.size_is;
  behind_is = refusal.2 honest;
  mid = mid;
  replayed = s.replayed;
  why = inr (body, more, fits, front ∙ ap (λ (l : List ℕ). l ++ more) bytes_is, refusal.0);
}
refused replays refuses Honest content old mid new size hasher bytes body more s honest fits bytes_is front Device refusal = tt
refused replays refuses Honest content old mid new size hasher bytes body more s honest fits bytes_is front OutOfMemory refusal = tt
refused replays refuses Honest content old mid new size hasher bytes body more s honest fits bytes_is front InUse refusal = refusal

-- whatever the file holds: one more body is replayed
pub holds_one_more : {T : Type 0} (replays : T → List ℕ → T → Type 0) (old mid new : T) (before after : Sha256) (body : List ℕ)
    → (held : HoldsReplayed replays old before mid) → Holds256 after (body_bytes held.bodies ++ body) → replays mid body new
    → HoldsReplayed replays old after new
holds_one_more replays old mid new before after body held holds last = record {
  bodies = held.bodies ++ body ∷ [];
  replayed = replays_push replays old mid new held.bodies body held.replayed last;
  holds = subst (λ (l : List ℕ). Holds256 after l) (sym (joined_push held.bodies body)) holds;
}
