-- A log that is cut behind its last whole record.
use Rattle.std.proofs.Common.{◌≡◌, ◌⊎◌, ◌++◌, ◌∙◌, ◌+◌, ◌-◌, ◌<◌, ◌≤◌, ℕ, Result, Ok, Err, List, [], ◌∷◌, ap, refl, sym, subst, drop, length, inl, inr, arith, append-nil, length-append, length-drop}
use Rattle.std.specs.Prelude.{Option, OnOk, take}
use Rattle.std.specs.Io.KnownBytes.{Appends}
use Rattle.std.proofs.lemmas.Grind.{common_steps}
use Rattle.std.proofs.Math.Seq.{take-append_seam, drop-append_seam}
use Rattle.std.proofs.lemmas.List.{take-append-drop}
use Rattle.sb_log.specs.Records.{records}
use Rattle.sb_log.specs.declared.log_fault.LogFault.{LogFault}
use Rattle.sb_log.specs.declared.log_fault.LogFault.TheVariants.{Damaged, Device, InUse, OutOfMemory}
use Rattle.sb_ask_log.specs.Recovery.{IsDamagedAskLog, ReadsAskLog}
use Rattle.bank_service.specs.declared.list_fault.ListFault.TheVariants.{Log}
use Rattle.bank_program.specs.CutLogs.{CutsOff, IsBehindLog, IsCutFault}
use Rattle.bank_program.specs.inner.LogEnds.{EndsRecordsAt}

-- a list is parted behind so many of its elements as it is anyway
parted : (at : ℕ) (xs front rest : List ℕ) → xs ≡ front ++ rest → at ≡ length front → (take at xs ≡ front) × (drop at xs ≡ rest)
parted at xs front rest is at_is =
    (rw (is, at_is) (take-append_seam front rest), rw (is, at_is) (drop-append_seam front rest))

-- the same if it is known how many elements are behind
parted_before : (at : ℕ) (xs front rest : List ℕ) → xs ≡ front ++ rest → length (drop at xs) ≡ length rest
    → (take at xs ≡ front) × (drop at xs ≡ rest)
parted_before at xs front [] is long =
    let none : length xs - at ≡ 0 = sym (length-drop at xs) ∙ long in
    let whole : xs ≡ front = grind (arith, common_steps) in
    (grind (arith, common_steps), grind (arith, common_steps))
parted_before at xs front (byte ∷ rest) is long =
    let all : length xs ≡ length front + length (byte ∷ rest) = ap length is ∙ length-append front (byte ∷ rest) in
    let left : length xs - at ≡ length (byte ∷ rest) = sym (length-drop at xs) ∙ long in
    parted at xs front (byte ∷ rest) is (omega (arith, all, left))

-- what is behind the place where a log ends, if it is as long as that is said to be
behind_log : (content : List ℕ) (at behind : ℕ) → EndsRecordsAt content at behind → length (drop at content) ≡ behind
    → IsBehindLog content (take at content) (drop at content)
behind_log content at behind (inl (text, log, rest, reads, some, behind_is, whole)) long =
    let p = parted_before at content (records reads.bodies) rest reads.reads.whole (long ∙ behind_is) in
    (sym (take-append-drop at content), inl (text, log, subst (λ (l : List ℕ). ReadsAskLog content text log l) (sym p.1) reads, some))
behind_log content at behind (inr damage) long =
    let p = parted at content (records damage.bodies) damage.rest damage.whole damage.byte_is in
    let byte : at ≡ length (take at content) = damage.byte_is ∙ sym (ap length p.0) in (
      sym (take-append-drop at content),
      inr (subst (λ (n : ℕ). IsDamagedAskLog content n (length (drop at content))) byte
          (subst (λ (n : ℕ). IsDamagedAskLog content at n) (sym long) damage)),
    )

-- what is behind the log was moved, and cutting there cuts it off
pub cuts_off : (old mid new : List ℕ) (at behind moved : ℕ) (rest_old rest_new : Option (List ℕ)) → EndsRecordsAt old at behind → mid ≡ old
    → moved ≡ behind → (moved ≡ length (drop at mid)) × Appends rest_old rest_new (drop at mid) → new ≡ take at old
    → CutsOff old new rest_old rest_new
cuts_off old mid new at behind moved rest_old rest_new ends same count has is =
    let moves : (moved ≡ length (drop at old)) × Appends rest_old rest_new (drop at old) =
    subst (λ (l : List ℕ). (moved ≡ length (drop at l)) × Appends rest_old rest_new (drop at l)) same has in
    (drop at old, subst (λ (l : List ℕ). IsBehindLog old l (drop at old)) (sym is) (behind_log old at behind ends (sym moves.0 ∙ count)), moves.1)

-- nothing was cut off then, or what was is kept elsewhere
pub rest_is_kept : (old mid new : List ℕ) (at behind moved : ℕ) (rest_old rest_new kept : Option (List ℕ)) → EndsRecordsAt old at behind → mid ≡ old
    → moved ≡ behind → (moved ≡ length (drop at mid)) × Appends rest_old rest_new (drop at mid) → (0 < moved → kept ≡ rest_new)
    → new ≡ take at old → (new ≡ old) ⊎ CutsOff old new rest_old kept
rest_is_kept old mid new at behind moved rest_old rest_new kept ends same count has keeps is = by (drop at old) refl
  where
    long : moved ≡ length (drop at old)
    long = has.0 ∙ ap (λ (l : List ℕ). length (drop at l)) same

    by : (rest : List ℕ) → drop at old ≡ rest → (new ≡ old) ⊎ CutsOff old new rest_old kept
    by [] none = inl (is ∙ sym (append-nil (take at old)) ∙ ap (λ (l : List ℕ). take at old ++ l) (sym none) ∙ take-append-drop at old)
    by (byte ∷ rest) some =
        let there : kept ≡ rest_new = keeps (omega (arith, long, ap length some)) in
        inr (cuts_off old mid new at behind moved rest_old kept ends same count
        (has.0, subst (λ (k : Option (List ℕ)). Appends rest_old k (drop at mid)) (sym there) has.1) is)

-- a log ends within its file
pub ends_within : (content : List ℕ) (at behind : ℕ) → EndsRecordsAt content at behind → at ≤ length content
ends_within content at behind (inl (text, log, rest, reads, some, behind_is, whole)) = omega (arith, whole)
ends_within content at behind (inr d) = omega (arith, ap length d.whole, length-append (records d.bodies) d.rest, d.byte_is)

-- why a log that is read isn't cut
pub cut_fault : (content : List ℕ) (fault : LogFault) → (fault ≡ Device) ⊎ (fault ≡ OutOfMemory) → IsCutFault content (Log fault)
cut_fault content Device known = tt
cut_fault content OutOfMemory known = tt
cut_fault content (Damaged byte behind) known = elim known [ inl e ↦ absurd (cc) | inr e ↦ absurd (cc) ]
cut_fault content InUse known = elim known [ inl e ↦ absurd (cc) | inr e ↦ absurd (cc) ]

-- what holds of a call whatever it answers
pub if_so : {T E : Type 0} (r : Result T E) {P : Type 0} → P → OnOk r P
if_so (Ok x) holds = holds
if_so (Err y) holds = tt
