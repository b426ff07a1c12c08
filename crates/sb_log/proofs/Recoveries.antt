-- Files that are recovered, or not.
use Rattle.std.proofs.Common.{◌≡◌, ◌⊎◌, ℕ, ◌≤◌, List, length, min, take, false, true, refl, sym, ap, subst, ◌∙◌, arith, rules, inl, inr, Err}
use Rattle.std.proofs.lemmas.List.{take_at}
use Rattle.sb_log.specs.Lives.{Cut, Happens, Life}
use Rattle.sb_log.specs.LogCalls.{IsDamagedAt, IsFileOf, ReadsLog, Recovers}
use Rattle.sb_log.specs.LogFiles.{IsTruncated, KeepsSynced, LogFileOf, MayBeTruncated}
use Rattle.sb_log.specs.Reading.{IsTorn, ReadsRecords}
use Rattle.sb_log.specs.Records.{records}
use Rattle.sb_log.specs.declared.log_fault.LogFault.{LogFault}
use Rattle.sb_log.specs.declared.log_fault.LogFault.TheVariants.{Damaged, Device, InUse, OutOfMemory}

-- a life that has to be read back
abbrev pub ailing : Life → Life
ailing l = record l { healthy = false }

-- a life whose file is cut to the records that were read
abbrev pub cut_life : Life → List (List ℕ) → Life
cut_life l bodies = record l { content = records bodies; synced = min (length (records bodies)) l.synced }

-- a life that was read back
abbrev pub life_read_back : List (List ℕ) → Life
life_read_back bodies =
    record { content = records bodies; synced = length (records bodies); given = bodies; told = bodies; healthy = true }

-- the bytes up to the last whole record
to_records : (content now new : List ℕ) (size : ℕ) (bodies : List (List ℕ)) (rest : List ℕ) → now ≡ content → ReadsRecords content bodies rest
    → size ≡ length (records bodies) → new ≡ take size now → records bodies ≡ new
to_records content now new size bodies rest same reads sized cut =
    sym (cut ∙ ap (λ (c : List ℕ). take size c) (same ∙ reads.whole) ∙ take_at (records bodies) rest size (sym sized))

-- the same bytes, which may not all come to the disk
still_ailing : (l : Life) (before after : LogFileOf) → IsFileOf before l → KeepsSynced before after → IsFileOf after (ailing l)
still_ailing l before after life keeps = record {
  content_is = life.content_is ∙ sym keeps.content_is;
  synced_in = omega (arith, life.synced_in, keeps.synced_in);
  syncable_in = λ healthy. absurd (search (rules, healthy));
}

module _ {T : Type 0} (replays : T → List ℕ → T → Type 0) (refuses : T → List ℕ → Type 0) where
  -- a life that fails to be recovered, after its file was cut or not
  abbrev pub FailsWith : Life → T → LogFault → T → LogFileOf → Type 0
  FailsWith l old fault new after = (m : Life) × Recovers replays refuses l old (Err fault) new m × IsFileOf after m

  pub not_read : (l : Life) (old new : T) (before after : LogFileOf) (fault : LogFault) → IsFileOf before l → KeepsSynced before after
      → before.syncable ≤ after.syncable → ReadsLog replays refuses before.content old (Err fault) new → FailsWith l old fault new after
  not_read l old new before after (Damaged byte behind) life keeps reach reads = (
    l,
    (subst (λ (c : List ℕ). IsDamagedAt replays refuses c old byte behind) (sym life.content_is) reads, refl),
    record {
      content_is = life.content_is ∙ sym keeps.content_is;
      synced_in = omega (arith, life.synced_in, keeps.synced_in);
      syncable_in = λ healthy. omega (arith, ap length keeps.content_is, life.syncable_in healthy, reach);
    },
  )
  not_read l old new before after Device life keeps reach reads = (ailing l, (l, refl, inl refl), still_ailing l before after life keeps)
  not_read l old new before after OutOfMemory life keeps reach reads = (ailing l, (l, refl, inl refl), still_ailing l before after life keeps)
  not_read l old new before after InUse life keeps reach reads = absurd reads

  -- a fault that says nothing of the file, which may have been cut
  ails : (l : Life) (old new : T) (fault : LogFault) (n : Life) (after : LogFileOf) → (fault ≡ Device) ⊎ (fault ≡ OutOfMemory)
      → ((n ≡ l) ⊎ ((bodies : List (List ℕ)) × (rest : List ℕ) × Happens l (Cut bodies rest) n)) → IsFileOf after (ailing n)
      → FailsWith l old fault new after
  ails l old new Device n after known cut file = (ailing n, (n, refl, cut), file)
  ails l old new OutOfMemory n after known cut file = (ailing n, (n, refl, cut), file)
  ails l old new (Damaged byte behind) n after known cut file = elim known [ inl e ↦ absurd (cc) | inr e ↦ absurd (cc) ]
  ails l old new InUse n after known cut file = elim known [ inl e ↦ absurd (cc) | inr e ↦ absurd (cc) ]

  pub not_truncated : (l : Life) (old new : T) (before now after : LogFileOf) (fault : LogFault) (size : ℕ) (bodies : List (List ℕ)) (rest : List ℕ)
      → (fault ≡ Device) ⊎ (fault ≡ OutOfMemory) → IsFileOf before l → KeepsSynced before now → ReadsRecords before.content bodies rest → IsTorn rest
      → size ≡ length (records bodies) → MayBeTruncated size now after → FailsWith l old fault new after
  not_truncated l old new before now after fault size bodies rest known life keeps reads torn sized may = elim may [
    | inl stays ↦ ails l old new fault l after known (inl refl) (still_ailing l before after life (record {
      content_is = stays.content_is ∙ keeps.content_is;
      synced_in = omega (arith, keeps.synced_in, stays.synced_in);
    }))
    | inr cut ↦ ails l old new fault (cut_life l bodies) after known
        (inr (bodies, rest, (subst (λ (b : List ℕ). ReadsRecords b bodies rest) (sym life.content_is) reads, torn, refl)))
        (record {
          content_is = to_records before.content now.content after.content size bodies rest keeps.content_is reads sized cut.content_is;
          synced_in = omega (arith, sized, life.synced_in, keeps.synced_in, cut.synced_in);
          syncable_in = λ healthy. absurd (search (rules, healthy));
        })
  ]

pub is_read_back : (before now after : LogFileOf) (size : ℕ) (bodies : List (List ℕ)) (rest : List ℕ) → now.content ≡ before.content
    → ReadsRecords before.content bodies rest → size ≡ length (records bodies) → IsTruncated size now after
    → IsFileOf after (life_read_back bodies)
is_read_back before now after size bodies rest same reads sized cut =
    let there = to_records before.content now.content after.content size bodies rest same reads sized cut.content_is in
    record {
      content_is = there;
      synced_in = omega (arith, ap length there, cut.synced_in);
      syncable_in = λ healthy. cut.syncable_in;
    }
