-- A body that is refused.
use Rattle.std.specs.Prelude.{◌≡◌, ℕ, List, drop, length}
use Rattle.sb_log.specs.declared.log_fault.LogFault.{LogFault}
use Rattle.sb_log.specs.declared.log_fault.LogFault.TheVariants.{Damaged, InUse}

-- a body is refused, whose record stands at this place of an honest file, or no more is known
abbrev pub IsRefusalAt : Type 0 → List ℕ → ℕ → Type 0 → LogFault → Type 0
IsRefusalAt Honest content at Refusal (Damaged byte behind) =
    Refusal × (byte ≡ at) × (Honest → behind ≡ length (drop at content))
IsRefusalAt Honest content at Refusal InUse = ⊥
IsRefusalAt Honest content at Refusal other = Unit {0}
