-- How the bodies of a log are replayed, one after another.
use Rattle.std.specs.Prelude.{◌≡◌, ℕ, List, [], ◌∷◌}
use Rattle.sha2.specs.declared.Sha256.{Sha256}
use Rattle.sha2.specs.Hashers.{Holds256}
use Rattle.sb_log.specs.Records.{body_bytes}
use Rattle.sb_log.specs.declared.replay.ReplayFault.{ReplayFault}
use Rattle.sb_log.specs.declared.replay.ReplayFault.TheVariants.{Refused, OutOfMemory}

-- these bodies were replayed, in order
abbrev pub ReplaysAll : {T : Type 0} → (T → List ℕ → T → Type 0) → T → List (List ℕ) → T → Type 0
ReplaysAll replays old [] new = new ≡ old
ReplaysAll {T} replays old (body ∷ bodies) new = (mid : T) × replays old body mid × ReplaysAll replays mid bodies new

-- some bodies were replayed, in order, and the hasher holds just their bytes
pub record HoldsReplayed {T : Type 0} (replays : T → List ℕ → T → Type 0) (old : T) (hasher : Sha256)
    (new : T) : Type 0 where
  pub bodies : List (List ℕ)
  pub replayed : ReplaysAll replays old bodies new
  pub holds : Holds256 hasher (body_bytes bodies)

-- a body is refused for this reason, or memory is
abbrev pub IsReplayFault : Type 0 → ReplayFault → Type 0
IsReplayFault Reason Refused = Reason
IsReplayFault Reason OutOfMemory = Unit {0}
