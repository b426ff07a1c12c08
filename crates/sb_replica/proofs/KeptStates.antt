-- The state that kept bytes give: their checkpoint, if it has an entry.
use Rattle.std.proofs.Common.{◌≡◌, ℕ, Some, None, List, length, inr, refl, sym, ap, subst}
use Rattle.sb_calls.specs.declared.reply.Reply.{Reply}
use Rattle.sb_checkpoint.specs.Checkpoint.{CheckpointOf, SpellsFor, Origin}
use Rattle.sb_replica.specs.States.{Gives, IsStateOf}

-- they are a state of as many entries as replies were read in a copy of them
pub is_state : (origin : Origin) (checkpoint : CheckpointOf) (read : List Reply) {copy bytes : List ℕ} → copy ≡ bytes
    → SpellsFor origin checkpoint copy → read ≡ checkpoint.replies → IsStateOf origin (length read) bytes
is_state origin checkpoint read same spelled all = record {
  checkpoint = checkpoint;
  spelled = subst (λ (bytes : List ℕ). SpellsFor origin checkpoint bytes) same spelled;
  size_is = ap length (sym all);
}

-- a checkpoint of no entry gives none
pub gives_none : (origin : Origin) (size : ℕ) (bytes : List ℕ) → IsStateOf origin size bytes → size ≡ 0 → Gives origin (Some bytes) None
gives_none origin size bytes state none = inr (bytes, refl, subst (λ n. IsStateOf origin n bytes) none state)
