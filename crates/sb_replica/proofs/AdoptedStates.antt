-- A replica whose log is opened on another one's state has adopted that.
use Rattle.std.proofs.Common.{◌≡◌, ℕ, ◌<◌, List, length, refl, sym, ap, subst, ◌∙◌, arith}
use Rattle.sb_calls.specs.declared.reply.Reply.{Reply}
use Rattle.sb_rows.specs.Balances.{Balances}
use Rattle.cown_board.specs.Board.{length_of}
use Rattle.cown_board.specs.BoardCalls.{board_at_opening}
use Rattle.sb_checkpoint.specs.Checkpoint.{CheckpointOf, SpellsFor}
use Rattle.sb_replica.specs.Log.{LogOf, none_held}
use Rattle.sb_replica.specs.Replica.{ReplicaOf, origin_of, with_log}
use Rattle.sb_replica.specs.States.{Adopts}
use Rattle.sb_replica.specs.declared.adopted.Adopted.TheVariants.{Adopted}

abbrev pub log_at : Balances → List Reply → LogOf
log_at columns replies = record { board = board_at_opening columns replies; held = none_held }

pub adopts : {S : Type 0} (old new : ReplicaOf S) (bytes : List ℕ) (checkpoint : CheckpointOf) (read : List Reply) (columns : Balances)
    (replies : List Reply) (log : LogOf) (own : ℕ) → own ≡ length_of old.board → own < length read → read ≡ checkpoint.replies
    → SpellsFor (origin_of old) checkpoint bytes
    → columns ≡ checkpoint.columns → replies ≡ checkpoint.replies → log ≡ log_at columns replies → new ≡ with_log old log
    → Adopts old bytes (Adopted (length read)) new
adopts {S} old new bytes checkpoint read columns replies log own is more all spelled first second opened gone =
    let on = opened ∙ ap (λ (c : Balances). log_at c replies) first ∙ ap (λ (r : List Reply). log_at checkpoint.columns r) (second ∙ sym all) in
    let same = ap length all in
    subst (λ (r : ReplicaOf S). Adopts old bytes (Adopted (length read)) r) (sym (gone ∙ ap (λ (l : LogOf). with_log old l) on)) (
      omega (arith, is, more),
      omega arith,
      record { checkpoint = checkpoint; is_stored = spelled; board_is = ap (λ (r : List Reply). board_at_opening checkpoint.columns r) all },
      refl,
    )
