-- A replica's checkpoint, put into its store.
use Rattle.std.specs.Prelude.{◌≡◌, ◌≢◌, ◌⊎◌, ℕ, ◌-◌, Option, Some, None, Result, Ok, Err, List, length, take}
use Rattle.sb_rows.specs.Balances.{Balances}
use Rattle.sb_calls.specs.Behaviour.{declared_cowns, effect_of}
use Rattle.sb_calls.specs.declared.op.Op.{Op}
use Rattle.cown_board.specs.Board.{BoardOf, unfinished_of, IsAfterAll}
use Rattle.sb_checkpoint.specs.Checkpoint.{Second, SpellsInLayout}
use Rattle.sb_checkpoint.specs.Stores.{StoreStep, Put}
use Rattle.sb_checkpoint.specs.declared.store.StoreFault.{StoreFault}
use Rattle.sb_checkpoint.specs.declared.store.StoreFault.TheVariants.{Device, OutOfMemory}
use Rattle.sb_replica.specs.Replica.{ReplicaOf, origin_of, board_replies}
use Rattle.sb_replica.specs.declared.fault.MarkFault.{MarkFault}
use Rattle.sb_replica.specs.declared.fault.MarkFault.TheVariants as mark

-- a board up to a cut, or all of it without one
abbrev pub up_to : BoardOf Op → Option ℕ → BoardOf Op
up_to board None = board
up_to board (Some number) =
    let places = number - length board.base_replies in
    record board { log = take places board.log; states = take places board.states }

-- what a mark covers: the board up to its cut, or all of it without one
abbrev pub up_to_cut : BoardOf Op → BoardOf Op
up_to_cut board = up_to board board.cut

-- a put that succeeds removes the cut; one that fails leaves it
abbrev pub after_put : Result (Unit {0}) StoreFault → BoardOf Op → BoardOf Op
after_put (Ok done) board = record board { cut = None }
after_put (Err fault) board = board

module _ {S : Type 0} (does : S → StoreStep → S → Type 0) where
  -- the balances after all marked entries and their replies were spelled, in the second layout with
  -- the opening total, and the store's put gave this answer
  pub record Puts (old : ReplicaOf S) (answer : Result (Unit {0}) StoreFault) (new : ReplicaOf S) : Type 0 where
    pub idle : unfinished_of (up_to_cut old.board) ≡ 0
    pub columns : Balances
    pub after : IsAfterAll declared_cowns effect_of (up_to_cut old.board) columns
    pub bytes : List ℕ
    pub spelled : SpellsInLayout Second (origin_of old).opening_total
        (record { columns = columns; replies = board_replies (up_to_cut old.board) }) bytes
    pub put : does old.store (Put bytes answer) new.store
    pub stays : new ≡ record old { board = after_put answer old.board; store = new.store }

  -- these are the bytes of the checkpoint, and the put succeeded
  abbrev pub PutsBytes : ReplicaOf S → List ℕ → ReplicaOf S → Type 0
  PutsBytes old bytes new = (puts : Puts old (Ok tt) new) × (puts.bytes ≡ bytes)

  -- a marked entry is unfinished and nothing changes; or the store failed; or memory was refused,
  -- to the store or before it was used
  abbrev pub IsMarkFaultOf : ReplicaOf S → MarkFault → ReplicaOf S → Type 0
  IsMarkFaultOf old mark.Busy new = (unfinished_of (up_to_cut old.board) ≢ 0) × (new ≡ old)
  IsMarkFaultOf old mark.Device new = Puts old (Err Device) new
  IsMarkFaultOf old mark.OutOfMemory new =
      (unfinished_of (up_to_cut old.board) ≡ 0) × ((new ≡ old) ⊎ Puts old (Err OutOfMemory) new)
