-- An entry offered to a replica log: the answer, and the log after it.
use Rattle.std.specs.Prelude.{ℕ, suc, ◌+◌, ◌-◌, nat_le, nat_lt, ◌==◌, ◌||◌, if◌then◌else◌, Option, Some, None, option_map, [], ◌∷◌, ◌++◌, drop, slice_set}
use Rattle.sb_calls.specs.declared.call.TheConstants.{LOG_CALLS}
use Rattle.sb_calls.specs.declared.op.Op.{Op}
use Rattle.cown_board.specs.Board.{BoardOf, length_of, unfinished_of}
use Rattle.cown_board.specs.declared.board.TheConstants.{OPEN_BEHAVIOURS}
use Rattle.cown_board.specs.declared.state.State.TheVariants.{Waiting}
use Rattle.sb_replica.specs.Log.{LogOf, next_held}
use Rattle.sb_replica.specs.declared.offered.Offered.{Offered}
use Rattle.sb_replica.specs.declared.offered.Offered.TheVariants.{Next, Repeat, Gap, Held, Busy}
use Rattle.sb_replica.specs.declared.replica_log.TheConstants.{HELD_ENTRIES}

-- the answer to the next entry: it is taken, unless too much is unfinished
abbrev pub next_offer_answer : BoardOf Op → Offered
next_offer_answer board = if unfinished_of board == OPEN_BEHAVIOURS then Busy (length_of board) else Next

-- the answer to an entry, the first case that holds: it is there already, it is too far ahead, one
-- before it is missing, or it is the next
abbrev pub offer_answer : BoardOf Op → ℕ → Offered
offer_answer board number =
    if nat_le number (length_of board) then Repeat
    else if nat_lt (length_of board + HELD_ENTRIES) number || nat_lt LOG_CALLS number then Gap (length_of board)
    else if nat_lt (suc (length_of board)) number then Held number
    else next_offer_answer board

-- the entry is appended to the log, and waits
abbrev pub board_with_entry : BoardOf Op → Op → BoardOf Op
board_with_entry board op = record board { log = board.log ++ op ∷ []; states = board.states ++ Waiting ∷ [] }

-- the board accepts it, and each slot of what is held moves up by one number
abbrev pub log_with_entry : LogOf → Op → LogOf
log_with_entry log op = record { board = board_with_entry log.board op; held = drop 1 log.held ++ None ∷ [] }

-- the op replaces what was held for its number
abbrev pub log_with_held : LogOf → ℕ → Op → LogOf
log_with_held log number op = record log { held = slice_set log.held (number - length_of log.board - 1) (Some op) }

-- the log after an offer: only the next entry, and one that is held, change anything
abbrev pub after_offer : LogOf → Op → Offered → LogOf
after_offer log op Next = log_with_entry log op
after_offer log op Repeat = log
after_offer log op (Gap size) = log
after_offer log op (Held number) = log_with_held log number op
after_offer log op (Busy size) = log

-- the answer to the op that is held for the next number, if there is one
abbrev pub advance_answer : LogOf → Option Offered
advance_answer log = option_map (λ op. next_offer_answer log.board) (next_held log)

-- the log after that op was offered
abbrev pub after_held_op : LogOf → Option Op → LogOf
after_held_op log None = log
after_held_op log (Some op) = after_offer log op (next_offer_answer log.board)

-- the log after it took the entry that it holds for the next number, if any
abbrev pub after_advance : LogOf → LogOf
after_advance log = after_held_op log (next_held log)
