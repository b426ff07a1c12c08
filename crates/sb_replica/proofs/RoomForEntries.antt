-- An entry isn't answered `Busy` if there is room for one more.
use Rattle.std.proofs.Common.{◌≡◌, ℕ, suc, ◌+◌, Bool, true, false}
use Rattle.std.specs.Prelude.{◌≢◌, ◌||◌, ◌==◌, nat_le, nat_lt, if◌then◌else◌}
use Rattle.std.proofs.lemmas.Bool.{ne_eqb}
use Rattle.sb_calls.specs.declared.call.TheConstants.{LOG_CALLS}
use Rattle.sb_calls.specs.declared.op.Op.{Op}
use Rattle.cown_board.specs.Board.{BoardOf, length_of, unfinished_of}
use Rattle.cown_board.specs.declared.board.TheConstants.{OPEN_BEHAVIOURS}
use Rattle.sb_replica.specs.Frames.{entry_answer}
use Rattle.sb_replica.specs.Offers.{offer_answer}
use Rattle.sb_replica.specs.declared.heard.Heard.TheVariants as heard
use Rattle.sb_replica.specs.declared.offered.Offered.{Offered}
use Rattle.sb_replica.specs.declared.offered.Offered.TheVariants.{Next, Repeat, Gap, Held, Busy}
use Rattle.sb_replica.specs.declared.replica_log.TheConstants.{HELD_ENTRIES}

busy_tests : (there past early busy : Bool) (size number n : ℕ) → busy ≡ false
    → (if there then Repeat else if past then Gap size else if early then Held number else if busy then Busy size else Next) ≡ Busy n → ⊥
busy_tests true past early busy size number n free e = cc
busy_tests false true early busy size number n free e = cc
busy_tests false false true busy size number n free e = cc
busy_tests false false false true size number n free e = cc
busy_tests false false false false size number n free e = cc

heard_busy : (number n : ℕ) (answer : Offered) → entry_answer number answer ≡ heard.Busy n → answer ≡ Busy n
heard_busy number n Next e = absurd cc
heard_busy number n Repeat e = absurd cc
heard_busy number n (Gap size) e = absurd cc
heard_busy number n (Held held) e = absurd cc
heard_busy number n (Busy size) e = cc

pub never_busy : (board : BoardOf Op) (number : ℕ) → unfinished_of board ≢ OPEN_BEHAVIOURS → (size : ℕ)
    → entry_answer number (offer_answer board number) ≢ heard.Busy size
never_busy board number room size e =
    busy_tests (nat_le number (length_of board)) (nat_lt (length_of board + HELD_ENTRIES) number || nat_lt LOG_CALLS number)
    (nat_lt (suc (length_of board)) number) (unfinished_of board == OPEN_BEHAVIOURS) (length_of board) number size
    (ne_eqb (unfinished_of board) OPEN_BEHAVIOURS room) (heard_busy number size (offer_answer board number) e)
