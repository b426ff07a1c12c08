-- An entry that is answered as the next one has the next number.
use Rattle.std.proofs.Common.{◌≡◌, ℕ, suc, Bool, true, false, arith, refl}
use Rattle.std.proofs.lemmas.Bool.{leb-false, ltb-false}
use Rattle.std.specs.Prelude.{◌||◌, ◌+◌, nat_le, nat_lt, ◌==◌, if◌then◌else◌}
use Rattle.sb_calls.specs.declared.call.TheConstants.{LOG_CALLS}
use Rattle.sb_calls.specs.declared.op.Op.{Op}
use Rattle.cown_board.specs.Board.{BoardOf, length_of, unfinished_of}
use Rattle.cown_board.specs.declared.board.TheConstants.{OPEN_BEHAVIOURS}
use Rattle.sb_replica.specs.Offers.{offer_answer}
use Rattle.sb_replica.specs.declared.offered.Offered.TheVariants.{Next, Repeat, Gap, Held, Busy}
use Rattle.sb_replica.specs.declared.replica_log.TheConstants.{HELD_ENTRIES}

-- neither a repeat nor early
next_tests : (there past early busy : Bool) (size number : ℕ)
    → (if there then Repeat else if past then Gap size else if early then Held number else if busy then Busy size else Next) ≡ Next
    → (there ≡ false) × (early ≡ false)
next_tests true past early busy size number e = absurd cc
next_tests false true early busy size number e = absurd cc
next_tests false false true busy size number e = absurd cc
next_tests false false false busy size number e = (refl, refl)

pub next_number : (board : BoardOf Op) (number : ℕ) → offer_answer board number ≡ Next → number ≡ suc (length_of board)
next_number board number e =
    let tests = next_tests (nat_le number (length_of board))
    (nat_lt (length_of board + HELD_ENTRIES) number || nat_lt LOG_CALLS number) (nat_lt (suc (length_of board)) number)
    (unfinished_of board == OPEN_BEHAVIOURS) (length_of board) number e in
    let above = leb-false number (length_of board) tests.0 in
    let below = ltb-false (suc (length_of board)) number tests.1 in
    omega (arith, above, below)
