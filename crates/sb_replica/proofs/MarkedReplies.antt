-- What a mark covers: its replies by number, its length, and its columns.
use Rattle.std.proofs.Common.{◌≡◌, ℕ, ◌+◌, ◌-◌, ◌<◌, ◌≤◌, true, Option, Some, None, length, take, refl, sym, ap, ◌∙◌, arith, inl, inr}
use Rattle.std.specs.Prelude.{min, if◌then◌else◌, nat_le, ◌==◌, option_and_then}
use Rattle.std.specs.List.{slice_get}
use Rattle.std.proofs.lemmas.Bool.{cases_lt, le-leb}
use Rattle.std.proofs.lemmas.List.{length-take, length-take-le}
use Rattle.sb_calls.specs.declared.op.Op.{Op}
use Rattle.cown_board.proofs.CutInvariant.{slice_get-take}
use Rattle.cown_board.specs.Board.{BoardOf, length_of, reply_in}
use Rattle.cown_board.specs.State.{finished_reply}
use Rattle.sb_replica.specs.Marking.{up_to_cut, up_to}

-- up to a cut, the board has as many numbers as the cut's length
pub length_up_to : (board : BoardOf Op) (number : ℕ) → length board.base_replies ≤ number → number ≤ length_of board
    → length_of (up_to board (Some number)) ≡ number
length_up_to board number after within =
    let places = number - length board.base_replies in
    omega (arith, length-take-le places board.log (omega (arith, after, within)), after, within)

-- and a state for each
beside_up_to : (board : BoardOf Op) (cut : Option ℕ) → length board.log ≡ length board.states
    → length (up_to board cut).log ≡ length (up_to board cut).states
beside_up_to board None beside = beside
beside_up_to board (Some number) beside =
    let places = number - length board.base_replies in
    length-take places board.log ∙ ap (λ (n : ℕ). min places n) beside ∙ sym (length-take places board.states)

pub marked_beside : (board : BoardOf Op) → length board.log ≡ length board.states → length (up_to_cut board).log ≡ length (up_to_cut board).states
marked_beside board beside = beside_up_to board board.cut beside

reply_up_to : (board : BoardOf Op) (cut : Option ℕ) (place : ℕ) → place < length_of (up_to board cut)
    → reply_in board (place + 1) ≡ reply_in (up_to board cut) (place + 1)
unfolding reply_in
reply_up_to board None place lt = refl
reply_up_to board (Some number) place lt =
    let base_replies = board.base_replies in
    let places = number - length base_replies in
    let state = place + 1 - 1 - length base_replies in
    elim (cases_lt place (length base_replies)) [
      | inl before ↦
          let there : nat_le (place + 1) (length base_replies) ≡ true = le-leb (place + 1) (length base_replies) (omega (arith, before)) in
          ap (λ b. if (place + 1) == 0 then None else if b then slice_get base_replies (place + 1 - 1)
          else option_and_then finished_reply (slice_get board.states state)) there
          ∙ sym (ap (λ b. if (place + 1) == 0 then None else if b then slice_get base_replies (place + 1 - 1)
          else option_and_then finished_reply (slice_get (take places board.states) state)) there)
      | inr past ↦
          ap (λ found. if (place + 1) == 0 then None else if nat_le (place + 1) (length base_replies) then slice_get base_replies (place + 1 - 1)
          else option_and_then finished_reply found)
          (sym (slice_get-take board.states places state (omega (arith, past, lt, length-take places board.log))))
    ]

pub marked_reply : (board : BoardOf Op) (place : ℕ) → place < length_of (up_to_cut board) → reply_in board (place + 1) ≡ reply_in (up_to_cut board) (place + 1)
marked_reply board place lt = reply_up_to board board.cut place lt
