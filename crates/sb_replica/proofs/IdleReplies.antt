-- The replies of an idle board, by number.
use Rattle.std.proofs.Common.{◌≡◌, ℕ, zero, suc, ◌+◌, ◌-◌, ◌<◌, false, Option, None, List, [], ◌∷◌, length, refl, sym, ap, subst, ◌∙◌, arith, inl, inr}
use Rattle.std.specs.Prelude.{if◌then◌else◌, nat_le, ◌==◌, option_and_then, IsSome}
use Rattle.std.specs.List.{slice_get, filter_map}
use Rattle.std.proofs.lemmas.Bool.{true≢false, cases_lt, lt-leb, le-leb, ne_eqb}
use Rattle.std.proofs.lemmas.List.{length-append}
use Rattle.std.proofs.lemmas.Option.{slice_get_cases}
use Rattle.sb_calls.specs.declared.op.Op.{Op}
use Rattle.sb_calls.specs.declared.reply.Reply.{Reply}
use Rattle.cown_board.specs.Board.{BoardOf, length_of, unfinished_of, reply_in}
use Rattle.cown_board.specs.State.{is_unfinished, state_is, finished_reply}
use Rattle.cown_board.specs.declared.state.State.{State}
use Rattle.cown_board.specs.declared.state.State.TheVariants.{Waiting, Out, Finished}
use Rattle.cown_board.proofs.UnfinishedCounts.{all_finished}
use Rattle.cown_board.proofs.PositionLaws.{slice_get-left, slice_get-right}
use Rattle.sb_replica.specs.Replica.{board_replies}

-- no state is open
abbrev AreClosed : List State → Type 0
AreClosed states = (k : ℕ) → state_is is_unfinished (slice_get states k) ≡ false

length_finished : (states : List State) → AreClosed states → length (filter_map finished_reply states) ≡ length states
length_finished [] closed = refl
length_finished (Waiting ∷ states) closed = absurd (true≢false (closed 0))
length_finished (Out ∷ states) closed = absurd (true≢false (closed 0))
length_finished (Finished reply ∷ states) closed = ap suc (length_finished states (λ k. closed (suc k)))

finished_at : (states : List State) (k : ℕ) → AreClosed states
    → option_and_then finished_reply (slice_get states k) ≡ slice_get (filter_map finished_reply states) k
finished_at [] k closed = refl
finished_at (Waiting ∷ states) k closed = absurd (true≢false (closed 0))
finished_at (Out ∷ states) k closed = absurd (true≢false (closed 0))
finished_at (Finished reply ∷ states) zero closed = refl
finished_at (Finished reply ∷ states) (suc k) closed = finished_at states k (λ j. closed (suc j))

-- each number has its reply, in order
pub reply_at : (board : BoardOf Op) (place : ℕ) → unfinished_of board ≡ 0 → reply_in board (place + 1) ≡ slice_get (board_replies board) place
unfolding reply_in
reply_at board place idle =
    let base_replies = board.base_replies in
    let fs = filter_map finished_reply board.states in
    let closed : AreClosed board.states = λ k. all_finished board.states k idle in
    let differs : ((place + 1) == 0) ≡ false = ne_eqb (place + 1) 0 (λ same. omega (arith, same)) in
    ap (λ b. if b then None else (if nat_le (place + 1) (length base_replies) then slice_get base_replies (place + 1 - 1)
    else option_and_then finished_reply (slice_get board.states (place + 1 - 1 - length base_replies)))) differs
    ∙ elim (cases_lt place (length base_replies)) [
      | inl lt ↦
          ap (λ b. if b then slice_get base_replies (place + 1 - 1)
          else option_and_then finished_reply (slice_get board.states (place + 1 - 1 - length base_replies)))
          (le-leb (place + 1) (length base_replies) (omega (arith, lt)))
          ∙ ap (slice_get base_replies) (omega arith) ∙ sym (slice_get-left base_replies fs place lt)
      | inr past ↦
          ap (λ b. if b then slice_get base_replies (place + 1 - 1)
          else option_and_then finished_reply (slice_get board.states (place + 1 - 1 - length base_replies)))
          (lt-leb (place + 1) (length base_replies) (omega (arith, past)))
          ∙ ap (λ k. option_and_then finished_reply (slice_get board.states k)) (omega arith)
          ∙ finished_at board.states (place - length base_replies) closed
          ∙ sym (slice_get-right base_replies fs place (place - length base_replies) (omega (arith, past)))
    ]

-- there are as many replies as numbers
pub length_held : (board : BoardOf Op) → unfinished_of board ≡ 0 → length board.log ≡ length board.states → length (board_replies board) ≡ length_of board
length_held board idle beside =
    length-append board.base_replies (filter_map finished_reply board.states)
    ∙ ap (λ n. length board.base_replies + n) (length_finished board.states (λ k. all_finished board.states k idle) ∙ sym beside)

-- none is missing
pub is_there : (board : BoardOf Op) (place : ℕ) (reply : Option Reply) → unfinished_of board ≡ 0 → length board.log ≡ length board.states
    → place < length_of board → reply ≡ reply_in board (place + 1) → IsSome reply
is_there board place reply idle beside lt is = elim (slice_get_cases (board_replies board) place).1 [
  | inl here ↦ subst IsSome (sym (is ∙ reply_at board place idle ∙ here.2)) refl
  | inr past ↦ absurd (omega (arith, past.0, lt, length_held board idle beside))
]
