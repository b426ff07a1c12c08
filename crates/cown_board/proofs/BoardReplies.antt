-- Each reply of a bank's board has a spelling, if those from before it have one.
use Rattle.std.proofs.Common.{◌≡◌, inl, inr, ℕ, ◌<◌, ◌-◌, Bool, true, false, cond, leb, eqb, Option, Some, None, List, length, IfSome, sym, subst}
use Rattle.std.specs.List.{All, slice_get}
use Rattle.std.proofs.lemmas.Bool.{cases_Bool, leb-false}
use Rattle.std.proofs.lemmas.Option.{slice_get_cases}
use Rattle.sb_calls.specs.Behaviour.{declared_cowns, effect_of}
use Rattle.sb_calls.specs.Cowns.{IsContents, contents_of}
use Rattle.sb_calls.specs.SerialRun.{reply_by_log}
use Rattle.sb_calls.specs.Replies.{IsReply}
use Rattle.sb_calls.specs.declared.op.Op.{Op}
use Rattle.sb_calls.specs.declared.reply.Reply.{Reply}
use Rattle.sb_calls.proofs.ReplyTotals.{replies_fit}
use Rattle.cown_board.specs.Board.{BoardOf, reply_in}

-- what holds of every item of a list holds of the one at a place
pub at_place : {X : Type 0} (P : X → Type 0) (xs : List X) (i : ℕ) → All P xs → IfSome (slice_get xs i) P
at_place P xs i all = elim (slice_get_cases xs i).1 [
  | inl here ↦ subst (λ o. IfSome o P) (sym here.2) (subst P here.3 (all i here.0 here.1))
  | inr past ↦ subst (λ o. IfSome o P) (sym past.1) tt
]

weaker : {X : Type 0} (P Q : X → Type 0) (o : Option X) → ((x : X) → P x → Q x) → IfSome o P → IfSome o Q
weaker P Q None h some = tt
weaker P Q (Some x) h some = h x some

early : (test : Bool) (found : Option Reply) → IfSome found IsReply → IfSome (cond test None found) IsReply
early true found h = tt
early false found h = h

-- a board's reply that isn't from before it
abbrev pub IsByLog : BoardOf Op → ℕ → Reply → Type 0
IsByLog board number reply = length board.base_replies < number
    → reply_by_log declared_cowns effect_of (contents_of board.opening) board.log (number - length board.base_replies) ≡ Some reply

-- the replies from before the board, and those of its log run one by one
pub held_reply : (board : BoardOf Op) (number : ℕ) → All IsReply board.base_replies → IsContents (contents_of board.opening)
    → IfSome (reply_in board number) (IsByLog board number)
    → IfSome (reply_in board number) IsReply
unfolding reply_in
held_reply board number base_replies held by_log = elim (cases_Bool (leb number (length board.base_replies))) [
  | inl before ↦ rw before (early (eqb number 0) (slice_get board.base_replies (number - 1)) (at_place IsReply board.base_replies (number - 1) base_replies))
  | inr after ↦ weaker (IsByLog board number) IsReply _
      (λ reply h. replies_fit (contents_of board.opening) board.log (number - length board.base_replies) reply held
      (h (leb-false number (length board.base_replies) after))) by_log
]
