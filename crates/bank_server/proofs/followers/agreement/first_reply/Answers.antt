use Rattle.std.proofs.Common.{◌≡◌, ◌+◌, Bool, true, false, sym, ◌∙◌, arith, refl}
use Rattle.cown_board.proofs.LogLaws.{no_some as none_some}
use Rattle.bank_server.proofs.boards.Agreements.{same_before, same_replies}
use Rattle.bank_server.proofs.followers.agreement.first_reply.Goals as goal

other_word : (answer : Bool) → answer ≡ false → answer ≡ true → ⊥
other_word answer is isnt = cc

pub returns-then-not-is_same_reply-clause-none : goal.returns-then-not-is_same_reply-clause-none
returns-then-not-is_same_reply-clause-none g c = (
  λ none. absurd (none_some (sym none)),
  λ same. absurd (other_word c.is_same_reply.result c.if-not-is_same_reply.true
      (c.is_same_reply.ensures.1 (c.reply.ensures.value ∙ same.replies (c.loop-index.index + 1) (omega (arith, same.lengths))
      ∙ sym c.reply-in-loop-index.ensures.value))),
)

pub returns-then-not-is_same_reply-clause-first : goal.returns-then-not-is_same_reply-clause-first
returns-then-not-is_same_reply-clause-first g c =
    let one = c.args.first.now.board in
    let other = c.args.second.now.board in (
      λ same. other_word c.is_same_reply.result c.if-not-is_same_reply.true
          (c.is_same_reply.ensures.1 (c.reply.ensures.value ∙ same ∙ sym c.reply-in-loop-index.ensures.value)),
      λ k above. same_before one other c.min-index.result c.loop-index.index c.loop-index.invariant.same k (omega (arith, above)),
    )

pub returns-clause-none : goal.returns-clause-none
returns-clause-none g c =
    let one = c.args.first.now.board in
    let other = c.args.second.now.board in (
      λ none. same_replies c.args.from c.min-index.result one other c.requires.idle.0 c.requires.idle.1 c.idle.ensures.same_length
          c.idle-2.ensures.same_length c.loop-index.index (omega arith) (omega arith) (omega arith) (omega arith) (omega arith)
          c.loop-index.invariant.same,
      λ same. refl,
    )
