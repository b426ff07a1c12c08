use Rattle.std.proofs.Common.{◌≡◌, ◌+◌, ◌<◌, [], ◌∷◌, ◌++◌, suc, length, take, sym, ap, subst, ◌∙◌, arith}
use Rattle.std.proofs.Math.Seq.{take-length}
use Rattle.std.proofs.lemmas.List.{length-take}
use Rattle.std.proofs.lemmas.List.Elements.{All-push}
use Rattle.std.specs.List.{All}
use Rattle.std.specs.Prelude.{IfSome}
use Rattle.std.proofs.lemmas.Result.{err_from_is_err_and}
use Rattle.cown_board.specs.Board.{length_of}
use Rattle.sb_calls.specs.Replies.{IsReply}
use Rattle.sb_replica.specs.Replica.{board_replies}
use Rattle.cown_board.proofs.LogLaws.{take_one_more}
use Rattle.sb_replica.proofs.IdleReplies.{reply_at, length_held, is_there}
use Rattle.sb_replica.proofs.replica.Replica.replies.Goals as goal

pub loop-place-init : goal.loop-place-init
loop-place-init g c =
    let none = c.in_ok-replies.ensures.items in
    record {
      items = none;
      valid = λ k d lt. absurd (omega (arith, lt, ap length none));
      count = omega (arith, c.in_ok-replies.ensures.len);
      room = omega (arith, c.in_ok-replies.ensures.capacity);
    }

pub overflow_add-place : goal.overflow_add-place
overflow_add-place g c = record { fits = omega (arith, c.loop-place-test.true, c.length-length.ensures.limit) }

pub loop-place-preserved : goal.loop-place-preserved
loop-place-preserved g c =
    let board = c.args.self.now.board in
    let place = c.loop-place.place in
    let next : place + 1 ≡ suc place = omega arith in
    record {
      items = c.push_reserved.ensures.items ∙ ap (λ xs. xs ++ c.unwrap.result ∷ []) c.loop-place.invariant.items
          ∙ sym (ap (λ n. take n (board_replies board)) next
          ∙ take_one_more (board_replies board) place c.unwrap.result
          (sym (reply_at board place c.requires) ∙ sym c.reply.ensures.value ∙ c.unwrap.ensures));
      valid = subst (All IsReply) (sym c.push_reserved.ensures.items)
          (All-push IsReply c.loop-place.replies.items c.unwrap.result c.loop-place.invariant.valid
          (subst (λ o. IfSome o IsReply) c.unwrap.ensures (c.reply.ensures.valid c.reply.ensures.holds)));
      count = omega (arith, c.loop-place.invariant.count, c.push_reserved.ensures.len);
      room = omega (arith, c.loop-place.invariant.room, c.push_reserved.ensures.capacity);
    }

pub returns-clause-value : goal.returns-clause-value
returns-clause-value g c =
    let board = c.args.self.now.board in
    let beside = c.length-length.ensures.same_length in
    let all : c.loop-place.place ≡ length (board_replies board) =
    omega (
      arith,
      c.loop-place-test.false,
      c.loop-place.auto.place-end,
      c.length-length.ensures.value,
      length_held board c.requires beside,
    ) in
    c.loop-place.invariant.items ∙ ap (λ n. take n (board_replies board)) all ∙ take-length (board_replies board)

pub returns-clause-limit : goal.returns-clause-limit
returns-clause-limit g c =
    omega (
      arith,
      ap length c.loop-place.invariant.items,
      length-take c.loop-place.place (board_replies c.args.self.now.board),
      c.loop-place.auto.place-end,
      c.length-length.ensures.limit,
    )

pub returns-in_err-replies : goal.returns-in_err-replies
returns-in_err-replies g c =
    let p = err_from_is_err_and c.from_residual.result c.from_residual.ensures.1 in
    rw p.1 (record { value = tt; valid = tt; limit = tt })

pub unwrap-requires : goal.unwrap-requires
unwrap-requires g c =
    is_there c.args.self.now.board c.loop-place.place c.reply.result c.requires
    c.length-length.ensures.same_length
    (subst (λ n. c.loop-place.place < n) c.length-length.ensures.value c.loop-place-test.true) c.reply.ensures.value

pub returns-clause-valid : goal.returns-clause-valid
returns-clause-valid g c = c.loop-place.invariant.valid
