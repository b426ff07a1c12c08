use Rattle.std.proofs.Common.{◌≡◌, ℕ, List, ◌+◌, ◌<◌, [], ◌∷◌, ◌++◌, suc, length, take, sym, ap, subst, ◌∙◌, arith, append_assoc, append-nil}
use Rattle.std.proofs.Math.Seq.{take-length}
use Rattle.std.proofs.lemmas.Grind.{flat_map-append}
use Rattle.std.proofs.lemmas.List.Elements.{All-push}
use Rattle.std.specs.List.{All, flat_map}
use Rattle.std.specs.Prelude.{FitsSigned, IfSome}
use Rattle.std.specs.Int.{w64}
use Rattle.std.proofs.lemmas.Int.{to_z-of_z}
use Rattle.sb_calls.specs.Replies.{IsReply, reply_field}
use Rattle.sb_calls.specs.declared.reply.Reply.{Reply}
use Rattle.sb_checkpoint.specs.Checkpoint.{Second, SpellsInLayout}
use Rattle.cown_board.specs.Board.{length_of}
use Rattle.sb_replica.specs.Marking.{up_to_cut}
use Rattle.sb_replica.specs.Replica.{origin_of, board_replies}
use Rattle.cown_board.proofs.LogLaws.{take_one_more}
use Rattle.sb_replica.proofs.IdleReplies.{reply_at, length_held, is_there}
use Rattle.sb_replica.proofs.MarkedReplies.{marked_beside, marked_reply}
use Rattle.sb_replica.proofs.replica.Replica.checkpoint_bytes.Goals as goal

-- one more reply is written, as the last
one_more : (before : List ℕ) (replies : List Reply) (reply : Reply)
    → before ++ flat_map reply_field (replies ++ reply ∷ []) ≡ before ++ flat_map reply_field replies ++ reply_field reply
one_more before replies reply =
    ap (λ bytes. before ++ bytes) (flat_map-append reply_field replies (reply ∷ [])
    ∙ ap (λ bytes. flat_map reply_field replies ++ bytes) (append-nil (reply_field reply)))
    ∙ sym (append_assoc before (flat_map reply_field replies) (reply_field reply))

pub unwrap-requires : goal.unwrap-requires
unwrap-requires g c =
    let board = c.args.self.now.board in
    let place = c.loop-place.place in
    let lt : place < length_of (up_to_cut board) = subst (λ n. place < n) c.marked_length-length.ensures.value c.loop-place-test.true in
    is_there (up_to_cut board) place c.reply.result c.requires (marked_beside board c.marked_length-length.ensures.same_length) lt
    (c.reply.ensures.value ∙ marked_reply board place lt)

pub loop-place-preserved : goal.loop-place-preserved
loop-place-preserved g c =
    let board = c.args.self.now.board in
    let held = board_replies (up_to_cut board) in
    let place = c.loop-place.place in
    let reply = c.unwrap.result in
    let next : place + 1 ≡ suc place = omega arith in
    let lt : place < length_of (up_to_cut board) = subst (λ n. place < n) c.marked_length-length.ensures.value c.loop-place-test.true in
    let more : take (place + 1) held ≡ take place held ++ reply ∷ [] =
    ap (λ n. take n held) next ∙ take_one_more held place reply
    (sym (reply_at (up_to_cut board) place c.requires) ∙ sym (marked_reply board place lt) ∙ sym c.reply.ensures.value ∙ c.unwrap.ensures) in
    record {
      bytes = ap (λ d. d.bytes) c.push.ensures ∙ ap (λ bytes. bytes ++ reply_field reply) c.loop-place.invariant.bytes
          ∙ sym (ap (λ xs. c.in_ok-draft.draft.bytes ++ flat_map reply_field xs) more
          ∙ one_more c.in_ok-draft.draft.bytes (take place held) reply);
      missing = omega (arith, ap (λ d. d.missing) c.push.ensures, c.loop-place.invariant.missing, c.loop-place-test.true);
      valid = subst (All IsReply) (sym more)
          (All-push IsReply (take place held) reply c.loop-place.invariant.valid
          (subst (λ o. IfSome o IsReply) c.unwrap.ensures (c.reply.ensures.valid c.reply.ensures.holds)));
    }

pub returns : goal.returns
returns g c =
    let board = up_to_cut c.args.self.now.board in
    let held = board_replies board in
    let beside = marked_beside c.args.self.now.board c.marked_length-length.ensures.same_length in
    let size : length held ≡ c.marked_length-length.result = length_held board c.requires beside ∙ sym c.marked_length-length.ensures.value in
    let all : c.loop-place.place ≡ length held = omega (arith, c.loop-place-test.false, c.loop-place.auto.place-end, size) in
    let whole : take c.loop-place.place held ≡ held = ap (λ n. take n held) all ∙ take-length held in
    let fits : FitsSigned w64 c.opening_total.result = record { sfits = c.opening_total.type_inv } in
    let opening = to_z-of_z w64 _ fits ∙ c.opening_total.ensures in
    subst (SpellsInLayout Second (origin_of c.args.self.now).opening_total (record { columns = c.args.columns.now; replies = held }))
    (sym (c.finish.ensures ∙ c.loop-place.invariant.bytes ∙ ap (λ xs. c.in_ok-draft.draft.bytes ++ flat_map reply_field xs) whole))
    (subst (λ t. SpellsInLayout Second t (record { columns = c.args.columns.now; replies = held })
    (c.in_ok-draft.draft.bytes ++ flat_map reply_field held)) opening
    (c.in_ok-draft.ensures.begins held size (subst (All IsReply) whole c.loop-place.invariant.valid)))
