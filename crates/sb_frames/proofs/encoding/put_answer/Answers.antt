use Rattle.std.proofs.Common.{◌∷◌, [], ◌++◌, ◌∙◌, ap, ap₂, w64}
use Rattle.std.proofs.lemmas.List.{append_assoc}
use Rattle.sb_calls.specs.Replies.{integer_field, reply_field}
use Rattle.sb_frames.proofs.encoding.put_answer.Goals as goal

pub returns-clause-spelled : goal.returns-clause-spelled
unfolding integer_field
returns-clause-spelled c =
    let number = integer_field w64 c.args.number in
    c.put_reply.ensures.spelled
    ∙ ap (λ items. items ++ reply_field c.args.reply) (c.put_bytes-2.ensures ∙ ap₂ (λ tagged field. tagged ++ field) c.put_bytes.ensures c.to_be_bytes.ensures)
    ∙ append_assoc (c.args.bytes.now.items ++ 4 ∷ []) number (reply_field c.args.reply)
    ∙ append_assoc c.args.bytes.now.items (4 ∷ []) (number ++ reply_field c.args.reply)
