use Rattle.std.proofs.Common.{ap, ◌∙◌}
use Rattle.sb_calls.specs.Replies.{reply_with_code, reply_code}
use Rattle.sb_calls.proofs.ReplyCodeLaws.{reply_has_code, reply_read_back}
use Rattle.sb_calls.proofs.laws.replies_have_one_code.Goals as goal

pub returns : goal.returns
returns c code total reply = (
  (λ e. let reply_with_code = reply_has_code code total reply e in (reply_with_code.valid, reply_with_code.code_is, reply_with_code.total_is)),
  (λ h. ap (λ n. reply_with_code n total) h.1 ∙ ap (λ t. reply_with_code (reply_code reply) t) h.2 ∙ reply_read_back reply h.0),
)
