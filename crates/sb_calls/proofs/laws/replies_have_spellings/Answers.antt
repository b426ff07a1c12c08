use Rattle.sb_calls.proofs.ReplyTotals.{replies_fit}
use Rattle.sb_calls.proofs.laws.replies_have_spellings.Goals as goal

pub returns : goal.returns
returns c = replies_fit
