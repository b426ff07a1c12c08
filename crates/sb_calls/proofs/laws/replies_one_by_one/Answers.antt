use Rattle.sb_calls.proofs.LogReplies.{slice_get-replies_to}
use Rattle.sb_calls.proofs.laws.replies_one_by_one.Goals as goal

pub returns : goal.returns
returns c = slice_get-replies_to
