use Rattle.std.proofs.Common.{sym, ◌∙◌}
use Rattle.sb_frames.proofs.Frames.{one_frame}
use Rattle.sb_frames.proofs.laws.one_spelling.Goals as goal

pub returns-clause-frame : goal.returns-clause-frame
returns-clause-frame c f a b one other = one.spelled ∙ sym other.spelled

pub returns-clause-front : goal.returns-clause-front
returns-clause-front c = one_frame
