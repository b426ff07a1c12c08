use Rattle.sb_frames.proofs.Frames.{begins_so}
use Rattle.sb_frames.proofs.laws.spelled_is_decoded.Goals as goal

pub returns : goal.returns
returns c = begins_so
