use Rattle.sb_frames.proofs.Streams.{frames_of_bytes}
use Rattle.sb_frames.proofs.laws.frames_of_bytes.Goals as goal

pub returns : goal.returns
returns c = frames_of_bytes
