-- Two bytes, the highest first, are the same number for std and for byteorder.
use Rattle.std.proofs.Common.{arith, lit<}
use Rattle.std.proofs.lemmas.List.{get_or-take}
use Rattle.sb_frames.specs.Decoding.{stated_length}
use Rattle.sb_frames.proofs.decoding.stated_length.Goals as goal

pub returns : goal.returns
unfolding stated_length
returns c = rw (get_or-take 2 c.args.bytes.now 0 0 (lit< tt), get_or-take 2 c.args.bytes.now 1 0 (lit< tt)) (omega arith)
