use Rattle.std.proofs.Common.{eqb, take, drop, w8, arith}
use Rattle.std.proofs.lemmas.Simd.{bitmask_splat, length-chunk}
use Rattle.sb_rows.proofs.spaces.spaces_of_block.Goals as goal

pub returns : goal.returns
returns c =
    bitmask_splat w8 eqb (take 16 (drop c.args.at c.args.line.now)) 16 32 (length-chunk c.args.at 16 c.args.line.now c.requires) (omega arith)
