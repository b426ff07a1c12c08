use Rattle.std.proofs.Common.{sym, ◌∙◌, arith}
use Rattle.sb_rows.specs.Name.{is_name_byte}
use Rattle.sb_rows.proofs.NameBlocks.{block_fails, block_passes, last_block}
use Rattle.sb_rows.proofs.name_bytes.are_name_bytes.Goals as goal

pub returns-then-not-is_name_block : goal.returns-then-not-is_name_block
returns-then-not-is_name_block c =
    sym (block_fails is_name_byte c.args.text.now c.loop-at.at (sym c.is_name_block.ensures ∙ c.if-not-is_name_block.true))

pub loop-at-preserved : goal.loop-at-preserved
loop-at-preserved c = (
  omega arith,
  block_passes is_name_byte c.args.text.now c.loop-at.at c.loop-at.invariant.1 (sym c.is_name_block.ensures ∙ c.if-not-is_name_block.false),
)

pub returns : goal.returns
returns c =
    c.is_name_block-2.ensures
    ∙ last_block is_name_byte c.args.text.now c.loop-at.at (omega arith) (omega (arith, c.loop-at.invariant.0)) c.loop-at.invariant.1
