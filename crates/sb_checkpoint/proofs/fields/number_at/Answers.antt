use Rattle.std.proofs.Common.{◌∙◌, w64, ap}
use Rattle.std.specs.Int.{from_be_bytes}
use Rattle.sb_checkpoint.proofs.Chunks.{first_of_rest, rest_has_chunk}
use Rattle.sb_checkpoint.proofs.fields.number_at.Goals as goal

pub unwrap-requires : goal.unwrap-requires
unwrap-requires c = c.first_chunk.ensures.variant.1 (rest_has_chunk 8 c.args.at c.args.bytes.now c.requires)

pub returns : goal.returns
returns c =
    let cells = first_of_rest 8 c.args.at c.args.bytes.now c.first_chunk.result c.unwrap.result c.requires c.first_chunk.ensures.cases c.unwrap.ensures in
    c.from_be_bytes.ensures ∙ ap (from_be_bytes w64) cells
