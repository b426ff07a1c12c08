use Rattle.std.proofs.Common.{rules, ◌∙◌, w64, ap, FitsSigned}
use Rattle.std.proofs.lemmas.Int.{to_z-of_z}
use Rattle.sb_checkpoint.specs.Reading.{stated_amount}
use Rattle.sb_checkpoint.proofs.Chunks.{first_of_rest, rest_has_chunk}
use Rattle.checkpoint_text.proofs.fields.amount_at.Goals as goal

pub unwrap-requires : goal.unwrap-requires
unwrap-requires c = c.first_chunk.ensures.variant.1 (rest_has_chunk 8 c.args.at c.args.bytes.now c.requires)

pub returns : goal.returns
returns c =
    let cells = first_of_rest 8 c.args.at c.args.bytes.now c.first_chunk.result c.unwrap.result c.requires c.first_chunk.ensures.cases c.unwrap.ensures in
    let fits : FitsSigned w64 c.from_be_bytes.result = search rules in
    to_z-of_z w64 c.from_be_bytes.result fits ∙ c.from_be_bytes.ensures ∙ ap stated_amount cells
