use Rattle.std.proofs.Common.{◌+◌, ◌*◌, drop, map, ap, ◌∙◌, arith}
use Rattle.std.specs.Simd.{first_chunks}
use Rattle.sb_checkpoint.specs.inner.Layouts.{layout_of}
use Rattle.sb_checkpoint.specs.Reading.{stated_reply}
use Rattle.sb_checkpoint.proofs.Chunks.{chunks_behind, reply_chunks}
use Rattle.sb_checkpoint.proofs.fields.reply_cells.Goals as goal

pub returns : goal.returns
returns c =
    let bytes = c.args.bytes.now in
    let layout = layout_of c.args.layout in
    let size = c.empty_size.ensures in
    let room = c.requires.room in
    let chunks = c.as_chunks.ensures.front ∙ chunks_behind 9 (c.empty_size.result + 16 * c.args.customers) c.args.count bytes (omega arith) (omega arith) in
    ap (map stated_reply) (chunks ∙ ap (λ from. first_chunks 9 c.args.count (drop (from + 16 * c.args.customers) bytes)) size)
    ∙ reply_chunks layout bytes c.args.customers c.args.count c.requires.customers c.requires.count
