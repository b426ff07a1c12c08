use Rattle.std.proofs.Common.{◌≡◌, ℕ, List, map, subst, ◌∙◌, arith}
use Rattle.std.specs.Prelude.{IfOk}
use Rattle.sb_checkpoint.specs.Reading.{stated_amount}
use Rattle.sb_checkpoint.proofs.Chunks.{chunks_behind}
use Rattle.sb_checkpoint.proofs.fields.read_amounts.Goals as goal

pub returns : goal.returns
returns c =
    let chunks = c.as_chunks.ensures.front ∙ chunks_behind 8 c.args.from c.args.customers c.args.bytes.now (omega arith) c.requires.room in
    subst (λ (cells : List (List ℕ)). IfOk c.amounts_of.result (λ amounts. amounts.items ≡ map stated_amount cells)) chunks c.amounts_of.ensures
