use Rattle.std.proofs.Common.{◌≡◌, ◌++◌, ℕ, List, sym, ap, subst, ◌∙◌}
use Rattle.std.specs.Io.KnownBytes.{Appends}
use Rattle.sb_rows.specs.Rows.{Rows, SameCustomers, rows_of}
use Rattle.sb_rows.specs.Text.{unlines}
use Rattle.sb_replica.specs.Replica.{ReplicaOf}
use Rattle.sb_text.specs.Listing.{row_lines}
use Rattle.bank_service.proofs.EndRows.{rows_are}
use Rattle.bank_service.proofs.printing.print_rows.Goals as goal

pub list_rows-requires : goal.list_rows-requires
list_rows-requires g c =
    let primary = c.args.primary.now in
    let names : c.directory.result.now ≡ primary.node.names = c.directory.ensures ∙ ap (λ (n : ReplicaOf _). n.names) c.node-node.ensures.value in
    let rows = rows_are primary c.node-node.result.now c.node-node.ensures.value c.node-node.ensures.valid c.requires.whole_log c.final_columns.result
    c.unwrap-columns.result c.unwrap-columns.ensures c.final_columns.ensures.value c.final_columns.ensures.bank in
    subst (λ (d : List (List ℕ)). SameCustomers d c.unwrap-columns.result.now) (sym names) rows.0

pub returns-clause-printed : goal.returns-clause-printed
returns-clause-printed g c =
    let primary = c.args.primary.now in
    let columns = c.unwrap-columns.result.now in
    let names : c.directory.result.now ≡ primary.node.names = c.directory.ensures ∙ ap (λ (n : ReplicaOf _). n.names) c.node-node.ensures.value in
    let rows = rows_are primary c.node-node.result.now c.node-node.ensures.value c.node-node.ensures.valid c.requires.whole_log c.final_columns.result
    c.unwrap-columns.result c.unwrap-columns.ensures c.final_columns.ensures.value c.final_columns.ensures.bank in
    subst (λ (bytes : List ℕ). Appends (g.W.Write.contents c.args.writer.now) (g.W.Write.contents c.write_whole.new.writer) bytes)
    (c.deref.ensures.value ∙ c.in_ok-list_rows.ensures
    ∙ ap (λ (l : List ℕ). l ++ unlines (row_lines c.directory.result.now (rows_of c.directory.result.now columns))) c.new-rows.ensures.items
    ∙ ap (λ (d : List (List ℕ)). unlines (row_lines d (rows_of d columns))) names
    ∙ ap (λ (r : Rows). unlines (row_lines primary.node.names r)) rows.1)
    c.in_ok-write_whole.ensures
