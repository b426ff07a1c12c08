use Rattle.std.proofs.Common.{rules, ◌≡◌, ℕ, ℤ, List, [], ◌∷◌, ◌++◌, ap, map, subst, ◌∙◌, codes, FitsSigned, w64, to_z, of_z}
use Rattle.std.proofs.lemmas.Int.{to_z-of_z}
use Rattle.std.specs.Prelude.{OnOk}
use Rattle.sb_amount.specs.Money.{money}
use Rattle.sb_rows.specs.Customer.{customers_of}
use Rattle.sb_rows.specs.Opening.{customer_line}
use Rattle.sb_rows.specs.Text.{unlines}
use Rattle.sb_text.proofs.RowsByPlace.{row_lines_by_place, total_by_columns}
use Rattle.sb_text.proofs.listing.list_rows.Goals as goal

pub returns : goal.returns
returns c =
    let names = c.args.directory.now in
    let b = c.args.columns.now in
    let fits : FitsSigned w64 c.bank_total.result = search rules in
    subst (λ (text : List ℕ). OnOk c.push_total.result (c.push_total.new.out.items ≡ text))
    (ap (λ (out : List ℕ). out ++ (codes "total " ++ money (to_z w64 (of_z w64 c.bank_total.result))) ++ 10 ∷ []) c.in_ok-list_customers.ensures
    ∙ (ap (λ (total : ℤ). (c.args.out.now.items ++ unlines (map customer_line (customers_of names b))) ++ (codes "total " ++ money total) ++ 10 ∷ [])
    (to_z-of_z w64 c.bank_total.result fits ∙ (c.bank_total.ensures.value ∙ total_by_columns names b c.requires))
    ∙ row_lines_by_place c.args.out.now.items names b c.requires))
    c.push_total.ensures
