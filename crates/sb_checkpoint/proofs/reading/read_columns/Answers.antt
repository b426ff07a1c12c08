use Rattle.std.proofs.Common.{◌≡◌, ◌+◌, ◌*◌, ◌+ℤ◌, ◌∙◌, w64, drop, length, sym, ap, subst}
use Rattle.std.specs.Int.{cast_signed}
use Rattle.std.specs.List.{list_any}
use Rattle.std.specs.Prelude.{FitsSigned}
use Rattle.std.proofs.lemmas.Int.{to_z-of_z}
use Rattle.std.proofs.lemmas.Result.{err_from_is_err_and}
use Rattle.lane_audit.specs.Columns.{total}
use Rattle.sb_rows.specs.Balances.{Balances, IsBalances}
use Rattle.sb_checkpoint.specs.Reading.{amounts_at, is_below_zero, is_past_limit, stated_checking, stated_savings}
use Rattle.sb_checkpoint.proofs.Balances.{are_balances}
use Rattle.sb_checkpoint.proofs.Chunks.{length-amounts}
use Rattle.sb_checkpoint.proofs.FaultOrder.{balances_without_fault}
use Rattle.sb_checkpoint.proofs.reading.read_columns.Goals as goal

pub from_parts-columns-requires : goal.from_parts-columns-requires
from_parts-columns-requires c =
    are_balances c.in_ok-savings.savings.items c.in_ok-checking.checking.items c.args.customers
    (ap length c.in_ok-savings.ensures ∙ length-amounts c.args.customers _)
    (ap length c.in_ok-checking.ensures ∙ length-amounts c.args.customers _)
    c.requires.limit
    (sym (c.if-is_past_limit.ensures ∙ ap (list_any is_past_limit) c.deref.ensures.value))
    (sym (c.if-is_past_limit-2.ensures ∙ ap (list_any is_past_limit) c.deref-else-is_past_limit.ensures.value))
    (sym (c.if-has_negative.ensures ∙ ap (list_any is_below_zero) c.deref-2.ensures.value))

pub returns-in_err-savings : goal.returns-in_err-savings
returns-in_err-savings c =
    let p = err_from_is_err_and c.from_residual.result c.from_residual.ensures.1 in
    rw (p.1, p.2) tt

pub returns-in_err-checking : goal.returns-in_err-checking
returns-in_err-checking c =
    let p = err_from_is_err_and c.from_residual-in_err-checking.result c.from_residual-in_err-checking.ensures.1 in
    rw (p.1, p.2) tt

pub returns : goal.returns
returns c =
    let bytes = c.args.bytes.now in
    let savings = c.in_ok-savings.savings.items in
    let checking = c.in_ok-checking.checking.items in
    let savings_are : savings ≡ stated_savings bytes = c.in_ok-savings.ensures ∙ ap (λ n. amounts_at n (drop 20 bytes)) c.requires.customers in
    let checking_are : checking ≡ stated_checking bytes = c.in_ok-checking.ensures ∙ ap (λ n. amounts_at n (drop (20 + 8 * n) bytes)) c.requires.customers in
    let columns : c.from_parts-columns.result ≡ record { savings = savings; checking = checking } = c.from_parts-columns.ensures in
    let stated_fits : FitsSigned w64 c.stated_total.result = record { sfits = c.stated_total.type_inv } in
    let total_fits : FitsSigned w64 c.bank_total.result = record { sfits = c.bank_total.type_inv } in
    let same : c.stated_total.result ≡ c.bank_total.result =
    sym (to_z-of_z w64 _ stated_fits) ∙ ap (cast_signed w64) c.if-stated_total-bank_total.false ∙ to_z-of_z w64 _ total_fits in
    record {
      savings = ap (λ (b : Balances). b.savings) columns ∙ savings_are;
      checking = ap (λ (b : Balances). b.checking) columns ∙ checking_are;
      valid = subst IsBalances c.columns.view_is c.columns.invariant;
      fault = balances_without_fault bytes savings checking savings_are checking_are
          (sym (c.if-is_past_limit.ensures ∙ ap (list_any is_past_limit) c.deref.ensures.value))
          (sym (c.if-is_past_limit-2.ensures ∙ ap (list_any is_past_limit) c.deref-else-is_past_limit.ensures.value))
          (sym (c.if-has_negative.ensures ∙ ap (list_any is_below_zero) c.deref-2.ensures.value))
          (sym c.stated_total.ensures ∙ same ∙ c.bank_total.ensures.value ∙ ap (λ (b : Balances). total b.savings +ℤ total b.checking) columns);
    }
