use Rattle.std.proofs.Common.{◌+◌, ℕ, ℤ, List, length, sym, ap, ◌∙◌, arith, length-append}
use Rattle.sb_rows.specs.Balances.{Balances}
use Rattle.sb_rows.specs.Customer.{customers_of}
use Rattle.sb_rows.specs.inner.CustomerLine.{customer}
use Rattle.sb_rows.proofs.Customers.{names_of-customers_of, length-customers_of, customers_of-push}
use Rattle.sb_rows.proofs.reading.add_customer.Goals as goal

pub returns-in-Err-clause-adds : goal.returns-in-Err-clause-adds
returns-in-Err-clause-adds c =
    let before = customers_of c.args.directory.now c.args.columns.now in (
      ap (λ n. n + 1) (c.len-number.ensures.value ∙ sym (length-customers_of c.args.directory.now c.args.columns.now c.requires)),
      c.in-Err.ensures.exact before (names_of-customers_of c.args.directory.now c.args.columns.now c.requires),
    )

pub returns-clause-same : goal.returns-clause-same
returns-clause-same c =
    let names = ap length c.in_ok-push.ensures.ok in
    let balances = ap (λ (b : Balances). length b.savings) c.in_ok-push-2.ensures.ok in
    record {
      names = c.in_ok-push.ensures.valid;
      balances = c.in_ok-push-2.ensures.valid;
      same_length = omega (arith, names, balances, c.requires.same_length, length-append {A = List ℕ}, length-append {A = ℤ});
    }

pub returns-clause-adds : goal.returns-clause-adds
returns-clause-adds c = (
  customer c.in-Ok.customer,
  c.in-Ok.ensures.exact (customers_of c.args.directory.now c.args.columns.now) (names_of-customers_of c.args.directory.now c.args.columns.now c.requires),
  rw (c.in_ok-push.ensures.ok, c.in_ok-push-2.ensures.ok)
      (customers_of-push c.args.directory.now c.args.columns.now c.in-Ok.customer.name c.in-Ok.customer.savings c.in-Ok.customer.checking c.requires),
)
