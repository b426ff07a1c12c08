use Rattle.std.proofs.Common.{◌≡◌, ◌+◌, ◌∷◌, [], suc, true, false, Err, length, codes, bytes_eq, ap, sym, ◌∙◌, arith, add-one, length-append}
use Rattle.std.proofs.lemmas.Result.{err_from_is_err_and}
use Rattle.sb_rows.specs.Customer.{customers_of}
use Rattle.sb_rows.specs.Opening.{customers_from}
use Rattle.sb_rows.specs.Text.{lines, after_lines, after_line}
use Rattle.sb_rows.specs.declared.fault.LineFault.TheVariants.{NoBegin}
use Rattle.sb_rows.proofs.Customers.{length-customers_of}
use Rattle.sb_rows.proofs.OpeningSteps.{customers_from-begin, customers_from-more, customers_from-nil, after_lines-next, opening_of-ok, opening_of-fault, Reads-fault}
use Rattle.sb_rows.proofs.reading.read_customers.Goals as goal

pub returns-then-eq-clause-exact : goal.returns-then-eq-clause-exact
returns-then-eq-clause-exact c =
    let names = c.loop-line.directory in
    let before = customers_of names c.loop-line.columns in
    let begins : bytes_eq c.in-Some.line.now (codes "begin") ≡ true =
    ap (bytes_eq c.in-Some.line.now) (sym c.as_slice.ensures) ∙ sym c.eq.ensures ∙ c.if-eq.true in
    let left : after_lines (suc (length names)) c.args.text.now ≡ c.in-Some.after.now =
    after_lines-next (length names) c.args.text.now ∙ ap after_line c.loop-line.invariant.left ∙ sym c.in-Some.ensures.after in
    opening_of-ok c.args.text.now names c.loop-line.columns _ c.loop-line.invariant.same
    (sym c.loop-line.invariant.read ∙ ap (customers_from before) c.in-Some.ensures.line
    ∙ customers_from-begin before c.in-Some.line.now (lines c.in-Some.after.now) begins)
    (rw (add-one, left))

pub loop-line-preserved : goal.loop-line-preserved
loop-line-preserved c =
    let before = customers_of c.loop-line.directory c.loop-line.columns in
    let begins : bytes_eq c.in-Some.line.now (codes "begin") ≡ false =
    ap (bytes_eq c.in-Some.line.now) (sym c.as_slice.ensures) ∙ sym c.eq.ensures ∙ c.if-eq.false in
    let adds = c.in_ok-add_customer.ensures.adds in
    let count_before = length-customers_of c.loop-line.directory c.loop-line.columns c.loop-line.invariant.same in
    let count_after = length-customers_of c.add_customer.new.directory c.add_customer.new.columns c.in_ok-add_customer.ensures.same in
    let count : length c.add_customer.new.directory ≡ suc (length c.loop-line.directory) =
    omega (arith, ap length adds.2, length-append before (adds.0 ∷ []), count_before, count_after) in
    record {
      same = c.in_ok-add_customer.ensures.same;
      read =
          ap (λ cs. customers_from cs (lines c.in-Some.after.now)) adds.2
          ∙ sym (customers_from-more before c.in-Some.line.now (lines c.in-Some.after.now) adds.0 begins adds.1)
          ∙ sym (ap (customers_from before) c.in-Some.ensures.line) ∙ c.loop-line.invariant.read;
      left =
          ap (λ n. after_lines n c.args.text.now) count ∙ after_lines-next (length c.loop-line.directory) c.args.text.now
          ∙ ap after_line c.loop-line.invariant.left ∙ sym c.in-Some.ensures.after;
      shorter = omega (arith, c.in-Some.ensures.shorter, c.loop-line.invariant.shorter);
    }

pub returns-in_err-add_customer-clause-exact : goal.returns-in_err-add_customer-clause-exact
returns-in_err-add_customer-clause-exact c =
    let before = customers_of c.loop-line.directory c.loop-line.columns in
    let begins : bytes_eq c.in-Some.line.now (codes "begin") ≡ false =
    ap (bytes_eq c.in-Some.line.now) (sym c.as_slice.ensures) ∙ sym c.eq.ensures ∙ c.if-eq.false in
    let exit = err_from_is_err_and c.from_residual.result c.from_residual.ensures.1 in
    rw (exit.1, exit.2)
    (Reads-fault c.args.text.now before (customers_of c.add_customer.new.directory c.add_customer.new.columns) c.in-Some.line.now
    (lines c.in-Some.after.now) _ begins
    (sym c.loop-line.invariant.read ∙ ap (customers_from before) c.in-Some.ensures.line) c.in_err-add_customer.ensures.adds)

pub returns-clause-exact : goal.returns-clause-exact
returns-clause-exact c =
    let before = customers_of c.loop-line.directory c.loop-line.columns in
    opening_of-fault c.args.text.now (c.len.result + 1) NoBegin
    (sym c.loop-line.invariant.read ∙ ap (customers_from before) c.in_default.ensures.line ∙ customers_from-nil before
    ∙ ap (λ n. Err (n + 1, NoBegin)) (length-customers_of c.loop-line.directory c.loop-line.columns c.loop-line.invariant.same ∙ sym c.len.ensures.value))
