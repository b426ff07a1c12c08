use Rattle.std.proofs.Common.{◌≡◌, int_lt, nat_le, pos, length, false, true, is_some, sym, ap, ◌∙◌, rules, arith}
use Rattle.std.proofs.lemmas.Bool.Decides.{nat_tests}
use Rattle.std.proofs.lemmas.Int.{ints}
use Rattle.sb_rows.specs.declared.columns.TheConstants.{CUSTOMERS}
use Rattle.sb_rows.proofs.CustomerLines.{customer_of-double, customer_of-new, three_words}
use Rattle.sb_rows.proofs.customer.read_customer.Goals as goal

pub returns-then-is_some-clause-exact : goal.returns-then-is_some-clause-exact
returns-then-is_some-clause-exact c customers same =
    let three = three_words _ _ _ _ _ _ (sym c.of-words.ensures ∙ c.in-Ok-Ok-Ok.ensures) c.in-Ok-Ok-Ok.ensures' c.in-Ok-Ok-Ok.ensures'' in
    let double = ap is_some (sym c.place.ensures) ∙ sym c.is_some.ensures ∙ c.if-is_some.true in
    customer_of-double customers _ same _ _ _ _ three c.in-Some.name c.in-Some.ensures double

pub returns-in_default-2-clause-exact : goal.returns-in_default-2-clause-exact
returns-in_default-2-clause-exact c customers same =
    let three = three_words _ _ _ _ _ _ (sym c.of-words.ensures ∙ c.in-Ok-Ok-Ok.ensures) c.in-Ok-Ok-Ok.ensures' c.in-Ok-Ok-Ok.ensures'' in
    let new = ap is_some (sym c.place.ensures) ∙ sym c.is_some.ensures ∙ c.if-is_some.false in
    customer_of-new customers _ same _ _ _ _ three c.in-Some.name c.in-Some.ensures new ∙ search rules

pub returns-then-value-lt0-clause-exact : goal.returns-then-value-lt0-clause-exact
returns-then-value-lt0-clause-exact c customers same =
    let three = three_words _ _ _ _ _ _ (sym c.of-words.ensures ∙ c.in-Ok-Ok-Ok.ensures) c.in-Ok-Ok-Ok.ensures' c.in-Ok-Ok-Ok.ensures'' in
    let new = ap is_some (sym c.place.ensures) ∙ sym c.is_some.ensures ∙ c.if-is_some.false in
    let negative : int_lt c.in-Ok-Ok.savings (pos 0) ≡ true = grind (arith, ints, c.value.ensures.value, c.if-value-lt0.true) in
    customer_of-new customers _ same _ _ _ _ three c.in-Some.name c.in-Some.ensures new
    ∙ rw (sym c.in-Ok-Ok.ensures.exact, sym c.in-Ok-Ok.ensures'.exact, negative)

pub returns-then-len-ge-CUSTOMERS-clause-exact : goal.returns-then-len-ge-CUSTOMERS-clause-exact
returns-then-len-ge-CUSTOMERS-clause-exact c customers same =
    let three = three_words _ _ _ _ _ _ (sym c.of-words.ensures ∙ c.in-Ok-Ok-Ok.ensures) c.in-Ok-Ok-Ok.ensures' c.in-Ok-Ok-Ok.ensures'' in
    let new = ap is_some (sym c.place.ensures) ∙ sym c.is_some.ensures ∙ c.if-is_some.false in
    let negative : int_lt c.in-Ok-Ok.savings (pos 0) ≡ false = grind (arith, ints, c.value.ensures.value, c.if-value-lt0.false) in
    let many : nat_le CUSTOMERS (length c.args.before.now) ≡ true = grind (arith, nat_tests, c.len.ensures.value, c.if-len-ge-CUSTOMERS.true) in
    customer_of-new customers _ same _ _ _ _ three c.in-Some.name c.in-Some.ensures new
    ∙ rw (sym c.in-Ok-Ok.ensures.exact, sym c.in-Ok-Ok.ensures'.exact, negative, many)

pub returns-clause-exact : goal.returns-clause-exact
returns-clause-exact c customers same =
    let three = three_words _ _ _ _ _ _ (sym c.of-words.ensures ∙ c.in-Ok-Ok-Ok.ensures) c.in-Ok-Ok-Ok.ensures' c.in-Ok-Ok-Ok.ensures'' in
    let new = ap is_some (sym c.place.ensures) ∙ sym c.is_some.ensures ∙ c.if-is_some.false in
    let negative : int_lt c.in-Ok-Ok.savings (pos 0) ≡ false = grind (arith, ints, c.value.ensures.value, c.if-value-lt0.false) in
    let many : nat_le CUSTOMERS (length c.args.before.now) ≡ false = grind (arith, nat_tests, c.len.ensures.value, c.if-len-ge-CUSTOMERS.false) in
    customer_of-new customers _ same _ _ _ _ three c.in-Some.name c.in-Some.ensures new
    ∙ rw (sym c.in-Ok-Ok.ensures.exact, sym c.in-Ok-Ok.ensures'.exact, negative, many)
