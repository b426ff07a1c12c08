use Rattle.std.proofs.Common.{◌≡◌, ◌<◌, ◌++◌, [], ◌∷◌, length, ap, rules, arith}
use Rattle.sb_rows.specs.Balances.{Balances}
use Rattle.sb_rows.specs.declared.columns.TheConstants.{CUSTOMERS}
use Rattle.sb_rows.proofs.CustomerPush.{IsBalances-push}
use Rattle.sb_rows.proofs.columns.Columns.push.Goals as goal

pub invariant_of-self-2 : goal.invariant_of-self-2
invariant_of-self-2 c =
    let savings = c.self.inside.savings.items in
    let checking = c.self.inside.checking.items in
    let saved : c.push_reserved.new.self.items ≡ savings ++ c.args.savings ∷ [] = search rules in
    let checked : c.push_reserved-2.new.self.items ≡ checking ++ c.args.checking ∷ [] = search rules in
    let same : length savings ≡ length c.args.self.now.savings = ap (λ (b : Balances). length b.savings) c.self.view_is in
    let room : length savings < CUSTOMERS = omega (arith, same, c.requires.room) in
    rw (saved, checked)
    (IsBalances-push savings checking c.args.savings c.args.checking c.self.invariant room c.requires.not_negative
    c.value.ensures.within c.value-2.ensures.within)

pub returns-clause-valid : goal.returns-clause-valid
returns-clause-valid c = invariant_of-self-2 c
