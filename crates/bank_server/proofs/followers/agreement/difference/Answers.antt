use Rattle.std.proofs.Common.{length, refl, sym, ap, ◌∙◌}
use Rattle.cown_board.proofs.LogLaws.{no_some as none_some}
use Rattle.bank_server.proofs.boards.Agreements.{same_columns}
use Rattle.bank_server.proofs.followers.agreement.difference.Goals as goal

pub returns-then-customers-clause-none : goal.returns-then-customers-clause-none
returns-then-customers-clause-none g c =
    let alike = same_columns c.args.first.now.board c.args.second.now.board c.in-Some.one.now c.in-Some-final_columns.other.now
    c.in-Some.ensures.bank.same c.in-Some-final_columns.ensures.bank.same c.in-Some.ensures.value.1 c.in-Some-final_columns.ensures.value.1 in (
      λ none. absurd (none_some (sym none)),
      λ same. absurd (c.if-customers.true (c.customers.ensures.value ∙ ap (λ b. length b.savings) (alike same.columns)
          ∙ sym c.customers-2.ensures.value)),
    )

pub returns-then-customers-clause-reason : goal.returns-then-customers-clause-reason
returns-then-customers-clause-reason g c =
    let alike = same_columns c.args.first.now.board c.args.second.now.board c.in-Some.one.now c.in-Some-final_columns.other.now
    c.in-Some.ensures.bank.same c.in-Some-final_columns.ensures.bank.same c.in-Some.ensures.value.1 c.in-Some-final_columns.ensures.value.1 in (
      c.in_default-first_reply.ensures.none.0 refl,
      λ same. c.if-customers.true (c.customers.ensures.value ∙ ap (λ b. length b.savings) (alike same) ∙ sym c.customers-2.ensures.value),
    )

pub returns-in-Some-name-clause-none : goal.returns-in-Some-name-clause-none
returns-in-Some-name-clause-none g c =
    let alike = same_columns c.args.first.now.board c.args.second.now.board c.in-Some.one.now c.in-Some-final_columns.other.now
    c.in-Some.ensures.bank.same c.in-Some-final_columns.ensures.bank.same c.in-Some.ensures.value.1 c.in-Some-final_columns.ensures.value.1 in (
      λ none. absurd (none_some (sym none)),
      λ same. absurd (none_some (sym (c.in_ok-place.ensures.none.1 (alike same.columns)))),
    )

pub returns-in-None-clause-none : goal.returns-in-None-clause-none
returns-in-None-clause-none g c =
    let alike = same_columns c.args.first.now.board c.args.second.now.board c.in-Some.one.now c.in-Some-final_columns.other.now
    c.in-Some.ensures.bank.same c.in-Some-final_columns.ensures.bank.same c.in-Some.ensures.value.1 c.in-Some-final_columns.ensures.value.1 in (
      λ none. absurd (none_some (sym none)),
      λ same. absurd (none_some (sym (c.in_ok-place.ensures.none.1 (alike same.columns)))),
    )

pub returns-in-None-clause-reason : goal.returns-in-None-clause-reason
returns-in-None-clause-reason g c =
    let alike = same_columns c.args.first.now.board c.args.second.now.board c.in-Some.one.now c.in-Some-final_columns.other.now
    c.in-Some.ensures.bank.same c.in-Some-final_columns.ensures.bank.same c.in-Some.ensures.value.1 c.in-Some-final_columns.ensures.value.1 in (
      c.in_default-first_reply.ensures.none.0 refl,
      λ same. none_some (sym (c.in_ok-place.ensures.none.1 (alike same))),
    )
