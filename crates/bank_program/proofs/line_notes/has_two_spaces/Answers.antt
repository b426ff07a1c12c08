use Rattle.std.proofs.Common.{rules, ◌≡◌, ◌∙◌, true, false, [], ◌∷◌, length}
use Rattle.std.specs.Prelude.{nat_eq}
use Rattle.std.specs.List.{starts_with}
use Rattle.bank_program.proofs.LinesShown.{two_here, no_space, no_second, none_left}
use Rattle.bank_program.proofs.line_notes.has_two_spaces.Goals as goal
use Rattle.bank_program.proofs.line_notes.has_two_spaces.Goals.{else-first-eq32-via-then-first-eq32+else-starts_with, else-first-eq32-via-else-first-eq32}

pub returns-then-starts_with : goal.returns-then-starts_with
returns-then-starts_with c =
    let first : c.loop-first.rest.now ≡ c.in-Some.first.now ∷ c.in-Some.others.now = search rules in
    let space : nat_eq c.in-Some.first.now 32 ≡ true = search rules in
    let next : starts_with nat_eq c.in-Some.others.now (32 ∷ []) ≡ true = search rules in
    two_here c.loop-first.rest.now c.in-Some.others.now c.in-Some.first.now first space next ∙ c.loop-first.invariant

pub loop-first-preserved : goal.loop-first-preserved
loop-first-preserved c =
    let first : c.loop-first.rest.now ≡ c.in-Some.first.now ∷ c.in-Some.others.now = search rules in
    elim c.else-first-eq32.branch [
      | else-first-eq32-via-then-first-eq32+else-starts_with w ↦
          let space : nat_eq c.in-Some.first.now 32 ≡ true = search rules in
          let next : starts_with nat_eq c.in-Some.others.now (32 ∷ []) ≡ false = search rules in
          no_second c.loop-first.rest.now c.in-Some.others.now c.in-Some.first.now first space next ∙ c.loop-first.invariant
      | else-first-eq32-via-else-first-eq32 w ↦
          let other : nat_eq c.in-Some.first.now 32 ≡ false = search rules in
          no_space c.loop-first.rest.now c.in-Some.others.now c.in-Some.first.now first other ∙ c.loop-first.invariant
    ]

pub returns : goal.returns
returns c =
    let none : length c.loop-first.rest.now ≡ 0 = search rules in
    none_left c.loop-first.rest.now none ∙ c.loop-first.invariant
