use Rattle.std.proofs.Common.{◌≡◌, Some, length, sym, ap, ◌∙◌}
use Rattle.schedule_player.specs.World.{bank_of}
use Rattle.schedule_player.proofs.observers.SameAnswers.{none_found, only_rows}
use Rattle.schedule_player.proofs.world.World.rows_agree.Goals as goal
use Rattle.schedule_player.proofs.world.World.rows_agree.Goals.{Else-length}

-- two replicas of one length lend the same columns
same_columns : (c : Else-length) → c.in-Some.left.now ≡ c.in-Some-columns.right.now
same_columns c =
    only_rows (bank_of c.args.self.now) c.length.result c.in-Some.left.now c.in-Some-columns.right.now
    (c.in-Some.ensures.rows c.length.result c.length.ensures)
    (c.in-Some-columns.ensures.rows c.length.result (c.length-2.ensures ∙ ap (λ n. Some n) (sym c.if-length.false)))

pub first_place-requires-clause-savings : goal.first_place-requires-clause-savings
first_place-requires-clause-savings c = ap (λ b. length b.savings) (same_columns c)

pub first_place-requires-clause-checking : goal.first_place-requires-clause-checking
first_place-requires-clause-checking c = ap (λ b. length b.checking) (same_columns c)

pub returns-else-length : goal.returns-else-length
returns-else-length c = record {
  agree =
      none_found c.first_place.result c.is_none.result c.is_none.ensures
      (c.first_place.ensures.1 (same_columns (goal.at.returns-else-length c).Else-length));
}
