use Rattle.std.proofs.Common.{length, ap, ◌∙◌, arith}
use Rattle.std.proofs.lemmas.List.{length-set}
use Rattle.cown_board.proofs.ReadyListSteps.{still_behind, counted_next}
use Rattle.cown_board.proofs.ready_list.ReadyList.come_forward.Goals as goal

pub step_forward-requires-clause-behind : goal.step_forward-requires-clause-behind
step_forward-requires-clause-behind c =
    still_behind c.args.self.now.behind.items c.loop-position.self.behind.items c.args.fronts.now c.loop-position.position-index
    c.loop-position-test.true c.requires.behind c.loop-position.invariant.behind

pub loop-position-preserved : goal.loop-position-preserved
loop-position-preserved c =
    let before = c.loop-position.invariant in
    let step = c.step_forward.ensures in
    let here = c.loop-position-test.true in
    record {
      same_length = ap length step.behind ∙ length-set _ _ _ ∙ before.same_length;
      behind = λ position. rw step.behind
          (counted_next c.args.self.now.behind.items c.loop-position.self.behind.items c.args.fronts.now c.loop-position.position-index here
          c.requires.behind before.behind position);
      due = λ waits bound all listed. let at = all c.loop-position.position-index 0 here in step.due waits bound at.0 at.1 (before.due waits bound all listed);
      few = omega (arith, before.few, step.len);
      room = omega (arith, before.room, step.room);
    }
