use Rattle.std.proofs.Common.{sym, ◌∙◌}
use Rattle.cown_board.proofs.LogLaws.{injective as some_is}
use Rattle.schedule_player.proofs.world.agreement.have_same_reply.Goals as goal

pub returns-in-Some-Some : goal.returns-in-Some-Some
returns-in-Some-Some c = (
  λ yes x y is_x is_y. some_is (sym is_x ∙ c.in-Some-Some.is-0) ∙ c.is_same_reply.ensures.0 yes ∙ some_is (sym c.in-Some-Some.is-1 ∙ is_y),
  λ same. c.is_same_reply.ensures.1 (same c.in-Some-Some.one c.in-Some-Some.other c.in-Some-Some.is-0 c.in-Some-Some.is-1),
)
