use Rattle.cown_board.proofs.BoardCallLaws.{board_law}
use Rattle.cown_board.proofs.laws.true_to_the_log.Goals as goal

pub returns : goal.returns
returns g c = board_law g.B.Behaviour.touches g.B.Behaviour.effect
