use Rattle.std.proofs.Common.{◌≡◌, List, ◌++◌, map, drop}
use Rattle.sb_rows.specs.Text.{unlines}
use Rattle.sb_calls.specs.declared.reply.Reply.{Reply}
use Rattle.bank_server.specs.Execution.{HasReplies}
use Rattle.bank_server.specs.Standing.{standing_line}
use Rattle.bank_server.proofs.answers.push_answers.Given as goal

-- what is written and what is left to write are all
abbrev pub invariant-loop-standing : goal.invariant-loop-standing
invariant-loop-standing g l = (replies : List Reply) → HasReplies l.replica.board replies
    → l.out.items ++ unlines (map (standing_line replies) (drop l.standing-index l.standings)) ≡ l.fn.out.items
    ++ unlines (map (standing_line replies) l.standings)
