use Rattle.std.proofs.Common.{◌≡◌, List, ◌++◌, drop}
use Rattle.std.specs.List.{flat_map}
use Rattle.sb_calls.specs.declared.reply.Reply.{Reply}
use Rattle.sb_frames.specs.Grammar.{spelling}
use Rattle.bank_server.specs.Execution.{HasReplies}
use Rattle.bank_server.specs.Session.{outcome_by}
use Rattle.bank_server.proofs.session.outcome_frames.push_outcomes.Given as goal

-- what is written and what is left to write are all
abbrev pub invariant-loop-ask : goal.invariant-loop-ask
invariant-loop-ask g l = (replies : List Reply) → HasReplies l.replica.board replies
    → l.out.items ++ flat_map (λ ask. flat_map spelling (outcome_by replies ask.key ask.standing)) (drop l.ask-index l.pending)
    ≡ l.fn.out.items ++ flat_map (λ ask. flat_map spelling (outcome_by replies ask.key ask.standing)) l.pending
