use Rattle.std.proofs.Common.{◌≡◌, ◌++◌, length, ap, ◌∙◌}
use Rattle.sb_sequencer.specs.Entries.{entries_to_resend}
use Rattle.schedule_player.specs.World.{bank_with}
use Rattle.schedule_player.proofs.entries.SentEntries.{resent_are}
use Rattle.schedule_player.proofs.entries.FrameSteps.{sends_all}
use Rattle.schedule_player.proofs.node.Node.resend_entries.Goals as goal

pub returns : goal.returns
returns c names opening r lt is =
    let s = c.args.sequencer.now.synced in
    let old = c.args.self.now in
    let entries : c.resend-entries.result.items ≡ entries_to_resend s c.args.replica = c.resend-entries.ensures ∙ ap (entries_to_resend s) c.in-Ok.ensures.1 in
    sends_all (bank_with names opening s.log) r old c.add_all.new.self (entries_to_resend s c.args.replica) c.len.result is
    (resent_are names opening s c.args.replica)
    (c.in_ok-add_all.ensures.sent ∙ ap (λ es. old.inbound ++ es) (c.deref.ensures.0 ∙ entries)) (c.len.ensures.value ∙ ap length entries)
