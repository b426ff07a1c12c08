use Rattle.std.proofs.Common.{◌≡◌, ℕ, Result, Ok, Err, ap, subst, ◌∙◌}
use Rattle.sb_frames.specs.declared.fault.FrameFault.{FrameFault}
use Rattle.sb_frames.specs.declared.frame.Frame.{Frame}
use Rattle.schedule_player.specs.inner.ReceivesFrame.{ReceivesFrame}
use Rattle.schedule_player.proofs.entries.SentFrames.{decoded_whole}
use Rattle.schedule_player.proofs.world.receiving.receive_report.Goals as goal

found_is : {a b : Frame × ℕ} → ◌≡◌ {A = Result (Frame × ℕ) FrameFault} (Ok a) (Ok b) → a ≡ b
found_is h = cc

no_fault : {a : Frame × ℕ} {fault : FrameFault} → ◌≡◌ {A = Result (Frame × ℕ) FrameFault} (Err fault) (Ok a) → ⊥
no_fault h = cc

pub returns-in-Ok-clause-receives : goal.returns-in-Ok-clause-receives
returns-in-Ok-clause-receives c sent spelled =
    subst (λ f. ReceivesFrame c.args.sequencer.now.synced f c.receive_frame.result c.receive_frame.new.sequencer.synced)
    (ap (λ found. found.0) (found_is (c.in-Ok.ensures.exact ∙ decoded_whole sent c.args.bytes.now spelled))) c.receive_frame.ensures.receives

pub returns-in-Err-clause-receives : goal.returns-in-Err-clause-receives
returns-in-Err-clause-receives c sent spelled = absurd (no_fault (c.in-Err.ensures.exact ∙ decoded_whole sent c.args.bytes.now spelled))
