use Rattle.std.proofs.Common.{ℕ, ap, sym, ◌∙◌}
use Rattle.sb_frames.specs.declared.frame.Frame.{Frame}
use Rattle.sb_frames.proofs.ReadingSteps.{same_value}
use Rattle.sb_ask_log.specs.Asks.{ask_frame}
use Rattle.sb_ask_log.proofs.Fields.{first_of_field}
use Rattle.sb_ask_log.proofs.ask_replay.first_ask.Goals as goal

pub returns-in_default : goal.returns-in_default
returns-in_default c asks some valid e =
    let first = first_of_field c.args.bytes.now asks some valid e in
    c.in_default.not-Ok (ask_frame first.0, first.1) (c.decode.ensures.complete (ask_frame first.0) first.1 first.2 first.3)

pub returns-in_default-frame : goal.returns-in_default-frame
returns-in_default-frame c asks some valid e =
    let first = first_of_field c.args.bytes.now asks some valid e in
    let same = sym c.in-Ok.is ∙ c.decode.ensures.complete (ask_frame first.0) first.1 first.2 first.3 in
    c.in_default-frame.not-Ask first.0.0.client first.0.0.request first.0.1
    (ap (λ (found : Frame × ℕ). found.0) (same_value (c.in-Ok.frame, c.in-Ok.size) (ask_frame first.0, first.1) same))
