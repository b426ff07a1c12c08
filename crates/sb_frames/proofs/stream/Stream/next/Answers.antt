use Rattle.std.proofs.Common.{◌≡◌, ◌∙◌, drop, sym, ap}
use Rattle.sb_frames.specs.Streaming.{StreamState}
use Rattle.sb_frames.proofs.NextFrame.{handed_out}
use Rattle.sb_frames.proofs.stream.Stream.next.Goals as goal

pub returns-in-Ok-clause-frame : goal.returns-in-Ok-clause-frame
returns-in-Ok-clause-frame c =
    let seen = c.deref.ensures ∙ ap (λ (old : StreamState). old.unread) c.self.view_is in
    let left : c.advance.new.self.items ≡ drop c.in-Ok.length c.deref.result.now = c.advance.ensures.items ∙ ap (drop c.in-Ok.length) (sym c.deref.ensures) in
    handed_out c.args.self.now (record { unread = c.advance.new.self.items; failed = c.self.inside.broken }) c.deref.result.now c.in-Ok.frame c.in-Ok.length
    seen c.in-Ok.ensures.spelled.1 left c.if-self.false
