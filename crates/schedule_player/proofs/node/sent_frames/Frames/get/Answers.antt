use Rattle.std.proofs.Common.{◌≡◌, Some, sym, subst, ap, ◌∙◌}
use Rattle.sb_frames.specs.Grammar.{Spells}
use Rattle.schedule_player.specs.OneBased.{nth_item}
use Rattle.schedule_player.proofs.entries.SentFrames.{sent_frame}
use Rattle.schedule_player.proofs.node.sent_frames.Frames.get.Goals as goal

pub returns : goal.returns
returns c =
    let sent = c.self.inside.sent.items in
    let here : nth_item sent c.args.position ≡ Some c.in_ok-bytes.bytes.now =
    ap (λ items. nth_item items c.args.position) (sym c.deref.ensures.value) ∙ sym c.in_ok-bytes.ensures in
    let found = sent_frame (λ bytes. bytes.items) sent c.args.position c.in_ok-bytes.bytes.now c.self.invariant here in (
      found.0,
      subst (λ frames. nth_item frames c.args.position ≡ Some found.0) c.self.view_is found.1,
      subst (λ b. Spells found.0 b) (sym c.as_slice.ensures.value) found.2,
    )
