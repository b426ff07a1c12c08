use Rattle.std.proofs.Common.{◌∷◌, [], ◌++◌, sym, ap, subst, ◌∙◌, map}
use Rattle.schedule_player.specs.OneBased.{Every}
use Rattle.schedule_player.specs.inner.FrameBytes.{frame_in, IsFrameBytes}
use Rattle.schedule_player.proofs.Lists.{every_push}
use Rattle.schedule_player.proofs.entries.SentFrames.{frame_sent}
use Rattle.schedule_player.proofs.node.sent_frames.Frames.add.Goals as goal

pub returns-clause-sent : goal.returns-clause-sent
returns-clause-sent c =
    ap (map (λ bytes. frame_in bytes.items)) c.in_ok-push.ensures.items
    ∙ frame_sent (λ bytes. bytes.items) c.self.inside.sent.items c.encode.result c.args.frame.now c.encode.ensures
    ∙ ap (λ frames. frames ++ c.args.frame.now ∷ []) c.self.view_is

pub invariant_of-self-2 : goal.invariant_of-self-2
invariant_of-self-2 c =
    subst (Every (λ bytes. IsFrameBytes bytes.items)) (sym c.in_ok-push.ensures.items)
    (every_push (λ bytes. IsFrameBytes bytes.items) c.self.inside.sent.items c.encode.result c.self.invariant
    (record { frame = c.args.frame.now; spelled = c.encode.ensures }))
