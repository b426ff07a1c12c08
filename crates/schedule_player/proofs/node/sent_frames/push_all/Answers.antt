use Rattle.std.proofs.Common.{◌≡◌, ◌+◌, ◌<◌, [], ◌∷◌, ◌++◌, length, map, drop, refl, sym, ap, subst, ◌∙◌, arith, append-nil, append_assoc, length-append}
use Rattle.std.proofs.lemmas.List.{drop_all}
use Rattle.schedule_player.specs.OneBased.{Every}
use Rattle.schedule_player.specs.inner.FrameBytes.{frame_in, IsFrameBytes}
use Rattle.schedule_player.proofs.Lists.{every_push, get_here, drop_one}
use Rattle.schedule_player.proofs.entries.SentFrames.{frame_sent}
use Rattle.schedule_player.proofs.node.sent_frames.push_all.Goals as goal

pub loop-frame-preserved : goal.loop-frame-preserved
loop-frame-preserved c =
    let before = c.loop-frame.sent.items in
    let bytes = c.encode.result in
    let frames = c.args.frames.now in
    let position = c.loop-frame.frame-index in
    let frame = c.frame-item.result in
    let so_far = c.loop-frame.invariant in
    let items = c.push_reserved.ensures.items in
    let rest = drop (position + 1) frames in
    let within : position < length frames = omega (arith, c.loop-frame-test.true, c.loop-frame.auto.frame-index-end) in
    let left : drop position frames ≡ frame ∷ rest = drop_one frames position frame (get_here frames position frame within c.frame-item.is) in
    record {
      spelled = λ all. subst (Every (λ b. IsFrameBytes b.items)) (sym items)
          (every_push (λ b. IsFrameBytes b.items) before bytes (so_far.spelled all) (record { frame = frame; spelled = c.encode.ensures }));
      frames =
          ap (λ sent. map (λ b. frame_in b.items) sent ++ rest) items
          ∙ ap (λ seen. seen ++ rest) (frame_sent (λ b. b.items) before bytes frame c.encode.ensures)
          ∙ append_assoc (map (λ b. frame_in b.items) before) (frame ∷ []) rest
          ∙ ap (λ t. map (λ b. frame_in b.items) before ++ t) (sym left)
          ∙ so_far.frames;
      room =
          let longer = ap length items ∙ length-append before (bytes ∷ []) in
          let shorter = ap length left in
          let room = so_far.room in
          let same = c.push_reserved.ensures.capacity in
          omega (arith, longer, shorter, room, same);
    }

pub loop-frame-init : goal.loop-frame-init
loop-frame-init c = record { spelled = λ all. all; frames = refl; room = c.requires }

pub returns-clause-spelled : goal.returns-clause-spelled
returns-clause-spelled c = c.loop-frame.invariant.spelled

pub returns-clause-frames : goal.returns-clause-frames
returns-clause-frames c =
    let seen = map (λ b. frame_in b.items) c.loop-frame.sent.items in
    sym (append-nil seen)
    ∙ ap (λ rest. seen ++ rest) (sym (drop_all c.loop-frame.frame-index c.args.frames.now c.loop-frame-test.false))
    ∙ c.loop-frame.invariant.frames
