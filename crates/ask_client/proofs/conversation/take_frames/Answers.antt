use Rattle.std.proofs.Common.{◌<◌, Option, length, refl, subst, arith}
use Rattle.std.specs.Prelude.{IfSome}
use Rattle.std.proofs.lemmas.Result.{err_from_is_err_and}
use Rattle.sb_frames.specs.Streaming.{HandsOutFrame}
use Rattle.sb_frames.specs.declared.frame.Frame.{Frame}
use Rattle.ask_client.proofs.TakenFrames.{next_refused, next_told, one_less, some_calls}
use Rattle.ask_client.proofs.UnexpectedBytes.{bad_stream}
use Rattle.ask_client.proofs.conversation.take_frames.Goals as goal

pub loop-preserved : goal.loop-preserved
loop-preserved c =
    let loop = c.loop in
    let kept = loop.invariant in
    let handed : HandsOutFrame loop.frames c.in-Ok-Some.frame c.next.new.self =
    subst (λ (o : Option Frame). IfSome o (λ frame. HandsOutFrame loop.frames frame c.next.new.self))
    c.in-Ok-Some.field-0-is c.in-Ok-Some.ensures.frame in
    let below : loop.counter < length c.args.batch.now.calls = omega (arith, c.loop-test.true, c.len-end.ensures) in
    let (outcome, is, line, left) = c.in_ok-tell_outcome-in-Ok-Some.ensures in
    record {
      tells = next_told c.args.batch.now loop.batch c.tell_outcome.new.batch c.in-Ok-Some.frame loop.frames c.next.new.self outcome
          c.args.frames.now.unread c.args.lines.now.items loop.lines.items c.tell_outcome.new.lines.items kept.tells handed
          (some_calls loop.batch.calls loop.counter _ kept.count below) is line left;
      going = handed.not_failed;
      count = one_less loop.batch c.tell_outcome.new.batch loop.counter _ kept.count below left;
    }

pub returns-in_err-tell_outcome-in-Ok-Some : goal.returns-in_err-tell_outcome-in-Ok-Some
returns-in_err-tell_outcome-in-Ok-Some c =
    let p = err_from_is_err_and c.from_residual.result c.from_residual.ensures.1 in
    let loop = c.loop in
    let handed : HandsOutFrame loop.frames c.in-Ok-Some.frame c.next.new.self =
    subst (λ (o : Option Frame). IfSome o (λ frame. HandsOutFrame loop.frames frame c.next.new.self))
    c.in-Ok-Some.field-0-is c.in-Ok-Some.ensures.frame in
    rw (p.1, p.2) (next_refused c.args.batch.now loop.batch c.tell_outcome.new.batch c.in-Ok-Some.frame loop.frames c.next.new.self
    c.in_err-tell_outcome-in-Ok-Some.field-0.0 c.args.frames.now.unread c.args.lines.now.items loop.lines.items c.tell_outcome.new.lines.items
    loop.invariant.tells handed c.in_err-tell_outcome-in-Ok-Some.ensures)

pub returns-in-Err : goal.returns-in-Err
returns-in-Err c =
    let loop = c.loop in
    let fault = c.in-Err.field-0 in
    (loop.frames.unread, loop.invariant.tells, bad_stream loop.batch loop.frames fault loop.invariant.going ((c.in-Err.ensures.fault fault).0 refl))
