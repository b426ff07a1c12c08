use Rattle.std.proofs.Common.{arith, ◌≡◌, ◌+◌, ◌<◌, Option, Err, ◌++◌, ◌∷◌, [], length, true≢false, refl, sym, ap, subst, ◌∙◌}
use Rattle.std.specs.Prelude.{IfSome}
use Rattle.std.proofs.lemmas.List.{length-append}
use Rattle.std.proofs.lemmas.Result.{err_from_is_err_and}
use Rattle.sb_rows.specs.Rows.{rows_of}
use Rattle.sb_frames.specs.Grammar.{body}
use Rattle.sb_frames.specs.Streaming.{HandsOutFrame, StreamState}
use Rattle.sb_frames.specs.declared.fault.StreamFault.TheVariants.{Bad}
use Rattle.sb_frames.specs.declared.frame.Frame.{Frame}
use Rattle.sb_frames.proofs.Frames.{spelling_size}
use Rattle.sb_replica.specs.Replica.{ReplicaOf}
use Rattle.bank_server.specs.inner.ClientSteps.{LeadsClient, inbox_state}
use Rattle.bank_server.specs.Primary.{opening_rows_of}
use Rattle.bank_server.proofs.clients.ClientSteps.{bad_stops_client, handles_frame, handles_nothing, refused_stops_client}
use Rattle.bank_server.proofs.sessions.FrameSteps.{numbers_on}
use Rattle.bank_server.proofs.sessions.Keeping.{numbers_nothing}
use Rattle.bank_server.proofs.session.inbox.take_frames.Goals as goal

pub loop-frame-init : goal.loop-frame-init
loop-frame-init g c = record {
  handles = λ outcomes. handles_nothing (opening_rows_of c.args.primary.now) (inbox_state c.args.primary.now.log c.args.inbox.now outcomes)
      c.args.inbox.now.stream.unread;
  within = c.requires.within;
  due = c.requires.due;
  few = c.requires.few;
  going = c.requires.healthy;
  whole = (λ is. absurd (true≢false (sym is)), λ less. absurd (omega (arith, less)));
  fewer = omega arith;
  numbered = numbers_nothing c.args.primary.now;
}

pub loop-frame-preserved : goal.loop-frame-preserved
loop-frame-preserved g c =
    let loop = c.loop-frame in
    let kept = loop.invariant in
    let step = c.in_ok-take_frame-in-Ok-Some.ensures in
    let handed : HandsOutFrame loop.inbox.stream c.in-Ok-Some.frame c.next.new.self =
    subst (λ (o : Option Frame). IfSome o (λ frame. HandsOutFrame loop.inbox.stream frame c.next.new.self))
    c.in-Ok-Some.field-0-is c.in-Ok-Some.ensures.frame in
    let now = c.take_frame.new.inbox in
    let size : length loop.inbox.stream.unread ≡ length handed.spelled.0 + length now.stream.unread =
    ap length handed.spelled.2 ∙ length-append handed.spelled.0 c.next.new.self.unread
    ∙ ap (λ (s : StreamState). length handed.spelled.0 + length s.unread) (sym step.stream) in
    let some : length handed.spelled.0 ≡ 2 + length (body c.in-Ok-Some.frame) = ap length handed.spelled.1.spelled ∙ spelling_size c.in-Ok-Some.frame in
    let less : length now.stream.unread < length c.args.inbox.now.stream.unread = omega (arith, size, some, kept.fewer) in
    record {
      handles = λ outcomes.
          let mid = inbox_state loop.primary.log loop.inbox outcomes in
          let new = inbox_state c.take_frame.new.primary.log now outcomes in
          let leads : LeadsClient (opening_rows_of c.args.primary.now) mid (c.in-Ok-Some.frame ∷ []) new =
          subst (λ (node : ReplicaOf g.row.S.Denot). LeadsClient (rows_of node.names node.board.opening) mid (c.in-Ok-Some.frame ∷ []) new) kept.numbered.node
          (step.leads outcomes) in
          handles_frame (opening_rows_of c.args.primary.now) (inbox_state c.args.primary.now.log c.args.inbox.now outcomes) mid new
          c.args.inbox.now.stream.unread loop.inbox.stream.unread now.stream.unread c.in-Ok-Some.frame handed.spelled.0 (kept.handles outcomes) handed.spelled.1
          (handed.spelled.2 ∙ ap (λ (s : StreamState). handed.spelled.0 ++ s.unread) (sym step.stream)) leads;
      within = step.within;
      due = step.due;
      few = step.few;
      going = ap (λ (s : StreamState). s.failed) step.stream ∙ handed.not_failed;
      whole = (λ is. less, λ fewer. refl);
      fewer = omega (arith, less);
      numbered = numbers_on c.args.primary.now loop.primary c.take_frame.new.primary kept.numbered step.numbered;
    }

pub returns-in-Err-Bad-clause-stops : goal.returns-in-Err-Bad-clause-stops
returns-in-Err-Bad-clause-stops g c outcomes =
    let loop = c.loop-frame in
    let at = inbox_state loop.primary.log loop.inbox outcomes in
    let why = (c.in-Err-Bad.ensures.fault (Bad c.in-Err-Bad.fault)).0 (ap Err c.in-Err-Bad.field-0-is) in
    bad_stops_client (opening_rows_of c.args.primary.now) c.args.most (inbox_state c.args.primary.now.log c.args.inbox.now outcomes) at
    c.args.inbox.now.stream.unread loop.inbox.stream.unread c.in-Err-Bad.fault (loop.invariant.handles outcomes) why.1 why.2

pub returns-in_err-take_frame-in-Ok-Some-clause-stops : goal.returns-in_err-take_frame-in-Ok-Some-clause-stops
returns-in_err-take_frame-in-Ok-Some-clause-stops g c =
    let p = err_from_is_err_and c.from_residual.result c.from_residual.ensures.1 in
    let loop = c.loop-frame in
    let handed : HandsOutFrame loop.inbox.stream c.in-Ok-Some.frame c.next.new.self =
    subst (λ (o : Option Frame). IfSome o (λ frame. HandsOutFrame loop.inbox.stream frame c.next.new.self))
    c.in-Ok-Some.field-0-is c.in-Ok-Some.ensures.frame in
    rw (p.1, p.2) (λ outcomes. refused_stops_client (opening_rows_of c.args.primary.now) c.args.most
    (inbox_state c.args.primary.now.log c.args.inbox.now outcomes) (inbox_state loop.primary.log loop.inbox outcomes)
    (inbox_state c.take_frame.new.primary.log c.take_frame.new.inbox outcomes) c.args.inbox.now.stream.unread loop.inbox.stream.unread
    c.next.new.self.unread c.in-Ok-Some.frame handed.spelled.0 c.in_err-take_frame-in-Ok-Some.field-0.0 (loop.invariant.handles outcomes) handed.spelled.1
    handed.spelled.2 (c.in_err-take_frame-in-Ok-Some.ensures.refused outcomes))

pub returns-in_err-take_frame-in-Ok-Some-clause-numbered : goal.returns-in_err-take_frame-in-Ok-Some-clause-numbered
returns-in_err-take_frame-in-Ok-Some-clause-numbered g c =
    numbers_on c.args.primary.now c.loop-frame.primary c.take_frame.new.primary c.loop-frame.invariant.numbered
    c.in_err-take_frame-in-Ok-Some.ensures.numbered
