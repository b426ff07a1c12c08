use Rattle.std.proofs.Common.{arith, refl, Ok, ◌∙◌}
use Rattle.ask_client.specs.inner.Progress.{ask_state}
use Rattle.ask_client.proofs.MoreTold.{tells_none, tells_then}
use Rattle.ask_client.proofs.asker.Asker.ask_some.Goals as goal

pub loop-init : goal.loop-init
loop-init g c =
    let at = ask_state (g.D.Dialer.streams c.args.dialer.now) c.args.self.now.stream c.args.self.now.batch (g.O.Write.contents c.args.output.now) in
    record { tells = tells_none g.R.Read.remaining at at refl refl (λ client start first told brings. brings); all = omega arith; plan = refl }

pub loop-preserved : goal.loop-preserved
loop-preserved g c =
    let loop = c.loop in
    let new = c.try_batch.new in
    let old = ask_state (g.D.Dialer.streams c.args.dialer.now) c.args.self.now.stream c.args.self.now.batch (g.O.Write.contents c.args.output.now) in
    let mid = ask_state (g.D.Dialer.streams loop.dialer) loop.self.stream loop.self.batch (g.O.Write.contents loop.output) in
    let end = ask_state (g.D.Dialer.streams new.dialer) new.self.stream new.self.batch (g.O.Write.contents new.output) in
    record {
      tells = tells_then g.R.Read.remaining (Ok tt) old mid end loop.invariant.tells c.in_ok-try_batch.ensures.tells;
      all = omega arith;
      plan = c.in_ok-try_batch.ensures.plan ∙ loop.invariant.plan;
    }
