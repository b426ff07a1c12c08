use Rattle.std.proofs.Common.{refl, sym, subst}
use Rattle.sb_replica.specs.Replica.{ReplicaOf}
use Rattle.sb_sequencer.specs.Sequencer.{SequencerOf}
use Rattle.sb_sequencer.specs.Numbering.{IsLog}
use Rattle.bank_server.specs.Primary.{log_ops}
use Rattle.bank_server.specs.inner.KeptPrimary.{IsKeptPrimary}
use Rattle.bank_server.proofs.node0.primary.Primary.on_log.Goals as goal

pub invariant_of-result : goal.invariant_of-result
invariant_of-result g c =
    let log = c.args.log.value.log in
    let valid : IsLog log = subst (λ (s : SequencerOf). IsLog s.log) c.deref.ensures c.length-length.ensures.valid in
    subst (λ (node : ReplicaOf g.row.S.Denot). IsKeptPrimary g.K.Keeper.model
    (record { log = log; counts = c.new.result; node = node; keeper = c.args.keeper }))
    (sym c.in_ok-node.ensures) (record {
      valid = record {
        log = valid;
        customers = c.args.opening.same_customers;
        behind = record { base_replies = refl; uncut = refl; begins = (log_ops c.args.opening.directory log, refl) };
      };
      begins = c.requires;
    })
