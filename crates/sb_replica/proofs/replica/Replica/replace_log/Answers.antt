use Rattle.std.proofs.Common.{◌≡◌, length, sym, ap, subst}
use Rattle.sb_replica.specs.Replica.{ReplicaOf, with_log}
use Rattle.sb_replica.proofs.replica.Replica.replace_log.Goals as goal

pub invariant_of-self : goal.invariant_of-self
invariant_of-self g c = record {
  opening = c.self.invariant.opening;
  board = subst (λ (r : ReplicaOf g.row.S.Denot). length c.args.log.board.opening.savings ≡ length r.names) (sym c.self.view_is) c.requires.customers;
  base_replies = c.requires.replies;
}

pub returns : goal.returns
returns g c = ap (λ (r : ReplicaOf g.row.S.Denot). with_log r c.args.log) c.self.view_is
