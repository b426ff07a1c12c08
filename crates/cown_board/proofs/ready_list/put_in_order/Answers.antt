use Rattle.std.proofs.Common.{rules, arith}
use Rattle.std.specs.Prelude.{nat_lt}
use Rattle.std.proofs.lemmas.List.Sorted.{IsPartitionPoint-from_clause}
use Rattle.cown_board.proofs.ReadyListSteps.{partitioned, put_there}
use Rattle.cown_board.proofs.ready_list.put_in_order.Goals as goal

pub returns-clause-items : goal.returns-clause-items
returns-clause-items c f bound below out listed =
    let list = c.args.list.now.items in
    let parted = partitioned f bound c.args.position below list listed in
    let point = IsPartitionPoint-from_clause (λ other. nat_lt other c.args.position) _ _ c.partition_point-index.ensures.partitioned parted
    (λ a r q k. search rules) in
    put_there f bound c.args.position below list listed c.partition_point-index.result c.insert.new.self.items
    (omega (arith, c.partition_point-index.ensures.bound, c.args.list.now.ok)) point out (search rules)
