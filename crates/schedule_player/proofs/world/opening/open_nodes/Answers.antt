use Rattle.std.proofs.Common.{replicate, slice_get, ◌≡◌, inl, inr, ◌∷◌, [], ◌++◌, length, map, sym, ap, subst, ◌∙◌, arith}
use Rattle.std.proofs.lemmas.List.{length-append, map-append, replicate_more}
use Rattle.schedule_player.specs.inner.NodeInvariant.{IsNodeAt, machine_node}
use Rattle.schedule_player.specs.ReplicaMoves.{opened_node}
use Rattle.schedule_player.proofs.Lists.{pushed_cases}
use Rattle.schedule_player.proofs.world.opening.open_nodes.Goals as goal

pub returns-clause-node : goal.returns-clause-node
returns-clause-node c =
    let all : c.loop-id.id ≡ c.args.nodes = omega (arith, c.loop-id-test.false, c.loop-id.auto.id-end) in
    c.loop-id.invariant.seen ∙ ap (λ n. replicate n (opened_node c.args.workers)) all

pub returns-clause-consistent : goal.returns-clause-consistent
returns-clause-consistent c = c.loop-id.invariant.consistent

pub loop-id-preserved : goal.loop-id-preserved
loop-id-preserved c =
    let before = c.loop-id.all.items in
    let node = c.in_ok-node.node in
    let so_far = c.loop-id.invariant in
    let items = c.push_reserved.ensures.items in
    record {
      seen =
          ap (map machine_node) items ∙ map-append machine_node before (node ∷ [])
          ∙ (λ j. so_far.seen j ++ c.in_ok-node.ensures.node j ∷ [])
          ∙ replicate_more c.loop-id.id (opened_node c.args.workers);
      consistent = λ bank names opening same few r other here. elim (pushed_cases before node r other (ap (λ xs. slice_get xs r) (sym items) ∙ here)) [
        | inl there ↦ so_far.consistent bank names opening same few r other there
        | inr last ↦
            let e = last.0 in
            let size = so_far.size in
            let is_id : c.loop-id.id ≡ r = omega (arith, e, size) in
            subst (IsNodeAt bank r) last.1
            (subst (λ n. IsNodeAt bank n node) is_id
            (c.in_ok-node.ensures.consistent bank names opening same few))
      ];
      size =
          let longer = ap length items ∙ length-append before (node ∷ []) in
          let size = so_far.size in
          omega (arith, longer, size);
      room = let room = so_far.room in let same = c.push_reserved.ensures.capacity in omega (arith, room, same);
    }
