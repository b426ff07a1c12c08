use Rattle.std.proofs.Common.{◌≡◌, ℕ, ◌+◌, length, sym, ap, ◌∙◌, arith}
use Rattle.std.proofs.lemmas.List.{length_push}
use Rattle.cown_queue.proofs.ChainsOfCowns.{linked_more}
use Rattle.cown_queue.proofs.tickets.add_places.Goals as goal

-- one more is free
one_more : (new old places first place : ℕ) → new ≡ old + 1 → old + places ≡ first + place → new + places ≡ first + (place + 1)
one_more new old places first place grown before = omega arith

pub loop-place-preserved : goal.loop-place-preserved
loop-place-preserved c =
    let before = c.loop-place.invariant in
    let table = c.push_reserved.ensures.items in
    let free = c.push_reserved-in-loop-place.ensures.items in
    record {
      linked = λ ends lists linked. rw (table, free)
          (linked_more c.loop-place.table.items ends c.loop-place.free.items lists _ c.loop-place.place (sym before.made) (before.linked ends lists linked));
      made = ap length table ∙ length_push c.loop-place.table.items _ ∙ ap (λ n. n + 1) before.made;
      freed = one_more _ _ _ _ _ (ap length free ∙ length_push c.loop-place.free.items _) before.freed;
      table_room = rw c.push_reserved.ensures.capacity before.table_room;
      free_room = rw c.push_reserved-in-loop-place.ensures.capacity before.free_room;
    }
