use Rattle.std.proofs.Common.{◌≡◌, ℕ, ◌++◌, ◌-◌, List, [], length, replicate, take, vec_capacity, vec_len, ap, ap₂, ◌∙◌, arith}
use Rattle.std.proofs.lemmas.List.{take_all}
use Rattle.cown_queue.proofs.TicketSteps.{Becomes, opened}
use Rattle.cown_queue.specs.declared.tickets.Ends.{Ends}
use Rattle.cown_queue.specs.declared.tickets.TheConstants.{NONE}
use Rattle.cown_queue.proofs.tickets.Tickets.new.Goals as goal

-- all cowns are idle
idle : (ends new : List Ends) (cowns long : ℕ) (e : Ends) → ends ≡ [] → long ≡ 0 → new ≡ take cowns ends ++ replicate (cowns - long) e
    → new ≡ replicate cowns e
idle ends new cowns long e none short read =
    let front : take cowns ends ≡ [] = ap (take cowns) none ∙ take_all cowns [] (omega arith) in
    let count : cowns - long ≡ cowns = omega arith in
    read ∙ ap₂ (λ (front : List Ends) (n : ℕ). front ++ replicate n e) front count

opens : (c : goal.After-new-2)
    → Becomes c.new.result.items c.resize.new.self.items c.new-2.result.items (vec_capacity c.new-2.result) (replicate c.args.cowns [])
opens c =
    opened c.new.result.items c.resize.new.self.items c.new-2.result.items (vec_capacity c.new-2.result) c.args.cowns c.new.ensures.items
    (idle c.in_ok-ends.ends.items c.resize.new.self.items c.args.cowns (vec_len c.in_ok-ends.ends) (record { first = NONE; last = NONE })
    c.in_ok-ends.ensures.items c.in_ok-ends.ensures.len c.in_ok-resize.ensures.items)
    c.new-2.ensures.items

pub invariant_of-result : goal.invariant_of-result
invariant_of-result c = (opens c).0

pub returns : goal.returns
returns c =
    let lists = (opens c).1 in
    let no_tickets = ap length c.new.ensures.items in
    let no_places = ap length c.new-2.ensures.items in
    cc
