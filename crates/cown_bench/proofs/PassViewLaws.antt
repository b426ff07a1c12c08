-- What contracts see of a pass after a move.
use Rattle.std.proofs.Common.{◌≡◌, ℕ, Option, Some, None, [], ◌∷◌, ◌++◌, ap, ◌∙◌}
use Rattle.std.specs.Prelude.{IfSome, MatchOption}
use Rattle.crossbeam_queue.specs.Passes.{Pass, view}
use Rattle.cown_bench.specs.BenchPasses.{WorkerOf, PicksWork}
use Rattle.cown_bench.specs.inner.BenchRule.{AddsPick}
use Rattle.cown_bench.specs.Picks.{WorkOf}
use Rattle.cown_bench.specs.inner.PassViews.{worker_of}
use Rattle.cown_bench.specs.declared.pass_history.PassHistory.{PassHistory}

-- a worker's, with the pick at its end
with_pick : (old new : Pass WorkOf PassHistory) (seen : WorkerOf) (work : WorkOf)
    → worker_of old ≡ seen → new.table_id ≡ old.table_id → AddsPick (view old) work (view new)
    → PicksWork seen work (worker_of new)
with_pick old new seen work is same adds =
    let position : ℕ = adds.0 in
    let moved : worker_of new ≡ record { bench = old.table_id; picked = (view old).picked ++ (position, work) ∷ [] } =
    λ i. record { bench = same i; picked = (adds.1 i).picked } in
    (position, moved ∙ ap (λ (w : WorkerOf). record w { picked = w.picked ++ (position, work) ∷ [] }) is)

pub picked_at : (old new : Pass WorkOf PassHistory) (seen : WorkerOf) (answer : Option WorkOf) (P : Type 0) → worker_of old ≡ seen → new.table_id ≡ old.table_id
    → MatchOption answer P (λ work. AddsPick (view old) work (view new))
    → IfSome answer (λ work. PicksWork seen work (worker_of new))
picked_at old new seen None P is same adds = tt
picked_at old new seen (Some work) P is same adds = with_pick old new seen work is same adds
