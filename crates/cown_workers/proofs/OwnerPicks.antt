-- What an owner picks itself.
use Rattle.std.proofs.Common.{◌≡◌, ℕ, ◌⊎◌, inl, inr, Option, Some, None, List, [], ◌++◌, IfNone, ap, refl}
use Rattle.std.specs.Prelude.{is_some}
use Rattle.std.specs.List.{All}
use Rattle.std.specs.Option.{option_to_list}
use Rattle.std.proofs.lemmas.List.Elements.{All-pop}
use Rattle.sb_calls.specs.declared.op.Op.{Op}
use Rattle.cown_board.specs.Job.{DoneOf}
use Rattle.cown_bench.specs.Picks.{WorkOf}
use Rattle.cown_bench.specs.declared.work.Work.TheVariants.{Stop}
use Rattle.cown_bench.specs.BenchPasses.{BenchId, WorkerOf, PicksWork}
use Rattle.cown_workers.specs.BenchCrews.{BenchCrewOf, PicksItself}
use Rattle.cown_workers.specs.inner.PassPicks.{picked_with}

-- the crew with this pass of its owner
abbrev pub crew_with : ℕ → List WorkOf → Option WorkerOf → BenchCrewOf
crew_with workers offered own_pass =
    record { workers = workers; owner_helps = is_some own_pass; offered = offered; picked = picked_with own_pass }

-- what is picked with that pass is picked by the owner
pub picks_itself : (workers : ℕ) (offered : List WorkOf) (before : Option WorkerOf) (own_pass new : WorkerOf) (old : BenchCrewOf) (work : WorkOf)
    → crew_with workers offered before ≡ old → before ≡ Some own_pass
    → PicksWork own_pass work new
    → PicksItself old work (crew_with workers offered (Some new))
picks_itself workers offered before own_pass new old work view is (position, picks) =
    (rw (← view, is), (position, rw (← view, is, picks)))

-- if nothing is picked with it, or a `Stop`, the owner picks the same
pub picks_no_job : (workers : ℕ) (offered : List WorkOf) (before : Option WorkerOf) (own_pass new : WorkerOf) (old : BenchCrewOf) (result : Option (DoneOf Op))
    → crew_with workers offered before ≡ old → before ≡ Some own_pass
    → IfNone result ((new ≡ own_pass) ⊎ PicksWork own_pass Stop new)
    → IfNone result ((crew_with workers offered (Some new) ≡ old) ⊎ PicksItself old Stop (crew_with workers offered (Some new)))
picks_no_job workers offered before own_pass new old (Some done) view is told = tt
picks_no_job workers offered before own_pass new old None view is (inl same) = inl (rw (← view, is, same))
picks_no_job workers offered before own_pass new old None view is (inr picks) =
    inr (picks_itself workers offered before own_pass new old Stop view is picks)

-- a pass taken from the fresh passes of a bench has picked nothing
pub fresh_taken : (bench : BenchId) (old new : List WorkerOf) (taken : Option WorkerOf) → old ≡ new ++ option_to_list taken
    → All (λ pass. pass ≡ record { bench = bench; picked = [] }) old → picked_with taken ≡ []
fresh_taken bench old new None parted fresh = refl
fresh_taken bench old new (Some pass) parted fresh =
    ap (λ (pass : WorkerOf). pass.picked) (All-pop (λ pass. pass ≡ record { bench = bench; picked = [] }) old new (Some pass) parted fresh).1
