-- If the last pick of each worker is a `Stop`, nothing is left.
use Rattle.std.proofs.Common.{◌≡◌, ◌⊎◌, inl, inr, ℕ, zero, suc, ◌+◌, ◌<◌, ◌≤◌, cond, Option, Some, None, List, [], ◌∷◌, ◌++◌, length, drop, replicate, refl, sym, ap, ◌∙◌, append_assoc, length-append, drop_of_length-le, arith}
use Rattle.std.specs.Prelude.{count_by, sum_by}
use Rattle.std.specs.List.{All}
use Rattle.std.specs.Option.{option_to_list}
use Rattle.std.proofs.lemmas.Bool.{cases_lt}
use Rattle.std.proofs.lemmas.List.{drop-append-le}
use Rattle.std.proofs.lemmas.List.Elements.{All-head, All-tail}
use Rattle.std.proofs.lemmas.List.Folds.{sum_by-replicate}
use Rattle.std.proofs.lemmas.List.Sums.{sum_by-append, sum_by-cons, sum_by_push}
use Rattle.sb_calls.specs.declared.op.Op.{Op}
use Rattle.cown_board.specs.Job.{JobOf}
use Rattle.cown_bench.specs.BenchPasses.{BenchId, OwnerOf, WorkerOf, picked_of}
use Rattle.cown_bench.specs.OfferedWorks.{IsSplitInto, WeighAlike, weight_picked}
use Rattle.cown_bench.specs.Picks.{WorkOf, PickOf}
use Rattle.cown_bench.specs.declared.work.Work.TheVariants.{Run, Stop}
use Rattle.cown_workers.specs.inner.PassPicks.{EndsAtStop, HasAllPasses, is_stop}

-- one more job isn't one more `Stop`
no_stop_more : (offered : List WorkOf) (job : JobOf Op) → count_by is_stop offered ≡ 0 → count_by is_stop (offered ++ Run job ∷ []) ≡ 0
no_stop_more offered job none = let more = sum_by_push (λ work. cond (is_stop work) 1 0) offered (Run job) in omega (arith, none, more)

-- after one more job all passes are still with the crew
pub passes_kept : {bench : BenchId} {owner : OwnerOf} {own_pass : Option WorkerOf} {workers : ℕ} (job : JobOf Op)
    → HasAllPasses bench owner own_pass workers → HasAllPasses bench (record owner { offered = owner.offered ++ Run job ∷ [] }) own_pass workers
passes_kept {bench} {owner} {own_pass} {workers} job passes = record {
  owner_pass = passes.owner_pass;
  own = passes.own;
  count = passes.count;
  at_least_one = passes.at_least_one;
  no_stop = no_stop_more owner.offered job passes.no_stop;
}

-- a `Stop` weighs 1, and a job 0
abbrev weight : WorkOf → ℕ
weight work = cond (is_stop work) 1 0

abbrev weight_of : List PickOf → ℕ
weight_of picked = sum_by (λ (pick : PickOf). weight pick.1) picked

weighs_one : (picked : List PickOf) → EndsAtStop picked → 1 ≤ weight_of picked
weighs_one picked (before, position, is) =
    let whole = ap weight_of is in
    let more = sum_by_push (λ (pick : PickOf). weight pick.1) before (position, Stop) in
    omega (arith, whole, more)

-- what was picked with this pass and with the others
with_others : (pass : WorkerOf) (passes : List WorkerOf)
    → weight_picked weight (picked_of (pass ∷ passes)) ≡ weight_of pass.picked + weight_picked weight (picked_of passes)
with_others pass passes = sum_by-cons (sum_by (λ (pick : PickOf). weight pick.1)) pass.picked (picked_of passes)

-- a `Stop` for each worker
each_has_one : (workers : List WorkerOf) → All (λ (pass : WorkerOf). EndsAtStop pass.picked) workers → length workers ≤ weight_picked weight (picked_of workers)
each_has_one [] all = omega arith
each_has_one (pass ∷ workers) all =
    let one = weighs_one pass.picked (All-head (λ (p : WorkerOf). EndsAtStop p.picked) pass workers all) in
    let others = each_has_one workers (All-tail (λ (p : WorkerOf). EndsAtStop p.picked) pass workers all) in
    let whole = with_others pass workers in
    omega (arith, one, others, whole)

with_own_pass : (own_pass : Option WorkerOf) (workers : List WorkerOf)
    → weight_picked weight (picked_of workers) ≤ weight_picked weight (picked_of (option_to_list own_pass ++ workers))
with_own_pass None workers = omega arith
with_own_pass (Some own_pass) workers = let whole = with_others own_pass workers in omega (arith, whole)

one_behind : (count : ℕ) → replicate (suc count) Stop ≡ replicate count Stop ++ Stop ∷ []
one_behind zero = refl
one_behind (suc count) = ap (λ l. Stop ∷ l) (one_behind count)

-- what is left of a list that ends with a `Stop` weighs something, or it is nothing
end_by : (front : List WorkOf) (count : ℕ) → sum_by weight (drop count (front ++ Stop ∷ [])) ≡ 0 → (length front < count) ⊎ (count ≤ length front)
    → drop count (front ++ Stop ∷ []) ≡ []
end_by front count nothing (inl past) =
    let long = length-append front (Stop ∷ []) in drop_of_length-le (front ++ Stop ∷ []) (omega (arith, long, past))
end_by front count nothing (inr within) =
    let weighs = ap (sum_by weight) (drop-append-le count front (Stop ∷ []) within) in
    let more = sum_by_push weight (drop count front) Stop in
    absurd (omega (arith, nothing, weighs, more))

end_is_left : (front : List WorkOf) (count : ℕ) → sum_by weight (drop count (front ++ Stop ∷ [])) ≡ 0 → drop count (front ++ Stop ∷ []) ≡ []
end_is_left front count nothing = end_by front count nothing (cases_lt (length front) count)

-- what is offered weighs as much as there are workers
offered_weighs : (before : List WorkOf) (threads : ℕ) → count_by is_stop before ≡ 0 → sum_by weight (before ++ replicate threads Stop) ≡ threads
offered_weighs before threads none =
    let parts = sum_by-append weight before (replicate threads Stop) in
    let stops = sum_by-replicate weight threads Stop in
    omega (arith, parts, stops, none)

pub nothing_left : (before : List WorkOf) (threads : ℕ) (own_pass : Option WorkerOf) (workers : List WorkerOf) (left : List WorkOf)
    → IsSplitInto (before ++ replicate threads Stop) (picked_of (option_to_list own_pass ++ workers)) left
    → WeighAlike (before ++ replicate threads Stop) (picked_of (option_to_list own_pass ++ workers)) left
    → count_by is_stop before ≡ 0 → All (λ (pass : WorkerOf). EndsAtStop pass.picked) workers → length workers ≡ threads → 1 ≤ threads → left ≡ []
nothing_left before zero own_pass workers left parted alike none stopped as_many some = absurd (omega (arith, some))
nothing_left before (suc threads) own_pass workers left parted alike none stopped as_many some =
    let offered = offered_weighs before (suc threads) none in
    let each = each_has_one workers stopped in
    let all = with_own_pass own_pass workers in
    let same = alike weight in
    let nothing : sum_by weight left ≡ 0 = omega (arith, offered, each, all, same, as_many) in
    let behind : before ++ replicate (suc threads) Stop ≡ (before ++ replicate threads Stop) ++ Stop ∷ [] =
    ap (λ l. before ++ l) (one_behind threads) ∙ sym (append_assoc before (replicate threads Stop) (Stop ∷ [])) in
    let left_is : left ≡ drop parted.count ((before ++ replicate threads Stop) ++ Stop ∷ []) = parted.others ∙ ap (drop parted.count) behind in
    left_is ∙ end_is_left (before ++ replicate threads Stop) parted.count (ap (sum_by weight) (sym left_is) ∙ nothing)
