-- A pass that knows all takes out what nobody picked.
use Rattle.std.proofs.Common.{◌≡◌, ℕ, cond, List, [], ◌∷◌, ◌++◌, length, drop, refl, sym, ap, ◌∙◌, subst, append_assoc, length-append, arith}
use Rattle.std.specs.Prelude.{◌==◌, All, sum_by}
use Rattle.std.specs.List.{enumerate_from}
use Rattle.std.proofs.lemmas.Bool.{true≢false}
use Rattle.std.proofs.lemmas.List.{drop_at}
use Rattle.std.proofs.lemmas.List.Elements.{All-weaker}
use Rattle.std.proofs.lemmas.List.Sums.{sum_by-append}
use Rattle.crossbeam_queue.specs.Fifo.{Pops, Learns}
use Rattle.cown_bench.specs.inner.BenchRule.{weight_known, ArePicks, IsPassState, IsBenchState, AddsLeft, KnowsAll}
use Rattle.cown_bench.specs.OfferedWorks.{AreRising, AreOffered}
use Rattle.cown_bench.specs.Picks.{WorkOf, PickOf}
use Rattle.cown_bench.specs.inner.PassViews.{all_parts, owner_view, absorbed_view}
use Rattle.cown_bench.specs.declared.pass_history.PassHistory.{PassHistory}
use Rattle.cown_bench.proofs.EnumeratedLists.{sum_by-enumerate_from, count_by-enumerate_from}
use Rattle.cown_bench.proofs.PickLists.{AreOffered-longer, told_picks, weight-own}
use Rattle.cown_bench.proofs.Sums.{sum_by-changed, others_none, sole_sum, each_set}

module _ (pass : ℕ) (offered : List WorkOf) (absorbed : List (List PickOf)) (drained : List WorkOf) where
  -- one more is taken out
  pub takes_out : Pops IsBenchState pass (owner_view all_parts offered absorbed drained) (AddsLeft (owner_view all_parts offered absorbed drained))
  takes_out work items views rule here =
      let v = owner_view all_parts offered absorbed drained in
      let w = owner_view all_parts offered absorbed (drained ++ work ∷ []) in
      let mine = rule.each pass v here in
      let same : drained ≡ rule.drained = mine.drains refl in
      let long : length drained ≡ length rule.drained = ap length same in (
        w,
        record {
          owner = rule.owner;
          offered = rule.offered;
          taken = rule.taken;
          drained = rule.drained ++ work ∷ [];
          order = rule.order ∙ ap (λ l. rule.taken ++ l) (sym (append_assoc rule.drained (work ∷ []) items));
          room = omega (arith, rule.room, length-append rule.drained (work ∷ []));
          whole = (let change = sum_by-changed (λ (known : PassHistory). known.parts) views pass v w here in omega (arith, change, rule.whole));
          weights = λ weight. (let change = sum_by-changed (weight_known weight) views pass v w here in omega (arith, change, rule.weights weight));
          each = each_set (IsPassState rule.owner rule.offered rule.taken (rule.drained ++ work ∷ [])) views pass w
              (record {
                sole = mine.sole;
                offers = mine.offers;
                drains = λ _. ap (λ l. l ++ work ∷ []) same;
                works = λ off _. absurd (true≢false off);
                idle = λ no_part. absurd (omega (arith, no_part));
                picks = mine.picks;
              })
              (λ j u apart there. let theirs = rule.each j u there in record {
                sole = theirs.sole;
                offers = theirs.offers;
                drains = λ they. absurd (apart (theirs.sole they ∙ sym (mine.sole refl)));
                works = λ _ some_part.
                    let nothing : u.parts ≡ 0 =
                    others_none (λ (known : PassHistory). known.parts) views pass v absorbed_view refl here rule.whole j u apart there in
                    absurd (omega (arith, nothing, some_part));
                idle = theirs.idle;
                picks = theirs.picks;
              });
        },
        (omega (arith, rule.room, long), refl),
      )

  -- what the pass knows is all that was taken, and the rest is left
  pub knows_all : Learns IsBenchState pass (owner_view all_parts offered absorbed drained) (KnowsAll (owner_view all_parts offered absorbed drained))
  knows_all items views rule here =
      let v = owner_view all_parts offered absorbed drained in
      let taken = rule.taken in
      let left = drained ++ items in
      let mine = rule.each pass v here in
      let whole : offered ≡ taken ++ left = mine.offers refl ∙ rule.order ∙ ap (λ l. taken ++ (l ++ items)) (sym (mine.drains refl)) in
      let weights : (weight : PickOf → ℕ) → sum_by (sum_by weight) absorbed ≡ sum_by weight (enumerate_from 0 taken) = λ weight.
      (let sole = sole_sum (λ (known : PassHistory). known.parts) views pass v absorbed_view refl here rule.whole (weight_known weight) refl
      (λ j u there no_part. let nothing = (rule.each j u there).idle no_part in
      ap (λ (x : List PickOf × List (List PickOf)). sum_by (sum_by weight) (x.0 ∷ x.1)) (λ i. (nothing.0 i, nothing.1 i))) in
      omega (arith, sole, weight-own weight [] absorbed, rule.weights weight)) in
      let picks = told_picks taken [] absorbed mine.picks in (
        record {
          count = length taken;
          within = omega (arith, ap length whole, length-append taken left);
          others = sym (ap (drop (length taken)) whole ∙ drop_at taken left (length taken) refl);
          once = λ position. weights (λ (pick : PickOf). cond (pick.0 == position) 1 0) ∙ count_by-enumerate_from position taken;
          rising = All-weaker (ArePicks taken) AreRising (λ picks are. are.rising) absorbed picks;
          as_offered = subst (λ (l : List WorkOf). All (AreOffered l) absorbed) (sym whole)
              (All-weaker (ArePicks taken) (AreOffered (taken ++ left)) (λ picks are. AreOffered-longer taken left picks are.right) absorbed picks);
        },
        λ weight.
            let picked = weights (λ (pick : PickOf). weight pick.1) ∙ sum_by-enumerate_from weight 0 taken in
            omega (arith, picked, ap (sum_by weight) whole, sum_by-append weight taken left),
      )

-- both, at a known view
pub takes_out_as : (pass : ℕ) (v : PassHistory) (offered : List WorkOf) (absorbed : List (List PickOf)) (drained : List WorkOf)
    → v ≡ owner_view all_parts offered absorbed drained → Pops IsBenchState pass v (AddsLeft v) × Learns IsBenchState pass v (KnowsAll v)
takes_out_as pass v offered absorbed drained is =
    subst (λ (u : PassHistory). Pops IsBenchState pass u (AddsLeft u) × Learns IsBenchState pass u (KnowsAll u)) (sym is)
    (takes_out pass offered absorbed drained, knows_all pass offered absorbed drained)
