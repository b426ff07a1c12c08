-- The invariant of a cut, at each change of a board.
use Rattle.std.proofs.Common.{◌≡◌, inl, inr, ℕ, zero, suc, ◌+◌, ◌-◌, ◌<◌, ◌≤◌, ℤ, true, false, Option, Some, None, List, [], ◌∷◌, ◌++◌, length, length-append, take, refl, sym, ap, subst, ◌∙◌, arith}
use Rattle.std.specs.Prelude.{IfSome, slice_get, slice_set, option_map}
use Rattle.std.proofs.Math.Seq.{take-set-lt}
use Rattle.std.proofs.lemmas.Bool.{cases_lt}
use Rattle.std.proofs.lemmas.List.{take-append-le, take-set-le, take-take}
use Rattle.sb_calls.specs.SerialRun.{inputs_of, contents_after, contents_after_first, reply_of, share_cown}
use Rattle.sb_calls.specs.declared.reply.Reply.{Reply}
use Rattle.cown_board.proofs.UnfinishedCounts.{count-set, count_some}
use Rattle.cown_board.proofs.FinishInvariant.{keeps_finished}
use Rattle.cown_board.proofs.TakeInvariant.{keeps_taken}
use Rattle.cown_board.specs.inner.BoardInvariant.{IsCut}
use Rattle.cown_board.specs.inner.CutUpdates.{UpdatesCut, UpdatesAnyCut}
use Rattle.cown_board.specs.Readiness.{touched_by, conflict_at}
use Rattle.cown_board.specs.State.{is_unfinished, state_is, unfinished_at}
use Rattle.cown_board.specs.declared.cut.Cut.{Cut}
use Rattle.cown_board.specs.declared.state.State.{State}
use Rattle.cown_board.specs.declared.state.State.TheVariants.{Waiting, Out, Finished}

-- the front of a list has the same elements
pub slice_get-take : {A : Type 0} (xs : List A) (n k : ℕ) → k < n → slice_get (take n xs) k ≡ slice_get xs k
slice_get-take xs zero k lt = absurd (omega (arith, lt))
slice_get-take [] (suc n) k lt = refl
slice_get-take (x ∷ xs) (suc n) zero lt = refl
slice_get-take (x ∷ xs) (suc n) (suc k) lt = slice_get-take xs n k (omega (arith, lt))

-- a finish leaves a cut its length
pub noted_number : (number : ℕ) (cowns : List ℕ) (values : List ℤ) (old new : Option Cut) → UpdatesAnyCut number cowns values old new
    → option_map (λ cut. cut.number) new ≡ option_map (λ cut. cut.number) old
noted_number number cowns values None None noted = refl
noted_number number cowns values None (Some new) noted = absurd noted
noted_number number cowns values (Some old) None noted = absurd noted
noted_number number cowns values (Some old) (Some new) noted = ap (λ n. Some n) noted.same

module _ {B : Type 0} (touches : B → List ℕ) (effect : B → List ℤ → Reply × List ℤ) (opening : List ℤ) (base : ℕ) (log : List B) (states : List State) where
  -- what leaves a cut's fronts unchanged leaves the cut unchanged
  cut_stays : (log' : List B) (states' : List State) (cut : Cut) → IsCut touches effect opening base log states cut → length log ≤ length log'
      → take (cut.number - base) log' ≡ take (cut.number - base) log → take (cut.number - base) states' ≡ take (cut.number - base) states
      → IsCut touches effect opening base log' states' cut
  cut_stays log' states' cut kept longer same_log same_states = record {
    after = kept.after;
    within = omega (arith, kept.within, longer);
    keeps = rw (same_log, same_states) kept.keeps;
    unfinished = rw same_states kept.unfinished;
  }

  pub cut_submitted : (b : B) → length log ≡ length states → (cut : Cut) → IsCut touches effect opening base log states cut
      → IsCut touches effect opening base (log ++ b ∷ []) (states ++ Waiting ∷ []) cut
  cut_submitted b same_length cut kept =
      let longer : length (log ++ b ∷ []) ≡ length log + 1 = length-append log (b ∷ []) in
      cut_stays (log ++ b ∷ []) (states ++ Waiting ∷ []) cut kept (omega (arith, longer))
      (take-append-le (cut.number - base) log (b ∷ []) (omega (arith, kept.within)))
      (take-append-le (cut.number - base) states (Waiting ∷ []) (omega (arith, kept.within, same_length)))

  -- a change after a cut's fronts leaves the cut
  set_after : (k : ℕ) (s : State) (cut : Cut) → cut.number - base ≤ k → IsCut touches effect opening base log states cut
      → IsCut touches effect opening base log (slice_set states k s) cut
  set_after k s cut ge kept = cut_stays log (slice_set states k s) cut kept (omega arith) refl (take-set-le (cut.number - base) states k s ge)

  -- two places of a front that share a cown share it in the whole log
  conflict-take : (n j k : ℕ) → j < k → k < n → conflict_at touches (take n log) j k ≡ conflict_at touches log j k
  conflict-take n j k before lt =
      ap (λ o. share_cown (touched_by touches o) (touched_by touches (slice_get (take n log) k))) (slice_get-take log n j (omega (arith, before, lt)))
      ∙ ap (λ o. share_cown (touched_by touches (slice_get log j)) (touched_by touches o)) (slice_get-take log n k lt)

  pub cut_taken : (k : ℕ) → slice_get states k ≡ Some Waiting → ((j : ℕ) → j < k → conflict_at touches log j k ≡ true → unfinished_at states j ≡ false)
      → (cut : Cut) → IsCut touches effect opening base log states cut → IsCut touches effect opening base log (slice_set states k Out) cut
  cut_taken k here clear cut kept =
      let n = cut.number - base in
      elim (cases_lt k n) [
        | inl lt ↦
            let waits : slice_get (take n states) k ≡ Some Waiting = slice_get-take states n k lt ∙ here in
            let set_within : take n (slice_set states k Out) ≡ slice_set (take n states) k Out = take-set-lt n states k Out lt in
            record {
              after = kept.after;
              within = kept.within;
              keeps = rw set_within (keeps_taken touches effect kept.keeps k waits (λ j before conflict.
                  ap (state_is is_unfinished) (slice_get-take states n j (omega (arith, before, lt)))
                  ∙ clear j before (sym (conflict-take n j k before lt) ∙ conflict)));
              unfinished = rw set_within (let count = count-set (take n states) k Waiting Out waits in omega (arith, count, kept.unfinished));
            }
        | inr ge ↦ set_after k Out cut ge kept
      ]

  module _ (k : ℕ) (b : B) (here : slice_get log k ≡ Some b) (out : slice_get states k ≡ Some Out) where
    -- a behaviour of a cut that is out counts as unfinished
    pub some_of_cut : (cut : Cut) → IsCut touches effect opening base log states cut → suc (base + k) ≤ cut.number → 1 ≤ cut.unfinished
    some_of_cut cut kept le =
        let n = cut.number - base in
        let some = count_some (take n states) k Out (slice_get-take states n k (omega (arith, le)) ∙ out) refl in
        omega (arith, some, kept.unfinished)

    module _ (reply : Reply) (outputs : List ℤ) (long : length outputs ≡ length (touches b))
        (replied : reply ≡ reply_of touches effect (contents_after_first touches effect opening log k) b)
        (left : outputs ≡ (effect b (inputs_of touches effect (contents_after_first touches effect opening log k) b)).1) where
      cut_finished : (old new : Cut) → UpdatesCut (suc (base + k)) (touches b) outputs old new → IsCut touches effect opening base log states old
          → IsCut touches effect opening base log (slice_set states k (Finished reply)) new
      cut_finished old new noted kept =
          let n = old.number - base in
          elim (cases_lt k n) [
            | inl lt ↦
                let same : new.number - base ≡ n = ap (λ m. m - base) noted.same in
                let begun : slice_get (take n states) k ≡ Some Out = slice_get-take states n k lt ∙ out in
                let set_within : take n (slice_set states k (Finished reply)) ≡ slice_set (take n states) k (Finished reply) =
                take-set-lt n states k (Finished reply) lt in
                let before : contents_after_first touches effect opening log k ≡ contents_after_first touches effect opening (take n log) k =
                ap (contents_after touches effect opening) (sym (take-take k n log (omega (arith, lt)))) in
                let fewer = noted.fewer (omega (arith, lt)) in
                let count = count-set (take n states) k Out (Finished reply) begun in
                record {
                  after = omega (arith, kept.after, noted.same);
                  within = omega (arith, kept.within, noted.same);
                  keeps = rw (same, set_within, noted.written (omega (arith, lt))) (keeps_finished touches effect kept.keeps k b
                      (slice_get-take log n k lt ∙ here) begun reply outputs long
                      (replied ∙ ap (λ held. reply_of touches effect held b) before)
                      (left ∙ ap (λ held. (effect b (inputs_of touches effect held b)).1) before));
                  unfinished = rw (same, set_within) (omega (arith, fewer, count, kept.unfinished));
                }
            | inr ge ↦ subst (IsCut touches effect opening base log (slice_set states k (Finished reply)))
                (sym (noted.before (omega (arith, ge, kept.after)))) (set_after k (Finished reply) old ge kept)
          ]

      pub any_cut_finished : (old new : Option Cut) → UpdatesAnyCut (suc (base + k)) (touches b) outputs old new
          → IfSome old (IsCut touches effect opening base log states)
          → IfSome new (IsCut touches effect opening base log (slice_set states k (Finished reply)))
      any_cut_finished None None noted kept = tt
      any_cut_finished None (Some new) noted kept = absurd noted
      any_cut_finished (Some old) None noted kept = absurd noted
      any_cut_finished (Some old) (Some new) noted kept = cut_finished old new noted kept
