-- Every hand is emptied.
use Rattle.std.proofs.Common.{◌≡◌, inl, inr, ℕ, zero, suc, ◌<◌, ◌≤◌, Option, Some, None, List, [], ◌∷◌, length, replicate, refl, sym, ap, ◌∙◌, arith}
use Rattle.std.specs.Prelude.{slice_get, slice_set}
use Rattle.std.proofs.lemmas.Bool.{cases_eq}
use Rattle.std.proofs.lemmas.List.{length-set}
use Rattle.cown_board.proofs.StateChanges.{slice_get-set_same, slice_get-set_other}
use Rattle.sb_sequencer.specs.Sequencer.{SequencerOf}
use Rattle.schedule_player.specs.Bank.{BankOf}
use Rattle.schedule_player.specs.OneBased.{nth_item, with_nth}
use Rattle.schedule_player.specs.ReplicaMoves.{NodeOf, undone_in, with_empty_hand, finish_by_stage, finish_by_hand, finish_move}
use Rattle.schedule_player.specs.inner.OutInHands.{OutIsInHands}
use Rattle.schedule_player.specs.Stage.{Stage, Waits, IsOut, IsDone}
use Rattle.schedule_text.specs.declared.event.NodeEvent.TheVariants as event
use Rattle.schedule_player.proofs.Lists.{set_here}
use Rattle.cown_board.proofs.LogLaws.{no_some as none_some}
use Rattle.schedule_player.proofs.hands.OutInHands.{stays_staffed, length-with}
use Rattle.schedule_player.proofs.boards.FirstUndone.{undone-set}

-- only stages and hands changed, their numbers stay, and no more entries are undone
pub record WorksOn (old new : NodeOf) : Type 0 where
  pub stages : length new.stages ≡ length old.stages
  pub hands : length new.hands ≡ length old.hands
  pub undone : undone_in new ≤ undone_in old
  pub same : new ≡ record old { stages = new.stages; hands = new.hands }

pub works_on : (old mid new : NodeOf) → WorksOn old mid → WorksOn mid new → WorksOn old new
works_on old mid new first more = record {
  stages = more.stages ∙ first.stages;
  hands = more.hands ∙ first.hands;
  undone = let a = first.undone in let b = more.undone in omega (arith, a, b);
  same = more.same ∙ ap (λ (node : NodeOf). record node { stages = new.stages; hands = new.hands }) first.same;
}

-- ---- a worker finishes

record Empties (node : NodeOf) (worker : ℕ) (new : NodeOf) : Type 0 where
  work : WorksOn node new
  hand : new.hands ≡ with_nth node.hands worker None

set_past : {A : Type 0} (xs : List A) (k : ℕ) (x : A) → slice_get xs k ≡ None → slice_set xs k x ≡ xs
set_past [] k x past = refl
set_past (y ∷ xs) zero x past = absurd (none_some (sym past))
set_past (y ∷ xs) (suc k) x past = ap (λ t. y ∷ t) (set_past xs k x past)

no_worker : (hands : List (Option ℕ)) (worker : ℕ) → nth_item hands worker ≡ None → hands ≡ with_nth hands worker None
no_worker hands zero none = refl
no_worker hands (suc k) none = sym (set_past hands k None none)

empty_hand : (hands : List (Option ℕ)) (worker : ℕ) → nth_item hands worker ≡ Some None → hands ≡ with_nth hands worker None
empty_hand hands zero here = refl
empty_hand hands (suc k) here = sym (set_here hands k None here)

stays : (node : NodeOf) (worker : ℕ) → node.hands ≡ with_nth node.hands worker None → Empties node worker node
stays node worker same = record {
  work = record { stages = refl; hands = refl; undone = omega arith; same = refl };
  hand = same;
}

gives_only : (node : NodeOf) (worker : ℕ) → Empties node worker (with_empty_hand node worker)
gives_only node worker = record {
  work = record { stages = refl; hands = length-with node.hands worker None; undone = omega arith; same = refl };
  hand = refl;
}

comes : (bank : BankOf) (node : NodeOf) (worker n : ℕ) (stage : Option Stage) → nth_item node.stages n ≡ stage
    → Empties node worker (finish_by_stage bank (with_empty_hand node worker) n stage).0
comes bank node worker zero (Some IsOut) here = absurd (none_some here)
comes bank node worker (suc k) (Some IsOut) here = record {
  work = record {
    stages = length-set node.stages k IsDone;
    hands = length-with node.hands worker None;
    undone = let less = undone-set node.stages k IsOut here refl in omega (arith, less);
    same = refl;
  };
  hand = refl;
}
comes bank node worker n (Some Waits) here = gives_only node worker
comes bank node worker n (Some IsDone) here = gives_only node worker
comes bank node worker n None here = gives_only node worker

gives : (bank : BankOf) (node : NodeOf) (worker : ℕ) (hand : Option (Option ℕ)) → nth_item node.hands worker ≡ hand
    → Empties node worker (finish_by_hand bank node worker hand).0
gives bank node worker None here = stays node worker (no_worker node.hands worker here)
gives bank node worker (Some None) here = stays node worker (empty_hand node.hands worker here)
gives bank node worker (Some (Some n)) here = comes bank node worker n (nth_item node.stages n) refl

finish_empties : (bank : BankOf) (node : NodeOf) (worker : ℕ) → Empties node worker (finish_move bank node worker).0
finish_empties bank node worker = gives bank node worker (nth_item node.hands worker) refl

-- ---- one after another

-- a replica after its first so many workers have finished
abbrev pub finishes : BankOf → NodeOf → ℕ → NodeOf
finishes bank node zero = node
finishes bank node (suc k) = (finish_move bank (finishes bank node k) (suc k)).0

record Emptied (node : NodeOf) (k : ℕ) (new : NodeOf) : Type 0 where
  work : WorksOn node new
  out_in_hands : OutIsInHands new
  empty : (j : ℕ) → j < k → j < length new.hands → slice_get new.hands j ≡ Some None

emptied_so : (bank : BankOf) (s : SequencerOf) (node : NodeOf) (k : ℕ) → OutIsInHands node → Emptied node k (finishes bank node k)
emptied_so bank s node zero is = record {
  work = record { stages = refl; hands = refl; undone = omega arith; same = refl };
  out_in_hands = is;
  empty = λ j lt within. absurd (omega (arith, lt));
}
emptied_so bank s node (suc k) is =
    let mid = finishes bank node k in
    let new = finishes bank node (suc k) in
    let so_far = emptied_so bank s node k is in
    let one = finish_empties bank mid (suc k) in
    record {
      work = works_on node mid new so_far.work one.work;
      out_in_hands = stays_staffed bank s 0 mid (event.Finish (suc k)) so_far.out_in_hands;
      empty = λ j lt within.
          let many = one.work.hands in
          ap (λ hands. slice_get hands j) one.hand ∙ elim (cases_eq j k) [
            | inl at ↦
                ap (slice_get (slice_set mid.hands k None)) at
                ∙ slice_get-set_same mid.hands k None (omega (arith, many, within, at))
            | inr differs ↦
                slice_get-set_other mid.hands k j None differs ∙ so_far.empty j (omega (arith, lt, differs)) (omega (arith, many, within))
          ];
    }

all_empty : (hands : List (Option ℕ)) → ((j : ℕ) → j < length hands → slice_get hands j ≡ Some None) → hands ≡ replicate (length hands) None
all_empty [] empty = refl
all_empty (hand ∷ hands) empty =
    λ i. some_hand (empty 0 (omega arith)) i ∷ all_empty hands (λ j lt. empty (suc j) (omega (arith, lt))) i
  where
    some_hand : {x y : Option ℕ} → ◌≡◌ {A = Option (Option ℕ)} (Some x) (Some y) → x ≡ y
    some_hand h = cc

-- once all have finished every hand is empty
pub record AllEmpty (node new : NodeOf) : Type 0 where
  pub work : WorksOn node new
  pub out_in_hands : OutIsInHands new
  pub empty : new.hands ≡ replicate (length new.hands) None

pub all_finished : (bank : BankOf) (s : SequencerOf) (node : NodeOf) → OutIsInHands node → AllEmpty node (finishes bank node (length node.hands))
all_finished bank s node is =
    let new = finishes bank node (length node.hands) in
    let all = emptied_so bank s node (length node.hands) is in
    record {
      work = all.work;
      out_in_hands = all.out_in_hands;
      empty = all_empty new.hands (λ j lt. let many = all.work.hands in all.empty j (omega (arith, many, lt)) lt);
    }
