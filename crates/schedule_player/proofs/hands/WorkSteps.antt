-- One worker does what is left undone.
use Rattle.std.proofs.Common.{◌≡◌, ℕ, zero, suc, ◌+◌, ◌<◌, ◌≤◌, Some, None, List, [], ◌∷◌, length, replicate, refl, sym, ap, subst, ◌∙◌, arith}
use Rattle.std.specs.Prelude.{slice_get, slice_set}
use Rattle.std.proofs.lemmas.List.{length-set}
use Rattle.std.proofs.lemmas.Option.{slice_get_within}
use Rattle.cown_board.proofs.StateChanges.{slice_get-set_same}
use Rattle.sb_sequencer.specs.Sequencer.{SequencerOf}
use Rattle.schedule_player.specs.Bank.{BankOf}
use Rattle.schedule_player.specs.OneBased.{nth_item}
use Rattle.schedule_player.specs.Readiness.{runnable_entries}
use Rattle.schedule_player.specs.ReplicaMoves.{NodeOf, undone_in, take_entry, take_by_hand, take_move, with_empty_hand, finish_by_stage, finish_by_hand, finish_move}
use Rattle.schedule_player.specs.inner.SettlingSteps.{IsAtRest}
use Rattle.schedule_player.specs.inner.OutInHands.{OutIsInHands}
use Rattle.schedule_player.specs.Stage.{Waits, IsOut, IsDone}
use Rattle.schedule_text.specs.declared.event.NodeEvent.TheVariants as event
use Rattle.schedule_player.proofs.Lists.{every_replicate, every_numbered, set_here}
use Rattle.cown_board.proofs.LogLaws.{no_some as none_some}
use Rattle.schedule_player.proofs.hands.OutInHands.{stays_staffed}
use Rattle.schedule_player.proofs.boards.Stages.{get-replicate}
use Rattle.schedule_player.proofs.boards.FirstUndone.{undone-set, all_done, first_runs}

pub set_twice : {A : Type 0} (xs : List A) (k : ℕ) (x y : A) → slice_set (slice_set xs k x) k y ≡ slice_set xs k y
set_twice [] k x y = refl
set_twice (z ∷ xs) zero x y = refl
set_twice (z ∷ xs) (suc k) x y = ap (λ t. z ∷ t) (set_twice xs k x y)

-- nothing is out
none_out : (node : NodeOf) → IsAtRest node → (k : ℕ) → slice_get node.stages k ≡ Some IsOut → ⊥
none_out node rest k here =
    let found = rest.able.out_in_hands.out (suc k) here in
    every_numbered (λ hand. (n : ℕ) → hand ≡ Some n → ⊥) (replicate (length node.hands) None) found.0 (Some (suc k))
    (every_replicate (λ hand. (n : ℕ) → hand ≡ Some n → ⊥) (length node.hands) None (λ n e. none_some e))
    (ap (λ hands. nth_item hands found.0) (sym rest.empty) ∙ found.1) (suc k) refl

-- the first worker's hand is empty
first_empty : (node : NodeOf) → IsAtRest node → slice_get node.hands 0 ≡ Some None
first_empty node rest =
    ap (λ hands. slice_get hands 0) rest.empty
    ∙ get-replicate (length node.hands) None 0 (let some = rest.able.out_in_hands.some in omega (arith, some))

-- ---- one entry

-- the first worker takes the first entry that may run, and finishes it
abbrev pub worked : BankOf → NodeOf → NodeOf
worked bank node = (finish_move bank (take_move bank node 1 0).0 1).0

-- so the entry at a place is done, and nothing else changed
done_at : (bank : BankOf) (node : NodeOf) (k : ℕ) → slice_get node.hands 0 ≡ Some None → slice_get node.stages k ≡ Some Waits
    → slice_get (runnable_entries bank node.stages) 0 ≡ Some k → worked bank node ≡ record node { stages = slice_set node.stages k IsDone }
done_at bank node k empty here runs =
    let mid : NodeOf = (take_entry node 1 (Some k)).0 in
    let takes : (take_move bank node 1 0).0 ≡ mid =
    ap (λ hand. (take_by_hand bank node 1 0 hand).0) empty ∙ ap (λ place. (take_entry node 1 place).0) runs in
    let full : nth_item mid.hands 1 ≡ Some (Some (suc k)) =
    slice_get-set_same node.hands 0 (Some (suc k)) (slice_get_within node.hands 0 None empty) in
    let out : nth_item mid.stages (suc k) ≡ Some IsOut = slice_get-set_same node.stages k IsOut (slice_get_within node.stages k Waits here) in
    let stages = set_twice node.stages k IsOut IsDone in
    let hands = set_twice node.hands 0 (Some (suc k)) None ∙ set_here node.hands 0 None empty in
    ap (λ one. (finish_move bank one 1).0) takes
    ∙ ap (λ hand. (finish_by_hand bank mid 1 hand).0) full
    ∙ ap (λ stage. (finish_by_stage bank (with_empty_hand mid 1) (suc k) stage).0) out
    ∙ (λ j. record node { stages = stages j; hands = hands j })

-- this many more are done, nothing else changed, and it is at rest
pub record Does (count : ℕ) (old new : NodeOf) : Type 0 where
  pub rest : IsAtRest new
  pub undone : count + undone_in new ≡ undone_in old
  pub stages : length new.stages ≡ length old.stages
  pub same : new ≡ record old { stages = new.stages }

does_one : (bank : BankOf) (s : SequencerOf) (node : NodeOf) → IsAtRest node → 0 < undone_in node → Does 1 node (worked bank node)
does_one bank s node rest some =
    let first = first_runs bank node.stages (none_out node rest) some in
    let is = done_at bank node first.0 (first_empty node rest) first.1 first.2 in
    let out_in_hands : OutIsInHands (worked bank node) =
    stays_staffed bank s 0 (take_move bank node 1 0).0 (event.Finish 1) (stays_staffed bank s 0 node (event.Take 1 0) rest.able.out_in_hands) in
    let size = length-set node.stages first.0 IsDone in
    let less = undone-set node.stages first.0 Waits first.1 refl in
    subst (Does 1 node) (sym is)
    (record {
      rest = record {
        able = record {
          out_in_hands = subst OutIsInHands is out_in_hands;
          within = let within = rest.able.within in omega (arith, size, within);
        };
        empty = rest.empty;
      };
      undone = omega (arith, less);
      stages = size;
      same = refl;
    })

-- ---- one after another

abbrev pub works : BankOf → NodeOf → ℕ → NodeOf
works bank node zero = node
works bank node (suc n) = worked bank (works bank node n)

pub does_so_many : (bank : BankOf) (s : SequencerOf) (node : NodeOf) (n : ℕ) → IsAtRest node → n ≤ undone_in node → Does n node (works bank node n)
does_so_many bank s node zero rest le = record { rest = rest; undone = omega arith; stages = refl; same = refl }
does_so_many bank s node (suc n) rest le =
    let mid = works bank node n in
    let new = works bank node (suc n) in
    let so_far = does_so_many bank s node n rest (omega (arith, le)) in
    let left = so_far.undone in
    let one = does_one bank s mid so_far.rest (omega (arith, left, le)) in
    let less = one.undone in
    record {
      rest = one.rest;
      undone = omega (arith, left, less);
      stages = one.stages ∙ so_far.stages;
      same = one.same ∙ ap (λ (between : NodeOf). record between { stages = new.stages }) so_far.same;
    }

-- once no entry is undone
pub all_worked : (bank : BankOf) (s : SequencerOf) (node : NodeOf) → IsAtRest node
    → works bank node (undone_in node) ≡ record node { stages = replicate (length node.stages) IsDone }
all_worked bank s node rest =
    let new = works bank node (undone_in node) in
    let all = does_so_many bank s node (undone_in node) rest (omega arith) in
    let left = all.undone in
    let stages : new.stages ≡ replicate (length node.stages) IsDone =
    all_done new.stages (omega (arith, left)) ∙ ap (λ n. replicate n IsDone) all.stages in
    all.same ∙ ap (λ s. record node { stages = s }) stages
