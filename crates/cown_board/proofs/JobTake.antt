-- The job that is handed out.
use Rattle.std.proofs.Common.{◌≡◌, ℕ, ◌+◌, ◌<◌, ◌≤◌, ℤ, true, false, Some, List, length, take, refl, sym, ap, subst, ◌∙◌, arith}
use Rattle.std.specs.Prelude.{slice_get, slice_set, option_map}
use Rattle.sb_calls.specs.Cowns.{AreBelow, AreCownValues, contents_of, read_cowns}
use Rattle.sb_calls.specs.SerialRun.{is_among, inputs_of, contents_after_first}
use Rattle.sb_calls.specs.declared.reply.Reply.{Reply}
use Rattle.cown_board.proofs.BoardSteps.{IsBoard-taken}
use Rattle.cown_board.proofs.CownLists.{below_from}
use Rattle.sb_calls.proofs.CownContents.{AreCownValues-read}
use Rattle.cown_board.proofs.ReadyInputs.{holds_inputs}
use Rattle.cown_board.proofs.ReadyListLaws.{clear_fact, ready_parts}
use Rattle.cown_board.proofs.LogLaws.{IsContents-after_first, length-after, some_at}
use Rattle.cown_board.proofs.StateChanges.{state_here}
use Rattle.cown_board.specs.Board.{BoardOf, Takes}
use Rattle.cown_board.specs.inner.BoardInvariant.{AreLinks, BoardInside, IsBoard}
use Rattle.cown_board.specs.Readiness.{touched_by, conflict_at, ready_positions}
use Rattle.cown_board.specs.State.{is_unfinished, unfinished_at}
use Rattle.cown_board.specs.declared.links.Links.{Links}
use Rattle.cown_board.specs.declared.state.State.TheVariants.{Waiting, Out}

module _ {B : Type 0} (touches : B → List ℕ) (effect : B → List ℤ → Reply × List ℤ)
    {inside : BoardInside B} (board : IsBoard touches effect inside) where
  -- what callers see of the board
  abbrev pub seen : BoardOf B
  seen = record {
    opening = inside.opening;
    base_replies = inside.base_replies;
    log = inside.log;
    states = inside.states;
    cut = option_map (λ cut. cut.number) inside.cut;
  }

  -- the cowns of each behaviour exist
  pub declared_below : (k : ℕ) (b : B) → slice_get inside.log k ≡ Some b → AreBelow (length (contents_of inside.opening)) (touches b)
  declared_below k b here = below_from (length (contents_of inside.opening)) (touches b) (λ cown among.
      board.keeps.in_range k cown (ap (λ o. is_among cown (touched_by touches o)) here ∙ among))

  pub declared_in_held : (k : ℕ) (b : B) → slice_get inside.log k ≡ Some b → AreBelow (length (contents_of inside.now)) (touches b)
  declared_in_held k b here = rw board.keeps.cown_count (declared_below k b here)

  -- what is known of a ready place
  pub record IsTakable (k : ℕ) (b : B) : Type 0 where
    pub waits : slice_get inside.states k ≡ Some Waiting
    pub clear : (j : ℕ) → j < k → conflict_at touches inside.log j k ≡ true → unfinished_at inside.states j ≡ false
    pub inputs : read_cowns (contents_of inside.now) (touches b) ≡ inputs_of touches effect
        (contents_after_first touches effect (contents_of inside.opening) inside.log k) b

  pub takable : (index k : ℕ) (b : B) → slice_get (ready_positions touches inside.log inside.states) index ≡ Some k → slice_get inside.log k ≡ Some b
      → IsTakable k b
  takable index k b ready here =
      let parts = ready_parts touches inside.log inside.states index k ready in
      let clear = clear_fact touches inside.log inside.states k parts.2 in
      record {
        waits = parts.1;
        clear = clear;
        inputs = holds_inputs touches effect board.keeps k (state_here is_unfinished inside.states k Waiting parts.1) clear b here (omega (arith, parts.0));
      }

  pub ready_within : (index k : ℕ) → slice_get (ready_positions touches inside.log inside.states) index ≡ Some k → k < length inside.log
  ready_within index k ready = (ready_parts touches inside.log inside.states index k ready).0

  -- what a behaviour's cowns hold after the first k are allowed values
  pub inputs_held : ((b : B) (inputs : List ℤ) → AreCownValues (touches b) inputs → AreCownValues (touches b) (effect b inputs).1)
      → (k position : ℕ) (b : B) → slice_get inside.log position ≡ Some b
      → AreCownValues (touches b) (inputs_of touches effect (contents_after_first touches effect (contents_of inside.opening) inside.log k) b)
  inputs_held keeps k position b here =
      let before = contents_after_first touches effect (contents_of inside.opening) inside.log k in
      AreCownValues-read before (touches b) (IsContents-after_first touches effect keeps
      (contents_of inside.opening) inside.log k board.keeps.opened board.keeps.in_range) (λ cown among.
      let lt = board.keeps.in_range position cown (ap (λ o. is_among cown (touched_by touches o)) here ∙ among) in
      omega (arith, lt, length-after touches effect (contents_of inside.opening) (take k inside.log)))

  pub number_below : (k : ℕ) → k < length inside.log → inside.base + k + 1 ≤ 1000000
  number_below k lt = omega (arith, lt, board.base_length, board.length_limit)

  pub takes_from : (index k : ℕ) (b : B) (inputs : List ℤ) → slice_get (ready_positions touches inside.log inside.states) index ≡ Some k
      → slice_get inside.log k ≡ Some b → inputs ≡ read_cowns (contents_of inside.now) (touches b)
      → Takes touches effect seen index (record { number = inside.base + k + 1; behaviour = b; inputs = inputs })
      (record seen { states = slice_set inside.states k Out })
  takes_from index k b inputs ready here read = record {
    position = k;
    ready = ready;
    number = omega (arith, board.base_length);
    behaviour = here;
    inputs = read ∙ (takable index k b ready here).inputs;
    out = refl;
  }

  pub taken_inputs_held : ((b : B) (inputs : List ℤ) → AreCownValues (touches b) inputs → AreCownValues (touches b) (effect b inputs).1)
      → (index k : ℕ) (b : B) (inputs : List ℤ) → slice_get (ready_positions touches inside.log inside.states) index ≡ Some k → slice_get inside.log k ≡ Some b
      → inputs ≡ read_cowns (contents_of inside.now) (touches b) → AreCownValues (touches b) inputs
  taken_inputs_held keeps index k b inputs ready here read =
      subst (AreCownValues (touches b)) (sym (read ∙ (takable index k b ready here).inputs)) (inputs_held keeps k k b here)

  pub board_taken : (index k : ℕ) (new : Links) → slice_get (ready_positions touches inside.log inside.states) index ≡ Some k
      → AreLinks touches effect inside.log (slice_set inside.states k Out) inside.unfinished (length (contents_of inside.opening)) new
      → IsBoard touches effect (record inside { states = slice_set inside.states k Out; links = new })
  board_taken index k new ready links =
      let found = some_at inside.log k (ready_within index k ready) in
      let known = takable index k found.0 ready found.1 in
      IsBoard-taken touches effect board k new known.waits known.clear links
