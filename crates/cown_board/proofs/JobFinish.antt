-- A result that comes back and is accepted.
use Rattle.std.proofs.Common.{◌≡◌, ◌≢◌, inl, inr, ℕ, suc, ◌+◌, ◌-◌, ◌<◌, ◌≤◌, ℤ, true, false, Option, Some, List, length, get_or, take, refl, sym, ap, subst, ◌∙◌, arith}
use Rattle.std.specs.Prelude.{IfSome, count_by, slice_get, slice_set, option_map}
use Rattle.std.specs.VecDeque.{deque_capacity}
use Rattle.std.proofs.lemmas.Bool.{cases_Bool}
use Rattle.std.proofs.lemmas.Option.{slice_get_within, IfSome_then}
use Rattle.sb_rows.specs.Balances.{Balances}
use Rattle.sb_calls.specs.Cowns.{AreBelow, AreCownValues, IsRising, contents_of, read_cowns, write_cowns}
use Rattle.sb_calls.specs.SerialRun.{is_among, inputs_of, contents_after, contents_after_first, reply_of}
use Rattle.sb_calls.specs.declared.reply.Reply.{Reply}
use Rattle.cown_queue.specs.Queues.{IsInFront, Releases, fronts_of}
use Rattle.cown_board.proofs.FinishedLogs.{keeps_all}
use Rattle.cown_board.proofs.BoardSteps.{IsBoard-finished, few_ready, fronts_were_behind, links_finished, none_listed}
use Rattle.cown_board.proofs.UnfinishedCounts.{count_some}
use Rattle.cown_board.proofs.CutInvariant.{noted_number, some_of_cut}
use Rattle.cown_board.proofs.FinishInvariant.{clear_of_out}
use Rattle.sb_calls.proofs.CownContents.{length-AreCownValues}
use Rattle.cown_board.proofs.ReadyInputs.{holds_inputs}
use Rattle.cown_board.proofs.QueueChanges.{fronts_from_clear}
use Rattle.cown_board.proofs.StateChanges.{state_here}
use Rattle.cown_board.proofs.JobTake.{seen, inputs_held, declared_below}
use Rattle.cown_board.specs.Board.{IsOutAt, IsOutHere, Finishes, AreCutColumns}
use Rattle.cown_queue.specs.inner.Occurrences.{occurrences}
use Rattle.cown_board.specs.inner.BoardInvariant.{BoardInside, IsBoard, IsCut}
use Rattle.cown_board.specs.Job.{DoneOf}
use Rattle.cown_board.specs.inner.Links.{ComesForward}
use Rattle.cown_board.specs.inner.CutUpdates.{UpdatesAnyCut}
use Rattle.cown_board.specs.Readiness.{touched_by}
use Rattle.cown_board.specs.State.{is_unfinished}
use Rattle.cown_board.specs.declared.cut.Cut.{Cut}
use Rattle.cown_board.specs.declared.links.Links.{Links}
use Rattle.cown_board.specs.declared.state.State.TheVariants.{Out, Finished}

module _ {B : Type 0} (touches : B → List ℕ) (effect : B → List ℤ → Reply × List ℤ)
    {inside : BoardInside B} (board : IsBoard touches effect inside) where
  -- the cowns of a behaviour that is out hold what it was handed out with
  out_inputs : (k : ℕ) (b : B) → slice_get inside.log k ≡ Some b → slice_get inside.states k ≡ Some Out
      → read_cowns (contents_of inside.now) (touches b)
      ≡ inputs_of touches effect (contents_after_first touches effect (contents_of inside.opening) inside.log k) b
  out_inputs k b here out =
      holds_inputs touches effect board.keeps k (state_here is_unfinished inside.states k Out out) (clear_of_out touches effect board.keeps k b here out) b here
      (let lt = slice_get_within inside.log k b here in omega (arith, lt))

  -- the tests passed, in the terms of what callers see
  abbrev IsOutInside : ℕ → DoneOf B → Type 0
  IsOutInside k done = (slice_get inside.states k ≡ Some Out) × (slice_get inside.log k ≡ Some done.behaviour) ×
      (done.inputs ≡ read_cowns (contents_of inside.now) (touches done.behaviour))

  pub out_from : (k : ℕ) (done : DoneOf B) → done.number ≡ suc (inside.base + k) → IsOutInside k done
      → IsOutAt touches effect (seen touches effect board) done k
  out_from k done numbered tested = record {
    number = omega (arith, numbered, board.base_length);
    out = tested.0;
    behaviour = tested.1;
    inputs = tested.2 ∙ out_inputs k done.behaviour tested.1 tested.0;
  }

  pub out_to : (k : ℕ) (done : DoneOf B) → IsOutAt touches effect (seen touches effect board) done k
      → (done.number ≡ suc (inside.base + k)) × (k < length inside.log) × IsOutInside k done
  out_to k done out = (
    omega (arith, out.number, board.base_length),
    slice_get_within inside.log k done.behaviour out.behaviour,
    (out.out, out.behaviour, out.inputs ∙ sym (out_inputs k done.behaviour out.behaviour out.out)),
  )

  -- a result is refused if its number isn't in the log, or isn't out
  pub not_numbered : (done : DoneOf B) → ((k : ℕ) → k < length inside.log → done.number ≢ suc (inside.base + k))
      → ¬ IsOutHere touches effect (seen touches effect board) done
  not_numbered done none out = let found = out_to out.0 done out.1 in none out.0 found.1 found.0

  pub not_inside : (k : ℕ) (done : DoneOf B) → done.number ≡ suc (inside.base + k) → ¬ IsOutInside k done
      → ¬ IsOutHere touches effect (seen touches effect board) done
  not_inside k done numbered not out =
      let found = out_to out.0 done out.1 in
      let same : out.0 ≡ k = omega (arith, numbered, found.0) in
      not (subst (λ j. IsOutInside j done) same found.2)

  module _ (k : ℕ) (done : DoneOf B) (numbered : done.number ≡ suc (inside.base + k)) (tested : IsOutInside k done) where
    pub released_in_front : inside.links.linked ≡ true → IsInFront k (touches done.behaviour) inside.links.queues.lists
    released_in_front linked =
        let cowns = length (contents_of inside.opening) in
        let lists = inside.links.queues.lists in
        let queues = (board.links.linked linked).queues in
        fronts_from_clear touches effect inside.log inside.states lists cowns queues k done.behaviour tested.1
        (state_here is_unfinished inside.states k Out tested.0)
        (clear_of_out touches effect board.keeps k done.behaviour tested.1 tested.0) (touches done.behaviour)
        (λ cown among. (among, board.keeps.in_range k cown (ap (λ o. is_among cown (touched_by touches o)) tested.1 ∙ among)))

    pub some_unfinished : 1 ≤ inside.unfinished
    some_unfinished = let some = count_some inside.states k Out tested.0 refl in omega (arith, some, board.unfinished)

    pub inputs_are : done.inputs ≡ inputs_of touches effect (contents_after_first touches effect (contents_of inside.opening) inside.log k) done.behaviour
    inputs_are = tested.2 ∙ out_inputs k done.behaviour tested.1 tested.0

    pub outputs_held : ((b : B) (inputs : List ℤ) → AreCownValues (touches b) inputs → AreCownValues (touches b) (effect b inputs).1)
        → (outputs : List ℤ) → outputs ≡ (effect done.behaviour done.inputs).1 → AreCownValues (touches done.behaviour) outputs
    outputs_held keeps outputs left =
        subst (AreCownValues (touches done.behaviour)) (sym left)
        (keeps done.behaviour done.inputs (subst (AreCownValues (touches done.behaviour)) (sym inputs_are)
        (inputs_held touches effect board keeps k k done.behaviour tested.1)))

    pub board_finished : ((b : B) (inputs : List ℤ) → AreCownValues (touches b) inputs → AreCownValues (touches b) (effect b inputs).1)
        → ((b : B) → IsRising (touches b))
        → (reply : Reply) (outputs : List ℤ) (after : Balances) (new : Links)
        → reply ≡ (effect done.behaviour done.inputs).0
        → outputs ≡ (effect done.behaviour done.inputs).1
        → contents_of after ≡ write_cowns (contents_of inside.now) (touches done.behaviour) outputs
        → new.linked ≡ inside.links.linked → (inside.links.linked ≡ false → new ≡ inside.links)
        → (inside.links.linked ≡ true → Releases (touches done.behaviour) inside.links.queues.lists new.queues.lists)
        → (inside.links.linked ≡ true → ComesForward (fronts_of new.queues.lists (touches done.behaviour)) inside.links.ready new.ready)
        → deque_capacity inside.links.ready.ready ≤ deque_capacity new.ready.ready
        → (cut : Option Cut) → UpdatesAnyCut done.number (touches done.behaviour) outputs inside.cut cut
        → IsBoard touches effect (record inside {
          now = after;
          states = slice_set inside.states k (Finished reply);
          links = new;
          unfinished = inside.unfinished - 1;
          cut = cut;
        })
    board_finished keeps rising reply outputs after new replied left written same stay released forward wide cut noted =
        IsBoard-finished touches effect board k done.behaviour tested.1 tested.0 rising reply outputs after new
        (length-AreCownValues (touches done.behaviour) outputs (outputs_held keeps outputs left))
        (replied ∙ ap (λ i. (effect done.behaviour i).0) inputs_are)
        (left ∙ ap (λ i. (effect done.behaviour i).1) inputs_are) written
        (links_finished touches effect board k done.behaviour tested.1 tested.0 rising reply new same stay released forward wide)
        cut (subst (λ n. UpdatesAnyCut n (touches done.behaviour) outputs inside.cut cut) numbered noted)

    -- its cowns exist in a cut's columns, and a cut that includes it has at least one unfinished
    pub cowns_of_cut : IfSome inside.cut (λ cut. AreBelow (length (contents_of cut.columns)) (touches done.behaviour))
    cowns_of_cut = IfSome_then inside.cut board.cut (λ cut kept. rw kept.keeps.cown_count (declared_below touches effect board k done.behaviour tested.1))

    pub unfinished_in_cut : IfSome inside.cut (λ cut. done.number ≤ cut.number → 1 ≤ cut.unfinished)
    unfinished_in_cut = IfSome_then inside.cut board.cut (λ cut kept le.
        some_of_cut touches effect (contents_of inside.opening) inside.base inside.log inside.states k done.behaviour tested.1 tested.0 cut kept
        (omega (arith, numbered, le)))

    -- what comes to the front was behind, and there is room for it
    pub fronts_behind : ((b : B) → IsRising (touches b)) → Reply → inside.links.linked ≡ true → (new : List (List ℕ))
        → Releases (touches done.behaviour) inside.links.queues.lists new
        → (j : ℕ) → occurrences j (fronts_of new (touches done.behaviour)) ≤ get_or inside.links.ready.behind.items j 0
    fronts_behind rising reply linked new released =
        fronts_were_behind touches effect board k done.behaviour tested.1 tested.0 rising linked new released reply

    pub room_for_fronts : length inside.links.ready.ready.items + 3 ≤ deque_capacity inside.links.ready.ready
    room_for_fronts =
        let wide = board.links.room (omega (arith, some_unfinished)) in
        elim (cases_Bool inside.links.linked) [
          | inl is ↦ (let few = few_ready touches effect board is in omega (arith, few, wide))
          | inr isnt ↦ (let none = none_listed touches effect board isnt in omega (arith, none, wide))
        ]

    pub finishes_from : (reply : Reply) → reply ≡ (effect done.behaviour done.inputs).0
        → (number : ℕ) (cowns : List ℕ) (values : List ℤ) (cut : Option Cut) → UpdatesAnyCut number cowns values inside.cut cut
        → Finishes touches effect (seen touches effect board) done reply
        (record (seen touches effect board) { states = slice_set inside.states k (Finished reply); cut = option_map (λ c. c.number) cut })
    finishes_from reply replied number cowns values cut noted = record {
      position = k;
      here = out_from k done numbered tested;
      by_log = ap (option_map (reply_of touches effect (contents_after_first touches effect (contents_of inside.opening) inside.log k))) tested.1
          ∙ ap (λ r. Some r) (ap (λ i. (effect done.behaviour i).0) (sym inputs_are) ∙ sym replied);
      finished = ap (λ length. record (seen touches effect board) { states = slice_set inside.states k (Finished reply); cut = length })
          (noted_number number cowns values inside.cut cut noted);
    }

  -- the columns after all of the log
  pub after_all : inside.unfinished ≡ 0 → contents_of inside.now ≡ contents_after touches effect (contents_of inside.opening) inside.log
  after_all idle = keeps_all touches effect board.keeps (sym board.unfinished ∙ idle)

  -- and those of a cut, after the numbers up to its length
  pub cut_settled : (cut : Cut) → inside.cut ≡ Some cut → cut.unfinished ≡ 0 → AreCutColumns touches effect (seen touches effect board) (Some cut.columns)
  cut_settled cut here idle =
      let kept : IsCut touches effect (contents_of inside.opening) inside.base inside.log inside.states cut =
      subst (λ o. IfSome o (IsCut touches effect (contents_of inside.opening) inside.base inside.log inside.states)) here board.cut in
      let none : count_by is_unfinished (take (cut.number - inside.base) inside.states) ≡ 0 = sym kept.unfinished ∙ idle in
      let at : cut.number - length inside.base_replies ≡ cut.number - inside.base = ap (λ n. cut.number - n) board.base_length in (
        cut.number,
        ap (option_map (λ c. c.number)) here,
        ap (λ n. count_by is_unfinished (take n inside.states)) at ∙ none,
        keeps_all touches effect kept.keeps none ∙ ap (contents_after_first touches effect (contents_of inside.opening) inside.log) (sym at),
      )
