-- The invariant of a board, at each change.
use Rattle.std.proofs.Common.{◌≡◌, inl, inr, ℕ, suc, ◌+◌, ◌-◌, ◌*◌, ◌<◌, ◌≤◌, ℤ, true, false, Option, Some, List, [], ◌∷◌, ◌++◌, length, length-append, get_or, refl, sym, ap, subst, ◌∙◌, arith, vec_capacity}
use Rattle.std.specs.Prelude.{◌==◌, count_by, slice_get, slice_set}
use Rattle.std.specs.VecDeque.{deque_capacity}
use Rattle.std.proofs.lemmas.Bool.{and_parts, cases_Bool}
use Rattle.std.proofs.lemmas.List.{length-replicate}
use Rattle.std.proofs.lemmas.Option.{slice_get_within, IfSome_then}
use Rattle.sb_rows.specs.Balances.{Balances}
use Rattle.sb_calls.specs.Cowns.{AreBelow, IsRising, contents_of, write_cowns}
use Rattle.sb_calls.specs.SerialRun.{is_among, inputs_of, contents_after_first, reply_of}
use Rattle.sb_calls.specs.declared.call.TheConstants.{LOG_CALLS}
use Rattle.sb_calls.specs.declared.reply.Reply.{Reply}
use Rattle.cown_queue.specs.Queues.{Releases, front_of, fronts_of}
use Rattle.cown_board.proofs.BehindCounts.{counts_submitted, counts_finished, fronts_counted, fronts_wait}
use Rattle.sb_calls.proofs.CownContents.{below_among}
use Rattle.cown_board.proofs.UnfinishedCounts.{count-append, count-set, count_some, few_places}
use Rattle.cown_board.proofs.CutInvariant.{cut_submitted, cut_taken, any_cut_finished}
use Rattle.cown_board.proofs.FinishInvariant.{keeps_finished, clear_of_out}
use Rattle.cown_board.proofs.QueueChanges.{first_queued, queues_submitted, queues_finished}
use Rattle.cown_board.proofs.StateChanges.{state_here, waiting_is_open}
use Rattle.cown_board.proofs.SubmitInvariant.{keeps_submitted}
use Rattle.cown_board.proofs.TakeInvariant.{keeps_taken}
use Rattle.cown_board.proofs.UnlinkedBoards.{links_stay, none_finished, none_submitted}
use Rattle.cown_queue.specs.inner.Occurrences.{occurrences}
use Rattle.cown_board.specs.inner.DuePositions.{is_due}
use Rattle.cown_board.specs.inner.Fronts.{is_occupied}
use Rattle.cown_board.specs.inner.BoardInvariant.{IsLinked, AreLinks, BoardInside, AreCounts, IsBoard, AreQueues, touches_at}
use Rattle.cown_board.specs.inner.Links.{ComesForward, IsUnlinked, AddsToLinks, LeavesLinks, KeepsRoom}
use Rattle.cown_board.specs.inner.CutUpdates.{UpdatesAnyCut}
use Rattle.cown_board.specs.Readiness.{conflict_at, touched_by}
use Rattle.cown_board.specs.State.{is_unfinished, unfinished_at}
use Rattle.cown_board.specs.inner.StateTests.{waiting_at}
use Rattle.cown_board.specs.declared.board.TheConstants.{OPEN_BEHAVIOURS}
use Rattle.cown_board.specs.declared.cut.Cut.{Cut}
use Rattle.cown_board.specs.declared.links.Links.{Links}
use Rattle.cown_board.specs.declared.ready_list.ReadyList.{ReadyList}
use Rattle.cown_board.specs.declared.state.State.{State}
use Rattle.cown_board.specs.declared.state.State.TheVariants.{Waiting, Out, Finished}

module _ {B : Type 0} (touches : B → List ℕ) (effect : B → List ℤ → Reply × List ℤ)
    {inside : BoardInside B} (board : IsBoard touches effect inside) where
  -- one more behaviour is added at its cowns, or there is room for it
  pub links_submitted : (b : B) (new : Links) → AreBelow (length (contents_of inside.opening)) (touches b) → new.linked ≡ inside.links.linked
      → (inside.links.linked ≡ true → AddsToLinks (length inside.log) (touches b) inside.links new)
      → (inside.links.linked ≡ false → LeavesLinks inside.links new × ((inside.unfinished + 1) * 3 ≤ new.queues.places))
      → length inside.log + 1 ≤ vec_capacity new.ready.behind → inside.unfinished + 1 + 3 ≤ deque_capacity new.ready.ready
      → AreLinks touches effect (inside.log ++ b ∷ []) (inside.states ++ Waiting ∷ []) (inside.unfinished + 1) (length (contents_of inside.opening)) new
  links_submitted b new below same put stay counts room =
      let cowns = length (contents_of inside.opening) in
      let longer : length (inside.log ++ b ∷ []) ≡ length inside.log + 1 = length-append inside.log (b ∷ []) in
      let same_length : length inside.log ≡ length inside.states = board.keeps.same_length in
      let fits = λ (cown : ℕ) (among : is_among cown (touches b) ≡ true). below_among cowns (touches b) cown below among in
      let held = count_by (is_occupied inside.links.queues.lists) (touches b) in
      record {
        linked = λ is.
            let was : inside.links.linked ≡ true = sym same ∙ is in
            let all = board.links.linked was in
            let stands = put was in
            record {
              queues = queues_submitted touches effect inside.log inside.states b inside.links.queues.lists new.queues.lists cowns same_length all.queues
                  stands.lists;
              counts = rw (stands.behind, stands.ready) (counts_submitted touches effect inside.log inside.states b inside.links.queues.lists
                  new.queues.lists cowns same_length all.queues stands.lists board.keeps.in_range fits inside.links.ready.behind.items
                  inside.links.ready.ready.items held refl all.counts);
            };
        unlinked = λ isnt.
            let was : inside.links.linked ≡ false = sym same ∙ isnt in
            let none = board.links.unlinked was in
            let stays = stay was in
            let first : length inside.log - inside.unfinished ≡ length (inside.log ++ b ∷ []) - (inside.unfinished + 1) = omega (arith, longer, none.0) in (
              omega (arith, longer, none.0),
              subst (λ n. IsUnlinked (length (inside.log ++ b ∷ [])) (inside.states ++ Waiting ∷ []) n cowns new) first
                  (subst (λ n. IsUnlinked n (inside.states ++ Waiting ∷ []) (length inside.log - inside.unfinished) cowns new) (sym longer)
                  (none_submitted (length inside.log) inside.states (length inside.log - inside.unfinished) cowns inside.links new same_length
                  (omega arith) none.1 stays.0 (let p = stays.1 in omega (arith, p, none.0)) counts)),
            );
        room = λ _. room;
      }

  pub IsBoard-submitted : (b : B) (new : Links) → AreBelow (length (contents_of inside.opening)) (touches b)
      → AreLinks touches effect (inside.log ++ b ∷ []) (inside.states ++ Waiting ∷ []) (inside.unfinished + 1) (length (contents_of inside.opening)) new
      → inside.unfinished < OPEN_BEHAVIOURS → inside.base + length inside.log < LOG_CALLS
      → IsBoard touches effect (record inside {
        log = inside.log ++ b ∷ [];
        states = inside.states ++ Waiting ∷ [];
        links = new;
        unfinished = inside.unfinished + 1;
      })
  IsBoard-submitted b new below links few more =
      let longer : length (inside.log ++ b ∷ []) ≡ suc (length inside.log) = length-append inside.log (b ∷ []) ∙ omega arith in
      let same : length inside.log ≡ length inside.states = board.keeps.same_length in
      let fits = λ (cown : ℕ) (among : is_among cown (touches b) ≡ true). below_among (length (contents_of inside.opening)) (touches b) cown below among in
      record {
        base_length = board.base_length;
        keeps = keeps_submitted touches effect board.keeps b fits;
        links = links;
        unfinished = let count = count-append inside.states Waiting in omega (arith, count, board.unfinished);
        unfinished_limit = omega (arith, few);
        length_limit = omega (arith, more, longer, board.base_length);
        cut = IfSome_then inside.cut board.cut (cut_submitted touches effect (contents_of inside.opening) inside.base inside.log inside.states b same);
      }

  pub IsBoard-taken : (k : ℕ) (new : Links) → slice_get inside.states k ≡ Some Waiting
      → ((j : ℕ) → j < k → conflict_at touches inside.log j k ≡ true → unfinished_at inside.states j ≡ false)
      → AreLinks touches effect inside.log (slice_set inside.states k Out) inside.unfinished (length (contents_of inside.opening)) new
      → IsBoard touches effect (record inside { states = slice_set inside.states k Out; links = new })
  IsBoard-taken k new here clear links = record {
    base_length = board.base_length;
    keeps = keeps_taken touches effect board.keeps k here clear;
    links = links;
    unfinished = let count = count-set inside.states k Waiting Out here in omega (arith, count, board.unfinished);
    unfinished_limit = board.unfinished_limit;
    length_limit = board.length_limit;
    cut = IfSome_then inside.cut board.cut (cut_taken touches effect (contents_of inside.opening) inside.base inside.log inside.states k here clear);
  }

  -- the same board, with links that mean the same
  pub IsBoard-linked : (new : Links) → AreLinks touches effect inside.log inside.states inside.unfinished (length (contents_of inside.opening)) new
      → IsBoard touches effect (record inside { links = new })
  IsBoard-linked new links = record {
    base_length = board.base_length;
    keeps = board.keeps;
    links = links;
    unfinished = board.unfinished;
    unfinished_limit = board.unfinished_limit;
    length_limit = board.length_limit;
    cut = board.cut;
  }

  -- the same if they have at least as much room
  pub IsBoard-stays : (new : Links) → KeepsRoom inside.links new → LeavesLinks inside.links new → IsBoard touches effect (record inside { links = new })
  IsBoard-stays new room stay =
      IsBoard-linked new
      (links_stay touches effect inside.log inside.states inside.unfinished (length (contents_of inside.opening)) inside.links new board.links room.linked
      stay room.places room.counts room.ready)

  module _ (k : ℕ) (b : B) (here : slice_get inside.log k ≡ Some b) (out : slice_get inside.states k ≡ Some Out)
      (rising : (b : B) → IsRising (touches b)) where
    abbrev cowns : ℕ
    cowns = length (contents_of inside.opening)

    clear : (j : ℕ) → j < k → conflict_at touches inside.log j k ≡ true → unfinished_at inside.states j ≡ false
    clear = clear_of_out touches effect board.keeps k b here out

    -- if all are linked, those that come to the front wait, and their counts are known
    module _ (linked : inside.links.linked ≡ true) (new : List (List ℕ)) (released : Releases (touches b) inside.links.queues.lists new) where
      all : IsLinked touches effect inside.log inside.states cowns inside.links
      all = board.links.linked linked

      -- it is in front at each of its cowns
      front : (cown : ℕ) → is_among cown (touches b) ≡ true → front_of inside.links.queues.lists cown ≡ Some k
      front cown among =
          let at_k : touches_at touches effect inside.log cown k ≡ true = ap (λ o. is_among cown (touched_by touches o)) here ∙ among in
          ap (λ xs. slice_get xs 0) (all.queues.each cown (board.keeps.in_range k cown at_k))
          ∙ first_queued touches effect inside.log inside.states cown k (slice_get_within inside.log k b here)
          (state_here is_unfinished inside.states k Out out) at_k clear

      pub queued : (reply : Reply) → AreQueues touches effect inside.log (slice_set inside.states k (Finished reply)) new cowns
      queued reply =
          queues_finished touches effect inside.log inside.states b inside.links.queues.lists new cowns k reply board.keeps.same_length here
          (state_here is_unfinished inside.states k Out out) clear all.queues released

      pub fronts_were_behind : (reply : Reply) (j : ℕ) → occurrences j (fronts_of new (touches b)) ≤ get_or inside.links.ready.behind.items j 0
      fronts_were_behind reply =
          fronts_counted touches effect inside.log inside.states inside.links.queues.lists new cowns k b reply rising board.keeps.ordered
          board.keeps.in_range board.keeps.same_length here out clear front all.queues (queued reply) released inside.links.ready.behind.items
          inside.links.ready.ready.items all.counts

      pub counted : (reply : Reply) (ready : ReadyList) → ComesForward (fronts_of new (touches b)) inside.links.ready ready
          → AreCounts touches effect inside.log (slice_set inside.states k (Finished reply)) new ready.behind.items ready.ready.items
      counted reply ready forward =
          let wait = fronts_wait touches effect inside.log inside.states inside.links.queues.lists new cowns k b reply rising board.keeps.ordered
          board.keeps.in_range board.keeps.same_length here out clear front all.queues (queued reply) released inside.links.ready.behind.items
          inside.links.ready.ready.items all.counts in
          counts_finished touches effect inside.log inside.states inside.links.queues.lists new cowns k b reply rising board.keeps.ordered
          board.keeps.in_range board.keeps.same_length here out clear front all.queues (queued reply) released inside.links.ready.behind.items
          inside.links.ready.ready.items all.counts ready.behind.items ready.ready.items forward.same_length forward.behind
          (forward.due (waiting_at inside.states) (length inside.log) wait all.counts.listed)

    pub links_finished : (reply : Reply) (new : Links) → new.linked ≡ inside.links.linked → (inside.links.linked ≡ false → new ≡ inside.links)
        → (inside.links.linked ≡ true → Releases (touches b) inside.links.queues.lists new.queues.lists)
        → (inside.links.linked ≡ true → ComesForward (fronts_of new.queues.lists (touches b)) inside.links.ready new.ready)
        → deque_capacity inside.links.ready.ready ≤ deque_capacity new.ready.ready
        → AreLinks touches effect inside.log (slice_set inside.states k (Finished reply)) (inside.unfinished - 1) cowns new
    links_finished reply new same stay released forward wide =
        let some = count_some inside.states k Out out refl in
        record {
          linked = λ is.
              let was : inside.links.linked ≡ true = sym same ∙ is in
              let let_go = released was in
              record { queues = queued was new.queues.lists let_go reply; counts = counted was new.queues.lists let_go reply new.ready (forward was) };
          unlinked = λ isnt.
              let was : inside.links.linked ≡ false = sym same ∙ isnt in
              let none = board.links.unlinked was in
              let next : suc (length inside.log - inside.unfinished) ≡ length inside.log - (inside.unfinished - 1) =
              omega (arith, some, board.unfinished, none.0) in (
                omega (arith, none.0),
                subst (λ n. IsUnlinked (length inside.log) (slice_set inside.states k (Finished reply)) n cowns new) next
                    (subst (IsUnlinked (length inside.log) (slice_set inside.states k (Finished reply)) (suc (length inside.log - inside.unfinished)) cowns)
                    (sym (stay was))
                    (none_finished (length inside.log) inside.states (length inside.log - inside.unfinished) cowns k inside.links reply board.keeps.same_length
                    none.1 (slice_get_within inside.log k b here) out)),
              );
          room = λ _. let before = board.links.room (omega (arith, some, board.unfinished)) in omega (arith, before, wide);
        }

    pub IsBoard-finished : (reply : Reply) (outputs : List ℤ) (after : Balances) (new : Links)
        → length outputs ≡ length (touches b)
        → reply ≡ reply_of touches effect (contents_after_first touches effect (contents_of inside.opening) inside.log k) b
        → outputs ≡ (effect b (inputs_of touches effect (contents_after_first touches effect (contents_of inside.opening) inside.log k) b)).1
        → contents_of after ≡ write_cowns (contents_of inside.now) (touches b) outputs
        → AreLinks touches effect inside.log (slice_set inside.states k (Finished reply)) (inside.unfinished - 1) cowns new
        → (cut : Option Cut) → UpdatesAnyCut (suc (inside.base + k)) (touches b) outputs inside.cut cut
        → IsBoard touches effect (record inside {
          now = after;
          states = slice_set inside.states k (Finished reply);
          links = new;
          unfinished = inside.unfinished - 1;
          cut = cut;
        })
    IsBoard-finished reply outputs after new long replied left written links cut noted =
        let some = count_some inside.states k Out out refl in
        record {
          base_length = board.base_length;
          keeps = rw written (keeps_finished touches effect board.keeps k b here out reply outputs long replied left);
          links = links;
          unfinished = let count = count-set inside.states k Out (Finished reply) out in omega (arith, count, some, board.unfinished);
          unfinished_limit = omega (arith, board.unfinished_limit);
          length_limit = board.length_limit;
          cut = any_cut_finished touches effect (contents_of inside.opening) inside.base inside.log inside.states k b here out reply outputs
              long replied left inside.cut cut noted board.cut;
        }

  -- the same, for lists that were written over
  pub IsBoard-pushed : (b : B) (log' : List B) (states' : List State) (new : Links) → AreBelow (length (contents_of inside.opening)) (touches b)
      → log' ≡ inside.log ++ b ∷ [] → states' ≡ inside.states ++ Waiting ∷ []
      → AreLinks touches effect (inside.log ++ b ∷ []) (inside.states ++ Waiting ∷ []) (inside.unfinished + 1) (length (contents_of inside.opening)) new
      → (inside.unfinished ≡ OPEN_BEHAVIOURS → ⊥) → (inside.base + length inside.log ≡ LOG_CALLS → ⊥)
      → IsBoard touches effect (record inside { log = log'; states = states'; links = new; unfinished = inside.unfinished + 1 })
  IsBoard-pushed b log' states' new below is_log is_states links few more =
      rw (is_log, is_states)
      (IsBoard-submitted b new below links (omega (arith, few, board.unfinished_limit)) (omega (arith, more, board.base_length, board.length_limit)))

  -- at most the unfinished ones are ready
  pub few_ready : inside.links.linked ≡ true → length inside.links.ready.ready.items ≤ inside.unfinished
  few_ready linked =
      let counts = (board.links.linked linked).counts in
      let few = few_places inside.states (is_due (waiting_at inside.states) inside.links.ready.behind.items) (length inside.log)
      (omega (arith, board.keeps.same_length))
      (λ j due. waiting_is_open inside.states j (and_parts (waiting_at inside.states j) (get_or inside.links.ready.behind.items j 0 == 0) due).0) in
      omega (arith, few, ap length counts.listed, board.unfinished)

  -- if nothing is linked, none is listed
  pub none_listed : inside.links.linked ≡ false → length inside.links.ready.ready.items ≡ 0
  none_listed isnt = ap length (board.links.unlinked isnt).1.ready

  -- there are as many queues as cowns
  pub one_each : length inside.links.queues.lists ≡ length (contents_of inside.opening)
  one_each = elim (cases_Bool inside.links.linked) [
    | inl is ↦ (board.links.linked is).queues.one_each
    | inr isnt ↦ ap length (board.links.unlinked isnt).1.lists ∙ length-replicate (length (contents_of inside.opening)) []
  ]
