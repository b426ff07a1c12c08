-- What is out stays clear.
use Rattle.std.proofs.Common.{◌≡◌, inl, inr, ℕ, ◌<◌, Bool, true, false, Some, List, [], ◌∷◌, ◌++◌, length, map, sym, ap, ◌∙◌, arith}
use Rattle.std.specs.Prelude.{◌&&◌, slice_get, slice_set}
use Rattle.std.proofs.lemmas.Bool.{and_parts, cases_eq}
use Rattle.std.proofs.lemmas.Option.{slice_get_within}
use Rattle.cown_board.proofs.LogLaws.{injective as some_is}
use Rattle.cown_board.proofs.PositionLaws.{none_below-agree, none_below_at, none_below_from, place_is, slice_get-left}
use Rattle.cown_board.proofs.StateChanges.{slice_get-set_same, slice_get-set_other, state-set_same, state-set_other, state_waits}
use Rattle.cown_board.specs.Board.{BoardOf}
use Rattle.cown_board.specs.Readiness.{conflict_at, is_clear_at, is_ready_at, ready_positions, touched_by}
use Rattle.cown_board.specs.State.{is_unfinished, is_waiting, state_is}
use Rattle.cown_board.specs.declared.state.State.{State}
use Rattle.cown_board.specs.declared.state.State.TheVariants.{Waiting, Out, Finished}
use Rattle.sb_calls.specs.Behaviour.{declared_cowns}
use Rattle.sb_calls.specs.SerialRun.{share_cown}
use Rattle.sb_calls.specs.declared.op.Op.{Op}
use Rattle.sb_calls.specs.declared.reply.Reply.{Reply}
use Rattle.sb_replica.specs.Log.{LogOf}
use Rattle.sb_replica.specs.Offers.{board_with_entry, after_offer}
use Rattle.sb_replica.specs.declared.offered.Offered.{Offered}
use Rattle.sb_replica.specs.declared.offered.Offered.TheVariants as offer
use Rattle.schedule_player.proofs.Lists.{pushed_cases}
use Rattle.replica_laws.specs.Node0Moves.{AreClear, waits_if_out}
use Rattle.replica_laws.proofs.BoardViews.{clear_view, taken_view}

waiting_out : ◌≡◌ {A = State} Waiting Out → ⊥
waiting_out h = cc

finished_out : {reply : Reply} → ◌≡◌ {A = State} (Finished reply) Out → ⊥
finished_out h = cc

-- ---- an entry comes

accepted_clear : (board : BoardOf Op) (op : Op) → length board.log ≡ length board.states → AreClear board → AreClear (board_with_entry board op)
accepted_clear board op beside clear k out = elim (pushed_cases board.states Waiting k Out out) [
  | inl there ↦
      let within : k < length board.states = slice_get_within board.states k Out there in
      none_below-agree (λ j. state_is is_unfinished (slice_get (board.states ++ Waiting ∷ []) j) && conflict_at declared_cowns (board.log ++ op ∷ []) j k)
      (λ j. state_is is_unfinished (slice_get board.states j) && conflict_at declared_cowns board.log j k) k
      (λ j lt.
      ap (λ s. state_is is_unfinished s && conflict_at declared_cowns (board.log ++ op ∷ []) j k)
      (slice_get-left board.states (Waiting ∷ []) j (omega (arith, lt, within)))
      ∙ ap (λ b. state_is is_unfinished (slice_get board.states j)
      && share_cown (touched_by declared_cowns b) (touched_by declared_cowns (slice_get (board.log ++ op ∷ []) k)))
      (slice_get-left board.log (op ∷ []) j (omega (arith, lt, within, beside)))
      ∙ ap (λ b. state_is is_unfinished (slice_get board.states j)
      && share_cown (touched_by declared_cowns (slice_get board.log j)) (touched_by declared_cowns b))
      (slice_get-left board.log (op ∷ []) k (omega (arith, within, beside))))
      ∙ clear k there
  | inr last ↦ absurd (waiting_out last.1)
]

pub offered_clear : (log : LogOf) (op : Op) (answer : Offered) → length log.board.log ≡ length log.board.states → AreClear log.board
    → AreClear (after_offer log op answer).board
offered_clear log op offer.Next beside clear = accepted_clear log.board op beside clear
offered_clear log op offer.Repeat beside clear = clear
offered_clear log op (offer.Gap size) beside clear = clear
offered_clear log op (offer.Held number) beside clear = clear
offered_clear log op (offer.Busy size) beside clear = clear

-- ---- an op goes out

-- a position that is ready: it waits, and is clear
pub record WasReady (board : BoardOf Op) (position : ℕ) : Type 0 where
  pub waits : slice_get board.states position ≡ Some Waiting
  pub clear : is_clear_at declared_cowns board.log board.states position ≡ true

pub was_ready : (board : BoardOf Op) (index position : ℕ)
    → slice_get (ready_positions declared_cowns board.log board.states) index ≡ Some position → WasReady board position
unfolding ready_positions
was_ready board index position ready =
    let found = place_is (is_ready_at declared_cowns board.log board.states) (length board.log) index position ready in
    let parts = and_parts (state_is is_waiting (slice_get board.states position)) (is_clear_at declared_cowns board.log board.states position) found.1 in
    record { waits = state_waits board.states position parts.0; clear = parts.1 }

-- where the same is unfinished, the same is clear
same_clear : (log : List Op) (old new : List State) (k : ℕ) → map waits_if_out new ≡ map waits_if_out old
    → is_clear_at declared_cowns log new k ≡ is_clear_at declared_cowns log old k
same_clear log old new k same =
    sym (clear_view log new k) ∙ ap (λ states. is_clear_at declared_cowns log states k) same ∙ clear_view log old k

pub taken_clear : (board : BoardOf Op) (position : ℕ) → WasReady board position → AreClear board
    → AreClear (record board { states = slice_set board.states position Out })
taken_clear board position ready clear k out =
    same_clear board.log board.states (slice_set board.states position Out) k (taken_view board.states position ready.waits) ∙ before
  where
    before : is_clear_at declared_cowns board.log board.states k ≡ true
    before = elim (cases_eq k position) [
      | inl same ↦ ap (is_clear_at declared_cowns board.log board.states) same ∙ ready.clear
      | inr differs ↦ clear k (sym (slice_get-set_other board.states position k Out differs) ∙ out)
    ]

-- ---- an op is finished

-- what was out no longer stands before others
still_free : (states : List State) (position j : ℕ) (reply : Reply) (shares : Bool) → slice_get states position ≡ Some Out
    → (state_is is_unfinished (slice_get states j) && shares) ≡ false
    → (state_is is_unfinished (slice_get (slice_set states position (Finished reply)) j) && shares) ≡ false
still_free states position j reply shares here free = elim (cases_eq j position) [
  | inl same ↦
      ap (λ i. state_is is_unfinished (slice_get (slice_set states position (Finished reply)) i) && shares) same
      ∙ ap (λ b. b && shares) (state-set_same is_unfinished states position (Finished reply) (slice_get_within states position Out here))
  | inr differs ↦ ap (λ b. b && shares) (state-set_other is_unfinished states position j (Finished reply) differs) ∙ free
]

pub finished_clear : (board : BoardOf Op) (position : ℕ) (reply : Reply) → slice_get board.states position ≡ Some Out → AreClear board
    → AreClear (record board { states = slice_set board.states position (Finished reply) })
finished_clear board position reply here clear k out = elim (cases_eq k position) [
  | inl same ↦
      absurd (finished_out
      (some_is (sym (slice_get-set_same board.states position (Finished reply) (slice_get_within board.states position Out here))
      ∙ ap (slice_get (slice_set board.states position (Finished reply))) (sym same) ∙ out)))
  | inr differs ↦
      let was = clear k (sym (slice_get-set_other board.states position k (Finished reply) differs) ∙ out) in
      none_below_from
      (λ j. state_is is_unfinished (slice_get (slice_set board.states position (Finished reply)) j) && conflict_at declared_cowns board.log j k) k
      (λ j lt. still_free board.states position j reply (conflict_at declared_cowns board.log j k) here
      (none_below_at (λ j. state_is is_unfinished (slice_get board.states j) && conflict_at declared_cowns board.log j k) k j was lt))
]
