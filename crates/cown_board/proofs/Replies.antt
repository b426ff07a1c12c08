-- The reply to a number.
use Rattle.std.proofs.Common.{◌≡◌, ◌≢◌, inl, inr, ℕ, suc, ◌+◌, ◌-◌, ◌<◌, ◌≤◌, ℤ, false, Option, Some, None, List, length, sym, ap, ◌∙◌, arith}
use Rattle.std.specs.Prelude.{◌==◌, nat_le, if◌then◌else◌, slice_get, option_and_then, IfSome}
use Rattle.std.proofs.lemmas.Bool.{eq-eqb, ne_eqb, le-leb, lt-leb, cases_lt}
use Rattle.std.proofs.lemmas.Option.{slice_get_past}
use Rattle.sb_calls.specs.Cowns.{contents_of}
use Rattle.sb_calls.specs.SerialRun.{reply_by_log}
use Rattle.sb_calls.specs.declared.reply.Reply.{Reply}
use Rattle.cown_board.proofs.LogLaws.{injective, no_some}
use Rattle.cown_board.specs.Board.{BoardOf, reply_in}
use Rattle.cown_board.specs.inner.BoardInvariant.{BoardInside, IsBoard}
use Rattle.cown_board.specs.State.{finished_reply}
use Rattle.cown_board.specs.declared.state.State.{State}
use Rattle.cown_board.specs.declared.state.State.TheVariants.{Waiting, Out, Finished}

-- a state with a reply is finished
finished_with : (s : State) (reply : Reply) → finished_reply s ≡ Some reply → s ≡ Finished reply
finished_with Waiting reply h = absurd (no_some h)
finished_with Out reply h = absurd (no_some h)
finished_with (Finished r) reply h = ap Finished (injective h)

module _ {B : Type 0} (board : BoardOf B) where
  pub no_number : (number : ℕ) → (1 ≤ number → ⊥) → None ≡ reply_in board number
  unfolding reply_in
  no_number number none = sym (ap (λ b. if b then None else (if nat_le number (length board.base_replies) then slice_get board.base_replies (number - 1)
      else option_and_then finished_reply (slice_get board.states (number - 1 - length board.base_replies)))) (eq-eqb number 0 (omega (arith, none))))

  pub number_before : (number : ℕ) → 1 ≤ number → number ≤ length board.base_replies → slice_get board.base_replies (number - 1) ≡ reply_in board number
  unfolding reply_in
  number_before number some before =
      let differs : (number == 0) ≡ false = ne_eqb number 0 (λ same. omega (arith, same, some)) in
      sym (ap (λ b. if b then None else (if nat_le number (length board.base_replies) then slice_get board.base_replies (number - 1)
      else option_and_then finished_reply (slice_get board.states (number - 1 - length board.base_replies)))) differs
      ∙ ap (λ b. if b then slice_get board.base_replies (number - 1) else option_and_then finished_reply
      (slice_get board.states (number - 1 - length board.base_replies))) (le-leb number (length board.base_replies) before))

  number_after : (number position : ℕ) → number ≡ suc (length board.base_replies + position)
      → option_and_then finished_reply (slice_get board.states position) ≡ reply_in board number
  unfolding reply_in
  number_after number position here =
      let differs : (number == 0) ≡ false = ne_eqb number 0 (λ same. omega (arith, same, here)) in
      let at : number - 1 - length board.base_replies ≡ position = omega (arith, here) in
      sym (ap (λ b. if b then None else (if nat_le number (length board.base_replies) then slice_get board.base_replies (number - 1)
      else option_and_then finished_reply (slice_get board.states (number - 1 - length board.base_replies)))) differs
      ∙ ap (λ b. if b then slice_get board.base_replies (number - 1) else option_and_then finished_reply
      (slice_get board.states (number - 1 - length board.base_replies))) (lt-leb number (length board.base_replies) (omega (arith, here)))
      ∙ ap (λ k. option_and_then finished_reply (slice_get board.states k)) at)

  pub reply_at_place : (number position : ℕ) (s : State) → number ≡ suc (length board.base_replies + position) → slice_get board.states position ≡ Some s
      → finished_reply s ≡ reply_in board number
  reply_at_place number position s here state = sym (ap (option_and_then finished_reply) state) ∙ number_after number position here

  pub past_numbers : (number : ℕ) → (number ≤ length board.base_replies → ⊥)
      → ((position : ℕ) → position < length board.states → number ≢ suc (length board.base_replies + position)) → None ≡ reply_in board number
  past_numbers number after none =
      let position : ℕ = number - 1 - length board.base_replies in
      let here : number ≡ suc (length board.base_replies + position) = omega (arith, after) in
      let past : length board.states ≤ position = elim (cases_lt position (length board.states)) [ inl lt ↦ absurd (none position lt here) | inr le ↦ le ] in
      sym (ap (option_and_then finished_reply) (slice_get_past board.states position past)) ∙ number_after number position here

module _ {B : Type 0} (touches : B → List ℕ) (effect : B → List ℤ → Reply × List ℤ)
    {inside : BoardInside B} (board : IsBoard touches effect inside) where
  -- the reply of a finished behaviour is that of the log
  pub reply_is_by_log : (number position : ℕ) (s : State) (answer : Option Reply) → number ≡ suc (inside.base + position)
      → slice_get inside.states position ≡ Some s
      → answer ≡ finished_reply s
      → IfSome answer (λ reply. length inside.base_replies < number
      → reply_by_log touches effect (contents_of inside.opening) inside.log (number - length inside.base_replies) ≡ Some reply)
  reply_is_by_log number position s None here state is = tt
  reply_is_by_log number position s (Some reply) here state is = λ after.
      let at : number - length inside.base_replies ≡ suc position = omega (arith, here, board.base_length) in
      let finished : s ≡ Finished reply = finished_with s reply (sym is) in
      ap (reply_by_log touches effect (contents_of inside.opening) inside.log) at
      ∙ board.keeps.replies position reply (state ∙ ap (λ x. Some x) finished)
