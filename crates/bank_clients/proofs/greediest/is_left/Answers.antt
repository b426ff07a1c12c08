use Rattle.std.proofs.Common.{arith, ◌≡◌, ◌≤◌, ◌<◌, ℕ, length, List, [], get_or, subst, sym, ◌∙◌}
use Rattle.std.specs.Prelude.{IfSome, slice_get}
use Rattle.std.proofs.lemmas.Bool.{eqb-true}
use Rattle.std.proofs.lemmas.List.Elements.{All-more}
use Rattle.std.proofs.lemmas.Option.{MatchOption-from_none, slice_get_past}
use Rattle.bank_clients.proofs.UnreadByAll.{none_unread}
use Rattle.bank_clients.proofs.greediest.is_left.Goals.{else-place-len-via-then-place-len+else-not-is_empty, else-place-len-via-else-place-len}
use Rattle.bank_clients.proofs.greediest.is_left.Goals as goal

pub loop-place-preserved : goal.loop-place-preserved
loop-place-preserved c =
    let clients = c.args.clients.now.all in
    let stirred = c.args.clients.now.stirred in
    let index = c.loop-place.place-index in
    let place : ℕ = get_or c.stirred-place-items.result.now index 0 in
    let same : c.stirred-place-items.result.now ≡ stirred = c.stirred-place-items.ensures in
    let within : index < length stirred = subst (λ (l : List ℕ). index < length l) same c.loop-place-test.true in
    let own : IfSome (slice_get clients place) (λ client. client.outcomes ≡ []) =
    elim c.else-place-len.branch [
      | else-place-len-via-then-place-len+else-not-is_empty w ↦ none_unread clients place w.outcomes.result.now w.outcomes.ensures
          (eqb-true (length w.outcomes.result.now) 0 (sym w.is_empty.ensures ∙ w.if-not-is_empty.false))
      | else-place-len-via-else-place-len w ↦
          let past : length clients ≤ place = omega (arith, w.if-place-len.false, c.len.ensures) in
          MatchOption-from_none (slice_get clients place) (λ client. client.outcomes ≡ []) (slice_get_past clients place past)
    ] in
    All-more (λ place. IfSome (slice_get clients place) (λ client. client.outcomes ≡ [])) stirred index 0 within c.loop-place.invariant
    (subst (λ (l : List ℕ). IfSome (slice_get clients (get_or l index 0)) (λ client. client.outcomes ≡ [])) same own)
