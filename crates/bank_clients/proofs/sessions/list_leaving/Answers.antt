use Rattle.std.proofs.Common.{arith, ◌≡◌, ◌≤◌, ℕ, length, true, Some, List, [], ◌∷◌, ◌++◌, get_or, subst, sym, ◌∙◌}
use Rattle.std.specs.Prelude.{IfSome, is_some, slice_get}
use Rattle.std.specs.List.{Contains}
use Rattle.std.proofs.lemmas.Bool.{eqb-true}
use Rattle.std.proofs.lemmas.List.Elements.{Contains-append_left, Contains-push}
use Rattle.std.proofs.lemmas.Option.{MatchOption-from_none, slice_get-get_or, slice_get_past}
use Rattle.bank_clients.proofs.Leaving.{listed_anyway, listed_if_ended, listed_with}
use Rattle.bank_clients.proofs.sessions.list_leaving.Goals.{then-has_ended+then-not-contains+in_ok-push, else-has_ended, else-has_ended-via-then-has_ended+else-not-contains, else-has_ended-via-else-has_ended, then-place-len, else-place-len}
use Rattle.bank_clients.proofs.sessions.list_leaving.Goals as goal

pub loop-place-preserved : goal.loop-place-preserved
loop-place-preserved c =
    let clients = c.args.clients.now.all in
    let listed = c.loop-place.leaving.items in
    let listed_after = c.if-has_ended.leaving.items in
    let index = c.loop-place.place-index in
    let place : ℕ = get_or c.stirred-place-items.result.now index 0 in
    let found : slice_get c.args.clients.now.stirred index ≡ Some place =
    subst (λ (l : List ℕ). slice_get l index ≡ Some place) c.stirred-place-items.ensures
    (slice_get-get_or c.stirred-place-items.result.now index 0 c.loop-place-test.true) in
    let go_on = λ (still : (i : ℕ) → Contains listed i → Contains listed_after i)
    (own : IfSome (slice_get clients place) (λ client. is_some client.ending ≡ true → Contains listed_after place)).
    listed_with clients listed listed_after c.args.clients.now.stirred index place found still own c.loop-place.invariant in
    elim c.if-has_ended.branch [
      | then-has_ended+then-not-contains+in_ok-push w ↦
          let items : listed_after ≡ listed ++ place ∷ [] = cc w.in_ok-push.ensures.items in
          go_on (λ i there. subst (λ (l : List ℕ). Contains l i) (sym items) (Contains-append_left listed (place ∷ []) i there))
          (listed_anyway clients place (Contains listed_after place) (subst (λ (l : List ℕ). Contains l place) (sym items) (Contains-push listed place)))
      | else-has_ended w ↦
          let items : listed_after ≡ listed = cc in
          let still : (i : ℕ) → Contains listed i → Contains listed_after i = λ i there. subst (λ (l : List ℕ). Contains l i) (sym items) there in
          elim w.else-has_ended.branch [
            | else-has_ended-via-then-has_ended+else-not-contains v ↦
                let at = v.if-not-contains.ensures.cases in
                let there : Contains listed place =
                subst (λ (l : List ℕ). Contains l place) v.deref.ensures.value
                (at.0, at.1, eqb-true (get_or v.deref.result.now at.0 place) place (at.2 place)) in
                go_on still (listed_anyway clients place (Contains listed_after place) (still place there))
            | else-has_ended-via-else-has_ended v ↦
                elim c.if-place-len.branch [
                  | then-place-len u ↦ go_on still (listed_if_ended clients place (Contains listed_after place) u.ending.result u.ending.ensures
                      (sym u.is_some-has_ended.ensures ∙ sym u.has_ended-is ∙ v.if-has_ended.false))
                  | else-place-len u ↦
                      let past : length clients ≤ place = omega (arith, u.if-place-len.false, c.len.ensures) in
                      go_on still (MatchOption-from_none (slice_get clients place) (λ client. is_some client.ending ≡ true → Contains listed_after place)
                      (slice_get_past clients place past))
                ]
          ]
    ]
