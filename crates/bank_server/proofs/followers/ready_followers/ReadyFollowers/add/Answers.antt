use Rattle.std.proofs.Common.{◌≡◌, ℕ, List, [], ◌∷◌, ◌++◌, length, map, sym, ap, subst, ◌∙◌}
use Rattle.std.specs.Prelude.{◌≢◌, MatchOption, IfSome}
use Rattle.std.proofs.lemmas.List.{map-append}
use Rattle.sb_rows.specs.Balances.{Balances, IsBalances}
use Rattle.sb_calls.specs.Behaviour.{declared_cowns, effect_of}
use Rattle.cown_board.specs.Board.{unfinished_of, IsAfterAll}
use Rattle.bank_server.specs.Followers.{IsAtOpening}
use Rattle.bank_server.proofs.boards.Openings.{opened_columns}
use Rattle.bank_server.proofs.followers.ready_followers.ReadyFollowers.add.Goals as goal

-- what is seen of a list is longer by what is seen of its new item
pushed : {A B : Type 0} (f : A → B) (old mid new : List A) (x : A) → mid ≡ old → new ≡ mid ++ x ∷ [] → map f new ≡ map f old ++ f x ∷ []
pushed f old mid new x room push = ap (map f) (push ∙ ap (λ l. l ++ x ∷ []) room) ∙ map-append f old (x ∷ [])

pub open_copy-requires : goal.open_copy-requires
open_copy-requires g c =
    let board = c.args.node.now.board in
    let settled = subst (λ lent. MatchOption lent (unfinished_of board ≢ 0)
    (λ all. (unfinished_of board ≡ 0) × IsAfterAll declared_cowns effect_of board all.now)) c.unwrap-columns.ensures c.final_columns.ensures.value in
    let bank = subst (λ lent. IfSome lent (λ all. IsBalances all.now)) c.unwrap-columns.ensures c.final_columns.ensures.bank in
    let same = opened_columns c.args.node.now.names board c.unwrap-columns.result.now c.requires.opened c.requires.customers settled.1 bank in
    ap (λ (b : Balances). length b.savings) same ∙ c.requires.customers.same_length ∙ ap length (sym c.directory.ensures)

pub returns-clause-added : goal.returns-clause-added
returns-clause-added g c =
    let board = c.args.node.now.board in
    let settled = subst (λ lent. MatchOption lent (unfinished_of board ≢ 0)
    (λ all. (unfinished_of board ≡ 0) × IsAfterAll declared_cowns effect_of board all.now)) c.unwrap-columns.ensures c.final_columns.ensures.value in
    let bank = subst (λ lent. IfSome lent (λ all. IsBalances all.now)) c.unwrap-columns.ensures c.final_columns.ensures.bank in
    let same = opened_columns c.args.node.now.names board c.unwrap-columns.result.now c.requires.opened c.requires.customers settled.1 bank in
    let replica = c.in_ok-replica.replica.value in (
      replica,
      subst (λ (b : Balances). IsAtOpening c.args.node.now.names b replica) same
          (subst (λ (names : List (List ℕ)). IsAtOpening names c.unwrap-columns.result.now replica) c.directory.ensures c.in_ok-replica.ensures),
      pushed (λ follower. follower.replica.value) c.self.inside.followers.items c.reserve-2.new.self.items c.push_reserved-2.new.self.items _
          c.reserve-2.ensures.items c.push_reserved-2.ensures.items
          ∙ ap (λ l. l ++ replica ∷ []) (ap (λ (v : _). v.replicas) c.self.view_is),
    )
