-- The lines of the final states, one replica after another.
use Rattle.std.proofs.Common.{◌≡◌, ℕ, suc, ◌+◌, Some, List, [], ◌∷◌, ◌++◌, drop, sym, ap, ◌∙◌, arith, append_assoc}
use Rattle.std.specs.Prelude.{slice_get}
use Rattle.std.proofs.lemmas.Grind.{flat_map-append}
use Rattle.sb_rows.specs.Text.{unlines}
use Rattle.schedule_player.specs.ReplicaMoves.{NodeOf}
use Rattle.schedule_player.specs.RunText.{state_lines, states_from}
use Rattle.schedule_player.specs.World.{WorldOf}
use Rattle.schedule_player.proofs.Lists.{drop_one}

pub both_lines : (these those : List (List ℕ)) → unlines (these ++ those) ≡ unlines these ++ unlines those
both_lines these those = flat_map-append (λ line. line ++ 10 ∷ []) these those

pub states_step : (world : WorldOf) (out : List ℕ) (nodes : List NodeOf) (r : ℕ) (node : NodeOf) → slice_get nodes r ≡ Some node
    → (out ++ unlines (state_lines world r node)) ++ unlines (states_from world (r + 1) (drop (r + 1) nodes))
    ≡ out ++ unlines (states_from world r (drop r nodes))
states_step world out nodes r node here =
    let next : r + 1 ≡ suc r = omega arith in
    let lines = state_lines world r node in
    append_assoc out (unlines lines) (unlines (states_from world (r + 1) (drop (r + 1) nodes)))
    ∙ ap (λ t. out ++ t) (
    sym (both_lines lines (states_from world (r + 1) (drop (r + 1) nodes)))
    ∙ ap unlines (ap (λ n. lines ++ states_from world n (drop (r + 1) nodes)) next ∙ ap (states_from world r) (sym (drop_one nodes r node here))))
