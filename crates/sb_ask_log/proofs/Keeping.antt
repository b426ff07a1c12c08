-- A log that stays as it is kept.
use Rattle.std.proofs.Common.{◌≡◌, List, [], ◌++◌, refl, sym, ap, ◌∙◌, subst}
use Rattle.std.proofs.lemmas.List.{append-nil}
use Rattle.sb_calls.specs.declared.ask.Key.{Key}
use Rattle.sb_calls.specs.declared.call.Call.{Call}
use Rattle.sb_ask_log.specs.Keeping.{KeeperGoesOn, KeeperModel, KeepsOn}

-- who changes nothing keeps on what is kept
pub keeps_same : {K : Type 0} (model : KeeperModel K) (keeper : K) (log : List (Key × Call))
    → KeepsOn model keeper log keeper log
keeps_same model keeper log kept rest there front =
    let same : kept ++ [] ≡ kept = append-nil kept in (
      [],
      subst (model.Keeps keeper) (sym same) there,
      rest,
      front ∙ ap (λ l. l ++ rest) (sym same),
    )

-- a keeper that changes nothing goes on
pub keeper_stays : {K : Type 0} {model : KeeperModel K} (keeper : K)
    (log : List (Key × Call)) → KeeperGoesOn model keeper log keeper log
keeper_stays {model = model} keeper log = record { keeps_on = keeps_same model keeper log; same_opening = refl; failed = λ e. e }
