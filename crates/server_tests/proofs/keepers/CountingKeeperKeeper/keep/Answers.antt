use Rattle.std.proofs.Common.{◌≡◌, List, [], ◌++◌, refl, sym, ◌∙◌, append-nil}
use Rattle.sb_calls.specs.declared.ask.Key.{Key}
use Rattle.sb_calls.specs.declared.call.Call.{Call}
use Rattle.server_tests.proofs.keepers.CountingKeeperKeeper.keep.Goals as goal

-- the whole log is kept, as a keeper that promises nothing keeps any
all_kept : (log kept rest : List (Key × Call)) → log ≡ kept ++ rest
    → (more : List (Key × Call)) × Unit {0} × (behind : List (Key × Call)) × (log ≡ (kept ++ more) ++ behind)
all_kept log kept rest parts = (rest, tt, [], parts ∙ sym (append-nil (kept ++ rest)))

pub returns-then-self-eq0-clause-stays : goal.returns-then-self-eq0-clause-stays
returns-then-self-eq0-clause-stays c = record {
  keeps_on = λ kept rest told parts. all_kept c.args.log.now.log kept rest parts;
  same_opening = refl;
  failed = λ e. refl;
}

pub returns-clause-stays : goal.returns-clause-stays
returns-clause-stays c = record {
  keeps_on = λ kept rest told parts. all_kept c.args.log.now.log kept rest parts;
  same_opening = refl;
  failed = λ e. e;
}
