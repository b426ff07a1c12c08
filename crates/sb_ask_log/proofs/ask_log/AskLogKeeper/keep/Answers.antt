use Rattle.std.proofs.Common.{◌≡◌, ◌++◌, ◌∙◌, Bool, true, List, [], take, Result, Ok, Err, Some, ap, refl, sym, subst, append-nil}
use Rattle.std.specs.Prelude.{MatchResult}
use Rattle.std.proofs.lemmas.List.{take_at}
use Rattle.std.proofs.lemmas.Result.{IfErr-weaker}
use Rattle.sb_calls.specs.declared.ask.Key.{Key}
use Rattle.sb_calls.specs.declared.call.Call.{Call}
use Rattle.sb_log.specs.declared.log_fault.LogFault.{LogFault}
use Rattle.sb_log.specs.declared.log_fault.LogFault.TheVariants.{Damaged, Device, InUse, OutOfMemory}
use Rattle.sb_ask_log.specs.Keeping.{IsKeepFault}
use Rattle.sb_ask_log.specs.Telling.{AskLogOf, FailsToSave, KeepsAsks}
use Rattle.sb_ask_log.proofs.ask_log.AskLogKeeper.keep.Goals as goal

-- what is kept on, whatever the answer
kept_on : {A E : Type 0} (result : Result A E) (keeps : List (Key × Call) → Type 0) (log kept rest : List (Key × Call)) → log ≡ kept ++ rest
    → MatchResult result (λ done. keeps log) (λ fault. keeps kept)
    → (more : List (Key × Call)) × keeps (kept ++ more) × (behind : List (Key × Call)) × (log ≡ (kept ++ more) ++ behind)
kept_on (Ok done) keeps log kept rest parts all = (rest, subst keeps parts all, [], parts ∙ sym (append-nil (kept ++ rest)))
kept_on (Err fault) keeps log kept rest parts some =
    let same : kept ++ [] ≡ kept = append-nil kept in
    ([], subst keeps (sym same) some, rest, parts ∙ ap (λ (l : List (Key × Call)). l ++ rest) (sym same))

-- why the rest of a log isn't saved is why the log isn't kept
keep_fault : {F : Type 0} (has_failed : F → Bool) (old new : AskLogOf F) (fault : LogFault) → FailsToSave has_failed old fault new
    → IsKeepFault true new.log.failed fault
keep_fault has_failed old new (Damaged byte behind) is = absurd is
keep_fault has_failed old new Device is = (refl, is.0)
keep_fault has_failed old new OutOfMemory is = refl
keep_fault has_failed old new InUse is = absurd is

pub returns-clause-stays : goal.returns-clause-stays
returns-clause-stays g c = record {
  keeps_on = λ kept rest keeps parts.
      let log = c.args.log.now.log in
      let old = c.args.self.now in
      let front : take old.saved log ≡ kept =
      ap (λ (l : List (Key × Call)). take old.saved l) parts ∙ take_at kept rest old.saved (sym keeps.saved_is) in
      let was = subst (KeepsAsks {F = g.row.F.Denot} g.F.LogFile.IsHonest g.F.LogFile.model old) (sym front) keeps in
      let now = KeepsAsks {F = g.row.F.Denot} g.F.LogFile.IsHonest g.F.LogFile.model c.save_rest.new.self in
      kept_on c.save_rest.result now log kept rest parts
      (subst (λ (l : List (Key × Call)). MatchResult c.save_rest.result (λ done. now log) (λ fault. now l)) front (c.save_rest.ensures.keeps was));
  same_opening = ap Some c.save_rest.ensures.text;
  failed = c.save_rest.ensures.failed;
}

pub returns-clause-fault : goal.returns-clause-fault
returns-clause-fault g c = IfErr-weaker c.save_rest.result (λ fault. FailsToSave g.F.LogFile.has_failed c.args.self.now fault c.save_rest.new.self)
    (IsKeepFault true c.save_rest.new.self.log.failed) (λ fault is. keep_fault g.F.LogFile.has_failed c.args.self.now c.save_rest.new.self fault is)
    c.save_rest.ensures.fault
