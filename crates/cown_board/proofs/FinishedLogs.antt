-- What the cowns hold once a log is finished.
use Rattle.std.proofs.Common.{◌≡◌, ℕ, ℤ, pos, false, List, length, get_or, sym, ap, ◌∙◌, arith}
use Rattle.std.specs.Prelude.{count_by}
use Rattle.std.proofs.lemmas.List.{ext_get_or, take_all}
use Rattle.sb_calls.specs.SerialRun.{contents_after}
use Rattle.sb_calls.specs.declared.reply.Reply.{Reply}
use Rattle.cown_board.proofs.UnfinishedCounts.{all_finished}
use Rattle.cown_board.proofs.ReadyInputs.{touched_within}
use Rattle.cown_board.proofs.LogLaws.{length-after}
use Rattle.cown_board.specs.inner.BoardInvariant.{AgreesWithLog}
use Rattle.cown_board.specs.State.{is_unfinished, unfinished_at}
use Rattle.cown_board.specs.declared.state.State.{State}

module _ {B : Type 0} (touches : B → List ℕ) (effect : B → List ℤ → Reply × List ℤ) where
  -- each cown is finished up to the end, and so holds what the log leaves
  pub keeps_all : {opening : List ℤ} {log : List B} {states : List State} {held : List ℤ} → AgreesWithLog touches effect opening log states held
      → count_by is_unfinished states ≡ 0 → held ≡ contents_after touches effect opening log
  keeps_all {opening = opening} {log = log} {states = states} {held = held} kept idle =
      let none : (j : ℕ) → unfinished_at states j ≡ false = λ j. all_finished states j idle in
      ext_get_or (pos 0) held (contents_after touches effect opening log) (kept.cown_count ∙ sym (length-after touches effect opening log))
      (λ cown lt. kept.finished_up_to cown (length log) (omega arith) (record {
        before = λ j _ _. none j;
        after = λ j ge among. absurd (let within = touched_within touches effect log cown j among in omega (arith, within, ge));
      }) ∙ ap (λ l. get_or (contents_after touches effect opening l) cown (pos 0)) (take_all (length log) log (omega arith)))
