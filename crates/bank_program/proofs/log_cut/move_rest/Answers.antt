use Rattle.std.proofs.Common.{rules, ◌≡◌, ◌∙◌, ℕ, ◌+◌, List, [], ap, subst, sym, drop, length, arith}
use Rattle.std.specs.Prelude.{Option, take}
use Rattle.std.specs.Io.KnownBytes.{Appends}
use Rattle.bank_program.proofs.MovedPieces.{moved_all, moved_on}
use Rattle.bank_program.proofs.log_cut.move_rest.Goals as goal
use Rattle.bank_program.proofs.log_cut.move_rest.Goals.{then-at-from+in_ok-sync, else-at-from}

pub returns-then-not-branch-clause-moved : goal.returns-then-not-branch-clause-moved
returns-then-not-branch-clause-moved g c honest =
    let inv = c.loop.invariant in
    let file = c.args.file.now in
    let read = c.in_ok-read_piece.ensures.read (inv.0.honest.0 honest) in
    let none : take 65536 (drop c.loop.at (g.F.LogFile.model file).content) ≡ [] =
    ap (λ (l : List ℕ). take 65536 (drop c.loop.at l)) (sym (inv.0.content_is honest)) ∙ sym read.0 ∙ read.1 c.if-not-branch.true in
    let same : g.R.Write.contents c.if-at-from.rest ≡ g.R.Write.contents c.loop.rest = elim c.if-at-from.branch [
      | then-at-from+in_ok-sync w ↦ ap g.R.Write.contents w.rest-is ∙ w.sync.ensures.contents
      | else-at-from w ↦ ap g.R.Write.contents w.rest-is
    ] in
    let has = inv.2 honest in
    let moves = moved_all (g.F.LogFile.model file).content c.args.from c.loop.at (g.R.Write.contents c.args.rest.now) (g.R.Write.contents c.loop.rest)
    inv.1 has.0 none has.1 in (
      moves.0,
      subst (λ (o : Option (List ℕ)). Appends (g.R.Write.contents c.args.rest.now) o (drop c.args.from (g.F.LogFile.model file).content))
          (sym same) moves.1,
    )

pub loop-preserved : goal.loop-preserved
loop-preserved g c =
    let inv = c.loop.invariant in
    let file = c.args.file.now in
    let next : c.in-Some.next ≡ c.loop.at + length c.read_piece.new.piece.items = search rules in (
      record {
        honest = ((λ h. c.read_piece.ensures.file.honest.0 (inv.0.honest.0 h)), (λ h. inv.0.honest.1 (c.read_piece.ensures.file.honest.1 h)));
        content_is = λ h. c.read_piece.ensures.file.content_is (inv.0.honest.0 h) ∙ inv.0.content_is h;
        synced_in = λ h. omega (arith, c.read_piece.ensures.file.synced_in (inv.0.honest.0 h), inv.0.synced_in h);
        syncable_in = λ h. omega (arith, c.read_piece.ensures.file.syncable_in (inv.0.honest.0 h), inv.0.syncable_in h);
      },
      omega (arith, next, inv.1),
      λ honest.
          let read = c.in_ok-read_piece.ensures.read (inv.0.honest.0 honest) in
          let has = inv.2 honest in
          moved_on (g.F.LogFile.model file).content c.read_piece.new.piece.items 65536 c.args.from c.loop.at c.in-Some.next
          (g.R.Write.contents c.args.rest.now) (g.R.Write.contents c.loop.rest) (g.R.Write.contents c.write_all.new.self) inv.1 has.0
          (read.0 ∙ ap (λ (l : List ℕ). take 65536 (drop c.loop.at l)) (inv.0.content_is honest)) next has.1 (search rules),
    )
