use Rattle.std.proofs.Common.{◌++◌, Bor, List, ℕ, Some, None, ap, subst, sym, take, ◌∙◌}
use Rattle.std.proofs.lemmas.Bool.Decides.{Decides-eqb}
use Rattle.std.proofs.lemmas.Slice.Eq.{strip_prefix_is}
use Rattle.sb_checkpoint.proofs.PieceComparison.{GoesOn, differs, goes_on, stays}
use Rattle.sb_checkpoint.proofs.folder_file.reads_exactly.Goals as goal
use Rattle.sb_checkpoint.proofs.folder_file.reads_exactly.Goals.{in-Ok+in-Some, in-Err+else-ne}

pub returns-in-None : goal.returns-in-None
returns-in-None g c =
    let piece = take c.in-Ok.count c.read.new.buf in
    let before = c.loop.invariant in
    differs (g.R.Read.remaining c.args.reader.now) (g.R.Read.remaining c.loop.reader) (g.R.Read.remaining c.read.new.self) c.args.bytes.now before.0
    c.loop.rest.now piece before.1 before.2 c.in-Ok.ensures.bytes.0
    (strip_prefix_is Decides-eqb c.loop.rest.now piece None c.in-None.ensures.cases)

pub loop-preserved : goal.loop-preserved
loop-preserved g c = elim c.match-read.branch [
  | in-Ok+in-Some w ↦
      let piece = take w.in-Ok.count c.read.new.buf in
      let before = c.loop.invariant in
      goes_on (g.R.Read.remaining c.args.reader.now) (g.R.Read.remaining c.loop.reader) (g.R.Read.remaining c.read.new.self) c.args.bytes.now before.0
      c.loop.rest.now before.1 before.2 piece c.match-read.rest.now w.in-Ok.ensures.bytes.0
      (strip_prefix_is Decides-eqb c.loop.rest.now piece (Some w.in-Some.after) w.in-Some.ensures.cases
      ∙ ap (λ (rest : Bor (List ℕ)). piece ++ rest.now) (sym w.rest-is))
  | in-Err+else-ne w ↦
      let before = c.loop.invariant in
      subst (λ (rest : Bor (List ℕ)).
      GoesOn (g.R.Read.remaining c.args.reader.now) (g.R.Read.remaining c.read.new.self) c.args.bytes.now rest.now) (sym w.rest-is)
      (stays (g.R.Read.remaining c.args.reader.now) (g.R.Read.remaining c.loop.reader) (g.R.Read.remaining c.read.new.self) c.args.bytes.now before.0
      c.loop.rest.now before.1 before.2 w.in-Err.ensures.bytes)
]
