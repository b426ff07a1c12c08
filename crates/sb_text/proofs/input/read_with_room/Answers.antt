use Rattle.std.proofs.Common.{◌≡◌, ℕ, Option, List, [], ◌++◌, take, append-nil, sym, subst, ap, ◌∙◌, arith}
use Rattle.std.specs.Io.KnownBytes.{Consumes}
use Rattle.std.proofs.KnownBytes.{Consumes-trans, Consumes-kept, Consumes-all}
use Rattle.sb_text.proofs.input.read_with_room.Goals.{in-Ok+in_ok-extend_from_slice-in-Ok, in-Err+else-ne}
use Rattle.sb_text.proofs.input.read_with_room.Goals as goal

-- a piece that is read comes behind those before it
one_more : (a b c : Option (List ℕ)) (before piece after : List ℕ) → Consumes a b before → Consumes b c piece → after ≡ before ++ piece
    → Consumes a c after
one_more a b c before piece after h k is = subst (Consumes a c) (sym is) (Consumes-trans a b c before piece h k)

pub loop-preserved : goal.loop-preserved
loop-preserved c w = elim w.match-read.branch [
  | in-Ok+in_ok-extend_from_slice-in-Ok v ↦
      one_more _ _ _ _ _ _ w.loop.invariant v.in-Ok.ensures.bytes.0
      (ap (λ input. input.items) v.input-is ∙ v.in_ok-extend_from_slice-in-Ok.ensures.items)
  | in-Err+else-ne v ↦ rw v.input-is (Consumes-kept _ _ _ _ w.loop.invariant v.in-Err.ensures.bytes)
]

pub returns-in-Ok-eq0 : goal.returns-in-Ok-eq0
returns-in-Ok-eq0 c w =
    let input = w.loop.input.items in
    let read = w.in-Ok-eq0.ensures.bytes in
    let none : take w.in-Ok-eq0.field-0 w.read.new.buf ≡ [] = ap (λ n. take n w.read.new.buf) w.in-Ok-eq0.field-0-test in
    Consumes-all _ _ _ [] _ (Consumes-trans _ _ _ _ _ w.loop.invariant read.0) (read.1 w.in-Ok-eq0.field-0-test (omega (arith, w.read.auto.buf)))
    (sym (append-nil input) ∙ ap (λ piece. input ++ piece) (sym none))
