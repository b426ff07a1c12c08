use Rattle.std.proofs.Common.{◌≡◌, ℕ, Bool, true, false, cond, List, take, length, min, Option, Some, None, ap, ap₂, ◌∙◌}
use Rattle.std.specs.Prelude.{nat_eq}
use Rattle.std.specs.List.{starts_with}
use Rattle.std.proofs.lemmas.List.{take_min}
use Rattle.sb_checkpoint.specs.Checkpoint.{Layout, First, Second, magic}
use Rattle.sb_checkpoint.specs.Reading.{stated_layout}
use Rattle.sb_checkpoint.proofs.layout.Layout.of.Goals as goal

none : Option Layout
none = None

-- by whether the front continues as each magic does
by_front : (bytes : List ℕ) (front : ℕ) (first second : Bool) → front ≡ min 8 (length bytes)
    → first ≡ starts_with nat_eq (magic First) (take front bytes) → second ≡ starts_with nat_eq (magic Second) (take front bytes)
    → cond first (Some First) (cond second (Some Second) none) ≡ stated_layout bytes
unfolding stated_layout none
by_front bytes front first second size is_first is_second =
    let same : take front bytes ≡ take 8 bytes = ap (λ n. take n bytes) size ∙ take_min 8 bytes in
    let begins = λ (layout : Layout) (front : List ℕ). starts_with nat_eq (magic layout) front in
    ap₂ (λ (a b : Bool). cond a (Some First) (cond b (Some Second) none)) (is_first ∙ ap (begins First) same) (is_second ∙ ap (begins Second) same)

pub returns-then-starts_with-2 : goal.returns-then-starts_with-2
returns-then-starts_with-2 c =
    by_front c.args.bytes.now c.min.result false true c.min.ensures c.if-starts_with.ensures.value c.if-starts_with-2.ensures.value

pub returns-else-starts_with-2 : goal.returns-else-starts_with-2
unfolding none
returns-else-starts_with-2 c =
    by_front c.args.bytes.now c.min.result false false c.min.ensures c.if-starts_with.ensures.value c.if-starts_with-2.ensures.value
