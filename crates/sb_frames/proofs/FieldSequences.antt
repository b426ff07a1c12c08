-- Fields in a row, from which a value is made.
use Rattle.std.proofs.Common.{◌≡◌, ℕ, List, ◌∷◌, ◌++◌, Result, Ok, refl, sym, ap, subst, ◌∙◌, append_assoc}
use Rattle.sb_frames.specs.Reading.{◌>>=◌}
use Rattle.sb_frames.specs.Streaming.{AreBytes}
use Rattle.sb_frames.specs.declared.fault.FrameFault.{FrameFault}
use Rattle.sb_frames.proofs.IntegerFields.{IsField}
use Rattle.sb_frames.proofs.ReadingSteps.{first_step, same_value, rest_bytes}

-- the value that was made, and the bytes after it
abbrev pub made : {Z : Type 0} → Z → List ℕ → Result (Z × List ℕ) FrameFault
made value rest = Ok (value, rest)

-- one value, and the same bytes after it
pub parts : {Z : Type 0} (x z : Z) (left rest : List ℕ) → made x left ≡ made z rest → (z ≡ x) × (left ≡ rest)
parts {Z = Z} x z left rest e =
    let same = same_value (x, left) (z, rest) e in
    (ap (λ (p : Z × List ℕ). p.0) (sym same), ap (λ (p : Z × List ℕ). p.1) same)

-- two parts, one after the other
joined : (bytes front behind back rest : List ℕ) → bytes ≡ front ++ behind → behind ≡ back ++ rest → bytes ≡ (front ++ back) ++ rest
joined bytes front behind back rest e d = e ∙ ap (λ (xs : List ℕ). front ++ xs) d ∙ sym (append_assoc front back rest)

pub one_takes : {A Z : Type 0} {V : A → Type 0} {s : A → List ℕ} {f : List ℕ → Result (A × List ℕ) FrameFault} → IsField V s f
    → (make : A → Z) (bytes : List ℕ) (z : Z) (rest : List ℕ)
    → AreBytes bytes → (f bytes >>= λ a. made (make a.0) a.1) ≡ made z rest → (a : A) × V a × (z ≡ make a) × (bytes ≡ s a ++ rest)
one_takes {Z = Z} {s = s} {f = f} F make bytes z rest are e =
    let step = first_step (f bytes) (λ a. made (make a.0) a.1) (z, rest) e in
    let whole = parts (make step.0.0) z step.0.1 rest step.2 in
    let read = F.takes bytes step.0.0 step.0.1 are step.1 in
    (step.0.0, read.0, whole.0, read.1 ∙ ap (λ (xs : List ℕ). s step.0.0 ++ xs) whole.1)

pub two_take : {A B Z : Type 0} {V : A → Type 0} {s : A → List ℕ} {f : List ℕ → Result (A × List ℕ) FrameFault} {W : B → Type 0} {t : B → List ℕ} {g : List ℕ
    → Result (B × List ℕ) FrameFault}
    → IsField V s f → IsField W t g → (make : A → B → Z) (bytes : List ℕ) (z : Z) (rest : List ℕ) → AreBytes bytes
    → (f bytes >>= λ a. g a.1 >>= λ b. made (make a.0 b.0) b.1) ≡ made z rest → (a : A) × (b : B) × V a × W b × (z ≡ make a b) × (bytes ≡ (s a ++ t b) ++ rest)
two_take {Z = Z} {s = s} {f = f} {t = t} {g = g} F G make bytes z rest are e =
    let first = first_step (f bytes) (λ a. g a.1 >>= λ b. made (make a.0 b.0) b.1) (z, rest) e in
    let a = F.takes bytes first.0.0 first.0.1 are first.1 in
    let b = one_takes G (make first.0.0) first.0.1 z rest (rest_bytes bytes (s first.0.0) first.0.1 are a.1) first.2 in
    (first.0.0, b.0, a.0, b.1, b.2, joined bytes (s first.0.0) first.0.1 (t b.0) rest a.1 b.3)

pub three_take : {A B C Z : Type 0} {V : A → Type 0} {s : A → List ℕ} {f : List ℕ → Result (A × List ℕ) FrameFault} {W : B → Type 0} {t : B
    → List ℕ} {g : List ℕ → Result (B × List ℕ) FrameFault}
    {X : C → Type 0} {u : C → List ℕ} {h : List ℕ → Result (C × List ℕ) FrameFault} → IsField V s f → IsField W t g → IsField X u h
    → (make : A → B → C → Z) (bytes : List ℕ) (z : Z) (rest : List ℕ)
    → AreBytes bytes → (f bytes >>= λ a. g a.1 >>= λ b. h b.1 >>= λ c. made (make a.0 b.0 c.0) c.1) ≡ made z rest
    → (a : A) × (b : B) × (c : C) × V a × W b × X c × (z ≡ make a b c) × (bytes ≡ (s a ++ (t b ++ u c)) ++ rest)
three_take {Z = Z} {s = s} {f = f} {t = t} {g = g} {u = u} {h = h} F G H make bytes z rest are e =
    let first = first_step (f bytes) (λ a. g a.1 >>= λ b. h b.1 >>= λ c. made (make a.0 b.0 c.0) c.1) (z, rest) e in
    let a = F.takes bytes first.0.0 first.0.1 are first.1 in
    let b = two_take G H (make first.0.0) first.0.1 z rest (rest_bytes bytes (s first.0.0) first.0.1 are a.1) first.2 in
    (first.0.0, b.0, b.1, a.0, b.2, b.3, b.4, joined bytes (s first.0.0) first.0.1 (t b.0 ++ u b.1) rest a.1 b.5)

pub one_again : {A Z : Type 0} {V : A → Type 0} {s : A → List ℕ} {f : List ℕ → Result (A × List ℕ) FrameFault}
    → IsField V s f → (make : A → Z) (a : A) (rest : List ℕ) → V a → (f (s a ++ rest) >>= λ a. made (make a.0) a.1) ≡ made (make a) rest
one_again F make a rest v = rw (F.again a rest v) refl

pub two_again : {A B Z : Type 0} {V : A → Type 0} {s : A → List ℕ} {f : List ℕ → Result (A × List ℕ) FrameFault} {W : B → Type 0} {t : B → List ℕ} {g : List ℕ
    → Result (B × List ℕ) FrameFault}
    → IsField V s f → IsField W t g → (make : A → B → Z) (a : A) (b : B) (rest : List ℕ) → V a → W b
    → (f ((s a ++ t b) ++ rest) >>= λ a. g a.1 >>= λ b. made (make a.0 b.0) b.1) ≡ made (make a b) rest
two_again {s = s} {t = t} F G make a b rest v w = rw (append_assoc (s a) (t b) rest, F.again a (t b ++ rest) v, G.again b rest w) refl

pub three_again : {A B C Z : Type 0} {V : A → Type 0} {s : A → List ℕ} {f : List ℕ → Result (A × List ℕ) FrameFault} {W : B → Type 0} {t : B
    → List ℕ} {g : List ℕ → Result (B × List ℕ) FrameFault} {X : C → Type 0} {u : C → List ℕ} {h : List ℕ → Result (C × List ℕ) FrameFault}
    → IsField V s f → IsField W t g → IsField X u h → (make : A → B → C → Z) (a : A) (b : B) (c : C) (rest : List ℕ) → V a → W b → X c
    → (f ((s a ++ (t b ++ u c)) ++ rest) >>= λ a. g a.1 >>= λ b. h b.1 >>= λ c. made (make a.0 b.0 c.0) c.1) ≡ made (make a b c) rest
three_again {s = s} {t = t} {u = u} F G H make a b c rest v w x =
    rw (
      append_assoc (s a) (t b ++ u c) rest,
      append_assoc (t b) (u c) rest,
      F.again a (t b ++ (u c ++ rest)) v,
      G.again b (u c ++ rest) w,
      H.again c rest x,
    ) refl

-- ---- after a tag

-- a tag and two fields, and one more field behind them
pub one_behind : (before fields after : List ℕ) (tag : ℕ) (first second last : List ℕ) → fields ≡ before ++ (tag ∷ (first ++ second)) → after ≡ fields ++ last
    → after ≡ before ++ (tag ∷ (first ++ (second ++ last)))
one_behind before fields after tag first second last e d =
    d ∙ ap (λ (xs : List ℕ). xs ++ last) e ∙ append_assoc before (tag ∷ (first ++ second)) last
    ∙ ap (λ (xs : List ℕ). before ++ (tag ∷ xs)) (append_assoc first second last)

-- the tag and the bytes after it are the value's spelling, followed by the rest
abbrev pub Behind : {Z : Type 0} → (Z → Type 0) → (Z → List ℕ) → ℕ → List ℕ → Z → List ℕ → Type 0
Behind Valid spell tag bytes z rest = Valid z × (tag ∷ bytes ≡ spell z ++ rest)

pub is_behind : {Z : Type 0} (Valid : Z → Type 0) (spell : Z → List ℕ) (tag n : ℕ) (bytes fields rest : List ℕ) (z value : Z)
    → tag ≡ n → z ≡ value → bytes ≡ fields ++ rest → Valid value → spell value ≡ n ∷ fields → Behind Valid spell tag bytes z rest
is_behind Valid spell tag n bytes fields rest z value is z_is e valid spelled = (
  subst Valid (sym z_is) valid,
  ap (λ k. k ∷ bytes) is ∙ ap (λ (xs : List ℕ). n ∷ xs) e ∙ ap (λ (xs : List ℕ). xs ++ rest) (sym spelled) ∙ ap (λ v. spell v ++ rest) (sym z_is),
)
