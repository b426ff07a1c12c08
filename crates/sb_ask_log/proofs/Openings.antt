-- When a text is an opening up to its end.
use Rattle.std.proofs.Common.{◌≡◌, ◌≢◌, ℕ, ◌-◌, true, eqb, Result, Ok, List, [], ◌∷◌, ◌++◌, length, take, drop, refl, sym, ap, ◌∙◌, arith, length-append}
use Rattle.std.specs.List.{ends_with}
use Rattle.std.specs.Cmp.Lexicographic.{same_text}
use Rattle.std.proofs.lemmas.List.{drop_at, take-append-drop}
use Rattle.sb_rows.specs.Opening.{OpeningText, opening_of}
use Rattle.sb_rows.specs.declared.fault.LineFault.{LineFault}
use Rattle.sb_ask_log.specs.LogFile.{IsOpeningText}

-- a text that ends a line
pub ends_line : (text : List ℕ) → ends_with eqb text (10 ∷ []) ≡ true → (front : List ℕ) × (text ≡ front ++ 10 ∷ [])
ends_line text e =
    let k = length text - 1 in
    let last : 10 ∷ [] ≡ drop k text = same_text (10 ∷ []) (drop k text) (sym e) in
    (take k text, sym (take-append-drop k text) ∙ ap (λ (l : List ℕ). take k text ++ l) (sym last))

pub line_ends : (text front : List ℕ) → text ≡ front ++ 10 ∷ [] → ends_with eqb text (10 ∷ []) ≡ true
line_ends text front e =
    let last : drop (length text - 1) text ≡ 10 ∷ [] =
    ap (λ (l : List ℕ). drop (length text - 1) l) e
    ∙ drop_at front (10 ∷ []) (length text - 1) (omega (arith, ap length e, length-append front (10 ∷ []))) in
    let same : ends_with eqb text (10 ∷ []) ≡ true = rw last refl in
    same

-- one opening is read
pub one_opening : (text : List ℕ) (a b : OpeningText) → opening_of text ≡ Ok a → opening_of text ≡ Ok b → a ≡ b
one_opening text a b e f = same_ok a b (sym e ∙ f)
  where
    same_ok : (x y : OpeningText) → ◌≡◌ {A = Result OpeningText (ℕ × LineFault)} (Ok x) (Ok y) → x ≡ y
    same_ok x y h = cc

-- an opening's text has some bytes
pub opening_filled : (text : List ℕ) → IsOpeningText text → text ≢ []
opening_filled text is none =
    omega (arith, ap length (sym is.ended.1 ∙ none), length-append is.ended.0 (10 ∷ []))
