-- What counting the rest of a file keeps.
use Rattle.std.proofs.Common.{◌≡◌, ℕ, ◌+◌, ◌<◌, ◌≤◌, ◌↔◌, IsTrue, Bool, List, [], ◌++◌, length, take, drop, min, sym, ap, subst, ◌∙◌, arith, length-drop, length-take}
use Rattle.std.specs.List.{All}
use Rattle.std.proofs.Math.Seq.{take-append-add}
use Rattle.std.proofs.lemmas.List.{drop-drop, drop_at, take_all, take_min, take-append-drop, take-append-le}
use Rattle.std.proofs.lemmas.List.Elements.{All-append, All-drop, All-take}

abbrev pub IsBlank : List ℕ → Type 0
IsBlank bytes = All (λ byte. byte ≡ 0) bytes

-- so many of these bytes are counted, and were blank or not
pub record Counted (rest : List ℕ) (size : ℕ) (blank : Bool) : Type 0 where
  pub within : size ≤ length rest
  pub blank_is : IsTrue blank ↔ IsBlank (take size rest)

take_on : (n m : ℕ) (rest : List ℕ) → n ≤ length rest → take (n + m) rest ≡ take n rest ++ take m (drop n rest)
take_on n m rest within =
    ap (λ (l : List ℕ). take (n + m) l) (sym (take-append-drop n rest))
    ∙ ap (λ (k : ℕ). take (k + m) (take n rest ++ drop n rest)) (omega (arith, within, length-take n rest))
    ∙ take-append-add (take n rest) (drop n rest) m

-- what one read gives
pub piece_is : (now content cleared piece : List ℕ) (at size most : ℕ) → now ≡ content → cleared ≡ []
    → piece ≡ cleared ++ take most (drop (at + size) now) → piece ≡ take most (drop size (drop at content))
piece_is now content cleared piece at size most same empty read =
    read ∙ ap (λ (l : List ℕ). l ++ take most (drop (at + size) now)) empty
    ∙ ap (λ (l : List ℕ). take most (drop (at + size) l)) same ∙ ap (λ (l : List ℕ). take most l) (sym (drop-drop size at content))

pub one_more : (rest piece : List ℕ) (size most : ℕ) (blank both : Bool) → Counted rest size blank → piece ≡ take most (drop size rest)
    → IsTrue both ↔ (IsTrue blank × IsBlank piece) → Counted rest (size + length piece) both
one_more rest piece size most blank both c read both_is =
    let len : length piece ≡ min most (length (drop size rest)) = ap length read ∙ length-take most (drop size rest) in
    let again : take (length piece) (drop size rest) ≡ piece =
    ap (λ (k : ℕ). take k (drop size rest)) len ∙ take_min most (drop size rest) ∙ sym read in
    let all : take (size + length piece) rest ≡ take size rest ++ piece =
    take_on size (length piece) rest c.within ∙ ap (λ (l : List ℕ). take size rest ++ l) again in
    record {
      within = omega (arith, c.within, len, length-drop size rest);
      blank_is = (
        (λ yes. let parts = both_is.0 yes in
            subst IsBlank (sym all) (All-append (λ (byte : ℕ). byte ≡ 0) (take size rest) piece (c.blank_is.0 parts.0) parts.1)),
        (λ blank_all. both_is.1 (
          c.blank_is.1 (subst IsBlank (take-append-le size (take size rest) piece (omega (arith, c.within, length-take size rest)) ∙ take_all size
              (take size rest) (omega (arith, length-take size rest)))
              (All-take (λ (byte : ℕ). byte ≡ 0) size (take size rest ++ piece) (subst IsBlank all blank_all))),
          subst IsBlank (drop_at (take size rest) piece size (omega (arith, c.within, length-take size rest)))
              (All-drop (λ (byte : ℕ). byte ≡ 0) size (take size rest ++ piece) (subst IsBlank all blank_all)),
        )),
      );
    }

pub all_counted : (rest : List ℕ) (size most : ℕ) (blank : Bool) → Counted rest size blank → 0 < most → length (take most (drop size rest)) ≡ 0
    → (size ≡ length rest) × (IsTrue blank ↔ IsBlank rest)
all_counted rest size most blank c some none =
    let end : size ≡ length rest = omega (arith, c.within, none, length-take most (drop size rest), length-drop size rest, some) in
    (end, subst (λ (l : List ℕ). IsTrue blank ↔ IsBlank l) (take_all size rest (omega (arith, end))) c.blank_is)
