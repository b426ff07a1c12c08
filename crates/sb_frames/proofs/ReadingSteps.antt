-- The steps of a reading: the answer of each step, if the whole has a value.
use Rattle.std.proofs.Common.{◌≡◌, ℕ, ◌<◌, Bool, true, false, cond, eqb, List, [], ◌∷◌, ◌++◌, length, drop, Option, Some, None, Result, Ok, Err, refl, ap, subst, ◌∙◌}
use Rattle.std.specs.Option.{ok_or}
use Rattle.std.proofs.lemmas.Bool.{eqb-true}
use Rattle.std.proofs.lemmas.List.{drop_at}
use Rattle.std.proofs.lemmas.List.Elements.{All-drop}
use Rattle.sb_frames.specs.Reading.{◌>>=◌, byte_at}
use Rattle.sb_frames.specs.Streaming.{AreBytes}
use Rattle.sb_frames.specs.declared.fault.FrameFault.{FrameFault}

-- a first step that succeeded
pub first_step : {A B : Type 0} (read : Result A FrameFault) (next : A → Result B FrameFault) (last : B) → (read >>= next) ≡ Ok last
    → (value : A) × (read ≡ Ok value) × (next value ≡ Ok last)
first_step (Ok value) next last e = (value, refl, e)
first_step (Err fault) next last e = absurd cc

-- a test that didn't fail
pub refused_not : {A : Type 0} (test : Bool) (fault : FrameFault) (others : Result A FrameFault) (last : A) → cond test (Err fault) others ≡ Ok last
    → (test ≡ false) × (others ≡ Ok last)
refused_not true fault others last e = absurd cc
refused_not false fault others last e = (refl, e)

-- a test that passed
pub accepted : {A : Type 0} (test : Bool) (fault : FrameFault) (value last : A) → cond test (Ok value) (Err fault) ≡ Ok last → (test ≡ true) × (value ≡ last)
accepted true fault value last e = (refl, cc)
accepted false fault value last e = absurd cc

-- a value that was found
pub found : {A : Type 0} (value : Option A) (fault : FrameFault) (last : A) → ok_or value fault ≡ Ok last → value ≡ Some last
found (Some value) fault last e = cc
found None fault last e = absurd cc

abbrev pub done : {A : Type 0} → A → Result A FrameFault
done value = Ok value

pub same_value : {A : Type 0} (x y : A) → done x ≡ done y → x ≡ y
same_value x y e = cc

-- the reading for one tag, or that for the other tags
pub tagged : {A : Type 0} (P : Type 0) (tag n : ℕ) (first others : Result A FrameFault) (last : A) → cond (eqb tag n) first others ≡ Ok last
    → (tag ≡ n → first ≡ Ok last → P) → (others ≡ Ok last → P) → P
tagged P tag n first others last e here there =
    let Goal : Bool → Type 0 = λ test. (eqb tag n ≡ test) → cond test first others ≡ Ok last → P in
    let both : Goal (eqb tag n) = elim (eqb tag n) as
    (λ test. Goal test) [ true ↦ (λ is found. here (eqb-true tag n is) found) | false ↦ (λ other found. there found) ] in
    both refl e

-- the bytes after a part are bytes
pub rest_bytes : (bytes front rest : List ℕ) → AreBytes bytes → bytes ≡ front ++ rest → AreBytes rest
rest_bytes bytes front rest h e =
    let left : drop (length front) bytes ≡ rest = ap (drop (length front)) e ∙ drop_at front rest (length front) refl in
    subst (λ xs. AreBytes xs) left (All-drop (λ byte. byte < 256) (length front) bytes h)

pub byte_takes : (bytes : List ℕ) (byte : ℕ) (rest : List ℕ) → byte_at bytes ≡ Ok (byte, rest) → bytes ≡ byte ∷ rest
byte_takes [] byte rest e = absurd cc
byte_takes (b ∷ bytes) byte rest e = let same = same_value (b, bytes) (byte, rest) e in ap (λ (p : ℕ × List ℕ). p.0 ∷ p.1) same
