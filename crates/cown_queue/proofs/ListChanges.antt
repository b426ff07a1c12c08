-- Lists by cown, some of which change one after another.
use Rattle.std.proofs.Common.{◌≡◌, ◌≢◌, ℕ, zero, suc, ◌+◌, ◌<◌, ◌≤◌, Bool, true, false, ◌||◌, if◌then◌else◌, ◌==◌, List, [], ◌∷◌, ◌++◌, length, get_or, set, take, drop, inl, inr, refl, sym, ap, ◌∙◌, arith, get_or-set_other}
use Rattle.std.proofs.lemmas.Bool.{cond-false, eqb-true, eqb-false, false≢true, ne_eqb, or_cases, or_from, or_right}
use Rattle.std.proofs.lemmas.Grind.{get_or-set_at}
use Rattle.std.proofs.lemmas.List.{drop_all, drop_more, length-set, take_more}
use Rattle.std.proofs.lemmas.Option.{slice_get_within}
use Rattle.sb_calls.specs.Cowns.{AreBelow, IsRising}
use Rattle.sb_calls.specs.SerialRun.{is_among}
use Rattle.cown_queue.specs.Queues.{list_of, Appends, IsInFront, Releases}

-- the lists after a change at each of these cowns in turn
abbrev pub changed : (List ℕ → List ℕ) → List ℕ → List (List ℕ) → List (List ℕ)
changed change [] lists = lists
changed change (cown ∷ cowns) lists = changed change cowns (set lists cown (change (list_of lists cown)))

-- each of some cowns below a bound is below it
pub AreBelow-at : (bound : ℕ) (cowns : List ℕ) (place cown : ℕ) → AreBelow bound cowns → place < length cowns → cown ≡ get_or cowns place cown
    → cown < bound
AreBelow-at bound [] place cown below l e = absurd (omega arith)
AreBelow-at bound (first ∷ cowns) zero cown below l e = rw e below.0
AreBelow-at bound (first ∷ cowns) (suc place) cown below l e = AreBelow-at bound cowns place cown below.1 (omega arith) e

-- cowns that rise still rise without the first
pub IsRising-rest : (first : ℕ) (cowns : List ℕ) → IsRising (first ∷ cowns) → IsRising cowns
IsRising-rest first [] h = tt
IsRising-rest first (second ∷ more) h = h.1

-- and what isn't above the first isn't among the others
pub is_among-rising : (first : ℕ) (cowns : List ℕ) (cown : ℕ) → IsRising (first ∷ cowns) → cown ≤ first → is_among cown cowns ≡ false
is_among-rising first [] cown h l = refl
is_among-rising first (second ∷ more) cown h l =
    let below : first < second = h.0 in
    or_from (cown == second) (is_among cown more) (ne_eqb cown second (λ e. omega arith)) (is_among-rising second more cown h.1 (omega arith))

length-changed : (change : List ℕ → List ℕ) (cowns : List ℕ) (lists : List (List ℕ)) → length (changed change cowns lists) ≡ length lists
length-changed change [] lists = refl
length-changed change (cown ∷ cowns) lists =
    length-changed change cowns (set lists cown (change (list_of lists cown))) ∙ length-set lists cown (change (list_of lists cown))

-- a change at the first cown and then at the others, seen at one list
list_of-change : (change : List ℕ → List ℕ) (first : ℕ) (cowns : List ℕ) (lists : List (List ℕ)) (cown : ℕ) (list : List ℕ) (same : Bool)
    → IsRising (first ∷ cowns) → cown < length lists → (cown == first) ≡ same
    → list
    ≡ (if is_among cown cowns then change (list_of (set lists first (change (list_of lists first))) cown)
    else list_of (set lists first (change (list_of lists first))) cown)
    → list ≡ (if same || is_among cown cowns then change (list_of lists cown) else list_of lists cown)
list_of-change change first cowns lists cown list true rising l e rest =
    let one : cown ≡ first = eqb-true cown first e in
    rest
    ∙ cond-false (is_among cown cowns) _ _ (is_among-rising first cowns cown rising (omega arith))
    ∙ get_or-set_at lists first cown (change (list_of lists first)) [] one (omega arith)
    ∙ ap (λ n. change (list_of lists n)) (sym one)
list_of-change change first cowns lists cown list false rising l e rest =
    rest
    ∙ ap (λ list. if is_among cown cowns then change list else list)
    (get_or-set_other lists first cown (change (list_of lists first)) [] (eqb-false cown first e))

-- each list of these cowns has changed once; all others are as they were
list_of-changed : (change : List ℕ → List ℕ) (cowns : List ℕ) (lists : List (List ℕ)) (cown : ℕ) → IsRising cowns → cown < length lists
    → list_of (changed change cowns lists) cown ≡ (if is_among cown cowns then change (list_of lists cown) else list_of lists cown)
list_of-changed change [] lists cown rising l = refl
list_of-changed change (first ∷ cowns) lists cown rising l =
    let put : List ℕ = change (list_of lists first) in
    list_of-change change first cowns lists cown _ (cown == first) rising l refl
    (list_of-changed change cowns (set lists first put) cown (IsRising-rest first cowns rising) (omega (arith, length-set lists first put)))

-- the cowns from a place on begin with the one there
pub drop-cown : (cowns : List ℕ) (place cown : ℕ) → place < length cowns → cown ≡ get_or cowns place cown
    → drop place cowns ≡ cown ∷ drop (place + 1) cowns
drop-cown cowns place cown l e = drop_more cowns place cown l ∙ ap (λ n. n ∷ drop (place + 1) cowns) (sym e)

-- and those up to it end with it
pub take-cown : (cowns : List ℕ) (place cown : ℕ) → place < length cowns → cown ≡ get_or cowns place cown
    → take (place + 1) cowns ≡ take place cowns ++ cown ∷ []
take-cown cowns place cown l e = take_more cowns place cown l ∙ ap (λ n. take place cowns ++ n ∷ []) (sym e)

-- the change at one cown, while the others are still to come
pub changed_more : (change : List ℕ → List ℕ) (cowns : List ℕ) (place cown : ℕ) (now all : List (List ℕ)) → place < length cowns
    → cown ≡ get_or cowns place cown → changed change (drop place cowns) now ≡ all
    → changed change (drop (place + 1) cowns) (set now cown (change (list_of now cown))) ≡ all
changed_more change cowns place cown now all l e h =
    ap (λ left. changed change left now) (sym (drop-cown cowns place cown l e)) ∙ h

-- once no cown is left, the lists are those after all changes
changed_all : (change : List ℕ → List ℕ) (cowns : List ℕ) (done : ℕ) (old new : List (List ℕ)) → length cowns ≤ done
    → changed change (drop done cowns) new ≡ changed change cowns old → new ≡ changed change cowns old
changed_all change cowns done old new l e = ap (λ left. changed change left new) (sym (drop_all done cowns l)) ∙ e

-- the number was appended at each cown
pub Appends-changed : (number : ℕ) (cowns : List ℕ) (done : ℕ) (old new : List (List ℕ)) → IsRising cowns → length cowns ≤ done
    → changed (λ list. list ++ number ∷ []) (drop done cowns) new ≡ changed (λ list. list ++ number ∷ []) cowns old
    → Appends number cowns old new
Appends-changed number cowns done old new rising l e =
    let add : List ℕ → List ℕ = λ list. list ++ number ∷ [] in
    let all : new ≡ changed add cowns old = changed_all add cowns done old new l e in
    record {
      cown_count = ap length all ∙ length-changed add cowns old;
      each = λ cown below. ap (λ lists. list_of lists cown) all ∙ list_of-changed add cowns old cown rising below;
    }

-- the first number was removed at each cown
pub Releases-changed : (cowns : List ℕ) (done : ℕ) (old new : List (List ℕ)) → IsRising cowns → length cowns ≤ done
    → changed (drop 1) (drop done cowns) new ≡ changed (drop 1) cowns old → Releases cowns old new
Releases-changed cowns done old new rising l e =
    let all : new ≡ changed (drop 1) cowns old = changed_all (drop 1) cowns done old new l e in
    record {
      cown_count = ap length all ∙ length-changed (drop 1) cowns old;
      each = λ cown below. ap (λ lists. list_of lists cown) all ∙ list_of-changed (drop 1) cowns old cown rising below;
    }

-- if a number is in front, there is one
pub IsInFront-held : (number : ℕ) (cowns : List ℕ) (lists : List (List ℕ)) → IsInFront number cowns lists → (cown : ℕ)
    → is_among cown cowns ≡ true → 0 < length (list_of lists cown)
IsInFront-held number [] lists front cown among = absurd (false≢true among)
IsInFront-held number (first ∷ cowns) lists front cown among = elim (or_cases (cown == first) (is_among cown cowns) among) [
  | inl same ↦ let at = ap (list_of lists) (eqb-true cown first same) in omega (arith, ap length at, slice_get_within (list_of lists first) 0 number front.0)
  | inr more ↦ IsInFront-held number cowns lists front.1 cown more
]

-- a change at the first of rising cowns leaves the lists of the others
pub held-rest : (first : ℕ) (cowns : List ℕ) (lists : List (List ℕ)) (put : List ℕ) → IsRising (first ∷ cowns)
    → ((cown : ℕ) → is_among cown (first ∷ cowns) ≡ true → 0 < length (list_of lists cown)) → (cown : ℕ) → is_among cown cowns ≡ true
    → 0 < length (list_of (set lists first put) cown)
held-rest first cowns lists put rising held cown among =
    let apart : cown ≢ first = λ same.
    false≢true (sym (is_among-rising first cowns cown rising (omega (arith, same))) ∙ among) in
    omega (arith, ap length (get_or-set_other lists first cown put [] apart), held cown (or_right (cown == first) (is_among cown cowns) among))
