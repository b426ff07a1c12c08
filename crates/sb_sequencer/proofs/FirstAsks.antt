-- The first asks of each key, after one more ask.
use Rattle.std.proofs.Common.{◌≡◌, Bool, true, false, ◌||◌, cond, if◌then◌else◌, List, [], ◌∷◌, ◌++◌, refl, sym, ap, ◌∙◌, append-nil, append_assoc}
use Rattle.std.proofs.lemmas.Bool.{or_left}
use Rattle.std.proofs.lemmas.List.Folds.{list_any-append}
use Rattle.sb_calls.specs.declared.ask.Key.{Key}
use Rattle.sb_calls.specs.declared.call.Call.{Call}
use Rattle.sb_sequencer.specs.Numbering.{same_key, has_key, firsts_after}
use Rattle.sb_sequencer.proofs.Keys.{same_key_same}

-- what is appended to a list that may have one more in front
behind_choice : {X : Type 0} (skips : Bool) (x : X) (xs ys zs : List X) → xs ≡ ys ++ zs → cond skips xs (x ∷ xs) ≡ cond skips ys (x ∷ ys) ++ zs
behind_choice true x xs ys zs e = e
behind_choice false x xs ys zs e = ap (λ rest. x ∷ rest) e

-- one more ask is appended, if its key occurs in neither list
pub firsts_after-push : (before asks : List (Key × Call)) (ask : Key × Call)
    → firsts_after before (asks ++ ask ∷ []) ≡ firsts_after before asks ++ (if has_key (before ++ asks) ask.0 then [] else ask ∷ [])
firsts_after-push before [] ask = ap (λ known. if has_key known ask.0 then [] else ask ∷ []) (sym (append-nil before))
firsts_after-push before (first ∷ asks) ask =
    behind_choice (has_key before first.0) first _ _ _
    (firsts_after-push (before ++ first ∷ []) asks ask
    ∙ ap (λ known. firsts_after (before ++ first ∷ []) asks ++ (if has_key known ask.0 then [] else ask ∷ [])) (append_assoc before (first ∷ []) asks))

-- a key that already occurs among these asks makes no other key known
known_twice : (before : List (Key × Call)) (again key : Key) (rest : Bool) → has_key before again ≡ true
    → (has_key before key || rest) ≡ (has_key before key || (same_key key again || rest))
known_twice before again key rest known = by (same_key key again) refl
  where
    by : (same : Bool) → same_key key again ≡ same → (has_key before key || rest) ≡ (has_key before key || (same_key key again || rest))
    by true e =
        let there : has_key before key ≡ true = ap (has_key before) (same_key_same key again e) ∙ known in
        or_left (has_key before key) rest there ∙ sym (or_left (has_key before key) (same_key key again || rest) there)
    by false e = ap (λ same. has_key before key || (same || rest)) (sym e)

-- if the first of some asks is put before the others' first ones, unless its key is known, the same
-- keys are known as before
has_key-first : (before firsts asks : List (Key × Call)) (first : Key × Call) (key : Key)
    → has_key (before ++ first ∷ [] ++ firsts) key ≡ has_key (before ++ first ∷ [] ++ asks) key
    → has_key (before ++ cond (has_key before first.0) firsts (first ∷ firsts)) key ≡ has_key (before ++ first ∷ asks) key
has_key-first before firsts asks first key h = by (has_key before first.0) refl
  where
    all : has_key (before ++ first ∷ firsts) key ≡ has_key (before ++ first ∷ asks) key
    all =
        ap (λ known. has_key known key) (sym (append_assoc before (first ∷ []) firsts)) ∙ h
        ∙ ap (λ known. has_key known key) (append_assoc before (first ∷ []) asks)

    by : (known : Bool) → has_key before first.0 ≡ known → has_key (before ++ cond known firsts (first ∷ firsts)) key ≡ has_key (before ++ first ∷ asks) key
    by true e =
        list_any-append (λ ask. same_key key ask.0) before firsts
        ∙ known_twice before first.0 key (has_key firsts key) e
        ∙ sym (list_any-append (λ ask. same_key key ask.0) before (first ∷ firsts))
        ∙ all
    by false e = all

-- the first asks have all keys
pub has_key-firsts_after : (before asks : List (Key × Call)) (key : Key) → has_key (before ++ firsts_after before asks) key ≡ has_key (before ++ asks) key
has_key-firsts_after before [] key = refl
has_key-firsts_after before (first ∷ asks) key =
    has_key-first before (firsts_after (before ++ first ∷ []) asks) asks first key
    (has_key-firsts_after (before ++ first ∷ []) asks key)
