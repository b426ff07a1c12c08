-- The asks of one client, in a log that goes on with the asks of all.
use Rattle.std.proofs.Common.{◌≡◌, List, [], ◌∷◌, ◌++◌, map, refl, sym, ap, ◌∙◌, append_assoc, append-nil}
use Rattle.std.specs.List.{All, Contains, flat_map}
use Rattle.std.proofs.lemmas.List.Elements.{All-contains, All-cons, All-head, All-nil, All-tail, All-weaker, Contains-append_left}
use Rattle.sb_rows.specs.Rows.{Rows}
use Rattle.sb_calls.specs.declared.ask.Key.{Key}
use Rattle.sb_calls.specs.declared.call.Call.{Call}
use Rattle.sb_sequencer.specs.Numbering.{first_asks}
use Rattle.bank_server.specs.Session.{outcome_of}
use Rattle.bank_server.specs.Standing.{standing_of}
use Rattle.bank_server.specs.Pending.{pending_ask}
use Rattle.bank_server.proofs.sessions.Outcomes.{ended_as_before}
use Rattle.bank_server.proofs.lines.Standings.{standings_after}

-- where two maps agree, they agree at each element
each_same : {A B : Type 0} (f g : A → B) (xs : List A) → map f xs ≡ map g xs → All (λ x. f x ≡ g x) xs
each_same f g [] e = All-nil (λ x. f x ≡ g x)
each_same f g (x ∷ xs) e = All-cons (λ x. f x ≡ g x) x xs (head_is e) (each_same f g xs (tail_is e))
  where
    head_is : {B : Type 0} {a b : B} {s t : List B} → (a ∷ s) ≡ (b ∷ t) → a ≡ b
    head_is h = cc

    tail_is : {B : Type 0} {a b : B} {s t : List B} → (a ∷ s) ≡ (b ∷ t) → s ≡ t
    tail_is h = cc

-- one ask more
stands_after : (asks : List (Key × Call)) (more ask : Key × Call) → Contains asks ask
    → standing_of (first_asks (asks ++ more ∷ [])) ask ≡ standing_of (first_asks asks) ask
stands_after asks more ask among =
    All-contains (λ a. standing_of (first_asks (asks ++ more ∷ [])) a ≡ standing_of (first_asks asks) a) asks ask
    (each_same (standing_of (first_asks (asks ++ more ∷ []))) (standing_of (first_asks asks)) asks (standings_after asks more)) among

-- any asks more: the standing of an ask that was made is final
pub stands_kept : (asks more : List (Key × Call)) (ask : Key × Call) → Contains asks ask
    → standing_of (first_asks (asks ++ more)) ask ≡ standing_of (first_asks asks) ask
stands_kept asks [] ask among = ap (λ l. standing_of (first_asks l) ask) (append-nil asks)
stands_kept asks (one ∷ more) ask among =
    ap (λ l. standing_of (first_asks l) ask) (sym (append_assoc asks (one ∷ []) more))
    ∙ stands_kept (asks ++ one ∷ []) more ask (Contains-append_left asks (one ∷ []) ask among)
    ∙ stands_after asks one ask among

-- and so is its outcome
pub ends_kept : (opening : Rows) (asks more : List (Key × Call)) (ask : Key × Call) → Contains asks ask
    → outcome_of opening (first_asks (asks ++ more)) ask ≡ outcome_of opening (first_asks asks) ask
ends_kept opening asks [] ask among = ap (λ l. outcome_of opening (first_asks l) ask) (append-nil asks)
ends_kept opening asks (one ∷ more) ask among =
    ap (λ l. outcome_of opening (first_asks l) ask) (sym (append_assoc asks (one ∷ []) more))
    ∙ ends_kept opening (asks ++ one ∷ []) more ask (Contains-append_left asks (one ∷ []) ask among)
    ∙ ended_as_before opening asks one ask (stands_after asks one ask among)

-- of all these asks
pub pending_kept : (asks more mine : List (Key × Call)) → All (Contains asks) mine
    → map (pending_ask (first_asks (asks ++ more))) mine ≡ map (pending_ask (first_asks asks)) mine
pending_kept asks more [] among = refl
pending_kept asks more (ask ∷ mine) among =
    let first : standing_of (first_asks (asks ++ more)) ask ≡ standing_of (first_asks asks) ask =
    stands_kept asks more ask (All-head (Contains asks) ask mine among) in
    λ j. record { key = ask.0; standing = first j } ∷ pending_kept asks more mine (All-tail (Contains asks) ask mine among) j

pub outcomes_kept : (opening : Rows) (asks more mine : List (Key × Call)) → All (Contains asks) mine
    → flat_map (outcome_of opening (first_asks (asks ++ more))) mine ≡ flat_map (outcome_of opening (first_asks asks)) mine
outcomes_kept opening asks more [] among = refl
outcomes_kept opening asks more (ask ∷ mine) among =
    let first = ends_kept opening asks more ask (All-head (Contains asks) ask mine among) in
    λ j. first j ++ outcomes_kept opening asks more mine (All-tail (Contains asks) ask mine among) j

-- asks that are among some are among more
pub still_among : (asks more mine : List (Key × Call)) → All (Contains asks) mine → All (Contains (asks ++ more)) mine
still_among asks more mine among = All-weaker (Contains asks) (Contains (asks ++ more)) (Contains-append_left asks more) mine among

-- the parts of a list
pub All-front : {A : Type 0} (P : A → Type 0) (xs ys : List A) → All P (xs ++ ys) → All P xs
All-front P [] ys h = All-nil P
All-front P (x ∷ xs) ys h = All-cons P x xs (All-head P x (xs ++ ys) h) (All-front P xs ys (All-tail P x (xs ++ ys) h))

pub All-behind : {A : Type 0} (P : A → Type 0) (xs ys : List A) → All P (xs ++ ys) → All P ys
All-behind P [] ys h = h
All-behind P (x ∷ xs) ys h = All-behind P xs ys (All-tail P x (xs ++ ys) h)
