-- The standings of asks in a log.
use Rattle.std.proofs.Common.{◌≡◌, ℕ, ◌+◌, ◌<◌, ◌≤◌, Bool, true, false, ◌&&◌, ◌||◌, cond, if◌then◌else◌, nat_lt, Option, Some, None, is_some, List, [], ◌∷◌, ◌++◌, length, map, take, get_or, slice_get, refl, sym, ap, subst, ◌∙◌, arith, lt-ltb, append_assoc, inl, inr, Ok, Err}
use Rattle.std.specs.Prelude.{◌≢◌, slice_index_or}
use Rattle.std.specs.Ordering.{int_eq}
use Rattle.std.specs.Str.{bytes_eq}
use Rattle.std.specs.Cmp.Lexicographic.{bytes_decides}
use Rattle.std.specs.List.{All, AllByRecursion, position_or_len}
use Rattle.std.proofs.lemmas.Bool.{and_parts, and_from, cond-true, false_from_ne_true, cases_lt, true≢false}
use Rattle.std.proofs.lemmas.Bool.Decides.{Decides-int_eq}
use Rattle.std.proofs.lemmas.List.{get_or_append_left, length_push, take_all, length-take-le}
use Rattle.std.proofs.lemmas.List.Elements.{All-map}
use Rattle.std.proofs.lemmas.List.Folds.{list_any-append}
use Rattle.std.proofs.lemmas.List.Quantifiers.{position-Some}
use Rattle.std.proofs.lemmas.List.Sums.{position_or_len_is}
use Rattle.std.proofs.lemmas.Option.{slice_get-get_or}
use Rattle.std.proofs.Math.Seq.{get_or-append_seam}
use Rattle.sb_calls.specs.declared.ask.Key.{Key}
use Rattle.sb_calls.specs.declared.call.Call.{Call}
use Rattle.sb_calls.specs.declared.call.Call.TheVariants.{Balance, DepositChecking, TransactSavings, Amalgamate, WriteCheck, SendPayment}
use Rattle.sb_sequencer.proofs.FirstAsks.{has_key-firsts_after}
use Rattle.sb_sequencer.proofs.Keys.{same_key_same, same_key_itself, absent_without_index, has_key-place}
use Rattle.sb_sequencer.proofs.LogSteps.{first_asks-push, log_with-known, log_with-full, log_with-new}
use Rattle.sb_sequencer.specs.Answer.{AnswersAsk}
use Rattle.sb_sequencer.specs.Log.{log_with}
use Rattle.sb_sequencer.specs.Numbering.{same_key, has_key, firsts_after, first_asks, index_of_key}
use Rattle.sb_sequencer.specs.declared.answer.AskFault.TheVariants as faults
use Rattle.sb_sequencer.specs.declared.answer.Numbered.TheVariants as numbers
use Rattle.sb_calls.specs.declared.call.TheConstants.{LOG_CALLS}
use Rattle.bank_server.specs.Standing.{IsStandingWithin, same_call, numbered_standing, standing_at, standing_of}
use Rattle.bank_server.specs.declared.input.asking.Standing.TheVariants.{Number, Mismatch, LogFull}

-- ---- calls

-- a call is the same as itself
pub same_call_itself : (call : Call) → same_call call call ≡ true
unfolding same_call
same_call_itself (Balance x) = (bytes_decides x x).1 refl
same_call_itself (DepositChecking x v) = and_from (bytes_eq x x) (int_eq v v) ((bytes_decides x x).1 refl) ((Decides-int_eq v v).1 refl)
same_call_itself (TransactSavings x v) = and_from (bytes_eq x x) (int_eq v v) ((bytes_decides x x).1 refl) ((Decides-int_eq v v).1 refl)
same_call_itself (Amalgamate x u) = and_from (bytes_eq x x) (bytes_eq u u) ((bytes_decides x x).1 refl) ((bytes_decides u u).1 refl)
same_call_itself (WriteCheck x v) = and_from (bytes_eq x x) (int_eq v v) ((bytes_decides x x).1 refl) ((Decides-int_eq v v).1 refl)
same_call_itself (SendPayment x u v) =
    and_from (bytes_eq x x && bytes_eq u u) (int_eq v v)
    (and_from (bytes_eq x x) (bytes_eq u u) ((bytes_decides x x).1 refl) ((bytes_decides u u).1 refl)) ((Decides-int_eq v v).1 refl)

-- calls that the test calls the same are one
pub same_call_same : (a b : Call) → same_call a b ≡ true → a ≡ b
unfolding same_call
same_call_same (Balance x) (Balance x') e = ap Balance ((bytes_decides x x').0 e)
same_call_same (DepositChecking x v) (DepositChecking x' v') e = let p = and_parts (bytes_eq x x') (int_eq v v') e in let f : x ≡ x' =
    (bytes_decides x x').0 p.0 in let g : v ≡ v' = (Decides-int_eq v v').0 p.1 in λ j. DepositChecking (f j) (g j)
same_call_same (TransactSavings x v) (TransactSavings x' v') e = let p = and_parts (bytes_eq x x') (int_eq v v') e in let f : x ≡ x' =
    (bytes_decides x x').0 p.0 in let g : v ≡ v' = (Decides-int_eq v v').0 p.1 in λ j. TransactSavings (f j) (g j)
same_call_same (Amalgamate x u) (Amalgamate x' u') e = let p = and_parts (bytes_eq x x') (bytes_eq u u') e in let f : x ≡ x' = (bytes_decides x x').0 p.0 in
    let g : u ≡ u' = (bytes_decides u u').0 p.1 in λ j. Amalgamate (f j) (g j)
same_call_same (WriteCheck x v) (WriteCheck x' v') e = let p = and_parts (bytes_eq x x') (int_eq v v') e in let f : x ≡ x' = (bytes_decides x x').0 p.0 in
    let g : v ≡ v' = (Decides-int_eq v v').0 p.1 in λ j. WriteCheck (f j) (g j)
same_call_same (SendPayment x u v) (SendPayment x' u' v') e =
    let p = and_parts (bytes_eq x x' && bytes_eq u u') (int_eq v v') e in
    let q = and_parts (bytes_eq x x') (bytes_eq u u') p.0 in
    let f : x ≡ x' = (bytes_decides x x').0 q.0 in
    let g : u ≡ u' = (bytes_decides u u').0 q.1 in
    let h : v ≡ v' = (Decides-int_eq v v').0 p.1 in
    λ j. SendPayment (f j) (g j) (h j)
same_call_same a b e = absurd (true≢false (sym e))

-- the standing at an entry with the same call, and at one with another
standing_same : (n : ℕ) (ask : Key × Call) → numbered_standing n ask.1 (Some ask) ≡ Number n
standing_same n ask = ap (λ same. if same then Number n else Mismatch n) (same_call_itself ask.1)

standing_other : (n : ℕ) (call : Call) (entry : Key × Call) → entry.1 ≢ call → numbered_standing n call (Some entry) ≡ Mismatch n
standing_other n call entry other =
    ap (λ same. if same then Number n else Mismatch n) (false_from_ne_true (same_call entry.1 call) (λ e. other (same_call_same entry.1 call e)))

-- ---- places in a log that grows

-- a key keeps its place
pub place_kept : (log : List (Key × Call)) (entry : Key × Call) (key : Key) (k : ℕ) → index_of_key log key ≡ Some k → index_of_key
    (log ++ entry ∷ []) key ≡ Some k
place_kept log entry key k e =
    let test = λ (ask : Key × Call). same_key key ask.0 in
    let at = position-Some test log k entry e in
    let longer = length_push log entry in
    let first : position_or_len test (log ++ entry ∷ []) ≡ k = position_or_len_is test (log ++ entry ∷ []) k entry (omega (arith, longer, at.0))
    (λ j l. ap test (get_or_append_left log (entry ∷ []) entry j (omega (arith, at.0))) ∙ at.2 j l)
    (λ l. ap test (get_or_append_left log (entry ∷ []) entry k at.0) ∙ at.1) in
    ap (λ n. cond (nat_lt n (length (log ++ entry ∷ []))) (Some n) None) first
    ∙ cond-true (nat_lt k (length (log ++ entry ∷ []))) (Some k) None (lt-ltb k (length (log ++ entry ∷ [])) (omega (arith, longer, at.0)))

-- a new key has the last place
place_new : (log : List (Key × Call)) (entry : Key × Call) → index_of_key log entry.0 ≡ None → index_of_key (log ++ entry ∷ []) entry.0 ≡ Some (length log)
place_new log entry e =
    let test = λ (ask : Key × Call). same_key entry.0 ask.0 in
    let longer = length_push log entry in
    let absent = absent_without_index log entry.0 e in
    let first : position_or_len test (log ++ entry ∷ []) ≡ length log = position_or_len_is test (log ++ entry ∷ []) (length log) entry (omega (arith, longer))
    (λ j l. ap test (get_or_append_left log (entry ∷ []) entry j l) ∙ absent j entry l)
    (λ l. ap test (get_or-append_seam log entry [] entry) ∙ same_key_itself entry.0) in
    ap (λ n. cond (nat_lt n (length (log ++ entry ∷ []))) (Some n) None) first
    ∙ cond-true (nat_lt (length log) (length (log ++ entry ∷ []))) (Some (length log)) None
    (lt-ltb (length log) (length (log ++ entry ∷ [])) (omega (arith, longer)))

entry_kept : (log : List (Key × Call)) (entry : Key × Call) (k : ℕ) → k < length log → slice_get (log ++ entry ∷ []) k ≡ slice_get log k
entry_kept log entry k l =
    slice_get-get_or (log ++ entry ∷ []) k entry (omega (arith, length_push log entry))
    ∙ ap Some (get_or_append_left log (entry ∷ []) entry k l) ∙ sym (slice_get-get_or log k entry l)

entry_new : (log : List (Key × Call)) (entry : Key × Call) → slice_get (log ++ entry ∷ []) (length log) ≡ Some entry
entry_new log entry = slice_get-get_or (log ++ entry ∷ []) (length log) entry (omega (arith, length_push log entry))
    ∙ ap Some (get_or-append_seam log entry [] entry)

-- ---- standings in a log that grows

-- an ask whose key has a number keeps its standing
pub standing_kept : (log : List (Key × Call)) (entry ask : Key × Call) (k : ℕ) → index_of_key log ask.0 ≡ Some k
    → standing_of (log ++ entry ∷ []) ask ≡ standing_of log ask
standing_kept log entry ask k e =
    let within = (position-Some (λ (other : Key × Call). same_key ask.0 other.0) log k entry e).0 in
    ap (standing_at (log ++ entry ∷ []) ask.1) (place_kept log entry ask.0 k e)
    ∙ ap (numbered_standing (k + 1) ask.1) (entry_kept log entry k within)
    ∙ sym (ap (standing_at log ask.1) e)

none_is_true : is_some {T = ℕ} None ≡ true → ⊥
none_is_true e = cc

standing_known : (log : List (Key × Call)) (entry ask : Key × Call) → has_key log ask.0 ≡ true → standing_of (log ++ entry ∷ []) ask ≡ standing_of log ask
standing_known log entry ask known = by (index_of_key log ask.0) refl
  where
    by : (place : Option ℕ) → index_of_key log ask.0 ≡ place → standing_of (log ++ entry ∷ []) ask ≡ standing_of log ask
    by None e = absurd (none_is_true (sym (has_key-place log ask.0 ∙ ap is_some e) ∙ known))
    by (Some k) e = standing_kept log entry ask k e

standings_known : (log : List (Key × Call)) (entry : Key × Call) (asks : List (Key × Call)) → AllByRecursion (λ ask. has_key log ask.0 ≡ true) asks
    → map (standing_of (log ++ entry ∷ [])) asks ≡ map (standing_of log) asks
standings_known log entry [] h = refl
standings_known log entry (ask ∷ asks) h = λ j. standing_known log entry ask h.0 j ∷ standings_known log entry asks h.1 j

-- each of these asks has its key among them
all_known : (front asks : List (Key × Call)) → AllByRecursion (λ ask. has_key (front ++ asks) ask.0 ≡ true) asks
all_known front [] = tt
all_known front (ask ∷ asks) = (
  list_any-append (λ other. same_key ask.0 other.0) front (ask ∷ asks)
      ∙ or_known (has_key front ask.0) (same_key ask.0 ask.0) (has_key asks ask.0) (same_key_itself ask.0),
  moved (append_assoc front (ask ∷ []) asks) (all_known (front ++ ask ∷ []) asks),
)
  where
    or_known : (b c d : Bool) → c ≡ true → (b || (c || d)) ≡ true
    or_known true c d e = refl
    or_known false c d e = ap (λ t. t || d) e

    moved : {known known' : List (Key × Call)} → known ≡ known' → AllByRecursion (λ other. has_key known other.0 ≡ true) asks
        → AllByRecursion (λ other. has_key known' other.0 ≡ true) asks
    moved e h = subst (λ known. AllByRecursion (λ other. has_key known other.0 ≡ true) asks) e h

-- a list that is cut at a limit that it doesn't exceed is whole
cut_with_room : (room : ℕ) (xs : List (Key × Call)) → length (take room xs) < room → take room xs ≡ xs
cut_with_room room xs l = elim (cases_lt (length xs) room) [
  | inl short ↦ take_all room xs (omega arith)
  | inr long ↦ let cut = length-take-le room xs long in absurd (omega (arith, cut))
]

-- in a log with room each ask has its key
has_key-first_asks : (asks : List (Key × Call)) (key : Key) → length (first_asks asks) < LOG_CALLS → has_key (first_asks asks) key ≡ has_key asks key
unfolding first_asks
has_key-first_asks asks key l = ap (λ log. has_key log key) (cut_with_room LOG_CALLS (firsts_after [] asks) l) ∙ has_key-firsts_after [] asks key

log_has : (asks rest : List (Key × Call)) → length (first_asks asks) < LOG_CALLS → AllByRecursion (λ ask. has_key asks ask.0 ≡ true) rest
    → AllByRecursion (λ ask. has_key (first_asks asks) ask.0 ≡ true) rest
log_has asks [] l h = tt
log_has asks (ask ∷ rest) l h = (has_key-first_asks asks ask.0 l ∙ h.0, log_has asks rest l h.1)

-- one more ask leaves the standings of those before
pub standings_after : (asks : List (Key × Call)) (ask : Key × Call)
    → map (standing_of (first_asks (asks ++ ask ∷ []))) asks ≡ map (standing_of (first_asks asks)) asks
standings_after asks ask = ap (λ log. map (standing_of log) asks) (first_asks-push asks ask) ∙ by (index_of_key (first_asks asks) ask.0) refl
  where
    by : (place : Option ℕ) → index_of_key (first_asks asks) ask.0 ≡ place
        → map (standing_of (log_with (first_asks asks) ask)) asks ≡ map (standing_of (first_asks asks)) asks
    by (Some k) e = ap (λ log. map (standing_of log) asks) (log_with-known (first_asks asks) ask k e)
    by None e = elim (cases_lt (length (first_asks asks)) LOG_CALLS) [
      | inl room ↦ ap (λ log. map (standing_of log) asks) (log_with-new (first_asks asks) ask e room)
          ∙ standings_known (first_asks asks) ask asks (log_has asks asks room (all_known [] asks))
      | inr full ↦ ap (λ log. map (standing_of log) asks) (log_with-full (first_asks asks) ask full)
    ]

-- ---- the standing by an answer

pub answered_new : (log : List (Key × Call)) (ask : Key × Call) (n : ℕ) → AnswersAsk log ask (Ok (numbers.New n)) → Number n ≡ standing_of (log ++ ask ∷ []) ask
answered_new log ask n h =
    ap Number h.2 ∙ sym (standing_same (length log + 1) ask)
    ∙ sym (ap (standing_at (log ++ ask ∷ []) ask.1) (place_new log ask h.0) ∙ ap (numbered_standing (length log + 1) ask.1) (entry_new log ask))

pub answered_repeat : (log : List (Key × Call)) (ask : Key × Call) (n : ℕ) → AnswersAsk log ask (Ok (numbers.Repeat n)) → Number n ≡ standing_of log ask
answered_repeat log ask n h =
    ap Number h.2 ∙ sym (standing_same (h.0 + 1) ask) ∙ sym (ap (standing_at log ask.1) h.1 ∙ ap (numbered_standing (h.0 + 1) ask.1) h.3)

pub answered_mismatch : (log : List (Key × Call)) (ask : Key × Call) (n : ℕ) → AnswersAsk log ask (Err (faults.Mismatch n)) → Mismatch n ≡ standing_of log ask
answered_mismatch log ask n h =
    let at = position-Some (λ (other : Key × Call). same_key ask.0 other.0) log h.0 ask h.1 in
    let entry = get_or log h.0 ask in
    let stands : slice_get log h.0 ≡ Some entry = slice_get-get_or log h.0 ask at.0 in
    let key : ask.0 ≡ entry.0 = same_key_same ask.0 entry.0 at.1 in
    ap Mismatch h.2 ∙ sym (standing_other (h.0 + 1) ask.1 entry (λ e. h.3 (stands ∙ (λ j. Some (sym key j, e j)))))
    ∙ sym (ap (standing_at log ask.1) h.1 ∙ ap (numbered_standing (h.0 + 1) ask.1) stands)

pub answered_full : (log : List (Key × Call)) (ask : Key × Call) → index_of_key log ask.0 ≡ None → LogFull ≡ standing_of log ask
answered_full log ask e = sym (ap (standing_at log ask.1) e)

-- ---- numbers of the log

among_by_test : (n calls : ℕ) (same : Bool) → n ≤ calls → IsStandingWithin calls (if same then Number n else Mismatch n)
among_by_test n calls true le = le
among_by_test n calls false le = le

among_at : (n calls : ℕ) (call : Call) (entry : Option (Key × Call)) → n ≤ calls → IsStandingWithin calls (numbered_standing n call entry)
among_at n calls call None le = tt
among_at n calls call (Some entry) le = among_by_test n calls (same_call entry.1 call) le

pub stands_among : (log : List (Key × Call)) (ask : Key × Call) → IsStandingWithin (length log) (standing_of log ask)
stands_among log ask = by (index_of_key log ask.0) refl
  where
    by : (place : Option ℕ) → index_of_key log ask.0 ≡ place → IsStandingWithin (length log) (standing_at log ask.1 place)
    by None e = tt
    by (Some k) e = among_at (k + 1) (length log) ask.1 (slice_get log k)
        (omega (arith, (position-Some (λ (other : Key × Call). same_key ask.0 other.0) log k ask e).0))

pub all_among : (log asks : List (Key × Call)) → All (IsStandingWithin (length log)) (map (standing_of log) asks)
all_among log asks = All-map (IsStandingWithin (length log)) (standing_of log) asks (λ k d lt. stands_among log (slice_index_or asks k d))
