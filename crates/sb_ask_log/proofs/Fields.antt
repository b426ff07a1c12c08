-- The bytes of asks.
use Rattle.std.proofs.Common.{◌≡◌, ℕ, ◌+◌, ◌*◌, ◌^◌, ◌<◌, ◌≤◌, ◌≢◌, Option, Some, None, List, [], ◌∷◌, ◌++◌, length, take, drop, slice_get, refl, sym, ap, subst, ◌∙◌, arith, append_assoc, append-nil, add-one, length-append, length-take}
use Rattle.std.specs.Int.{w16, to_be_bytes}
use Rattle.std.specs.List.{All}
use Rattle.std.proofs.lemmas.List.{append_cancel_left, flat_map_more, take_at, take_more, drop-append-le, length-take-le}
use Rattle.std.proofs.lemmas.List.Elements.{All-head, All-tail, All-push}
use Rattle.std.proofs.lemmas.Option.{same_Some, get_or_from_slice_get}
use Rattle.sb_calls.specs.declared.ask.Key.{Key}
use Rattle.sb_calls.specs.declared.call.Call.{Call}
use Rattle.sb_frames.specs.Grammar.{IsFrame, Spells, body, spelling}
use Rattle.sb_frames.specs.declared.frame.Frame.{Frame}
use Rattle.sb_frames.specs.declared.frame.Frame.TheVariants.{Ask}
use Rattle.sb_frames.proofs.Frames.{one_frame}
use Rattle.sb_frames.proofs.Sizes.{body_size}
use Rattle.sb_sequencer.specs.Numbering.{ask_of_number}
use Rattle.sb_ask_log.specs.Asks.{IsAsk, asks_field, ask_frame}

pub spelling_size : (frame : Frame) → IsFrame frame → length (spelling frame) ≤ 66
unfolding spelling
spelling_size frame valid = omega (arith, length-append (to_be_bytes w16 (length (body frame))) (body frame), body_size frame valid)

pub length-spelling : (frame : Frame) → 0 < length (spelling frame)
unfolding spelling
length-spelling frame = omega (arith, length-append (to_be_bytes w16 (length (body frame))) (body frame))

-- a frame takes some bytes
pub takes_some : (bytes : List ℕ) (size : ℕ) (frame : Frame) → take size bytes ≡ spelling frame → 0 < size
takes_some bytes size frame e = omega (arith, ap length e, length-take size bytes, length-spelling frame)

-- the ask in a frame
ask_in : Frame → Option (Key × Call)
ask_in (Ask client request call) = Some (record { client = client; request = request }, call)
ask_in other = None

same_ask : (p q : Key × Call) → ask_frame p ≡ ask_frame q → p ≡ q
unfolding ask_in
same_ask p q e = same_Some p q (ap ask_in e)

spells : (ask : Key × Call) → IsAsk ask → Spells (ask_frame ask) (spelling (ask_frame ask))
spells ask valid = record { valid = valid; spelled = refl }

-- bytes of asks that begin with bytes of asks are those of these asks and more
pub fields_begin : (front all : List (Key × Call)) (rest : List ℕ) → All IsAsk front → All IsAsk all → asks_field all ≡ asks_field front ++ rest
    → (more : List (Key × Call)) × (all ≡ front ++ more) × (rest ≡ asks_field more)
fields_begin [] all rest valid_front valid_all e = (all, refl, sym e)
fields_begin (p ∷ front) [] rest valid_front valid_all e =
    absurd (omega (
      arith,
      length-spelling (ask_frame p),
      ap length e,
      length-append (spelling (ask_frame p) ++ asks_field front) rest,
      length-append
          (spelling (ask_frame p)) (asks_field front),
    ))
fields_begin (p ∷ front) (q ∷ all) rest valid_front valid_all e =
    let here : spelling (ask_frame q) ++ asks_field all ≡ spelling (ask_frame p) ++ (asks_field front ++ rest) =
    e ∙ append_assoc (spelling (ask_frame p)) (asks_field front) rest in
    let one = one_frame (ask_frame q) (ask_frame p) (spelling (ask_frame q)) (spelling (ask_frame p)) (asks_field all) (asks_field front ++ rest)
    (spells q (All-head IsAsk q all valid_all)) (spells p (All-head IsAsk p front valid_front)) here in
    let same : q ≡ p = same_ask q p one.0 in
    let behind = append_cancel_left (spelling (ask_frame p)) (asks_field all) (asks_field front ++ rest)
    (ap (λ (l : List ℕ). l ++ asks_field all) (sym one.1) ∙ here) in
    let more = fields_begin front all rest (All-tail IsAsk p front valid_front) (All-tail IsAsk q all valid_all) behind in
    (more.0, ap (λ (ask : Key × Call). ask ∷ all) same ∙ ap (λ (l : List (Key × Call)). p ∷ l) more.1, more.2)

no_asks : (asks : List (Key × Call)) → [] ≡ asks_field asks → asks ≡ []
no_asks [] e = refl
no_asks (p ∷ asks) e = absurd (omega (arith, length-spelling (ask_frame p), ap length e, length-append (spelling (ask_frame p)) (asks_field asks)))

-- asks with the same bytes are the same
pub same_fields : (a b : List (Key × Call)) → All IsAsk a → All IsAsk b → asks_field b ≡ asks_field a → b ≡ a
same_fields a b valid_a valid_b e =
    let more = fields_begin a b [] valid_a valid_b (e ∙ sym (append-nil (asks_field a))) in
    more.1 ∙ ap (λ (l : List (Key × Call)). a ++ l) (no_asks more.0 more.2) ∙ append-nil a

-- ---- one more ask

-- ---- the loop that spells asks

pub one_spelled : (log : List (Key × Call)) (from before : ℕ) (start out longer cells : List ℕ) (ask : Key × Call) → from ≤ before → before < length log
    → ask_of_number log (before + 1) ≡ Some ask → Spells (ask_frame ask) cells
    → out ≡ start ++ asks_field (drop from (take before log)) → All IsAsk (drop from (take before log)) → longer ≡ out ++ cells
    → (longer ≡ start ++ asks_field (drop from (take (before + 1) log))) × All IsAsk (drop from (take (before + 1) log))
one_spelled log from before start out longer cells ask le lt is spelled so_far valid grown =
    let there : slice_get log before ≡ Some ask = subst (λ n. ask_of_number log n ≡ Some ask) (add-one before) is in
    let next : drop from (take (before + 1) log) ≡ drop from (take before log) ++ ask ∷ [] =
    ap (λ (l : List (Key × Call)). drop from l) (take_more log before ask lt ∙ ap (λ (a : Key × Call). take before log ++ a ∷ [])
    (get_or_from_slice_get log before ask ask there))
    ∙ drop-append-le from (take before log) (ask ∷ []) (omega (arith, le, lt, length-take-le before log (omega (arith, lt)))) in
    let asks = drop from (take before log) in (
      grown ∙ ap (λ (l : List ℕ). l ++ cells) so_far ∙ ap (λ (c : List ℕ). start ++ asks_field asks ++ c) spelled.spelled
          ∙ append_assoc start (asks_field asks) (spelling (ask_frame ask))
          ∙ ap (λ (l : List ℕ). start ++ l) (flat_map_more (λ (it : Key × Call). spelling (ask_frame it)) [] asks ask)
          ∙ ap (λ (l : List (Key × Call)). start ++ asks_field l) (sym next),
      subst (All IsAsk) (sym next) (All-push IsAsk asks ask valid spelled.valid),
    )

-- they are few enough for one record
length-field : (asks : List (Key × Call)) → All IsAsk asks → length (asks_field asks) ≤ 66 * length asks
length-field [] valid = omega arith
length-field (p ∷ asks) valid =
    omega (
      arith,
      length-field asks (All-tail IsAsk p asks valid),
      length-append (spelling (ask_frame p)) (asks_field asks),
      spelling_size (ask_frame p)
          (All-head IsAsk p asks valid),
    )

pub fits_record : (asks : List (Key × Call)) → All IsAsk asks → length asks ≤ 1000000 → length (asks_field asks) < 2 ^ 32
fits_record asks valid few = omega (arith, length-field asks valid, few)

-- ---- the first ask

-- what asks' bytes begin with
pub first_of_field : (bytes : List ℕ) (asks : List (Key × Call)) → asks ≢ [] → All IsAsk asks → bytes ≡ asks_field asks
    → (ask : Key × Call) × (k : ℕ) × (k ≤ length bytes) × Spells (ask_frame ask) (take k bytes)
first_of_field bytes [] some valid e = absurd (some refl)
first_of_field bytes (p ∷ asks) some valid e =
    let field = spelling (ask_frame p) in
    let front : take (length field) bytes ≡ field = ap (λ (l : List ℕ). take (length field) l) e ∙ take_at field (asks_field asks) (length field) refl in (
      p,
      length field,
      omega (arith, ap length e, length-append field (asks_field asks)),
      record { valid = All-head IsAsk p asks valid; spelled = front },
    )

-- asks take some bytes
pub field_filled : (asks : List (Key × Call)) → asks ≢ [] → 0 < length (asks_field asks)
field_filled [] some = absurd (some refl)
field_filled (p ∷ asks) some = omega (arith, length-spelling (ask_frame p), length-append (spelling (ask_frame p)) (asks_field asks))
