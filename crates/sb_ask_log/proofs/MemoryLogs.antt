-- A log of asks in a file in memory: its bytes, and what is read of them.
use Rattle.std.proofs.Common.{◌≡◌, ℕ, ◌+◌, ◌<◌, ◌≤◌, Some, max, List, [], ◌∷◌, ◌++◌, length, map, take, drop, slice_get, refl, sym, ap, subst, ◌∙◌, arith, append_assoc, append-nil, add-one, length-append, length-take, ◌≢◌, get_or, inl, inr}
use Rattle.std.specs.List.{All}
use Rattle.std.proofs.Math.Nat.{max-eq_left, max-eq_right}
use Rattle.std.proofs.Math.Seq.{take-length}
use Rattle.std.proofs.lemmas.Bool.{cases_lt}
use Rattle.std.proofs.lemmas.List.{get_or-take, map-append, nil_from_length, take-append-drop, take-append-le, take-take, take_at, take_more}
use Rattle.std.proofs.lemmas.List.Elements.{All-cons, All-head, All-tail, All-nil, All-push}
use Rattle.std.proofs.lemmas.Option.{get_or_from_slice_get}
use Rattle.sha2.specs.Hashers.{Holds256}
use Rattle.sha2.specs.declared.Sha256.{Sha256}
use Rattle.sb_rows.specs.Customer.{balances_of, names_of}
use Rattle.sb_rows.specs.Opening.{customers_from}
use Rattle.sb_rows.specs.Text.{bytes_of_lines, lines}
use Rattle.sb_calls.specs.declared.ask.Key.{Key}
use Rattle.sb_calls.specs.declared.call.Call.{Call}
use Rattle.sb_frames.specs.Grammar.{Spells, spelling}
use Rattle.sb_sequencer.specs.Numbering.{IsLog, ask_of_number}
use Rattle.sb_log.specs.Lives.{Append, Sync}
use Rattle.sb_log.specs.MemoryFile.{MemoryFileOf}
use Rattle.sb_log.specs.Reading.{Begins, ReadsRecords}
use Rattle.sb_log.specs.Records.{IsBody, body_bytes, record_after, records, records_after}
use Rattle.sb_log.proofs.Lives.{keeps_what_it_told}
use Rattle.sb_log.proofs.Records.{joined_push, length-record, records_join, records_push}
use Rattle.sb_ask_log.specs.Asks.{IsAsk, asks_field, ask_frame}
use Rattle.sb_ask_log.specs.LogFile.{AreBodiesOf, IsOpeningText, bodies_of, log_bytes, log_magic}
use Rattle.sb_ask_log.specs.MemoryLog.{HasAsks, MemoryLogOf, bytes_of_asks, no_customers}
use Rattle.sb_ask_log.specs.Recovery.{ReadsAskLog}
use Rattle.sb_ask_log.proofs.Bodies.{all_of, bodies_begin, joined_fields}
use Rattle.sb_ask_log.proofs.Fields.{spelling_size}
use Rattle.sb_ask_log.proofs.Numbers.{no_log}
use Rattle.sb_ask_log.proofs.Recovering.{all_told, read_behind, tells_all}

-- each ask in a batch of its own
abbrev pub single_asks : List (Key × Call) → List (List (Key × Call))
single_asks asks = map (λ (ask : Key × Call). ask ∷ []) asks

-- the bodies of the records
abbrev pub bodies_of_asks : List (Key × Call) → List (List ℕ)
bodies_of_asks asks = bodies_of no_customers (single_asks asks)

-- ---- the bodies

pub bodies_more : (asks more : List (Key × Call)) → bodies_of_asks (asks ++ more) ≡ bodies_of_asks asks ++ map asks_field (single_asks more)
bodies_more asks more =
    ap (λ (l : List (List (Key × Call))). bodies_of no_customers l) (map-append (λ (ask : Key × Call). ask ∷ []) asks more)
    ∙ ap (λ (l : List (List ℕ)). (log_magic ++ no_customers) ∷ l) (map-append asks_field (single_asks asks) (single_asks more))

all_single : (asks : List (Key × Call)) → asks ≡ all_of (single_asks asks)
all_single [] = refl
all_single (ask ∷ asks) = ap (λ (l : List (Key × Call)). ask ∷ l) (all_single asks)

pub bytes_of_bodies : (asks : List (Key × Call)) → body_bytes (bodies_of_asks asks) ≡ log_bytes no_customers asks
bytes_of_bodies asks =
    ap (λ (l : List ℕ). (log_magic ++ no_customers) ++ l) (joined_fields (single_asks asks) ∙ ap asks_field (sym (all_single asks)))
    ∙ append_assoc log_magic no_customers (asks_field asks)

opening_is : IsOpeningText no_customers
unfolding customers_from lines
opening_is = record {
  opening = record { names = names_of []; balances = balances_of []; consumed = bytes_of_lines 1 no_customers };
  read = refl;
  whole = refl;
  ended = (take 5 no_customers, refl);
}

some_single : (asks : List (Key × Call)) → All (λ (batch : List (Key × Call)). batch ≢ []) (single_asks asks)
some_single [] = All-nil (λ (batch : List (Key × Call)). batch ≢ [])
some_single (ask ∷ asks) = All-cons (λ (batch : List (Key × Call)). batch ≢ []) (ask ∷ []) (single_asks asks)
    (λ e. omega (arith, ap length e)) (some_single asks)

pub are_bodies : (asks : List (Key × Call)) → IsLog asks → All IsAsk asks → AreBodiesOf (bodies_of_asks asks) no_customers asks
are_bodies asks is valid = record {
  batches = single_asks asks;
  bodies_are = refl;
  opening = opening_is;
  log_is = record { some = some_single asks; valid = valid; log_is = all_single asks; one_each = is };
}

fits_single : (asks : List (Key × Call)) → All IsAsk asks → All IsBody (map asks_field (single_asks asks))
fits_single [] valid = All-nil IsBody
fits_single (ask ∷ asks) valid = All-cons IsBody (asks_field (ask ∷ [])) (map asks_field (single_asks asks))
    (omega (arith, spelling_size (ask_frame ask) (All-head IsAsk ask asks valid), length-append (spelling (ask_frame ask)) []))
    (fits_single asks (All-tail IsAsk ask asks valid))

fit_bodies : (asks : List (Key × Call)) → All IsAsk asks → All IsBody (bodies_of_asks asks)
fit_bodies asks valid = All-cons IsBody (log_magic ++ no_customers) (map asks_field (single_asks asks)) (omega arith) (fits_single asks valid)

-- ---- the bytes

-- the bytes of some asks begin with those of the first of them
pub bytes_more : (asks more : List (Key × Call))
    → bytes_of_asks (asks ++ more) ≡ bytes_of_asks asks ++ records_after (body_bytes (bodies_of_asks asks)) (map asks_field (single_asks more))
bytes_more asks more = ap records (bodies_more asks more) ∙ records_join [] (bodies_of_asks asks) (map asks_field (single_asks more))

-- one more ask
pub bytes_one_more : (asks : List (Key × Call)) (ask : Key × Call)
    → bytes_of_asks (asks ++ ask ∷ []) ≡ bytes_of_asks asks ++ record_after (log_bytes no_customers asks) (spelling (ask_frame ask))
bytes_one_more asks ask =
    ap records (bodies_more asks (ask ∷ [])) ∙ records_push (bodies_of_asks asks) (asks_field (ask ∷ []))
    ∙ ap (λ (l : List ℕ). bytes_of_asks asks ++ record_after l (asks_field (ask ∷ []))) (bytes_of_bodies asks)
    ∙ ap (λ (l : List ℕ). bytes_of_asks asks ++ record_after (log_bytes no_customers asks) l) (append-nil (spelling (ask_frame ask)))

pub log_bytes_one_more : (asks : List (Key × Call)) (ask : Key × Call)
    → log_bytes no_customers (asks ++ ask ∷ []) ≡ log_bytes no_customers asks ++ spelling (ask_frame ask)
log_bytes_one_more asks ask =
    sym (bytes_of_bodies (asks ++ ask ∷ []))
    ∙ ap body_bytes (bodies_more asks (ask ∷ []))
    ∙ joined_push (bodies_of_asks asks) (asks_field (ask ∷ []))
    ∙ ap (λ (l : List ℕ). body_bytes (bodies_of_asks asks) ++ l) (append-nil (spelling (ask_frame ask)))
    ∙ ap (λ (l : List ℕ). l ++ spelling (ask_frame ask)) (bytes_of_bodies asks)

-- the first asks take this many bytes, and no more than all
pub first_bytes : (n : ℕ) (asks : List (Key × Call)) → take (length (bytes_of_asks (take n asks))) (bytes_of_asks asks) ≡ bytes_of_asks (take n asks)
first_bytes n asks =
    ap (λ (l : List (Key × Call)). take (length (bytes_of_asks (take n asks))) (bytes_of_asks l)) (sym (take-append-drop n asks))
    ∙ ap (λ (l : List ℕ). take (length (bytes_of_asks (take n asks))) l) (bytes_more (take n asks) (drop n asks))
    ∙ take_at (bytes_of_asks (take n asks)) _ (length (bytes_of_asks (take n asks))) refl

first_fewer : (n : ℕ) (asks : List (Key × Call)) → length (bytes_of_asks (take n asks)) ≤ length (bytes_of_asks asks)
first_fewer n asks =
    let rest = records_after (body_bytes (bodies_of_asks (take n asks))) (map asks_field (single_asks (drop n asks))) in
    let whole : bytes_of_asks asks ≡ bytes_of_asks (take n asks) ++ rest =
    ap bytes_of_asks (sym (take-append-drop n asks)) ∙ bytes_more (take n asks) (drop n asks) in
    omega (arith, ap length whole, length-append (bytes_of_asks (take n asks)) rest)

first_fewer_than : (a b : ℕ) (asks : List (Key × Call)) → a ≤ b → length (bytes_of_asks (take a asks)) ≤ length (bytes_of_asks (take b asks))
first_fewer_than a b asks le =
    subst (λ (l : List (Key × Call)). length (bytes_of_asks l) ≤ length (bytes_of_asks (take b asks))) (take-take a b asks le)
    (first_fewer a (take b asks))

-- the opening's record alone
pub no_bytes : length (bytes_of_asks []) ≡ 54
no_bytes =
    omega (arith, length-record [] (log_magic ++ no_customers), length-append (record_after [] (log_magic ++ no_customers)) [])

-- the size of one more ask's record
pub size_one_more : (log : List (Key × Call)) (before size : ℕ) (ask : Key × Call) (cells : List ℕ) → before < length log
    → ask_of_number log (before + 1) ≡ Some ask → Spells (ask_frame ask) cells → size ≡ length (bytes_of_asks (take before log))
    → size + (40 + length cells) ≡ length (bytes_of_asks (take (before + 1) log))
size_one_more log before size ask cells lt is spelled so_far =
    let there : slice_get log before ≡ Some ask = subst (λ n. ask_of_number log n ≡ Some ask) (add-one before) is in
    let next : take (before + 1) log ≡ take before log ++ ask ∷ [] =
    take_more log before ask lt ∙ ap (λ (a : Key × Call). take before log ++ a ∷ []) (get_or_from_slice_get log before ask ask there) in
    let record_bytes = record_after (log_bytes no_customers (take before log)) (spelling (ask_frame ask)) in
    omega (
      arith,
      so_far,
      ap length spelled.spelled,
      ap (λ (l : List (Key × Call)). length (bytes_of_asks l)) next,
      ap length (bytes_one_more (take before log) ask),
      length-append (bytes_of_asks (take before log)) record_bytes,
      length-record (log_bytes no_customers (take before log)) (spelling (ask_frame ask)),
    )

-- ---- which asks a log has

pub IsLog-take : (n : ℕ) (log : List (Key × Call)) → IsLog log → IsLog (take n log)
IsLog-take n log is = record {
  limit = omega (arith, is.limit, length-take n log);
  different = λ i j d lt bound.
      let below : j < n = omega (arith, bound, length-take n log) in
      let apart = is.different i j d lt (omega (arith, bound, length-take n log)) in
      let first : get_or (take n log) i d ≡ get_or log i d = get_or-take n log i d (omega (arith, lt, below)) in
      let second : get_or (take n log) j d ≡ get_or log j d = get_or-take n log j d below in
      λ same. apart (ap (λ (a : Key × Call). a.0) (sym first) ∙ same ∙ ap (λ (a : Key × Call). a.0) second);
}

-- a log that is synced wholly
pub has_all_synced : (file : MemoryFileOf) (hasher : Sha256) (n : ℕ) (asks : List (Key × Call)) → IsLog asks → All IsAsk asks
    → file.content ≡ bytes_of_asks asks → file.synced ≡ length (bytes_of_asks asks) → n ≡ length asks → Holds256 hasher (log_bytes no_customers asks)
    → HasAsks (record { file = file; hasher = hasher; synced = n }) asks
has_all_synced file hasher n asks is valid content synced all holds = record {
  one_each = is;
  valid = valid;
  content = content;
  few = omega (arith, all);
  synced = synced ∙ ap (λ (l : List (Key × Call)). length (bytes_of_asks l)) (sym (ap (λ (k : ℕ). take k asks) all ∙ take-length asks));
  holds = holds;
}

-- one ask more
pub has_one_more : (old new : MemoryLogOf) (asks : List (Key × Call)) (ask : Key × Call) (cells : List ℕ) → HasAsks old asks
    → IsLog (asks ++ ask ∷ []) → Spells (ask_frame ask) cells → new.file.content ≡ old.file.content ++ record_after (log_bytes no_customers asks) cells
    → new.file.synced ≡ old.file.synced → new.synced ≡ old.synced → Holds256 new.hasher (log_bytes no_customers asks ++ cells)
    → HasAsks new (asks ++ ask ∷ [])
has_one_more old new asks ask cells has is spelled content synced count holds = record {
  one_each = is;
  valid = All-push IsAsk asks ask has.valid spelled.valid;
  content = content ∙ ap (λ (l : List ℕ). l ++ record_after (log_bytes no_customers asks) cells) has.content
      ∙ ap (λ (l : List ℕ). bytes_of_asks asks ++ record_after (log_bytes no_customers asks) l) spelled.spelled
      ∙ sym (bytes_one_more asks ask);
  few = omega (arith, has.few, count, length-append asks (ask ∷ []));
  synced = synced ∙ has.synced
      ∙ ap (λ (l : List (Key × Call)). length (bytes_of_asks l)) (sym (take-append-le old.synced asks (ask ∷ []) has.few)
      ∙ ap (λ (n : ℕ). take n (asks ++ ask ∷ [])) (sym count));
  holds = subst (Holds256 new.hasher) (ap (λ (l : List ℕ). log_bytes no_customers asks ++ l) spelled.spelled ∙ sym (log_bytes_one_more asks ask)) holds;
}

-- the bytes of the more of two numbers of asks
bytes_of_more_asks : (a b : ℕ) (asks : List (Key × Call))
    → max (length (bytes_of_asks (take a asks))) (length (bytes_of_asks (take b asks))) ≡ length (bytes_of_asks (take (max a b) asks))
bytes_of_more_asks a b asks = elim (cases_lt a b) [
  | inl lt ↦ max-eq_right (first_fewer_than a b asks (omega (arith, lt)))
      ∙ ap (λ (n : ℕ). length (bytes_of_asks (take n asks))) (sym (max-eq_right {n = a} {m = b} (omega (arith, lt))))
  | inr le ↦ max-eq_left (first_fewer_than b a asks le) ∙ ap (λ (n : ℕ). length (bytes_of_asks (take n asks))) (sym (max-eq_left {n = a} {m = b} le))
]

-- what a crash leaves of the bytes
pub crash_leaves : (log : MemoryLogOf) (asks : List (Key × Call)) (kept size : ℕ) → HasAsks log asks → size ≡ length (bytes_of_asks (take kept asks))
    → take (max log.file.synced size) log.file.content ≡ bytes_of_asks (take (max log.synced kept) asks)
crash_leaves log asks kept size has size_is =
    let left = max log.synced kept in
    ap (λ (n : ℕ). take (max n size) log.file.content) has.synced
    ∙ ap (λ (n : ℕ). take (max (length (bytes_of_asks (take log.synced asks))) n) log.file.content) size_is
    ∙ ap (λ (n : ℕ). take n log.file.content) (bytes_of_more_asks log.synced kept asks)
    ∙ ap (λ (l : List ℕ). take (length (bytes_of_asks (take left asks))) l) has.content
    ∙ first_bytes left asks

-- ---- what is read

both_begin : {A : Type 0} (a b : List A) → Begins a b → Begins b a → b ≡ a
both_begin a b longer shorter =
    let none : longer.0 ≡ [] =
    nil_from_length longer.0 (omega (arith, ap length longer.1, ap length shorter.1, length-append a longer.0, length-append b shorter.0)) in
    longer.1 ∙ ap (λ l. a ++ l) none ∙ append-nil a

-- of whole records just these asks are read, and nothing is left
pub reads_asks : (asks log : List (Key × Call)) (content text rest : List ℕ) → IsLog asks → All IsAsk asks → content ≡ bytes_of_asks asks
    → ReadsAskLog content text log rest → (text ≡ no_customers) × (log ≡ asks) × (rest ≡ [])
reads_asks asks log content text rest is valid content_is r =
    let bodies = bodies_of_asks asks in
    let reads : ReadsRecords (records bodies) r.bodies rest = subst (λ (c : List ℕ). ReadsRecords c r.bodies rest) content_is r.reads in
    let begins = keeps_what_it_told (map Append bodies ++ Sync ∷ []) (all_told bodies) r.bodies rest (tells_all [] bodies (fit_bodies asks valid)) reads in
    let are = are_bodies asks is valid in
    let these : AreBodiesOf r.bodies text log = read_behind bodies r.bodies no_customers text asks log are begins.0 r.are in
    let longer = bodies_begin bodies r.bodies no_customers text asks log are these begins.0 in
    let shorter = bodies_begin r.bodies bodies text no_customers log asks these are begins.1 in
    let same : r.bodies ≡ bodies = both_begin bodies r.bodies begins.0 begins.1 in (
      longer.0,
      both_begin asks log longer.1 shorter.1,
      nil_from_length rest (omega (arith, ap length reads.whole, length-append (records r.bodies) rest, ap (λ (l : List (List ℕ)). length (records l)) same)),
    )

-- what is read of a file of these asks, which is synced then, is a log of them
pub read_has : (asks log : List (Key × Call)) (content text rest : List ℕ) (file : MemoryFileOf) (hasher : Sha256) (n : ℕ) → IsLog asks → All IsAsk asks
    → content ≡ bytes_of_asks asks → ReadsAskLog content text log rest → content ≡ file.content ++ rest → file.synced ≡ length file.content → n ≡ length log
    → (text ≢ [] → Holds256 hasher (log_bytes text log))
    → (log ≡ asks) × HasAsks (record { file = file; hasher = hasher; synced = n }) asks × (n ≡ length asks)
read_has asks log content text rest file hasher n is valid content_is r whole synced all holds =
    let same = reads_asks asks log content text rest is valid content_is r in
    let bytes : file.content ≡ bytes_of_asks asks =
    sym (append-nil file.content) ∙ ap (λ (l : List ℕ). file.content ++ l) (sym same.2) ∙ sym whole ∙ content_is in
    let count : n ≡ length asks = all ∙ ap length same.1 in
    let some : text ≢ [] = λ none. omega (arith, ap length (sym same.0 ∙ none)) in
    let held : Holds256 hasher (log_bytes no_customers asks) =
    subst (λ (l : List (Key × Call)). Holds256 hasher (log_bytes no_customers l)) same.1
    (subst (λ (t : List ℕ). Holds256 hasher (log_bytes t log)) same.0 (holds some)) in
    (same.1, has_all_synced file hasher n asks is valid bytes (synced ∙ ap length bytes) count held, count)

-- the opening alone, which is synced
pub has_none : (file : MemoryFileOf) (hasher : Sha256) → file.content ≡ record_after [] (log_magic ++ no_customers) → file.synced ≡ length file.content
    → Holds256 hasher (log_magic ++ no_customers) → HasAsks (record { file = file; hasher = hasher; synced = 0 }) []
has_none file hasher content synced holds =
    let bytes : file.content ≡ bytes_of_asks [] = content ∙ sym (append-nil (record_after [] (log_magic ++ no_customers))) in
    has_all_synced file hasher 0 [] no_log (All-nil IsAsk) bytes (synced ∙ ap length bytes) refl holds
