-- What stands at the front of some bytes, by the size that they state.
use Rattle.std.proofs.Common.{◌≡◌, ◌≢◌, ℕ, ◌+◌, ◌-◌, ◌<◌, ◌≤◌, ◌^◌, List, [], ◌++◌, length, take, drop, refl, sym, ap, subst, ◌∙◌, arith, length-append, length-drop, length-take, inl, inr}
use Rattle.std.specs.Int.{w32, from_be_bytes, to_be_bytes}
use Rattle.std.proofs.Math.Seq.{take-add}
use Rattle.std.proofs.lemmas.List.{append-nil, drop_at, drop-drop, nil_from_length, take_at, take-append-drop, take-take, length-take-le}
use Rattle.std.proofs.lemmas.List.Elements.{All-drop, All-get_or, All-take}
use Rattle.std.proofs.lemmas.Nat.{from_be_bytes-to_be_bytes_4}
use Rattle.sha2.specs.Sha256.{sha256}
use Rattle.sha2.proofs.Facts256.{length-sha256}
use Rattle.sb_log.specs.inner.Front.{HasNoRecord}
use Rattle.sb_log.specs.Reading.{Begins, IsTorn}
use Rattle.sb_log.specs.Records.{IsBody, record_after, size_field}
use Rattle.sb_log.proofs.Counts.{IsBlank}
use Rattle.sb_log.proofs.Records.{behind_head, first_eight, length-record, length-size_field, one_size, record_parts}

-- no head begins so
abbrev pub StatesNone : List ℕ → Type 0
StatesNone bytes = (size : ℕ) → size < 2 ^ 32 → Begins (take 8 bytes) (size_field size) → ⊥

-- the first eight bytes, of those that were read
pub front_same : (rest first : List ℕ) → first ≡ take 40 rest → take 8 first ≡ take 8 rest
front_same rest first is = ap (λ (l : List ℕ). take 8 l) is ∙ take-take 8 40 rest (omega arith)

pub none_stated : (rest first : List ℕ) → first ≡ take 40 rest → StatesNone first → StatesNone rest
none_stated rest first is none size fits begins =
    none size fits (subst (λ (l : List ℕ). Begins l (size_field size)) (sym (front_same rest first is)) begins)

pub stated : (rest first : List ℕ) (size : ℕ) → first ≡ take 40 rest → Begins (take 8 first) (size_field size) → Begins (take 8 rest) (size_field size)
stated rest first size is begins = subst (λ (l : List ℕ). Begins l (size_field size)) (front_same rest first is) begins

pub no_record_stated : (before rest : List ℕ) → StatesNone rest → HasNoRecord before rest
no_record_stated before rest none body more fits e =
    none (length body) fits ([], sym (append-nil (take 8 rest) ∙ ap (λ (l : List ℕ). take 8 l) e ∙ first_eight before body more))

pub not_torn_stated : (rest : List ℕ) → StatesNone rest → (IsBlank rest → ⊥) → IsTorn rest → ⊥
not_torn_stated rest none marked torn = elim torn [
  | inl begins ↦ none begins.0 begins.1 begins.2
  | inr blank ↦ marked blank
]

-- a record's body has the size that is stated
sized : (before rest body more : List ℕ) (size : ℕ) → size < 2 ^ 32 → Begins (take 8 rest) (size_field size) → IsBody body
    → rest ≡ record_after before body ++ more → size ≡ length body
sized before rest body more size fits begins fits_body e =
    one_size size (length body) [] begins.0 fits fits_body
    (append-nil (size_field size) ∙ begins.1
    ∙ ap (λ (l : List ℕ). l ++ begins.0) (ap (λ (l : List ℕ). take 8 l) e ∙ first_eight before body more))

-- fewer bytes than the record has
pub too_few : (before rest : List ℕ) (size : ℕ) → size < 2 ^ 32 → Begins (take 8 rest) (size_field size) → length rest < 40 + size
    → IsTorn rest × HasNoRecord before rest
too_few before rest size fits begins few = (
  inl (size, fits, begins, few),
  λ body more fits_body e.
      let same = sized before rest body more size fits begins fits_body e in
      omega (arith, few, same, ap length e, length-append (record_after before body) more, length-record before body),
)

whole_field : (rest : List ℕ) (size : ℕ) → 8 ≤ length rest → Begins (take 8 rest) (size_field size) → size_field size ≡ take 8 rest
whole_field rest size long begins =
    let none : begins.0 ≡ [] = nil_from_length begins.0
    (omega (arith, ap length begins.1, length-append (take 8 rest) begins.0, length-take 8 rest, length-size_field size, long)) in
    begins.1 ∙ ap (λ (l : List ℕ). take 8 rest ++ l) none ∙ append-nil (take 8 rest)

zero_bytes : (bytes : List ℕ) → length bytes ≡ 4 → IsBlank bytes → from_be_bytes w32 bytes ≡ 0
zero_bytes bytes long blank =
    let at = λ (i : ℕ) (lt : i < length bytes). All-get_or (λ (byte : ℕ). byte ≡ 0) bytes i 0 lt blank in
    omega (arith, at 0 (omega (arith, long)), at 1 (omega (arith, long)), at 2 (omega (arith, long)), at 3 (omega (arith, long)))

-- a size or its complement isn't 0
field_marked : (size : ℕ) → size < 2 ^ 32 → IsBlank (size_field size) → ⊥
unfolding size_field
field_marked size fits blank =
    let first : IsBlank (to_be_bytes w32 size) = All-take (λ (byte : ℕ). byte ≡ 0) 4 (size_field size) blank in
    let second : IsBlank (to_be_bytes w32 (2 ^ 32 - 1 - size)) = All-drop (λ (byte : ℕ). byte ≡ 0) 4 (size_field size) blank in
    omega (
      arith,
      fits,
      sym (from_be_bytes-to_be_bytes_4 size fits) ∙ zero_bytes (to_be_bytes w32 size) refl first,
      sym (from_be_bytes-to_be_bytes_4 (2 ^ 32 - 1 - size) (omega arith)) ∙ zero_bytes (to_be_bytes w32 (2 ^ 32 - 1 - size)) refl second,
    )

-- as many bytes as a record has
not_torn_whole : (rest : List ℕ) (size : ℕ) → size < 2 ^ 32 → Begins (take 8 rest) (size_field size) → 40 + size ≤ length rest → IsTorn rest → ⊥
not_torn_whole rest size fits begins long torn =
    let field = whole_field rest size (omega (arith, long)) begins in
    elim torn [
      | inl other ↦
          let field_other = whole_field rest other.0 (omega (arith, long)) other.2 in
          let same : size ≡ other.0 = one_size size other.0 [] [] fits other.1 (ap (λ (l : List ℕ). l ++ []) (field ∙ sym field_other)) in
          omega (arith, same, other.3, long)
      | inr blank ↦ field_marked size fits (subst IsBlank (sym field) (All-take (λ (byte : ℕ). byte ≡ 0) 8 rest blank))
    ]

-- the digest in a record
digest_in : (before body : List ℕ) → take 32 (drop 8 (record_after before body)) ≡ sha256 (before ++ body)
digest_in before body =
    ap (λ (l : List ℕ). take 32 (drop 8 l)) (record_parts before body)
    ∙ ap (λ (l : List ℕ). take 32 l) (drop_at (size_field (length body)) (sha256 (before ++ body) ++ body) 8 (length-size_field (length body)))
    ∙ take_at (sha256 (before ++ body)) body 32 (length-sha256 (before ++ body))

pub body_in : (before body : List ℕ) → drop 40 (record_after before body) ≡ body
body_in before body = ap (λ (l : List ℕ). drop 40 l) (sym (append-nil (record_after before body))) ∙ behind_head before body [] ∙ append-nil body

-- as many bytes as a record has, but with another digest
pub bad_digest : (before rest bytes : List ℕ) (size : ℕ) → bytes ≡ take (40 + size) rest → 40 + size ≤ length rest → size < 2 ^ 32
    → Begins (take 8 rest) (size_field size) → take 32 (drop 8 bytes) ≢ sha256 (before ++ drop 40 bytes)
    → (IsTorn rest → ⊥) × HasNoRecord before rest
bad_digest before rest bytes size is long fits begins differs = (
  not_torn_whole rest size fits begins long,
  λ body more fits_body e.
      let same = sized before rest body more size fits begins fits_body e in
      let all : bytes ≡ record_after before body =
      is ∙ ap (λ (l : List ℕ). take (40 + size) l) e ∙ take_at (record_after before body) more (40 + size) (omega (arith, length-record before body, same)) in
      differs (ap (λ (l : List ℕ). take 32 (drop 8 l)) all ∙ digest_in before body
      ∙ ap (λ (l : List ℕ). sha256 (before ++ l)) (sym (body_in before body) ∙ ap (λ (l : List ℕ). drop 40 l) (sym all))),
)

-- a whole record
pub whole : (before rest bytes : List ℕ) (size : ℕ) → bytes ≡ take (40 + size) rest → 40 + size ≤ length rest → size < 2 ^ 32
    → Begins (take 8 rest) (size_field size) → take 32 (drop 8 bytes) ≡ sha256 (before ++ drop 40 bytes)
    → IsBody (drop 40 bytes) × (bytes ≡ record_after before (drop 40 bytes)) × (rest ≡ bytes ++ drop (40 + size) rest)
whole before rest bytes size is long fits begins same =
    let body = drop 40 bytes in
    let len : length bytes ≡ 40 + size = ap length is ∙ length-take-le (40 + size) rest long in
    let body_len : length body ≡ size = omega (arith, length-drop 40 bytes, len) in
    let field : take 8 bytes ≡ size_field (length body) =
    ap (λ (l : List ℕ). take 8 l) is ∙ take-take 8 (40 + size) rest (omega arith) ∙ sym (whole_field rest size (omega (arith, long)) begins)
    ∙ ap size_field (sym body_len) in
    let parts : bytes ≡ take 8 bytes ++ (take 32 (drop 8 bytes) ++ body) =
    sym (take-append-drop 8 bytes) ∙ ap (λ (l : List ℕ). take 8 bytes ++ l)
    (sym (take-append-drop 32 (drop 8 bytes)) ∙ ap (λ (l : List ℕ). take 32 (drop 8 bytes) ++ l) (drop-drop 32 8 bytes)) in (
      omega (arith, body_len, fits),
      parts ∙ ap (λ (l : List ℕ). l ++ (take 32 (drop 8 bytes) ++ body)) field
          ∙ ap (λ (l : List ℕ). size_field (length body) ++ (l ++ body)) same ∙ sym (record_parts before body),
      sym (take-append-drop (40 + size) rest) ∙ ap (λ (l : List ℕ). l ++ drop (40 + size) rest) (sym is),
    )

-- what the first read gives, and the second
pub first_read : (content cleared items read : List ℕ) (at : ℕ) → cleared ≡ [] → items ≡ cleared ++ take 40 (drop at content) → read ≡ items
    → read ≡ take 40 (drop at content)
first_read content cleared items read at empty is same =
    same ∙ is ∙ ap (λ (l : List ℕ). l ++ take 40 (drop at content)) empty

pub second_read : (content now first items read : List ℕ) (at size : ℕ) → now ≡ content → first ≡ take 40 (drop at content)
    → items ≡ first ++ take size (drop (at + 40) now) → read ≡ items → read ≡ take (40 + size) (drop at content)
second_read content now first items read at size unchanged first_is is same =
    same ∙ is ∙ ap (λ (l : List ℕ). l ++ take size (drop (at + 40) now)) first_is
    ∙ ap (λ (l : List ℕ). take 40 (drop at content) ++ take size l) (ap (λ (l : List ℕ). drop (at + 40) l) unchanged ∙ sym (drop-drop 40 at content))
    ∙ sym (take-add 40 size (drop at content))

-- what was read, if fewer bytes came than were asked for
pub all_read : (rest read : List ℕ) (n : ℕ) → read ≡ take n rest → length read < n → length read ≡ length rest
all_read rest read n is few = omega (arith, ap length is, length-take n rest, few)

pub all_there : (rest read : List ℕ) (n : ℕ) → read ≡ take n rest → n ≤ length read → n ≤ length rest
all_there rest read n is many = omega (arith, ap length is, length-take n rest, many)
