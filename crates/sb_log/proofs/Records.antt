-- Records, and what begins with one.
use Rattle.std.proofs.Common.{◌≡◌, ℕ, ◌+◌, ◌<◌, ◌≤◌, ◌^◌, List, [], ◌∷◌, ◌++◌, length, take, drop, refl, sym, ap, subst, ◌∙◌, arith, append_assoc, length-append}
use Rattle.std.specs.Int.{w32, from_be_bytes}
use Rattle.std.proofs.lemmas.List.{append-nil, drop-drop, drop_at, take_at, take_rest, append_cancel_left}
use Rattle.std.proofs.lemmas.List.Concat.{flat_map-append}
use Rattle.std.specs.Prelude.{◌-◌}
use borrow.Rule.Slice.PartMut.{put_mid}
use Rattle.sha2.specs.Hashers.{Holds256}
use Rattle.sha2.specs.declared.Sha256.{Sha256}
use Rattle.std.proofs.lemmas.Nat.{from_be_bytes-to_be_bytes_4}
use Rattle.sha2.specs.Sha256.{sha256}
use Rattle.sha2.proofs.Facts256.{length-sha256}
use Rattle.sb_log.specs.Records.{IsBody, head, body_bytes, record_after, records, records_after, size_field}

pub length-size_field : (size : ℕ) → length (size_field size) ≡ 8
unfolding size_field
length-size_field size = refl

pub length-head : (before body : List ℕ) → length (head before body) ≡ 40
unfolding head
length-head before body =
    omega (arith, length-append (size_field (length body)) (sha256 (before ++ body)), length-size_field (length body), length-sha256 (before ++ body))

pub length-record : (before body : List ℕ) → length (record_after before body) ≡ 40 + length body
unfolding record_after
length-record before body = omega (arith, length-append (head before body) body, length-head before body)

-- a record by its parts
pub record_parts : (before body : List ℕ) → record_after before body ≡ size_field (length body) ++ (sha256 (before ++ body) ++ body)
unfolding record_after head
record_parts before body = append_assoc (size_field (length body)) (sha256 (before ++ body)) body

-- the number in a field's first four bytes
pub field_states : (size : ℕ) (rest : List ℕ) → size < 2 ^ 32 → from_be_bytes w32 (take 4 (size_field size ++ rest)) ≡ size
unfolding size_field
field_states size rest fits = from_be_bytes-to_be_bytes_4 size fits

-- a field states one size
pub one_size : (a b : ℕ) (x y : List ℕ) → a < 2 ^ 32 → b < 2 ^ 32 → size_field a ++ x ≡ size_field b ++ y → a ≡ b
one_size a b x y fits_a fits_b e =
    sym (field_states a x fits_a) ∙ ap (λ (l : List ℕ). from_be_bytes w32 (take 4 l)) e ∙ field_states b y fits_b

-- a record begins with its size
pub first_eight : (before body rest : List ℕ) → take 8 (record_after before body ++ rest) ≡ size_field (length body)
first_eight before body rest =
    ap (λ (l : List ℕ). take 8 (l ++ rest)) (record_parts before body)
    ∙ ap (λ (l : List ℕ). take 8 l) (append_assoc (size_field (length body)) (sha256 (before ++ body) ++ body) rest)
    ∙ take_at (size_field (length body)) ((sha256 (before ++ body) ++ body) ++ rest) 8 (length-size_field (length body))

-- behind its head a record has its body
pub behind_head : (before body rest : List ℕ) → drop 40 (record_after before body ++ rest) ≡ body ++ rest
unfolding record_after
behind_head before body rest =
    ap (λ (l : List ℕ). drop 40 l) (append_assoc (head before body) body rest)
    ∙ drop_at (head before body) (body ++ rest) 40 (length-head before body)

pub one_body : (before a b x y : List ℕ) → IsBody a → IsBody b → record_after before a ++ x ≡ record_after before b ++ y → a ≡ b
one_body before a b x y fits_a fits_b e =
    let fields : size_field (length a) ++ [] ≡ size_field (length b) ++ [] =
    ap (λ (l : List ℕ). l ++ []) (sym (first_eight before a x) ∙ ap (λ (l : List ℕ). take 8 l) e ∙ first_eight before b y) in
    let sizes : length a ≡ length b = one_size (length a) (length b) [] [] fits_a fits_b fields in
    sym (take_at a x (length a) refl) ∙ ap (λ (l : List ℕ). take (length a) l)
    (sym (behind_head before a x) ∙ ap (λ (l : List ℕ). drop 40 l) e ∙ behind_head before b y) ∙ take_at b y (length a) (sym sizes)

pub one_record : (before a b x y : List ℕ) → IsBody a → IsBody b → record_after before a ++ x ≡ record_after before b ++ y → (a ≡ b) × (x ≡ y)
one_record before a b x y fits_a fits_b e =
    let same = one_body before a b x y fits_a fits_b e in
    (same, append_cancel_left (record_after before a) x y (e ∙ ap (λ (l : List ℕ). record_after before l ++ y) (sym same)))

-- bodies behind others
pub joined_more : (xs ys : List (List ℕ)) → body_bytes (xs ++ ys) ≡ body_bytes xs ++ body_bytes ys
joined_more xs ys = flat_map-append (λ (b : List ℕ). b) xs ys

pub records_join : (before : List ℕ) (xs ys : List (List ℕ)) → records_after before (xs ++ ys) ≡ records_after before xs ++ records_after
    (before ++ body_bytes xs) ys
records_join before [] ys = ap (λ (l : List ℕ). records_after l ys) (sym (append-nil before))
records_join before (x ∷ xs) ys =
    ap (λ (l : List ℕ). record_after before x ++ l) (records_join (before ++ x) xs ys)
    ∙ ap (λ (l : List ℕ). record_after before x ++ (records_after (before ++ x) xs ++ records_after l ys)) (append_assoc before x (body_bytes xs))
    ∙ sym (append_assoc (record_after before x) (records_after (before ++ x) xs) (records_after (before ++ body_bytes (x ∷ xs)) ys))

pub joined_push : (bodies : List (List ℕ)) (body : List ℕ) → body_bytes (bodies ++ body ∷ []) ≡ body_bytes bodies ++ body
joined_push bodies body = joined_more bodies (body ∷ []) ∙ ap (λ (l : List ℕ). body_bytes bodies ++ l) (append-nil body)

pub records_push : (bodies : List (List ℕ)) (body : List ℕ) → records (bodies ++ body ∷ []) ≡ records bodies ++ record_after (body_bytes bodies) body
records_push bodies body =
    records_join [] bodies (body ∷ []) ∙ ap (λ (l : List ℕ). records bodies ++ l) (append-nil (record_after (body_bytes bodies) body))

-- a hasher that holds what stands behind a head
pub longer_holds : (buffer : List ℕ) (hasher : Sha256) (before : List ℕ) → Holds256 hasher (before ++ take (length buffer - 40) (drop 40 buffer))
    → Holds256 hasher (before ++ drop 40 buffer)
longer_holds buffer hasher before h = subst (λ (l : List ℕ). Holds256 hasher (before ++ l)) (take_rest buffer 40) h

pub behind_field : (bytes field : List ℕ) → length field ≡ 8 → drop 40 (field ++ drop 8 bytes) ≡ drop 40 bytes
behind_field bytes field size =
    sym (drop-drop 32 8 (field ++ drop 8 bytes)) ∙ ap (λ (l : List ℕ). drop 32 l) (drop_at field (drop 8 bytes) 8 size) ∙ drop-drop 32 8 bytes

-- a head that is written before its body
pub written : (before bytes field digest : List ℕ) → 40 ≤ length bytes → field ≡ size_field (length (drop 40 bytes))
    → digest ≡ sha256 (before ++ drop 40 bytes) → put_mid 8 32 (field ++ drop 8 bytes) digest ≡ record_after before (drop 40 bytes)
unfolding record_after head
written before bytes field digest long field_is digest_is =
    let size : length field ≡ 8 = ap length field_is ∙ length-size_field (length (drop 40 bytes)) in
    let front : take 8 (field ++ drop 8 bytes) ≡ field = take_at field (drop 8 bytes) 8 size in
    let behind : drop 32 (drop 8 (field ++ drop 8 bytes)) ≡ drop 40 bytes = drop-drop 32 8 (field ++ drop 8 bytes) ∙ behind_field bytes field size in
    ap (λ (l : List ℕ). l ++ (digest ++ drop 32 (drop 8 (field ++ drop 8 bytes)))) front
    ∙ ap (λ (l : List ℕ). field ++ (digest ++ l)) behind
    ∙ sym (append_assoc field digest (drop 40 bytes))
    ∙ ap (λ (l : List ℕ). (l ++ digest) ++ drop 40 bytes) field_is
    ∙ ap (λ (l : List ℕ). (size_field (length (drop 40 bytes)) ++ l) ++ drop 40 bytes) digest_is

-- what stands behind a head in a buffer
pub behind_is : (buffer items : List ℕ) → buffer ≡ items → take (length buffer - 40) (drop 40 buffer) ≡ drop 40 items
behind_is buffer items same = take_rest buffer 40 ∙ ap (λ (l : List ℕ). drop 40 l) same
