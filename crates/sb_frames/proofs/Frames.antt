-- What is decoded spells a frame, and what spells a frame is decoded as it, whatever follows.
use Rattle.std.proofs.Common.{◌≡◌, ℕ, ◌+◌, ◌-◌, ◌<◌, ◌≤◌, Bool, true, false, cond, eqb, ltb, ◌||◌, List, ◌++◌, length, take, drop, Result, Ok, Err, refl, sym, ap, subst, ◌∙◌, append_assoc, arith}
use Rattle.std.specs.Int.{w16, to_be_bytes, from_be_bytes}
use Rattle.std.specs.Prelude.{IfOk}
use Rattle.std.proofs.Math.Seq.{take-add}
use Rattle.std.proofs.lemmas.Bool.{ltb-false, le-ltb}
use Rattle.std.proofs.lemmas.Bool.Decides.{nat_tests}
use Rattle.std.proofs.lemmas.List.{take_at, take-append-drop, take-append-le, drop-append-le, length-append, length-take-le, length-drop}
use Rattle.std.proofs.lemmas.List.Elements.{All-take, All-drop}
use Rattle.std.proofs.lemmas.Nat.{be_bytes_2, from_be_bytes-to_be_bytes_2}
use Rattle.sb_frames.specs.Decoding.{frame_of, stated_length, frame_size, decode_result}
use Rattle.sb_frames.specs.Grammar.{IsFrame, body, spelling, Spells}
use Rattle.sb_frames.specs.Reading.{◌>>=◌}
use Rattle.sb_frames.specs.Streaming.{AreBytes}
use Rattle.sb_frames.specs.declared.fault.FrameFault.{FrameFault}
use Rattle.sb_frames.specs.declared.fault.FrameFault.TheVariants.{Short, BadLength}
use Rattle.sb_frames.specs.declared.frame.Frame.{Frame}
use Rattle.sb_frames.specs.declared.frame.TheConstants.{MAX_BODY}
use Rattle.sb_frames.proofs.Bodies.{frame_takes, frame_again}
use Rattle.sb_frames.proofs.IntegerFields.{each_byte}
use Rattle.sb_frames.proofs.Sizes.{body_size}
use Rattle.sb_frames.proofs.ReadingSteps.{first_step, refused_not, same_value}

-- the two bytes that state a length spell it
front_spells : (bytes : List ℕ) → AreBytes bytes → 2 ≤ length bytes → to_be_bytes w16 (stated_length bytes) ≡ take 2 bytes
unfolding stated_length
front_spells bytes are long =
    be_bytes_2 (take 2 bytes) _ (length-take-le 2 bytes long) (each_byte (take 2 bytes) (All-take (λ byte. byte < 256) 2 bytes are)) refl

-- the body of a frame of this size
abbrev body_bytes : List ℕ → ℕ → List ℕ
body_bytes bytes size = take (size - 2) (drop 2 bytes)

-- a frame's size is that of its body and of the two bytes that state it
sized_so : (bytes : List ℕ) (k : ℕ) → frame_size bytes ≡ Ok k → (2 ≤ length bytes) × (k ≡ 2 + stated_length bytes) × (k ≤ length bytes)
unfolding frame_size
sized_so bytes k e =
    let size = stated_length bytes in
    let two = refused_not (ltb (length bytes) 2) Short _ k e in
    let fits = refused_not (eqb size 0 || ltb MAX_BODY size) BadLength _ k two.1 in
    let long = refused_not (ltb (length bytes) (2 + size)) Short (Ok (2 + size)) k fits.1 in
    let same = same_value (2 + size) k long.1 in
    (ltb-false (length bytes) 2 two.0, sym same, subst (λ n. n ≤ length bytes) same (ltb-false (length bytes) (2 + size) long.0))

-- the size of what is decoded is the one that its length states
pub decoded_size : (bytes : List ℕ) (frame : Frame) (k : ℕ) → decode_result bytes ≡ Ok (frame, k) → frame_size bytes ≡ Ok k
unfolding decode_result
decoded_size bytes frame k e =
    let step = first_step (frame_size bytes) (λ n. frame_of (body_bytes bytes n) >>= λ f. Ok (f, n)) (frame, k) e in
    let read = first_step (frame_of (body_bytes bytes step.0)) (λ f. Ok (f, step.0)) (frame, k) step.2 in
    let same = same_value (read.0, step.0) (frame, k) read.2 in
    step.1 ∙ ap (λ (p : Frame × ℕ). Ok p.1) same

pub decoded_takes : (bytes : List ℕ) (frame : Frame) (k : ℕ) → AreBytes bytes → decode_result bytes ≡ Ok (frame, k)
    → (k ≤ length bytes) × Spells frame (take k bytes)
unfolding decode_result spelling
decoded_takes bytes frame k are e =
    let step = first_step (frame_size bytes) (λ n. frame_of (body_bytes bytes n) >>= λ f. Ok (f, n)) (frame, k) e in
    let read = first_step (frame_of (body_bytes bytes step.0)) (λ f. Ok (f, step.0)) (frame, k) step.2 in
    let same = same_value (read.0, step.0) (frame, k) read.2 in
    let k_is : step.0 ≡ k = ap (λ (p : Frame × ℕ). p.1) same in
    let sized = sized_so bytes step.0 step.1 in
    let size = stated_length bytes in
    let inner : body_bytes bytes step.0 ≡ take size (drop 2 bytes) =
    ap (λ n. take n (drop 2 bytes)) (let is = sized.1 in omega (arith, is)) in
    let found = frame_takes (take size (drop 2 bytes)) read.0
    (All-take (λ byte. byte < 256) size (drop 2 bytes) (All-drop (λ byte. byte < 256) 2 bytes are)) (sym (ap frame_of inner) ∙ read.1) in
    let body_is : take size (drop 2 bytes) ≡ body frame = found.1 ∙ ap (λ (p : Frame × ℕ). body p.0) same in
    let behind : size ≤ length (drop 2 bytes) = omega (arith, sized.1, sized.2, length-drop 2 bytes) in
    let size_is : size ≡ length (body frame) = sym (length-take-le size (drop 2 bytes) behind) ∙ ap length body_is in
    let front : take 2 bytes ≡ to_be_bytes w16 (length (body frame)) = sym (front_spells bytes are sized.0) ∙ ap (to_be_bytes w16) size_is in
    let whole : take k bytes ≡ to_be_bytes w16 (length (body frame)) ++ body frame =
    ap (λ n. take n bytes) (sym k_is ∙ sized.1) ∙ take-add 2 size bytes ∙ ap (λ (xs : List ℕ). xs ++ take size (drop 2 bytes)) front
    ∙ ap (λ (xs : List ℕ). to_be_bytes w16 (length (body frame)) ++ xs) body_is in
    let short : k ≤ length bytes = subst (λ n. n ≤ length bytes) k_is sized.2 in
    (short, record { valid = subst IsFrame (ap (λ (p : Frame × ℕ). p.0) same) found.0; spelled = whole })

-- the length of a spelling
pub spelling_size : (frame : Frame) → length (spelling frame) ≡ 2 + length (body frame)
unfolding spelling
spelling_size frame = omega arith

pub decoded_again : (frame : Frame) (rest : List ℕ) → IsFrame frame → decode_result (spelling frame ++ rest) ≡ Ok (frame, length (spelling frame))
unfolding decode_result frame_size stated_length spelling
decoded_again frame rest valid =
    let size = length (body frame) in
    let sizes = body_size frame valid in
    let front = to_be_bytes w16 size in
    let bytes = (front ++ body frame) ++ rest in
    let parted : bytes ≡ front ++ (body frame ++ rest) = append_assoc front (body frame) rest in
    let two : ltb (length bytes) 2 ≡ false = le-ltb _ _ (omega arith) in
    let stated : from_be_bytes w16 (take 2 bytes) ≡ size =
    ap (λ (xs : List ℕ). from_be_bytes w16 (take 2 xs)) parted ∙ ap (from_be_bytes w16) (take_at front (body frame ++ rest) 2 refl)
    ∙ from_be_bytes-to_be_bytes_2 size (omega (arith, sizes.1)) in
    let sized : (eqb size 0 || ltb MAX_BODY size) ≡ false = grind (arith, nat_tests, sizes.0, sizes.1) in
    let long : ltb (length bytes) (2 + size) ≡ false = le-ltb _ _ (omega (arith, length-append (body frame) rest)) in
    let behind : body_bytes bytes (2 + size) ≡ body frame =
    (let back : 2 + size - 2 ≡ size = omega arith in ap (λ n. take n (drop 2 bytes)) back) ∙ take_at (body frame) rest size refl in
    let found : ℕ → Result (Frame × ℕ) FrameFault = λ n. Ok (frame, n) in
    rw (two, stated, sized, long, behind, frame_again frame valid) (ap found (sym (spelling_size frame)))

-- ---- spellings

-- bytes that begin with a spelling are decoded as its frame
pub begins_so : (frame : Frame) (front rest : List ℕ) → Spells frame front → decode_result (front ++ rest) ≡ Ok (frame, length front)
begins_so frame front rest h =
    subst (λ (xs : List ℕ). decode_result (xs ++ rest) ≡ Ok (frame, length xs)) (sym h.spelled) (decoded_again frame rest h.valid)

pub one_frame : (f g : Frame) (a b x y : List ℕ) → Spells f a → Spells g b → a ++ x ≡ b ++ y → (f ≡ g) × (a ≡ b)
one_frame f g a b x y h k e =
    let same = same_value (f, length a) (g, length b) (sym (begins_so f a x h) ∙ ap decode_result e ∙ begins_so g b y k) in
    let frames : f ≡ g = ap (λ (p : Frame × ℕ). p.0) same in
    (frames, h.spelled ∙ ap spelling frames ∙ sym k.spelled)

-- ---- what decode answers

pub found_is_spelled : (bytes : List ℕ) (result : Result (Frame × ℕ) FrameFault) → AreBytes bytes → result ≡ decode_result bytes
    → IfOk result (λ found. (found.1 ≤ length bytes) × Spells found.0 (take found.1 bytes))
found_is_spelled bytes (Ok found) are e = decoded_takes bytes found.0 found.1 are (sym e)
found_is_spelled bytes (Err fault) are e = tt

pub spelled_is_found : (bytes : List ℕ) (frame : Frame) (k : ℕ) → k ≤ length bytes → Spells frame (take k bytes) → decode_result bytes ≡ Ok (frame, k)
spelled_is_found bytes frame k long h =
    ap decode_result (sym (take-append-drop k bytes)) ∙ begins_so frame (take k bytes) (drop k bytes) h ∙ ap (λ n. Ok (frame, n)) (length-take-le k bytes long)

-- ---- more bytes

-- a test for too few bytes, and what is read if there are enough, before and after more bytes
settled : {A : Type 0} (test after : Bool) (read more : Result A FrameFault) → (cond test (Err Short) read ≡ Err Short → ⊥) → (test ≡ false → after ≡ false)
    → (test ≡ false → (read ≡ Err Short → ⊥) → more ≡ read) → cond after (Err Short) more ≡ cond test (Err Short) read
settled true after read more whole h k = absurd (whole refl)
settled false after read more whole h k = rw (h refl) (k refl whole)

-- enough bytes stay enough
still_enough : (bytes more : List ℕ) (n : ℕ) → ltb (length bytes) n ≡ false → ltb (length (bytes ++ more)) n ≡ false
still_enough bytes more n h = let long = ltb-false (length bytes) n h in le-ltb _ _ (omega (arith, length-append bytes more))

unless_bad : {A : Type 0} (bad : Bool) (read more : Result A FrameFault) → (cond bad (Err BadLength) read ≡ Err Short → ⊥)
    → ((read ≡ Err Short → ⊥) → more ≡ read)
    → cond bad (Err BadLength) more ≡ cond bad (Err BadLength) read
unless_bad true read more whole k = refl
unless_bad false read more whole k = k whole

-- a frame's size stays the same when more bytes follow, unless they are short
size_settled : (bytes more : List ℕ) → (frame_size bytes ≡ Err Short → ⊥) → frame_size (bytes ++ more) ≡ frame_size bytes
unfolding frame_size stated_length
size_settled bytes more whole =
    let if_whole : ℕ → List ℕ → Result ℕ FrameFault = λ n xs. cond (ltb (length xs) (2 + n)) (Err Short) (Ok (2 + n)) in
    let by_length : ℕ → List ℕ → Result ℕ FrameFault = λ n xs. cond (eqb n 0 || ltb MAX_BODY n) (Err BadLength) (if_whole n xs) in
    let size = from_be_bytes w16 (take 2 bytes) in
    settled (ltb (length bytes) 2) (ltb (length (bytes ++ more)) 2) (by_length size bytes)
    (by_length (from_be_bytes w16 (take 2 (bytes ++ more))) (bytes ++ more)) whole (still_enough bytes more 2)
    (λ two read.
    ap (λ n. by_length (from_be_bytes w16 n) (bytes ++ more)) (take-append-le 2 bytes more (ltb-false (length bytes) 2 two))
    ∙ unless_bad (eqb size 0 || ltb MAX_BODY size) (if_whole size bytes) (if_whole size (bytes ++ more)) read
    (λ enough. settled (ltb (length bytes) (2 + size)) (ltb (length (bytes ++ more)) (2 + size)) (Ok (2 + size)) (Ok (2 + size)) enough
    (still_enough bytes more (2 + size)) (λ h same. refl)))

-- so does their decoding
pub decoded_settled : (bytes more : List ℕ) → (decode_result bytes ≡ Err Short → ⊥) → decode_result (bytes ++ more) ≡ decode_result bytes
unfolding decode_result
decoded_settled bytes more whole =
    ap (λ size. size >>= next (bytes ++ more)) (size_settled bytes more (λ short. whole (ap (λ size. size >>= next bytes) short)))
    ∙ same (frame_size bytes) refl
  where
    next : List ℕ → ℕ → Result (Frame × ℕ) FrameFault
    next xs size = frame_of (body_bytes xs size) >>= λ frame. Ok (frame, size)

    same : (size : Result ℕ FrameFault) → frame_size bytes ≡ size → (size >>= next (bytes ++ more)) ≡ (size >>= next bytes)
    same (Err fault) e = refl
    same (Ok size) e =
        let sized = sized_so bytes size e in
        let within : size - 2 ≤ length (drop 2 bytes) = omega (arith, sized.2, length-drop 2 bytes) in
        ap (λ xs. frame_of xs >>= λ frame. Ok (frame, size))
        (ap (take (size - 2)) (drop-append-le 2 bytes more sized.0) ∙ take-append-le (size - 2) (drop 2 bytes) more within)
