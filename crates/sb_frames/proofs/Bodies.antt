-- Bodies, decoded and spelled.
use Rattle.std.proofs.Common.{◌≡◌, ℕ, ◌^◌, ◌<◌, cond, eqb, List, [], ◌∷◌, ◌++◌, length, Result, Ok, Err, refl, sym, ap, subst, ◌∙◌}
use Rattle.std.specs.Int.{w32, w64}
use Rattle.std.proofs.lemmas.Bool.{eqb-true}
use Rattle.std.proofs.lemmas.List.{append-nil, nil_from_length}
use Rattle.std.proofs.lemmas.List.Elements.{All-head}
use Rattle.sb_calls.specs.Replies.{integer_field, reply_field}
use Rattle.sb_frames.specs.Decoding.{ask_at, entry_at, replica_and_length_at, answer_at, outcome_frame_at, frame_of_tag, tagged_at, frame_of}
use Rattle.sb_frames.specs.Fields.{call_field, outcome_field}
use Rattle.sb_frames.specs.Grammar.{IsFrame, body}
use Rattle.sb_frames.specs.Reading.{byte_at}
use Rattle.sb_frames.specs.Streaming.{AreBytes}
use Rattle.sb_frames.specs.declared.fault.FrameFault.{FrameFault}
use Rattle.sb_frames.specs.declared.fault.FrameFault.TheVariants.{BadLength, UnknownTag}
use Rattle.sb_frames.specs.declared.frame.Frame.{Frame}
use Rattle.sb_frames.specs.declared.frame.Frame.TheVariants.{Ask, Entry, Ack, Answer, Outcome, Flush, Have}
use Rattle.sb_frames.proofs.Calls.{call}
use Rattle.sb_frames.proofs.IntegerFields.{IsField, number32, number64}
use Rattle.sb_frames.proofs.Outcomes.{reply, outcome}
use Rattle.sb_frames.proofs.FieldSequences.{two_take, three_take, two_again, three_again, made, Behind, is_behind}
use Rattle.sb_frames.proofs.ReadingSteps.{first_step, accepted, same_value, tagged, byte_takes, rest_bytes}

one_byte_takes : (bytes : List ℕ) (n : ℕ) (rest : List ℕ) → AreBytes bytes → byte_at bytes ≡ Ok (n, rest) → (n < 2 ^ 8) × (bytes ≡ (n ∷ []) ++ rest)
one_byte_takes bytes n rest are e =
    let front = byte_takes bytes n rest e in
    let whole : AreBytes (n ∷ rest) = subst (λ xs. AreBytes xs) front are in
    (All-head (λ byte. byte < 256) n rest whole, front)

byte : IsField (λ n. n < 2 ^ 8) (λ n. n ∷ []) byte_at
byte = record { takes = one_byte_takes; again = λ n rest lt. refl }

abbrev Framed : ℕ → List ℕ → Frame → List ℕ → Type 0
Framed tag bytes frame rest = Behind IsFrame body tag bytes frame rest

ask_takes : (tag : ℕ) (bytes : List ℕ) (frame : Frame) (rest : List ℕ) → AreBytes bytes → tag ≡ 1 → ask_at bytes ≡ Ok (frame, rest)
    → Framed tag bytes frame rest
unfolding ask_at
ask_takes tag bytes frame rest are is e =
    let t = three_take number32 number32 call Ask bytes frame rest are e in
    is_behind IsFrame body tag 1 bytes (integer_field w32 t.0 ++ (integer_field w32 t.1 ++ call_field t.2)) rest frame (Ask t.0 t.1 t.2) is t.6 t.7
    (t.3, t.4, t.5) refl

entry_takes : (tag : ℕ) (bytes : List ℕ) (frame : Frame) (rest : List ℕ) → AreBytes bytes → tag ≡ 2 → entry_at bytes ≡ Ok (frame, rest)
    → Framed tag bytes frame rest
unfolding entry_at
entry_takes tag bytes frame rest are is e =
    let t = two_take number64 call Entry bytes frame rest are e in
    is_behind IsFrame body tag 2 bytes (integer_field w64 t.0 ++ call_field t.1) rest frame (Entry t.0 t.1) is t.4 t.5 (t.2, t.3) refl

-- a frame with a replica's number and a length
replica_and_length_takes : (tag n : ℕ) (make : ℕ → ℕ → Frame)
    → ((replica size : ℕ) → replica < 2 ^ 8 → size < 2 ^ 64
    → IsFrame (make replica size) × (body (make replica size) ≡ n ∷ replica ∷ integer_field w64 size))
    → (bytes : List ℕ) (frame : Frame) (rest : List ℕ) → AreBytes bytes → tag ≡ n → replica_and_length_at make bytes ≡ Ok (frame, rest)
    → Framed tag bytes frame rest
unfolding replica_and_length_at
replica_and_length_takes tag n make made bytes frame rest are is e =
    let t = two_take byte number64 make bytes frame rest are e in
    let m = made t.0 t.1 t.2 t.3 in
    is_behind IsFrame body tag n bytes (t.0 ∷ integer_field w64 t.1) rest frame (make t.0 t.1) is t.4 t.5 m.0 m.1

answer_takes : (tag : ℕ) (bytes : List ℕ) (frame : Frame) (rest : List ℕ) → AreBytes bytes → tag ≡ 4 → answer_at bytes ≡ Ok (frame, rest)
    → Framed tag bytes frame rest
unfolding answer_at
answer_takes tag bytes frame rest are is e =
    let t = two_take number64 reply Answer bytes frame rest are e in
    is_behind IsFrame body tag 4 bytes (integer_field w64 t.0 ++ reply_field t.1) rest frame (Answer t.0 t.1) is t.4 t.5 (t.2, t.3) refl

outcome_frame_takes : (tag : ℕ) (bytes : List ℕ) (frame : Frame) (rest : List ℕ) → AreBytes bytes → tag ≡ 5 → outcome_frame_at bytes ≡ Ok (frame, rest)
    → Framed tag bytes frame rest
unfolding outcome_frame_at
outcome_frame_takes tag bytes frame rest are is e =
    let t = three_take number32 number32 outcome Outcome bytes frame rest are e in
    is_behind IsFrame body tag 5 bytes (integer_field w32 t.0 ++ (integer_field w32 t.1 ++ outcome_field t.2)) rest frame (Outcome t.0 t.1 t.2) is t.6 t.7
    (t.3, t.4, t.5) refl

flush_takes : (tag : ℕ) (bytes : List ℕ) (frame : Frame) (rest : List ℕ) → tag ≡ 6 → made Flush bytes ≡ made frame rest → Framed tag bytes frame rest
flush_takes tag bytes frame rest is e =
    let same = same_value (Flush, bytes) (frame, rest) e in
    is_behind IsFrame body tag 6 bytes [] rest frame Flush is (ap (λ (p : Frame × List ℕ). p.0) (sym same)) (ap (λ (p : Frame × List ℕ). p.1) same) tt refl

tag_takes : (tag : ℕ) (bytes : List ℕ) (frame : Frame) (rest : List ℕ) → AreBytes bytes
    → frame_of_tag tag bytes ≡ Ok (frame, rest) → Framed tag bytes frame rest
tag_takes tag bytes frame rest are e =
    let Goal = Framed tag bytes frame rest in
    let none : Result (Frame × List ℕ) FrameFault = Err UnknownTag in
    let seven : Result (Frame × List ℕ) FrameFault = cond (eqb tag 7) (replica_and_length_at Have bytes) none in
    let six : Result (Frame × List ℕ) FrameFault = cond (eqb tag 6) (Ok (Flush, bytes)) seven in
    let five : Result (Frame × List ℕ) FrameFault = cond (eqb tag 5) (outcome_frame_at bytes) six in
    let four : Result (Frame × List ℕ) FrameFault = cond (eqb tag 4) (answer_at bytes) five in
    let three : Result (Frame × List ℕ) FrameFault = cond (eqb tag 3) (replica_and_length_at Ack bytes) four in
    let two : Result (Frame × List ℕ) FrameFault = cond (eqb tag 2) (entry_at bytes) three in
    tagged Goal tag 1 (ask_at bytes) two (frame, rest) e (ask_takes tag bytes frame rest are)
    (λ e2. tagged Goal tag 2 (entry_at bytes) three (frame, rest) e2 (entry_takes tag bytes frame rest are)
    (λ e3. tagged Goal tag 3 (replica_and_length_at Ack bytes) four (frame, rest) e3
    (replica_and_length_takes tag 3 Ack (λ replica size v w. ((v, w), refl)) bytes frame rest are)
    (λ e4. tagged Goal tag 4 (answer_at bytes) five (frame, rest) e4 (answer_takes tag bytes frame rest are)
    (λ e5. tagged Goal tag 5 (outcome_frame_at bytes) six (frame, rest) e5 (outcome_frame_takes tag bytes frame rest are)
    (λ e6. tagged Goal tag 6 (Ok (Flush, bytes)) seven (frame, rest) e6 (flush_takes tag bytes frame rest)
    (λ e7. tagged Goal tag 7 (replica_and_length_at Have bytes) none (frame, rest) e7
    (replica_and_length_takes tag 7 Have (λ replica size v w. ((v, w), refl)) bytes frame rest are)
    (λ last. absurd cc)))))))

tagged_takes : (bytes : List ℕ) (frame : Frame) (rest : List ℕ) → AreBytes bytes → tagged_at bytes ≡ Ok (frame, rest)
    → IsFrame frame × (bytes ≡ body frame ++ rest)
unfolding tagged_at
tagged_takes bytes frame rest are e =
    let tag = first_step (byte_at bytes) (λ tag. frame_of_tag tag.0 tag.1) (frame, rest) e in
    let front = byte_takes bytes tag.0.0 tag.0.1 tag.1 in
    let framed = tag_takes tag.0.0 tag.0.1 frame rest (rest_bytes bytes (tag.0.0 ∷ []) tag.0.1 are front) tag.2 in
    (framed.0, front ∙ framed.1)

tagged_again : (frame : Frame) (rest : List ℕ) → IsFrame frame → tagged_at (body frame ++ rest) ≡ Ok (frame, rest)
unfolding tagged_at ask_at entry_at replica_and_length_at answer_at outcome_frame_at
tagged_again (Ask client request c) rest v = three_again number32 number32 call Ask client request c rest v.0 v.1 v.2
tagged_again (Entry number c) rest v = two_again number64 call Entry number c rest v.0 v.1
tagged_again (Ack replica size) rest v = two_again byte number64 Ack replica size rest v.0 v.1
tagged_again (Answer number r) rest v = two_again number64 reply Answer number r rest v.0 v.1
tagged_again (Outcome client request o) rest v = three_again number32 number32 outcome Outcome client request o rest v.0 v.1 v.2
tagged_again Flush rest v = refl
tagged_again (Have replica size) rest v = two_again byte number64 Have replica size rest v.0 v.1

-- what is decoded as a body spells it, and a body's spelling is decoded as its frame
pub frame_takes : (bytes : List ℕ) (frame : Frame) → AreBytes bytes → frame_of bytes ≡ Ok frame → IsFrame frame × (bytes ≡ body frame)
unfolding frame_of
frame_takes bytes frame are e =
    let step = first_step (tagged_at bytes) (λ f. cond (eqb (length f.1) 0) (Ok f.0) (Err BadLength)) frame e in
    let test = accepted (eqb (length step.0.1) 0) BadLength step.0.0 frame step.2 in
    let read = tagged_takes bytes step.0.0 step.0.1 are step.1 in
    let nothing : step.0.1 ≡ [] = nil_from_length step.0.1 (eqb-true _ _ test.0) in
    (subst IsFrame test.1 read.0, read.1 ∙ ap (λ (xs : List ℕ). body step.0.0 ++ xs) nothing ∙ append-nil (body step.0.0) ∙ ap body test.1)

pub frame_again : (frame : Frame) → IsFrame frame → frame_of (body frame) ≡ Ok frame
unfolding frame_of
frame_again frame v =
    let read : tagged_at (body frame) ≡ Ok (frame, []) = ap tagged_at (sym (append-nil (body frame))) ∙ tagged_again frame [] v in
    rw read refl
