-- Replies and outcomes, read and spelled.
use Rattle.std.proofs.Common.{◌≡◌, ℕ, ℤ, pos, true, cond, eqb, ◌&&◌, List, [], ◌∷◌, ◌++◌, Result, Ok, Err, refl, sym, ap, ◌∙◌, arith}
use Rattle.std.specs.Int.{w64}
use Rattle.std.specs.Ordering.{int_eq}
use Rattle.std.specs.Prelude.{FitsSigned}
use Rattle.std.proofs.lemmas.Bool.{and_parts, eqb-true}
use Rattle.std.proofs.lemmas.Bool.Decides.{Decides-int_eq}
use Rattle.std.proofs.lemmas.Int.{ints}
use Rattle.sb_calls.specs.Replies.{IsReply, amount_field, reply_code, shown_total, reply_field, reply_with_code}
use Rattle.sb_calls.specs.declared.reply.Reply.{Reply}
use Rattle.sb_calls.specs.declared.reply.Reply.TheVariants.{Shown, Done, Penalised, NoCustomer, SameCustomer, Negative, WouldOverdraw, OverLimit}
use Rattle.sb_calls.proofs.ReplyCodeLaws.{reply_has_code, reply_read_back}
use Rattle.sb_frames.specs.Fields.{no_reply_field, outcome_field}
use Rattle.sb_frames.specs.Grammar.{IsOutcome}
use Rattle.sb_frames.specs.Outcomes.{reply_of_code, reply_at, no_reply_at, replied_at, outcome_of_status, outcome_at}
use Rattle.sb_frames.specs.Reading.{◌>>=◌, byte_at, signed_at}
use Rattle.sb_frames.specs.Streaming.{AreBytes}
use Rattle.sb_frames.specs.declared.fault.FrameFault.{FrameFault}
use Rattle.sb_frames.specs.declared.fault.FrameFault.TheVariants.{BadReply, BadStatus}
use Rattle.sb_frames.specs.declared.frame.AskOutcome.{AskOutcome}
use Rattle.sb_frames.specs.declared.frame.AskOutcome.TheVariants.{Replied, Mismatch, LogFull}
use Rattle.sb_frames.proofs.IntegerFields.{IsField, signed_takes, signed_again}
use Rattle.sb_frames.proofs.FieldSequences.{one_takes, one_again, made, parts, Behind, is_behind}
use Rattle.sb_frames.proofs.ReadingSteps.{first_step, accepted, found, done, tagged, byte_takes, rest_bytes}

-- ---- totals

zero_fits : FitsSigned w64 (pos 0)
zero_fits = omega (arith, ints)

total_fits : (reply : Reply) → IsReply reply → FitsSigned w64 (shown_total reply)
total_fits (Shown total) h = let low = h.at_least in let high = h.at_most in omega (arith, ints)
total_fits Done h = zero_fits
total_fits Penalised h = zero_fits
total_fits NoCustomer h = zero_fits
total_fits SameCustomer h = zero_fits
total_fits Negative h = zero_fits
total_fits WouldOverdraw h = zero_fits
total_fits OverLimit h = zero_fits

zero_again : (rest : List ℕ) → signed_at (amount_field (pos 0) ++ rest) ≡ Ok (pos 0, rest)
zero_again rest = signed_again (pos 0) rest zero_fits

zero_is : (total : ℤ) → int_eq total (pos 0) ≡ true → total ≡ pos 0
zero_is total h = (Decides-int_eq total (pos 0)).0 h

-- ---- replies

-- a code and a total that are read as a reply spell it
code_takes : (code : ℕ) (total : ℤ) (reply : Reply) → reply_of_code code total ≡ Ok reply → IsReply reply × (code ∷ amount_field total ≡ reply_field reply)
code_takes code total reply e =
    let is = reply_has_code code total reply (found (reply_with_code code total) BadReply reply e) in
    (is.valid, ap (λ k. k ∷ amount_field total) is.code_is ∙ ap (λ t. reply_code reply ∷ amount_field t) is.total_is)

-- the code and the total from which a value is made
nine_take : {A : Type 0} (next : ℕ → ℤ → List ℕ → Result A FrameFault) (bytes : List ℕ) (last : A) → AreBytes bytes
    → (byte_at bytes >>= λ code. signed_at code.1 >>= λ total. next code.0 total.0 total.1) ≡ Ok last
    → (code : ℕ) × (total : ℤ) × (left : List ℕ) × (bytes ≡ code ∷ (amount_field total ++ left)) × (next code total left ≡ Ok last)
nine_take next bytes last are e =
    let code = first_step (byte_at bytes) (λ code. signed_at code.1 >>= λ total. next code.0 total.0 total.1) last e in
    let total = first_step (signed_at code.0.1) (λ total. next code.0.0 total.0 total.1) last code.2 in
    let front = byte_takes bytes code.0.0 code.0.1 code.1 in
    let behind = signed_takes code.0.1 total.0.0 total.0.1 (rest_bytes bytes (code.0.0 ∷ []) code.0.1 are front) total.1 in
    (code.0.0, total.0.0, total.0.1, front ∙ ap (λ (xs : List ℕ). code.0.0 ∷ xs) behind, total.2)

reply_takes : (bytes : List ℕ) (reply : Reply) (rest : List ℕ) → AreBytes bytes → reply_at bytes ≡ Ok (reply, rest)
    → IsReply reply × (bytes ≡ reply_field reply ++ rest)
unfolding reply_at
reply_takes bytes reply rest are e =
    let nine = nine_take (λ code total left. reply_of_code code total >>= λ r. made r left) bytes (reply, rest) are e in
    let total = nine.1 in
    let left = nine.2 in
    let step = first_step (reply_of_code nine.0 total) (λ r. made r left) (reply, rest) nine.4 in
    let both = parts step.0 reply left rest step.2 in
    let spelled = code_takes nine.0 total reply (step.1 ∙ ap done (sym both.0)) in
    (spelled.0, nine.3 ∙ ap (λ (xs : List ℕ). xs ++ left) spelled.1 ∙ ap (λ (xs : List ℕ). reply_field reply ++ xs) both.1)

reply_again : (reply : Reply) (rest : List ℕ) → IsReply reply → reply_at (reply_field reply ++ rest) ≡ Ok (reply, rest)
unfolding reply_at
reply_again reply rest h = rw (signed_again (shown_total reply) rest (total_fits reply h), reply_read_back reply h) refl

pub reply : IsField IsReply reply_field reply_at
reply = record { takes = reply_takes; again = reply_again }

-- ---- outcomes

no_reply_takes : (outcome out : AskOutcome) (bytes rest : List ℕ) → AreBytes bytes → no_reply_at outcome bytes ≡ Ok (out, rest)
    → (out ≡ outcome) × (bytes ≡ no_reply_field ++ rest)
unfolding no_reply_at
no_reply_takes outcome out bytes rest are e =
    let nine = nine_take (λ code total left. cond (eqb code 0 && int_eq total (pos 0)) (made outcome left) (Err BadReply)) bytes (out, rest) are e in
    let left = nine.2 in
    let test = accepted (eqb nine.0 0 && int_eq nine.1 (pos 0)) BadReply (outcome, left) (out, rest) nine.4 in
    let zeros = and_parts (eqb nine.0 0) (int_eq nine.1 (pos 0)) test.0 in
    let both = parts outcome out left rest (ap (λ (p : AskOutcome × List ℕ). made p.0 p.1) test.1) in (
      both.0,
      nine.3 ∙ ap (λ k. k ∷ (amount_field nine.1 ++ left)) (eqb-true _ _ zeros.0) ∙ ap (λ t. 0 ∷ (amount_field t ++ left)) (zero_is nine.1 zeros.1)
          ∙ ap (λ (xs : List ℕ). no_reply_field ++ xs) both.1,
    )

no_reply_again : (outcome : AskOutcome) (rest : List ℕ) → no_reply_at outcome (no_reply_field ++ rest) ≡ Ok (outcome, rest)
unfolding no_reply_at
no_reply_again outcome rest = rw (zero_again rest) refl

abbrev Told : ℕ → List ℕ → AskOutcome → List ℕ → Type 0
Told status bytes outcome rest = Behind IsOutcome outcome_field status bytes outcome rest

replied_takes : (status : ℕ) (bytes : List ℕ) (outcome : AskOutcome) (rest : List ℕ) → AreBytes bytes → status ≡ 0 → replied_at bytes ≡ Ok (outcome, rest)
    → Told status bytes outcome rest
replied_takes status bytes outcome rest are is e =
    let t = one_takes reply Replied bytes outcome rest are e in
    is_behind IsOutcome outcome_field status 0 bytes (reply_field t.0) rest outcome (Replied t.0) is t.2 t.3 t.1 refl

refused_takes : (status n : ℕ) (made : AskOutcome) (bytes : List ℕ) (outcome : AskOutcome) (rest : List ℕ) → AreBytes bytes → IsOutcome made
    → outcome_field made ≡ n ∷ no_reply_field
    → status ≡ n → no_reply_at made bytes ≡ Ok (outcome, rest) → Told status bytes outcome rest
refused_takes status n made bytes outcome rest are valid spelled is e =
    let t = no_reply_takes made outcome bytes rest are e in
    is_behind IsOutcome outcome_field status n bytes no_reply_field rest outcome made is t.0 t.1 valid spelled

status_takes : (status : ℕ) (bytes : List ℕ) (outcome : AskOutcome) (rest : List ℕ) → AreBytes bytes → outcome_of_status status bytes ≡ Ok (outcome, rest)
    → Told status bytes outcome rest
status_takes status bytes outcome rest are e =
    let Goal = Told status bytes outcome rest in
    let none : Result (AskOutcome × List ℕ) FrameFault = Err BadStatus in
    let two : Result (AskOutcome × List ℕ) FrameFault = cond (eqb status 2) (no_reply_at LogFull bytes) none in
    let one : Result (AskOutcome × List ℕ) FrameFault = cond (eqb status 1) (no_reply_at Mismatch bytes) two in
    tagged Goal status 0 (replied_at bytes) one (outcome, rest) e (replied_takes status bytes outcome rest are)
    (λ e1. tagged Goal status 1 (no_reply_at Mismatch bytes) two (outcome, rest) e1 (refused_takes status 1 Mismatch bytes outcome rest are tt refl)
    (λ e2. tagged Goal status 2 (no_reply_at LogFull bytes) none (outcome, rest) e2 (refused_takes status 2 LogFull bytes outcome rest are tt refl)
    (λ last. absurd cc)))

outcome_takes : (bytes : List ℕ) (outcome : AskOutcome) (rest : List ℕ) → AreBytes bytes → outcome_at bytes ≡ Ok (outcome, rest)
    → IsOutcome outcome × (bytes ≡ outcome_field outcome ++ rest)
unfolding outcome_at
outcome_takes bytes outcome rest are e =
    let status = first_step (byte_at bytes) (λ status. outcome_of_status status.0 status.1) (outcome, rest) e in
    let front = byte_takes bytes status.0.0 status.0.1 status.1 in
    let told = status_takes status.0.0 status.0.1 outcome rest (rest_bytes bytes (status.0.0 ∷ []) status.0.1 are front) status.2 in
    (told.0, front ∙ told.1)

outcome_again : (outcome : AskOutcome) (rest : List ℕ) → IsOutcome outcome → outcome_at (outcome_field outcome ++ rest) ≡ Ok (outcome, rest)
unfolding outcome_at
outcome_again (Replied r) rest h = one_again reply Replied r rest h
outcome_again Mismatch rest h = no_reply_again Mismatch rest
outcome_again LogFull rest h = no_reply_again LogFull rest

pub outcome : IsField IsOutcome outcome_field outcome_at
outcome = record { takes = outcome_takes; again = outcome_again }
