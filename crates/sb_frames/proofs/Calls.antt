-- Calls, read and spelled.
use Rattle.std.proofs.Common.{◌≡◌, ℕ, ℤ, cond, eqb, List, [], ◌∷◌, ◌++◌, Result, Ok, Err, refl, ◌∙◌}
use Rattle.sb_amount.specs.Limit.{IsWithinLimit}
use Rattle.sb_calls.specs.Call.{IsCall}
use Rattle.sb_calls.specs.Replies.{amount_field}
use Rattle.sb_calls.specs.declared.call.Call.{Call}
use Rattle.sb_calls.specs.declared.call.Call.TheVariants.{Balance, DepositChecking, TransactSavings, Amalgamate, WriteCheck, SendPayment}
use Rattle.sb_rows.specs.Name.{IsName}
use Rattle.sb_frames.specs.Calls.{one_name_at, name_and_amount_at, two_names_at, two_names_and_amount_at, call_of_kind, call_at}
use Rattle.sb_frames.specs.Fields.{name_field, call_field}
use Rattle.sb_frames.specs.Reading.{byte_at}
use Rattle.sb_frames.specs.Streaming.{AreBytes}
use Rattle.sb_frames.specs.declared.fault.FrameFault.{FrameFault}
use Rattle.sb_frames.specs.declared.fault.FrameFault.TheVariants.{UnknownTag}
use Rattle.sb_frames.proofs.Names.{amount, name}
use Rattle.sb_frames.proofs.IntegerFields.{IsField}
use Rattle.sb_frames.proofs.FieldSequences.{one_takes, two_take, three_take, one_again, two_again, three_again, Behind, is_behind}
use Rattle.sb_frames.proofs.ReadingSteps.{first_step, tagged, byte_takes, rest_bytes}

abbrev Spelled : ℕ → List ℕ → Call → List ℕ → Type 0
Spelled kind bytes call rest = Behind IsCall call_field kind bytes call rest

balance_takes : (kind : ℕ) (bytes : List ℕ) (call : Call) (rest : List ℕ) → AreBytes bytes → kind ≡ 1 → one_name_at Balance bytes ≡ Ok (call, rest)
    → Spelled kind bytes call rest
balance_takes kind bytes call rest are is e =
    let t = one_takes name Balance bytes call rest are e in
    is_behind IsCall call_field kind 1 bytes (name_field t.0) rest call (Balance t.0) is t.2 t.3 t.1 refl

-- a kind that takes a name and an amount
amount_takes : (kind n : ℕ) (make : List ℕ → ℤ → Call)
    → ((text : List ℕ) (cents : ℤ) → IsName text → IsWithinLimit cents
    → IsCall (make text cents) × (call_field (make text cents) ≡ n ∷ (name_field text ++ amount_field cents)))
    → (bytes : List ℕ) (call : Call) (rest : List ℕ) → AreBytes bytes → kind ≡ n → name_and_amount_at make bytes ≡ Ok (call, rest)
    → Spelled kind bytes call rest
amount_takes kind n make made bytes call rest are is e =
    let t = two_take name amount make bytes call rest are e in
    let m = made t.0 t.1 t.2 t.3 in
    is_behind IsCall call_field kind n bytes (name_field t.0 ++ amount_field t.1) rest call (make t.0 t.1) is t.4 t.5 m.0 m.1

amalgamate_takes : (kind : ℕ) (bytes : List ℕ) (call : Call) (rest : List ℕ) → AreBytes bytes → kind ≡ 4 → two_names_at Amalgamate bytes ≡ Ok (call, rest)
    → Spelled kind bytes call rest
amalgamate_takes kind bytes call rest are is e =
    let t = two_take name name Amalgamate bytes call rest are e in
    is_behind IsCall call_field kind 4 bytes (name_field t.0 ++ name_field t.1) rest call (Amalgamate t.0 t.1) is t.4 t.5 (t.2, t.3) refl

payment_takes : (kind : ℕ) (bytes : List ℕ) (call : Call) (rest : List ℕ) → AreBytes bytes → kind ≡ 6
    → two_names_and_amount_at SendPayment bytes ≡ Ok (call, rest) → Spelled kind bytes call rest
payment_takes kind bytes call rest are is e =
    let t = three_take name name amount SendPayment bytes call rest are e in
    is_behind IsCall call_field kind 6 bytes (name_field t.0 ++ (name_field t.1 ++ amount_field t.2)) rest call (SendPayment t.0 t.1 t.2) is t.6 t.7
    (t.3, t.4, t.5) refl

kind_takes : (kind : ℕ) (bytes : List ℕ) (call : Call) (rest : List ℕ) → AreBytes bytes
    → call_of_kind kind bytes ≡ Ok (call, rest) → Spelled kind bytes call rest
kind_takes kind bytes call rest are e =
    let Goal = Spelled kind bytes call rest in
    let last : Result (Call × List ℕ) FrameFault = Err UnknownTag in
    let six : Result (Call × List ℕ) FrameFault = cond (eqb kind 6) (two_names_and_amount_at SendPayment bytes) last in
    let five : Result (Call × List ℕ) FrameFault = cond (eqb kind 5) (name_and_amount_at WriteCheck bytes) six in
    let four : Result (Call × List ℕ) FrameFault = cond (eqb kind 4) (two_names_at Amalgamate bytes) five in
    let three : Result (Call × List ℕ) FrameFault = cond (eqb kind 3) (name_and_amount_at TransactSavings bytes) four in
    let two : Result (Call × List ℕ) FrameFault = cond (eqb kind 2) (name_and_amount_at DepositChecking bytes) three in
    tagged Goal kind 1 (one_name_at Balance bytes) two (call, rest) e (balance_takes kind bytes call rest are)
    (λ e2. tagged Goal kind 2 (name_and_amount_at DepositChecking bytes) three (call, rest) e2
    (amount_takes kind 2 DepositChecking (λ text cents v w. ((v, w), refl)) bytes call rest are)
    (λ e3. tagged Goal kind 3 (name_and_amount_at TransactSavings bytes) four (call, rest) e3
    (amount_takes kind 3 TransactSavings (λ text cents v w. ((v, w), refl)) bytes call rest are)
    (λ e4. tagged Goal kind 4 (two_names_at Amalgamate bytes) five (call, rest) e4 (amalgamate_takes kind bytes call rest are)
    (λ e5. tagged Goal kind 5 (name_and_amount_at WriteCheck bytes) six (call, rest) e5
    (amount_takes kind 5 WriteCheck (λ text cents v w. ((v, w), refl)) bytes call rest are)
    (λ e6. tagged Goal kind 6 (two_names_and_amount_at SendPayment bytes) last (call, rest) e6 (payment_takes kind bytes call rest are)
    (λ none. absurd cc))))))

call_takes : (bytes : List ℕ) (call : Call) (rest : List ℕ) → AreBytes bytes → call_at bytes ≡ Ok (call, rest) → IsCall call × (bytes ≡ call_field call ++ rest)
unfolding call_at
call_takes bytes call rest are e =
    let kind = first_step (byte_at bytes) (λ kind. call_of_kind kind.0 kind.1) (call, rest) e in
    let front = byte_takes bytes kind.0.0 kind.0.1 kind.1 in
    let spelled = kind_takes kind.0.0 kind.0.1 call rest (rest_bytes bytes (kind.0.0 ∷ []) kind.0.1 are front) kind.2 in
    (spelled.0, front ∙ spelled.1)

call_again : (call : Call) (rest : List ℕ) → IsCall call → call_at (call_field call ++ rest) ≡ Ok (call, rest)
unfolding call_at
call_again (Balance text) rest v = one_again name Balance text rest v
call_again (DepositChecking text cents) rest v = two_again name amount DepositChecking text cents rest v.0 v.1
call_again (TransactSavings text cents) rest v = two_again name amount TransactSavings text cents rest v.0 v.1
call_again (Amalgamate from to) rest v = two_again name name Amalgamate from to rest v.0 v.1
call_again (WriteCheck text cents) rest v = two_again name amount WriteCheck text cents rest v.0 v.1
call_again (SendPayment from to cents) rest v = three_again name name amount SendPayment from to cents rest v.0 v.1 v.2

pub call : IsField IsCall call_field call_at
call = record { takes = call_takes; again = call_again }
