-- How long fields and bodies are.
use Rattle.std.proofs.Common.{◌≡◌, ℕ, ◌≤◌, ℤ, pos, List, ◌∷◌, ◌++◌, length, refl, arith}
use Rattle.std.specs.Int.{w32, w64, cast_unsigned}
use Rattle.std.proofs.lemmas.List.{length-append}
use Rattle.sb_calls.specs.Call.{IsCall}
use Rattle.sb_calls.specs.Replies.{integer_field, amount_field, reply_code, shown_total, reply_field}
use Rattle.sb_calls.specs.declared.call.Call.{Call}
use Rattle.sb_calls.specs.declared.call.Call.TheVariants.{Balance, DepositChecking, TransactSavings, Amalgamate, WriteCheck, SendPayment}
use Rattle.sb_calls.specs.declared.reply.Reply.{Reply}
use Rattle.sb_rows.specs.Name.{IsName}
use Rattle.sb_frames.specs.Fields.{name_field, call_field, outcome_field}
use Rattle.sb_frames.specs.Grammar.{IsFrame, body}
use Rattle.sb_frames.specs.declared.frame.AskOutcome.{AskOutcome}
use Rattle.sb_frames.specs.declared.frame.AskOutcome.TheVariants.{Replied, Mismatch, LogFull}
use Rattle.sb_frames.specs.declared.frame.Frame.{Frame}
use Rattle.sb_frames.specs.declared.frame.Frame.TheVariants.{Ask, Entry, Ack, Answer, Outcome, Flush, Have}
use Rattle.sb_frames.specs.declared.frame.TheConstants.{MAX_BODY}
use Rattle.sb_frames.proofs.Names.{name_sizes}

number_size32 : (n : ℕ) → length (integer_field w32 n) ≡ 4
unfolding integer_field
number_size32 n = refl

number_size64 : (n : ℕ) → length (integer_field w64 n) ≡ 8
unfolding integer_field
number_size64 n = refl

-- a kind, a name and an amount
name_and_amount_size : (kind : ℕ) (name : List ℕ) (cents : ℤ) → IsName name → length (kind ∷ (name_field name ++ amount_field cents)) ≤ 43
name_and_amount_size kind name cents v =
    let sizes = name_sizes name v in
    omega (arith, length-append (name_field name) (amount_field cents), number_size64 (cast_unsigned w64 cents))

call_size : (call : Call) → IsCall call → length (call_field call) ≤ 51
call_size (Balance name) v = let sizes = name_sizes name v in omega arith
call_size (DepositChecking name cents) v = omega (arith, name_and_amount_size 2 name cents v.0)
call_size (TransactSavings name cents) v = omega (arith, name_and_amount_size 3 name cents v.0)
call_size (Amalgamate from to) v =
    let giver = name_sizes from v.0 in
    let taker = name_sizes to v.1 in
    omega (arith, length-append (name_field from) (name_field to))
call_size (WriteCheck name cents) v = omega (arith, name_and_amount_size 5 name cents v.0)
call_size (SendPayment from to cents) v =
    let giver = name_sizes from v.0 in
    let taker = name_sizes to v.1 in
    omega (
      arith,
      length-append (name_field from) (name_field to ++ amount_field cents),
      length-append (name_field to) (amount_field cents),
      number_size64 (cast_unsigned w64 cents),
    )

coded_size : (code : ℕ) (cents : ℤ) → length (code ∷ amount_field cents) ≡ 9
coded_size code cents = omega (arith, number_size64 (cast_unsigned w64 cents))

reply_size : (reply : Reply) → length (reply_field reply) ≡ 9
reply_size reply = coded_size (reply_code reply) (shown_total reply)

outcome_size : (outcome : AskOutcome) → length (outcome_field outcome) ≡ 10
outcome_size (Replied reply) = omega (arith, reply_size reply)
outcome_size Mismatch = omega (arith, coded_size 0 (pos 0))
outcome_size LogFull = omega (arith, coded_size 0 (pos 0))

-- a body has a tag, and isn't too long
pub body_size : (frame : Frame) → IsFrame frame → (1 ≤ length (body frame)) × (length (body frame) ≤ MAX_BODY)
body_size (Ask client request call) v =
    let size : length (integer_field w32 client ++ (integer_field w32 request ++ call_field call)) ≤ 59 =
    omega (
      arith,
      length-append (integer_field w32 client) (integer_field w32 request ++ call_field call),
      length-append (integer_field w32 request) (call_field call),
      number_size32 client,
      number_size32 request,
      call_size call v.2,
    ) in
    (omega arith, omega arith)
body_size (Entry number call) v =
    let size : length (integer_field w64 number ++ call_field call) ≤ 59 =
    omega (arith, length-append (integer_field w64 number) (call_field call), number_size64 number, call_size call v.1) in
    (omega arith, omega arith)
body_size (Ack replica size) v = (omega arith, omega (arith, number_size64 size))
body_size (Answer number reply) v =
    let size : length (integer_field w64 number ++ reply_field reply) ≤ 17 =
    omega (arith, length-append (integer_field w64 number) (reply_field reply), number_size64 number, reply_size reply) in
    (omega arith, omega arith)
body_size (Outcome client request outcome) v =
    let size : length (integer_field w32 client ++ (integer_field w32 request ++ outcome_field outcome)) ≤ 18 =
    omega (
      arith,
      length-append (integer_field w32 client) (integer_field w32 request ++ outcome_field outcome),
      length-append (integer_field w32 request) (outcome_field outcome),
      number_size32 client,
      number_size32 request,
      outcome_size outcome,
    ) in
    (omega arith, omega arith)
body_size Flush v = (omega arith, omega arith)
body_size (Have replica size) v = (omega arith, omega (arith, number_size64 size))
