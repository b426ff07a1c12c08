-- Entries that are read with their names looked up are those that are decoded.
use Rattle.std.proofs.Common.{◌≡◌, ℕ, ◌-◌, ℤ, Bool, true, cond, eqb, List, length, take, drop, Option, Result, Ok, Err, refl, sym, ap, subst, ◌∙◌}
use Rattle.std.specs.Int.{w32, w64}
use Rattle.sb_calls.specs.Op.{at_place, at_two_places, op_of}
use Rattle.sb_calls.specs.declared.call.Call.{Call}
use Rattle.sb_calls.specs.declared.call.Call.TheVariants as calls
use Rattle.sb_calls.specs.declared.op.Op.{Op}
use Rattle.sb_calls.specs.declared.op.Op.TheVariants as ops
use Rattle.sb_rows.specs.Directory.{place_of}
use Rattle.sb_frames.specs.Calls.{call_of_kind, call_at}
use Rattle.sb_frames.specs.Decoding.{ask_at, entry_at, replica_and_length_at, answer_at, outcome_frame_at, frame_of_tag, tagged_at, frame_of, frame_size, decode_result}
use Rattle.sb_frames.specs.Outcomes.{reply_at, outcome_at}
use Rattle.sb_frames.specs.Reading.{◌>>=◌, byte_at, name_at, amount_at, unsigned_at}
use Rattle.sb_frames.specs.declared.entry_op.EntryOp.{EntryOp}
use Rattle.sb_frames.specs.declared.fault.FrameFault.{FrameFault}
use Rattle.sb_frames.specs.declared.fault.FrameFault.TheVariants.{BadLength, UnknownTag}
use Rattle.sb_frames.specs.declared.frame.Frame.{Frame}
use Rattle.sb_frames.specs.declared.frame.Frame.TheVariants.{Ask, Entry, Ack, Answer, Outcome, Flush, Have}
use Rattle.sb_frames.specs.inner.EntryReading.{place_at, op_of_kind, op_at, entry_op_at, body_entry, first_entry}
use Rattle.sb_frames.proofs.FieldSequences.{made}
use Rattle.sb_frames.proofs.ReadingSteps.{first_step, accepted, done, same_value, tagged}

-- ---- readings, step by step

-- a first step that succeeds
then_read : {A B : Type 0} (read : Result A FrameFault) (next : A → Result B FrameFault) (value : A) (last : B) → read ≡ Ok value → next value ≡ Ok last
    → (read >>= next) ≡ Ok last
then_read read next value last is e = rw is e

-- a test that passes
passed : {A : Type 0} (test : Bool) (fault : FrameFault) (value last : A) → test ≡ true → value ≡ last → cond test (Ok value) (Err fault) ≡ Ok last
passed test fault value last is e = rw (is, e) refl

-- ---- calls

abbrev Ops : Type 0
Ops = Result (Op × List ℕ) FrameFault

abbrev Names : Type 0
Names = Result (List ℕ × List ℕ) FrameFault

abbrev Amounts : Type 0
Amounts = List ℕ → Result (ℤ × List ℕ) FrameFault

-- the places behind names that were read
abbrev placed : List (List ℕ) → Names → Result (Option ℕ × List ℕ) FrameFault
placed names read = read >>= λ name. Ok (place_of names name.0, name.1)

-- the op of a call that was read
abbrev looked_up : List (List ℕ) → Result (Call × List ℕ) FrameFault → Ops
looked_up names read = read >>= λ call. Ok (op_of names call.0, call.1)

-- the op, when the names are looked up one by one
abbrev one_by_one : List (List ℕ) → ℕ → List ℕ → Ops
one_by_one names kind bytes = place_at names bytes >>= λ place. op_of_kind names kind place.0 place.1

one_name : (names : List (List ℕ)) (read : Names)
    → (placed names read >>= λ place. Ok (at_place ops.Balance place.0, place.1))
    ≡ looked_up names (read >>= λ name. Ok (calls.Balance name.0, name.1))
one_name names (Ok name) = refl
one_name names (Err fault) = refl

-- a call of a name and an amount
amount_last : (names : List (List ℕ)) (make : List ℕ → ℤ → Call) (op : ℤ → Op) (name : List ℕ) (read : Result (ℤ × List ℕ) FrameFault)
    → ((cents : ℤ) → op cents ≡ op_of names (make name cents))
    → (read >>= λ amount. Ok (op amount.0, amount.1)) ≡ looked_up names (read >>= λ amount. Ok (make name amount.0, amount.1))
amount_last names make op name (Ok amount) same = ap (λ (o : Op). Ok (o, amount.1)) (same amount.0)
amount_last names make op name (Err fault) same = refl

name_and_amount : (names : List (List ℕ)) (make : List ℕ → ℤ → Call) (op : Option ℕ → ℤ → Op) (read : Names) (amounts : Amounts)
    → ((name : List ℕ) (cents : ℤ) → op (place_of names name) cents ≡ op_of names (make name cents))
    → (placed names read >>= λ place. amounts place.1 >>= λ amount. Ok (op place.0 amount.0, amount.1))
    ≡ looked_up names (read >>= λ name. amounts name.1 >>= λ amount. Ok (make name.0 amount.0, amount.1))
name_and_amount names make op (Ok name) amounts same =
    amount_last names make (op (place_of names name.0)) name.0 (amounts name.1) (same name.0)
name_and_amount names make op (Err fault) amounts same = refl

name_last : (names : List (List ℕ)) (from : List ℕ) (read : Names)
    → (placed names read >>= λ to. Ok (at_two_places ops.Amalgamate (place_of names from) to.0, to.1))
    ≡ looked_up names (read >>= λ to. Ok (calls.Amalgamate from to.0, to.1))
name_last names from (Ok to) = refl
name_last names from (Err fault) = refl

two_names : (names : List (List ℕ)) (read : Names) (others : List ℕ → Names)
    → (placed names read >>= λ place. placed names (others place.1) >>= λ to. Ok (at_two_places ops.Amalgamate place.0 to.0, to.1))
    ≡ looked_up names (read >>= λ from. others from.1 >>= λ to. Ok (calls.Amalgamate from.0 to.0, to.1))
two_names names (Ok from) others = name_last names from.0 (others from.1)
two_names names (Err fault) others = refl

name_and_amount_last : (names : List (List ℕ)) (from : List ℕ) (read : Names) (amounts : Amounts)
    → (placed names read >>= λ to. amounts to.1
    >>= λ amount. Ok (at_two_places (λ places. ops.SendPayment places amount.0) (place_of names from) to.0, amount.1))
    ≡ looked_up names (read >>= λ to. amounts to.1 >>= λ amount. Ok (calls.SendPayment from to.0 amount.0, amount.1))
name_and_amount_last names from (Ok to) amounts =
    amount_last names (calls.SendPayment from)
    (λ cents. at_two_places (λ places. ops.SendPayment places cents) (place_of names from) (place_of names to.0)) to.0 (amounts to.1) (λ cents. refl)
name_and_amount_last names from (Err fault) amounts = refl

two_names_and_amount : (names : List (List ℕ)) (read : Names) (others : List ℕ → Names) (amounts : Amounts)
    → (placed names read >>= λ place. placed names (others place.1) >>= λ to. amounts to.1
    >>= λ amount. Ok (at_two_places (λ places. ops.SendPayment places amount.0) place.0 to.0, amount.1))
    ≡ looked_up names (read >>= λ from. others from.1 >>= λ to. amounts to.1 >>= λ amount. Ok (calls.SendPayment from.0 to.0 amount.0, amount.1))
two_names_and_amount names (Ok from) others amounts = name_and_amount_last names from.0 (others from.1) amounts
two_names_and_amount names (Err fault) others amounts = refl

-- a kind for which the names may be looked up one by one
abbrev Agrees : List (List ℕ) → List ℕ → ℕ → Type 0
Agrees names bytes kind = one_by_one names kind bytes ≡ looked_up names (call_of_kind kind bytes)

agrees_at : (names : List (List ℕ)) (bytes : List ℕ) (kind n : ℕ) → Agrees names bytes n → kind ≡ n → Agrees names bytes kind
agrees_at names bytes kind n h is = subst (Agrees names bytes) (sym is) h

balance_agrees : (names : List (List ℕ)) (bytes : List ℕ) → Agrees names bytes 1
unfolding place_at
balance_agrees names bytes = one_name names (name_at bytes)

deposit_agrees : (names : List (List ℕ)) (bytes : List ℕ) → Agrees names bytes 2
unfolding place_at
deposit_agrees names bytes =
    name_and_amount names calls.DepositChecking (λ place cents. at_place (λ p. ops.DepositChecking p cents) place)
    (name_at bytes) amount_at (λ name cents. refl)

savings_agree : (names : List (List ℕ)) (bytes : List ℕ) → Agrees names bytes 3
unfolding place_at
savings_agree names bytes =
    name_and_amount names calls.TransactSavings (λ place cents. at_place (λ p. ops.TransactSavings p cents) place)
    (name_at bytes) amount_at (λ name cents. refl)

amalgamate_agrees : (names : List (List ℕ)) (bytes : List ℕ) → Agrees names bytes 4
unfolding place_at
amalgamate_agrees names bytes = two_names names (name_at bytes) name_at

check_agrees : (names : List (List ℕ)) (bytes : List ℕ) → Agrees names bytes 5
unfolding place_at
check_agrees names bytes =
    name_and_amount names calls.WriteCheck (λ place cents. at_place (λ p. ops.WriteCheck p cents) place) (name_at bytes) amount_at (λ name cents. refl)

payment_agrees : (names : List (List ℕ)) (bytes : List ℕ) → Agrees names bytes 6
unfolding place_at
payment_agrees names bytes = two_names_and_amount names (name_at bytes) name_at amount_at

-- a reading by kind that has a value: the kind is one of the six
six_kinds : {A : Type 0} (P : ℕ → Type 0) (kind : ℕ) (one two three four five six : Result A FrameFault) (last : A)
    → cond (eqb kind 1) one (cond (eqb kind 2) two (cond (eqb kind 3) three (cond (eqb kind 4) four (cond (eqb kind 5) five
    (cond (eqb kind 6) six (Err UnknownTag)))))) ≡ Ok last
    → (kind ≡ 1 → P kind) → (kind ≡ 2 → P kind) → (kind ≡ 3 → P kind) → (kind ≡ 4 → P kind) → (kind ≡ 5 → P kind) → (kind ≡ 6 → P kind) → P kind
six_kinds {A} P kind one two three four five six last e p q r s t u =
    let none : Result A FrameFault = Err UnknownTag in
    let from6 : Result A FrameFault = cond (eqb kind 6) six none in
    let from5 : Result A FrameFault = cond (eqb kind 5) five from6 in
    let from4 : Result A FrameFault = cond (eqb kind 4) four from5 in
    let from3 : Result A FrameFault = cond (eqb kind 3) three from4 in
    let from2 : Result A FrameFault = cond (eqb kind 2) two from3 in
    tagged (P kind) kind 1 one from2 last e (λ is found. p is)
    (λ e2. tagged (P kind) kind 2 two from3 last e2 (λ is found. q is)
    (λ e3. tagged (P kind) kind 3 three from4 last e3 (λ is found. r is)
    (λ e4. tagged (P kind) kind 4 four from5 last e4 (λ is found. s is)
    (λ e5. tagged (P kind) kind 5 five from6 last e5 (λ is found. t is)
    (λ e6. tagged (P kind) kind 6 six none last e6 (λ is found. u is) (λ other. absurd cc))))))

module _ (names : List (List ℕ)) (bytes : List ℕ) (kind : ℕ) where
  agrees : {A : Type 0} (one two three four five six : Result A FrameFault) (last : A)
      → cond (eqb kind 1) one (cond (eqb kind 2) two (cond (eqb kind 3) three (cond (eqb kind 4) four (cond (eqb kind 5) five
      (cond (eqb kind 6) six (Err UnknownTag)))))) ≡ Ok last
      → Agrees names bytes kind
  agrees one two three four five six last e =
      six_kinds (Agrees names bytes) kind one two three four five six last e
      (agrees_at names bytes kind 1 (balance_agrees names bytes)) (agrees_at names bytes kind 2 (deposit_agrees names bytes))
      (agrees_at names bytes kind 3 (savings_agree names bytes)) (agrees_at names bytes kind 4 (amalgamate_agrees names bytes))
      (agrees_at names bytes kind 5 (check_agrees names bytes)) (agrees_at names bytes kind 6 (payment_agrees names bytes))

-- the op that is read is that of the call that is read
op_is_calls : (names : List (List ℕ)) (bytes : List ℕ) (op : Op) (rest : List ℕ) → op_at names bytes ≡ Ok (op, rest)
    → (call : Call) × (call_at bytes ≡ Ok (call, rest)) × (op ≡ op_of names call)
unfolding op_at call_at
op_is_calls names bytes op rest e =
    let kind = first_step (byte_at bytes) (λ kind. one_by_one names kind.0 kind.1) (op, rest) e in
    let n = kind.0.0 in
    let place = first_step (place_at names kind.0.1) (λ place. op_of_kind names n place.0 place.1) (op, rest) kind.2 in
    let behind = place.0.1 in
    let same = agrees names kind.0.1 n _ _ _ _ _ _ (op, rest) place.2 in
    let call = first_step (call_of_kind n kind.0.1) (λ call. Ok (op_of names call.0, call.1)) (op, rest) (sym same ∙ kind.2) in
    let parts = same_value (op_of names call.0.0, call.0.1) (op, rest) call.2 in
    let left : call.0.1 ≡ rest = ap (λ (p : Op × List ℕ). p.1) parts in
    let read : call_of_kind n kind.0.1 ≡ Ok (call.0.0, rest) = call.1 ∙ ap (λ (xs : List ℕ). made call.0.0 xs) left in (
      call.0.0,
      then_read (byte_at bytes) (λ kind. call_of_kind kind.0 kind.1) kind.0 (call.0.0, rest) kind.1 read,
      sym (ap (λ (p : Op × List ℕ). p.0) parts),
    )

call_has_op : (names : List (List ℕ)) (bytes : List ℕ) (call : Call) (rest : List ℕ) → call_at bytes ≡ Ok (call, rest)
    → op_at names bytes ≡ Ok (op_of names call, rest)
unfolding op_at call_at
call_has_op names bytes call rest e =
    let kind = first_step (byte_at bytes) (λ kind. call_of_kind kind.0 kind.1) (call, rest) e in
    let same = agrees names kind.0.1 kind.0.0 _ _ _ _ _ _ (call, rest) kind.2 in
    rw kind.1 (same ∙ ap (looked_up names) kind.2)

-- ---- entries

abbrev pub entry_with : ℕ → Op → EntryOp
entry_with number op = record { number = number; op = op }

entry_op_is_entrys : (names : List (List ℕ)) (bytes : List ℕ) (entry : EntryOp) (rest : List ℕ) → entry_op_at names bytes ≡ Ok (entry, rest)
    → (call : Call) × (entry_at bytes ≡ Ok (Entry entry.number call, rest)) × (entry.op ≡ op_of names call)
unfolding entry_at
entry_op_is_entrys names bytes entry rest e =
    let number = first_step (unsigned_at w64 bytes) (λ number. op_at names number.1 >>= λ op. made (entry_with number.0 op.0) op.1) (entry, rest) e in
    let op = first_step (op_at names number.0.1) (λ op. made (entry_with number.0.0 op.0) op.1) (entry, rest) number.2 in
    let found = op_is_calls names number.0.1 op.0.0 op.0.1 op.1 in
    let parts = same_value (entry_with number.0.0 op.0.0, op.0.1) (entry, rest) op.2 in (
      found.0,
      then_read (unsigned_at w64 bytes) (λ n. call_at n.1 >>= λ c. made (Entry n.0 c.0) c.1) number.0 (Entry entry.number found.0, rest) number.1
          (then_read (call_at number.0.1) (λ c. made (Entry number.0.0 c.0) c.1) (found.0, op.0.1) (Entry entry.number found.0, rest) found.1
          (ap (λ (p : EntryOp × List ℕ). made (Entry p.0.number found.0) p.1) parts)),
      sym (ap (λ (p : EntryOp × List ℕ). p.0.op) parts) ∙ found.2,
    )

-- an entry has one number and one call
entry_parts : (number other : ℕ) (call another : Call) → Entry number call ≡ Entry other another → (number ≡ other) × (call ≡ another)
entry_parts number other call another e = (cc, cc)

entry_has_op : (names : List (List ℕ)) (bytes : List ℕ) (number : ℕ) (call : Call) (rest : List ℕ) → entry_at bytes ≡ Ok (Entry number call, rest)
    → entry_op_at names bytes ≡ Ok (entry_with number (op_of names call), rest)
unfolding entry_at
entry_has_op names bytes number call rest e =
    let first = first_step (unsigned_at w64 bytes) (λ n. call_at n.1 >>= λ c. made (Entry n.0 c.0) c.1) (Entry number call, rest) e in
    let read = first_step (call_at first.0.1) (λ c. made (Entry first.0.0 c.0) c.1) (Entry number call, rest) first.2 in
    let same = same_value (Entry first.0.0 read.0.0, read.0.1) (Entry number call, rest) read.2 in
    let parts = entry_parts first.0.0 number read.0.0 call (ap (λ (p : Frame × List ℕ). p.0) same) in
    rw (first.1, call_has_op names first.0.1 read.0.0 read.0.1 read.1)
    (ap (λ (n : ℕ). made (entry_with n (op_of names read.0.0)) read.0.1) parts.0
    ∙ ap (λ (c : Call). made (entry_with number (op_of names c)) read.0.1) parts.1
    ∙ ap (λ (p : Frame × List ℕ). made (entry_with number (op_of names call)) p.1) same)

-- ---- other frames

-- what the last step of a reading made
made_last : {A Z : Type 0} (read : Result (A × List ℕ) FrameFault) (make : A → Z) (z : Z) (rest : List ℕ)
    → (read >>= λ a. made (make a.0) a.1) ≡ made z rest → (a : A) × (make a ≡ z)
made_last {Z = Z} read make z rest e =
    let step = first_step read (λ a. made (make a.0) a.1) (z, rest) e in
    (step.0.0, ap (λ (p : Z × List ℕ). p.0) (same_value (make step.0.0, step.0.1) (z, rest) step.2))

module _ (bytes : List ℕ) (number : ℕ) (call : Call) (rest : List ℕ) where
  ask_is_none : ask_at bytes ≡ Ok (Entry number call, rest) → ⊥
  unfolding ask_at
  ask_is_none e =
      let client =
      first_step (unsigned_at w32 bytes) (λ c. unsigned_at w32 c.1 >>= λ r. call_at r.1 >>= λ a. made (Ask c.0 r.0 a.0) a.1) (Entry number call, rest) e in
      let request = first_step (unsigned_at w32 client.0.1) (λ r. call_at r.1 >>= λ a. made (Ask client.0.0 r.0 a.0) a.1) (Entry number call, rest) client.2 in
      let frame = made_last (call_at request.0.1) (Ask client.0.0 request.0.0) (Entry number call) rest request.2 in
      absurd cc

  length_is_none : (make : ℕ → ℕ → Frame) → ((replica size : ℕ) → make replica size ≡ Entry number call → ⊥)
      → replica_and_length_at make bytes ≡ Ok (Entry number call, rest) → ⊥
  unfolding replica_and_length_at
  length_is_none make other e =
      let replica = first_step (byte_at bytes) (λ r. unsigned_at w64 r.1 >>= λ size. made (make r.0 size.0) size.1) (Entry number call, rest) e in
      let frame = made_last (unsigned_at w64 replica.0.1) (make replica.0.0) (Entry number call) rest replica.2 in
      other replica.0.0 frame.0 frame.1

  answer_is_none : answer_at bytes ≡ Ok (Entry number call, rest) → ⊥
  unfolding answer_at
  answer_is_none e =
      let first = first_step (unsigned_at w64 bytes) (λ n. reply_at n.1 >>= λ reply. made (Answer n.0 reply.0) reply.1) (Entry number call, rest) e in
      let frame = made_last (reply_at first.0.1) (Answer first.0.0) (Entry number call) rest first.2 in
      absurd cc

  outcome_is_none : outcome_frame_at bytes ≡ Ok (Entry number call, rest) → ⊥
  unfolding outcome_frame_at
  outcome_is_none e =
      let client = first_step (unsigned_at w32 bytes) (λ c. unsigned_at w32 c.1 >>= λ r. outcome_at r.1 >>= λ o.
      made (Outcome c.0 r.0 o.0) o.1) (Entry number call, rest) e in
      let request =
      first_step (unsigned_at w32 client.0.1) (λ r. outcome_at r.1 >>= λ o. made (Outcome client.0.0 r.0 o.0) o.1) (Entry number call, rest) client.2 in
      let frame = made_last (outcome_at request.0.1) (Outcome client.0.0 request.0.0) (Entry number call) rest request.2 in
      absurd cc

  flush_is_none : made Flush bytes ≡ made (Entry number call) rest → ⊥
  flush_is_none e =
      let frame : Flush ≡ Entry number call = ap (λ (p : Frame × List ℕ). p.0) (same_value (Flush, bytes) (Entry number call, rest) e) in
      absurd cc

  -- only one tag is an entry's
  entry_has_tag : (tag : ℕ) → frame_of_tag tag bytes ≡ Ok (Entry number call, rest) → (tag ≡ 2) × (entry_at bytes ≡ Ok (Entry number call, rest))
  entry_has_tag tag e =
      let Goal : Type 0 = (tag ≡ 2) × (entry_at bytes ≡ Ok (Entry number call, rest)) in
      let Read : Type 0 = Result (Frame × List ℕ) FrameFault in
      let none : Read = Err UnknownTag in
      let from7 : Read = cond (eqb tag 7) (replica_and_length_at Have bytes) none in
      let from6 : Read = cond (eqb tag 6) (Ok (Flush, bytes)) from7 in
      let from5 : Read = cond (eqb tag 5) (outcome_frame_at bytes) from6 in
      let from4 : Read = cond (eqb tag 4) (answer_at bytes) from5 in
      let from3 : Read = cond (eqb tag 3) (replica_and_length_at Ack bytes) from4 in
      let from2 : Read = cond (eqb tag 2) (entry_at bytes) from3 in
      tagged Goal tag 1 (ask_at bytes) from2 (Entry number call, rest) e (λ is found. absurd (ask_is_none found))
      (λ e2. tagged Goal tag 2 (entry_at bytes) from3 (Entry number call, rest) e2 (λ is found. (is, found))
      (λ e3. tagged Goal tag 3 (replica_and_length_at Ack bytes) from4 (Entry number call, rest) e3
      (λ is found. absurd (length_is_none Ack (λ r s x. absurd cc) found))
      (λ e4. tagged Goal tag 4 (answer_at bytes) from5 (Entry number call, rest) e4 (λ is found. absurd (answer_is_none found))
      (λ e5. tagged Goal tag 5 (outcome_frame_at bytes) from6 (Entry number call, rest) e5 (λ is found. absurd (outcome_is_none found))
      (λ e6. tagged Goal tag 6 (Ok (Flush, bytes)) from7 (Entry number call, rest) e6 (λ is found. absurd (flush_is_none found))
      (λ e7. tagged Goal tag 7 (replica_and_length_at Have bytes) none (Entry number call, rest) e7
      (λ is found. absurd (length_is_none Have (λ r s x. absurd cc) found)) (λ other. absurd cc)))))))

-- ---- bodies

fields_of_entry : (tag : ℕ) (bytes : List ℕ) (last : Frame × List ℕ) → tag ≡ 2 → entry_at bytes ≡ Ok last → frame_of_tag tag bytes ≡ Ok last
fields_of_entry tag bytes last is e = rw is e

abbrev if_all_read : {A : Type 0} → A × List ℕ → Result A FrameFault
if_all_read read = cond (eqb (length read.1) 0) (Ok read.0) (Err BadLength)

body_entry_is_frames : (names : List (List ℕ)) (bytes : List ℕ) (entry : EntryOp) → body_entry names bytes ≡ Ok entry
    → (call : Call) × (frame_of bytes ≡ Ok (Entry entry.number call)) × (entry.op ≡ op_of names call)
unfolding body_entry frame_of tagged_at
body_entry_is_frames names bytes entry e =
    let none : Result (EntryOp × List ℕ) FrameFault = Err UnknownTag in
    let of_tag : ℕ × List ℕ → Result (EntryOp × List ℕ) FrameFault = λ tag. cond (eqb tag.0 2) (entry_op_at names tag.1) none in
    let tag = first_step (byte_at bytes) (λ tag. of_tag tag >>= λ entry. if_all_read entry) entry e in
    let read = first_step (of_tag tag.0) (λ entry. if_all_read entry) entry tag.2 in
    let Here : Type 0 = (tag.0.0 ≡ 2) × (entry_op_at names tag.0.1 ≡ Ok read.0) in
    let here : Here = tagged Here tag.0.0 2 (entry_op_at names tag.0.1) none read.0 read.1 (λ is found. (is, found)) (λ other. absurd cc) in
    let whole = accepted (eqb (length read.0.1) 0) BadLength read.0.0 entry read.2 in
    let found = entry_op_is_entrys names tag.0.1 read.0.0 read.0.1 here.1 in
    let inner : Frame = Entry read.0.0.number found.0 in
    let frame : Frame = Entry entry.number found.0 in
    let fields = fields_of_entry tag.0.0 tag.0.1 (inner, read.0.1) here.0 found.1 in
    let tagged_read : tagged_at bytes ≡ Ok (inner, read.0.1) =
    then_read (byte_at bytes) (λ tag. frame_of_tag tag.0 tag.1) tag.0 (inner, read.0.1) tag.1 fields in (
      found.0,
      then_read (tagged_at bytes) (λ f. if_all_read f) (inner, read.0.1) frame tagged_read
          (passed (eqb (length read.0.1) 0) BadLength inner frame whole.0 (ap (λ (x : EntryOp). Entry x.number found.0) whole.1)),
      sym (ap (λ (x : EntryOp). x.op) whole.1) ∙ found.2,
    )

frame_has_entry : (names : List (List ℕ)) (bytes : List ℕ) (number : ℕ) (call : Call) → frame_of bytes ≡ Ok (Entry number call)
    → body_entry names bytes ≡ Ok (entry_with number (op_of names call))
unfolding body_entry frame_of tagged_at
frame_has_entry names bytes number call e =
    let read = first_step (tagged_at bytes) (λ frame. if_all_read frame) (Entry number call) e in
    let whole = accepted (eqb (length read.0.1) 0) BadLength read.0.0 (Entry number call) read.2 in
    let tag = first_step (byte_at bytes) (λ tag. frame_of_tag tag.0 tag.1) read.0 read.1 in
    let here = entry_has_tag tag.0.1 number call read.0.1 tag.0.0 (tag.2 ∙ ap (λ (frame : Frame). made frame read.0.1) whole.1) in
    rw (tag.1, here.0, entry_has_op names tag.0.1 number call read.0.1 here.1, whole.0) refl

-- ---- whole frames

-- a value, and the number of bytes that it takes
abbrev sized : {A : Type 0} → A → ℕ → Result (A × ℕ) FrameFault
sized value size = Ok (value, size)

-- the entry that is read first is the frame that is decoded
pub first_entry_is_frame : (names : List (List ℕ)) (bytes : List ℕ) (entry : EntryOp) → first_entry names bytes ≡ Ok entry
    → (call : Call) × (k : ℕ) × (decode_result bytes ≡ Ok (Entry entry.number call, k)) × (entry.op ≡ op_of names call)
unfolding first_entry decode_result
first_entry_is_frame names bytes entry e =
    let inner : ℕ → List ℕ = λ size. take (size - 2) (drop 2 bytes) in
    let size = first_step (frame_size bytes) (λ n. body_entry names (inner n)) entry e in
    let found = body_entry_is_frames names (inner size.0) entry size.2 in
    let frame = Entry entry.number found.0 in (
      found.0,
      size.0,
      then_read (frame_size bytes) (λ n. frame_of (inner n) >>= λ f. sized f n) size.0 (frame, size.0) size.1
          (then_read (frame_of (inner size.0)) (λ f. sized f size.0) frame (frame, size.0) found.1 refl),
      found.2,
    )

pub frame_has_first_entry : (names : List (List ℕ)) (bytes : List ℕ) (number : ℕ) (call : Call) (k : ℕ) → decode_result bytes ≡ Ok (Entry number call, k)
    → first_entry names bytes ≡ Ok (entry_with number (op_of names call))
unfolding first_entry decode_result
frame_has_first_entry names bytes number call k e =
    let inner : ℕ → List ℕ = λ size. take (size - 2) (drop 2 bytes) in
    let frame = Entry number call in
    let size = first_step (frame_size bytes) (λ n. frame_of (inner n) >>= λ f. sized f n) (frame, k) e in
    let read = first_step (frame_of (inner size.0)) (λ f. sized f size.0) (frame, k) size.2 in
    let same = same_value (read.0, size.0) (frame, k) read.2 in
    let is : frame_of (inner size.0) ≡ Ok frame = read.1 ∙ ap (λ (p : Frame × ℕ). done p.0) same in
    rw (size.1, frame_has_entry names (inner size.0) number call is) refl
