-- Bytes without a fault are the spelling of what is read.
use Rattle.std.proofs.Common.{◌≡◌, ℕ, ◌+◌, ◌*◌, ◌<◌, ◌≤◌, ℤ, ◌+ℤ◌, Bool, true, false, not, cond, eqb, ltb, ◌||◌, Option, Some, None, List, ◌++◌, length, take, drop, map, refl, sym, ap, ap₂, ◌∙◌, arith}
use Rattle.std.proofs.Math.Seq.{take-add}
use Rattle.std.specs.Prelude.{nat_eq}
use Rattle.std.specs.Int.{w32, w64}
use Rattle.std.specs.List.{All, flat_map, list_any, starts_with}
use Rattle.std.specs.Ordering.{int_eq}
use Rattle.std.specs.Simd.{first_chunks}
use Rattle.std.proofs.lemmas.Bool.{ltb-false, eqb-true}
use Rattle.std.proofs.lemmas.Bool.Decides.{Decides-int_eq}
use Rattle.std.proofs.lemmas.List.{take_all, length-drop, length-map, length-take-le}
use Rattle.std.proofs.lemmas.List.Elements.{All-take, All-drop}
use Rattle.std.proofs.lemmas.Slice.Eq.{bytes_eq-Decides}
use Rattle.sb_rows.specs.Balances.{IsBalances}
use Rattle.sb_calls.specs.Replies.{IsReply, integer_field, amount_field}
use Rattle.sb_calls.specs.declared.call.TheConstants.{LOG_CALLS}
use Rattle.sb_calls.specs.declared.reply.Reply.{Reply}
use Rattle.lane_audit.specs.Columns.{total}
use Rattle.sb_checkpoint.specs.Checkpoint.{CheckpointOf, Layout, First, Second, SpellsInLayout, magic, opening_field, checkpoint_spelling}
use Rattle.sb_checkpoint.specs.Reading.{amounts_at, balances_fault, empty_size, head_fault, is_below_zero, is_no_reply, is_past_limit, layout_fault, opening_fault, replies_fault, stated_layout, stated_opening, stated_reply, stated_checking, stated_customers, stated_reply_count, stated_replies, stated_savings, stated_size, stated_total}
use Rattle.sb_checkpoint.specs.declared.fault.CheckpointFault.{CheckpointFault}
use Rattle.sb_checkpoint.specs.declared.fault.CheckpointFault.TheVariants.{Short, WrongCustomers, OutOfRange, NegativeSavings, WrongTotal, WrongOpening, BadReply, Long}
use Rattle.sb_checkpoint.proofs.Chunks.{length-amounts}
use Rattle.lane_audit.proofs.Chunks.{length-first_chunks}
use Rattle.sb_checkpoint.proofs.FieldLists.{amounts_spelled, replies_spelled}
use Rattle.sb_checkpoint.proofs.IntegerFields.{AreBytes, amount_spelled, number32_spelled, number64_spelled}

abbrev Found : Type 0
Found = Option CheckpointFault

-- a test that found nothing
pub passed : (test : Bool) (fault : CheckpointFault) (later : Found) → cond test (Some fault) later ≡ None → (test ≡ false) × (later ≡ None)
passed true fault later e = absurd cc
passed false fault later e = (refl, e)

pub either : (a b : Bool) → (a || b) ≡ false → (a ≡ false) × (b ≡ false)
either true b e = absurd cc
either false b e = (refl, e)

holds : (a : Bool) → not a ≡ false → a ≡ true
holds true e = refl
holds false e = absurd cc

-- ---- what the tests say

pub record HeadIs (layout : Layout) (bytes : List ℕ) (customers : ℕ) : Type 0 where
  pub begins : take 8 bytes ≡ magic layout
  pub long : 20 ≤ length bytes
  pub room : stated_size layout bytes ≤ length bytes
  pub same : stated_customers bytes ≡ customers

begins_as : Layout → List ℕ → Bool
begins_as layout bytes = starts_with nat_eq (magic layout) (take 8 bytes)

begun : (bytes : List ℕ) (layout : Layout) → stated_layout bytes ≡ Some layout → begins_as layout bytes ≡ true
unfolding stated_layout begins_as
begun bytes layout e = which (begins_as First bytes) (begins_as Second bytes) refl refl e
  where
    which : (first second : Bool) → begins_as First bytes ≡ first → begins_as Second bytes ≡ second
        → cond first (Some First) (cond second (Some Second) None) ≡ Some layout → begins_as layout bytes ≡ true
    which true second is is_second e = let same : First ≡ layout = cc in rw (← same) is
    which false true is is_second e = let same : Second ≡ layout = cc in rw (← same) is_second
    which false false is is_second e = absurd cc

pub head_is : (bytes : List ℕ) (customers : ℕ) (layout : Layout) → stated_layout bytes ≡ Some layout → head_fault bytes customers ≡ None
    → HeadIs layout bytes customers
unfolding head_fault begins_as
head_is bytes customers layout laid_out e =
    let behind : layout_fault (Some layout) bytes customers ≡ None = sym (ap (λ l. layout_fault l bytes customers) laid_out) ∙ e in
    let second = passed (ltb (length bytes) 20 || ltb (length bytes) (stated_size layout bytes)) Short _ behind in
    let third = passed (not (eqb (stated_customers bytes) customers)) WrongCustomers None second.1 in
    let sizes = either (ltb (length bytes) 20) (ltb (length bytes) (stated_size layout bytes)) second.0 in
    let long : 20 ≤ length bytes = ltb-false (length bytes) 20 sizes.0 in
    let cells : length (take 8 bytes) ≡ 8 = length-take-le 8 bytes (omega arith) in
    let front = (bytes_eq-Decides (take 8 bytes) (take (length (take 8 bytes)) (magic layout))).0 (begun bytes layout laid_out) in
    record {
      begins = front ∙ ap (λ n. take n (magic layout)) cells ∙ whole layout;
      long = long;
      room = ltb-false (length bytes) (stated_size layout bytes) sizes.1;
      same = eqb-true _ _ (holds _ third.0);
    }
  where
    whole : (layout : Layout) → take 8 (magic layout) ≡ magic layout
    whole First = refl
    whole Second = refl

total_is : (bytes : List ℕ) → balances_fault bytes ≡ None → stated_total bytes ≡ total (stated_savings bytes) +ℤ total (stated_checking bytes)
unfolding balances_fault
total_is bytes e =
    let savings = stated_savings bytes in
    let checking = stated_checking bytes in
    let first = passed (list_any is_past_limit savings || list_any is_past_limit checking) OutOfRange _ e in
    let second = passed (list_any is_below_zero savings) NegativeSavings _ first.1 in
    let third = passed (not (int_eq (stated_total bytes) (total savings +ℤ total checking))) WrongTotal None second.1 in
    (Decides-int_eq _ _).0 (holds _ third.0)

ends : (layout : Layout) (bytes : List ℕ) → replies_fault layout bytes ≡ None → (stated_reply_count bytes ≤ LOG_CALLS)
    × (length bytes ≤ stated_size layout bytes)
unfolding replies_fault
ends layout bytes e =
    let first = passed (list_any is_no_reply (stated_replies layout bytes)) BadReply _ e in
    let second = passed (ltb LOG_CALLS (stated_reply_count bytes) || ltb (stated_size layout bytes) (length bytes)) Long None first.1 in
    let sizes = either (ltb LOG_CALLS (stated_reply_count bytes)) (ltb (stated_size layout bytes) (length bytes)) second.0 in
    (ltb-false _ _ sizes.0, ltb-false _ _ sizes.1)

-- ---- field by field

-- a front continues with a field
goes_on : (bytes : List ℕ) (at n next : ℕ) (front field : List ℕ) → next ≡ at + n → take at bytes ≡ front → take n (drop at bytes) ≡ field
    → take next bytes ≡ front ++ field
goes_on bytes at n next front field is before here =
    ap (λ m. take m bytes) is ∙ take-add at n bytes ∙ ap₂ (λ (a b : List ℕ). a ++ b) before here

-- what is read from the bytes
pub record IsRead (layout : Layout) (bytes : List ℕ) (made : CheckpointOf) : Type 0 where
  pub savings : made.columns.savings ≡ stated_savings bytes
  pub checking : made.columns.checking ≡ stated_checking bytes
  pub replies : map (λ r. Some r) made.replies ≡ stated_replies layout bytes

-- the bytes of a field from a place on
part : (bytes : List ℕ) (at n : ℕ) → at + n ≤ length bytes → AreBytes bytes → (length (take n (drop at bytes)) ≡ n) × AreBytes (take n (drop at bytes))
part bytes at n room are = (
  length-take-le n (drop at bytes) (omega (arith, length-drop at bytes)),
  All-take (λ byte. byte < 256) n (drop at bytes) (All-drop (λ byte. byte < 256) at bytes are),
)

length_field : (bytes : List ℕ) → 20 ≤ length bytes → AreBytes bytes → take 8 (drop 8 bytes) ≡ integer_field w64 (stated_reply_count bytes)
unfolding stated_reply_count
length_field bytes long are =
    let cells = part bytes 8 8 (omega arith) are in
    sym (number64_spelled (take 8 (drop 8 bytes)) cells.0 cells.1)

customers_field : (bytes : List ℕ) → 20 ≤ length bytes → AreBytes bytes → take 4 (drop 16 bytes) ≡ integer_field w32 (stated_customers bytes)
unfolding stated_customers
customers_field bytes long are =
    let cells = part bytes 16 4 (omega arith) are in
    sym (number32_spelled (take 4 (drop 16 bytes)) cells.0 cells.1)

total_field : (bytes : List ℕ) → 28 + 16 * stated_customers bytes ≤ length bytes → AreBytes bytes
    → take 8 (drop (20 + 16 * stated_customers bytes) bytes) ≡ amount_field (stated_total bytes)
unfolding stated_total
total_field bytes room are =
    let cells = part bytes (20 + 16 * stated_customers bytes) 8 (omega arith) are in
    sym (amount_spelled (take 8 (drop (20 + 16 * stated_customers bytes) bytes)) cells.0 cells.1)

-- the size of the opening total in bytes
abbrev pub opening_size : Layout → ℕ
opening_size First = 0
opening_size Second = 8

pub with_opening : (layout : Layout) → empty_size layout ≡ 28 + opening_size layout
with_opening First = refl
with_opening Second = refl

the_opening_field : (layout : Layout) (bytes : List ℕ) (opening_total : ℤ) → empty_size layout + 16 * stated_customers bytes ≤ length bytes → AreBytes bytes
    → opening_fault layout bytes opening_total ≡ None
    → take (opening_size layout) (drop (28 + 16 * stated_customers bytes) bytes) ≡ opening_field layout opening_total
unfolding stated_opening
the_opening_field First bytes opening_total room are e = refl
the_opening_field Second bytes opening_total room are e =
    let cells = part bytes (28 + 16 * stated_customers bytes) 8 (omega arith) are in
    let test = passed (not (int_eq (stated_opening bytes) opening_total)) WrongOpening None e in
    let same : stated_opening bytes ≡ opening_total = (Decides-int_eq _ _).0 (holds (int_eq (stated_opening bytes) opening_total) test.0) in
    sym (amount_spelled (take 8 (drop (28 + 16 * stated_customers bytes) bytes)) cells.0 cells.1) ∙ ap amount_field same

amounts_field : (bytes : List ℕ) (at : ℕ) (amounts : List ℤ) → at + 8 * stated_customers bytes ≤ length bytes → AreBytes bytes
    → amounts ≡ amounts_at (stated_customers bytes) (drop at bytes)
    → take (stated_customers bytes * 8) (drop at bytes) ≡ flat_map amount_field amounts
amounts_field bytes at amounts room are read =
    let rest = drop at bytes in
    let spelled = amounts_spelled (stated_customers bytes) rest (omega (arith, length-drop at bytes)) (All-drop (λ byte. byte < 256) at bytes are) in
    sym (ap (flat_map amount_field) read ∙ spelled)

-- ---- all of them

module _ (layout : Layout) (bytes : List ℕ) (made : CheckpointOf) (read : IsRead layout bytes made) where
  count_is : length made.replies ≡ stated_reply_count bytes
  count_is =
      let chunks = first_chunks 9 (stated_reply_count bytes) (drop (empty_size layout + 16 * stated_customers bytes) bytes) in
      sym (length-map made.replies (λ (r : Reply). Some r)) ∙ ap length read.replies ∙ length-map chunks stated_reply
      ∙ length-first_chunks 9 (stated_reply_count bytes) _

module _ (bytes : List ℕ) (customers : ℕ) (layout : Layout) (made : CheckpointOf) (are : AreBytes bytes) (head : HeadIs layout bytes customers)
    (read : IsRead layout bytes made) where
  head_spelled : take 20 bytes ≡ magic layout ++ integer_field w64 (length made.replies) ++ integer_field w32 (length made.columns.savings)
  head_spelled =
      let count = length_field bytes head.long are ∙ ap (integer_field w64) (sym (count_is layout bytes made read)) in
      let sized = ap length read.savings ∙ length-amounts (stated_customers bytes) (drop 20 bytes) in
      let many = customers_field bytes head.long are ∙ ap (integer_field w32) (sym sized) in
      goes_on bytes 16 4 20 _ _ (omega arith) (goes_on bytes 8 8 16 _ _ (omega arith) head.begins count) many

  taken_spelled : (opening_total : ℤ) → (stated_reply_count bytes ≤ LOG_CALLS) × (length bytes ≤ stated_size layout bytes)
      → stated_total bytes ≡ total (stated_savings bytes) +ℤ total (stated_checking bytes) → opening_fault layout bytes opening_total ≡ None
      → All IsReply made.replies × (bytes ≡ checkpoint_spelling layout opening_total made)
  unfolding checkpoint_spelling
  taken_spelled opening_total end whole same =
      let c = stated_customers bytes in
      let e = empty_size layout in
      let sized = with_opening layout in
      let room = head.room in
      let savings = goes_on bytes 20 (c * 8) (20 + 8 * c) _ _ (omega arith) head_spelled
      (amounts_field bytes 20 made.columns.savings (omega arith) are read.savings) in
      let checking = goes_on bytes (20 + 8 * c) (c * 8) (20 + 16 * c) _ _ (omega arith) savings
      (amounts_field bytes (20 + 8 * c) made.columns.checking (omega arith) are read.checking) in
      let sums = ap₂ (λ a b. total a +ℤ total b) (sym read.savings) (sym read.checking) in
      let amounts = goes_on bytes (20 + 16 * c) 8 (28 + 16 * c) _ _ (omega arith) checking
      (total_field bytes (omega arith) are ∙ ap amount_field (whole ∙ sums)) in
      let opening = goes_on bytes (28 + 16 * c) (opening_size layout) (e + 16 * c) _ _ (omega arith) amounts
      (the_opening_field layout bytes opening_total (omega arith) are same) in
      let rest = drop (e + 16 * c) bytes in
      let replies = replies_spelled made.replies (stated_reply_count bytes) rest read.replies (omega (arith, length-drop (e + 16 * c) bytes))
      (All-drop (λ byte. byte < 256) (e + 16 * c) bytes are) in
      let all = goes_on bytes (e + 16 * c) (stated_reply_count bytes * 9) (stated_size layout bytes) _ _ (omega arith) opening (sym replies.1) in
      (replies.0, sym (take_all (stated_size layout bytes) bytes end.1) ∙ all)

-- no fault is found
pub taken : (bytes : List ℕ) (customers : ℕ) (opening_total : ℤ) (layout : Layout) (made : CheckpointOf) → AreBytes bytes → IsBalances made.columns
    → IsRead layout bytes made → stated_layout bytes ≡ Some layout → head_fault bytes customers ≡ None → balances_fault bytes ≡ None
    → opening_fault layout bytes opening_total ≡ None → replies_fault layout bytes ≡ None → SpellsInLayout layout opening_total made bytes
taken bytes customers opening_total layout made are balances read laid_out head amounts same replies =
    let end = ends layout bytes replies in
    let is = head_is bytes customers layout laid_out head in
    let spelled = taken_spelled bytes customers layout made are is read opening_total end (total_is bytes amounts) same in
    record {
      valid = record { balances = balances; limit = omega (arith, count_is layout bytes made read, end.0); replies = spelled.0 };
      spelled = spelled.1;
    }
