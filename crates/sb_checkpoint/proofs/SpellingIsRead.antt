-- A spelling is read as what it spells, and without a fault.
use Rattle.std.proofs.Common.{◌≡◌, ℕ, ◌+◌, ◌*◌, ℤ, ◌+ℤ◌, Bool, true, false, not, cond, eqb, ltb, ◌||◌, Option, Some, None, List, [], ◌∷◌, ◌++◌, length, take, drop, get_or, map, refl, sym, subst, ap, ap₂, ◌∙◌, arith}
use Rattle.std.specs.Prelude.{FitsSigned, nat_eq}
use Rattle.std.specs.Int.{w32, w64, from_be_bytes}
use Rattle.std.specs.List.{flat_map, list_any, starts_with}
use Rattle.std.specs.Ordering.{int_eq}
use Rattle.std.specs.Simd.{first_chunks}
use Rattle.std.proofs.lemmas.Bool.{le-ltb, eq-eqb}
use Rattle.std.proofs.lemmas.Bool.Decides.{Decides-int_eq}
use Rattle.std.proofs.lemmas.List.{append-nil, append_assoc, length-drop}
use Rattle.std.proofs.lemmas.List.Elements.{recursion_from_All}
use Rattle.sb_rows.specs.Balances.{IsBalances}
use Rattle.sb_calls.specs.Replies.{IsReply, integer_field, amount_field, reply_field}
use Rattle.sb_calls.specs.declared.reply.Reply.{Reply}
use Rattle.lane_audit.specs.Columns.{total}
use Rattle.sb_checkpoint.specs.Checkpoint.{CheckpointOf, Layout, First, Second, OneCheckpoint, Origin, SpellsInLayout, magic, opening_field, checkpoint_spelling}
use Rattle.sb_checkpoint.specs.Reading.{SpellingHasNoFault, stated_amount, amounts_at, balances_fault, empty_size, head_fault, is_below_zero, is_past_limit, layout_fault, opening_fault, stated_layout, stated_opening, stated_reply, stated_checking, stated_customers, stated_reply_count, stated_savings, stated_size, stated_total}
use Rattle.sb_checkpoint.specs.declared.fault.CheckpointFault.{CheckpointFault}
use Rattle.sb_checkpoint.specs.declared.fault.CheckpointFault.TheVariants.{Short, WrongCustomers, OutOfRange, NegativeSavings, WrongTotal, WrongOpening}
use Rattle.sb_checkpoint.proofs.Balances.{amounts_fit, none_negative, none_past_limit, savings_within, total_fits}
use Rattle.sb_checkpoint.proofs.FaultOrder.{no_fault, replies_without_fault}
use Rattle.sb_checkpoint.proofs.ReadIsSpelling.{IsRead, opening_size, with_opening}
use Rattle.sb_checkpoint.proofs.FieldsInOrder.{IsAt, step, number32_size, number64_size, number32_again, number64_again, amount_again, amounts_size, amounts_again, replies_size, replies_again}

-- what is read from a spelling
pub record IsReadBack (layout : Layout) (opening_total : ℤ) (bytes : List ℕ) (made : CheckpointOf) : Type 0 where
  pub begins : take 8 bytes ≡ magic layout
  pub count : stated_reply_count bytes ≡ length made.replies
  pub many : stated_customers bytes ≡ length made.columns.savings
  pub sum : stated_total bytes ≡ total made.columns.savings +ℤ total made.columns.checking
  pub opening : take (opening_size layout) (drop (28 + 16 * stated_customers bytes) bytes) ≡ opening_field layout opening_total
  pub size : length bytes ≡ stated_size layout bytes
  pub read : IsRead layout bytes made

regrouped : (a b c d e f g h : List ℕ) → a ++ b ++ c ++ d ++ e ++ f ++ g ++ h ≡ a ++ (b ++ (c ++ (d ++ (e ++ (f ++ (g ++ (h ++ [])))))))
regrouped a b c d e f g h = simp (append_assoc, append-nil)

magic_size : (layout : Layout) → length (magic layout) ≡ 8
magic_size First = refl
magic_size Second = refl

opening_sized : (layout : Layout) (opening_total : ℤ) → length (opening_field layout opening_total) ≡ opening_size layout
opening_sized First opening_total = refl
opening_sized Second opening_total = number64_size _

module _ (layout : Layout) (opening_total : ℤ) (made : CheckpointOf) (bytes : List ℕ) (is : SpellsInLayout layout opening_total made bytes) where
  starts : let columns = made.columns in
      IsAt bytes 0 (magic layout ++ (integer_field w64 (length made.replies) ++ (integer_field w32 (length columns.savings)
      ++ (flat_map amount_field columns.savings ++ (flat_map amount_field columns.checking
      ++ (amount_field (total columns.savings +ℤ total columns.checking) ++ (opening_field layout opening_total
      ++ (flat_map reply_field made.replies ++ []))))))))
  unfolding checkpoint_spelling
  starts = record {
    within = omega arith;
    behind = is.spelled
        ∙ regrouped (magic layout) (integer_field w64 (length made.replies)) (integer_field w32 (length made.columns.savings))
        (flat_map amount_field made.columns.savings) (flat_map amount_field made.columns.checking)
        (amount_field (total made.columns.savings +ℤ total made.columns.checking)) (opening_field layout opening_total) (flat_map reply_field made.replies);
  }

  pub read_back : IsReadBack layout opening_total bytes made
  unfolding stated_reply_count stated_customers stated_total
  read_back =
      let m = length made.replies in
      let n = length made.columns.savings in
      let e = empty_size layout in
      let sized = with_opening layout in
      let valid = is.valid in
      let few = valid.limit in
      let customers = valid.balances.limit in
      let same : length made.columns.checking ≡ n = sym valid.balances.same in
      let p0 = step bytes 0 8 8 (magic layout) _ (magic_size layout) (omega arith) starts in
      let p1 = step bytes 8 8 16 _ _ (number64_size m) (omega arith) p0.1 in
      let p2 = step bytes 16 4 20 _ _ (number32_size n) (omega arith) p1.1 in
      let p3 = step bytes 20 (8 * n) (20 + 8 * n) _ _ (amounts_size made.columns.savings) (omega arith) p2.1 in
      let p4 = step bytes (20 + 8 * n) (8 * n) (20 + 16 * n) _ _ (amounts_size made.columns.checking ∙ ap (λ k. 8 * k) same) (omega arith) p3.1 in
      let p5 = step bytes (20 + 16 * n) 8 (28 + 16 * n) _ _ (number64_size _) (omega arith) p4.1 in
      let p6 = step bytes (28 + 16 * n) (opening_size layout) (e + 16 * n) _ _ (opening_sized layout opening_total) (omega arith) p5.1 in
      let p7 = step bytes (e + 16 * n) (9 * m) (e + 16 * n + 9 * m) _ _ (replies_size made.replies) (omega arith) p6.1 in
      let count : stated_reply_count bytes ≡ m = ap (from_be_bytes w64) p1.0 ∙ number64_again m (omega arith) in
      let many : stated_customers bytes ≡ n = ap (from_be_bytes w32) p2.0 ∙ number32_again n (omega arith) in
      let savings = ap (λ k. amounts_at k (drop 20 bytes)) many ∙ ap (amounts_at n) p2.1.behind
      ∙ amounts_again n made.columns.savings _ refl (amounts_fit made.columns.savings (savings_within made.columns.savings valid.balances.savings)) in
      let checking = ap (λ k. amounts_at k (drop (20 + 8 * k) bytes)) many ∙ ap (amounts_at n) p3.1.behind
      ∙ amounts_again n made.columns.checking _ same (amounts_fit made.columns.checking valid.balances.checking) in
      let replies = ap (λ k. map stated_reply (first_chunks 9 k (drop (e + 16 * stated_customers bytes) bytes))) count
      ∙ ap (λ k. map stated_reply (first_chunks 9 m (drop (e + 16 * k) bytes))) many ∙ ap (λ xs. map stated_reply (first_chunks 9 m xs)) p6.1.behind
      ∙ replies_again made.replies [] (recursion_from_All IsReply made.replies valid.replies) in
      let end : length bytes ≡ e + 16 * n + 9 * m = omega (arith, p7.1.within, length-drop (e + 16 * n + 9 * m) bytes, ap length p7.1.behind) in
      record {
        begins = p0.0;
        count = count;
        many = many;
        sum = ap (λ k. stated_amount (take 8 (drop (20 + 16 * k) bytes))) many ∙ ap stated_amount p5.0
            ∙ amount_again (total made.columns.savings +ℤ total made.columns.checking) (total_fits made.columns valid.balances);
        opening = ap (λ k. take (opening_size layout) (drop (28 + 16 * k) bytes)) many ∙ p6.0;
        size = end ∙ ap₂ (λ j k. e + 16 * j + 9 * k) (sym many) (sym count);
        read = record { savings = sym savings; checking = sym checking; replies = sym replies };
      }

-- ---- bytes are of one checkpoint

same_replies : (xs ys : List Reply) → map (λ r. Some r) xs ≡ map (λ r. Some r) ys → xs ≡ ys
same_replies [] [] e = refl
same_replies [] (y ∷ ys) e = absurd cc
same_replies (x ∷ xs) [] e = absurd cc
same_replies (x ∷ xs) (y ∷ ys) e =
    let first : x ≡ y = cc in
    let others : map (λ r. Some r) xs ≡ map (λ r. Some r) ys = cc in
    ap₂ ◌∷◌ first (same_replies xs ys others)

made_of : List ℤ → List ℤ → List Reply → CheckpointOf
made_of savings checking replies = record { columns = record { savings = savings; checking = checking }; replies = replies }

one_layout : (k l : Layout) → magic k ≡ magic l → k ≡ l
one_layout First First e = refl
one_layout First Second e = absurd (omega (arith, ap (λ (xs : List ℕ). get_or xs 7 0) e))
one_layout Second First e = absurd (omega (arith, ap (λ (xs : List ℕ). get_or xs 7 0) e))
one_layout Second Second e = refl

same_read : (layout : Layout) (a b : CheckpointOf) (bytes : List ℕ) → IsRead layout bytes a → IsRead layout bytes b → a ≡ b
unfolding made_of
same_read layout a b bytes left right =
    ap (λ savings. made_of savings a.columns.checking a.replies) (left.savings ∙ sym right.savings)
    ∙ ap (λ checking. made_of b.columns.savings checking a.replies) (left.checking ∙ sym right.checking)
    ∙ ap (made_of b.columns.savings b.columns.checking) (same_replies a.replies b.replies (left.replies ∙ sym right.replies))

pub one_checkpoint : OneCheckpoint
one_checkpoint k l t u a b bytes is_a is_b =
    let left = read_back k t a bytes is_a in
    let right = read_back l u b bytes is_b in
    let same = one_layout k l (sym left.begins ∙ right.begins) in
    (same, same_read l a b bytes (subst (λ layout. IsRead layout bytes a) same left.read) right.read)

-- ---- no fault

abbrev Found : Type 0
Found = Option CheckpointFault

passes : (test : Bool) (fault : CheckpointFault) (later : Found) → test ≡ false → later ≡ None → cond test (Some fault) later ≡ None
passes true fault later fails done = absurd cc
passes false fault later fails done = done

neither : (a b : Bool) → a ≡ false → b ≡ false → (a || b) ≡ false
neither true b fails done = absurd cc
neither false b fails done = done

module _ (layout : Layout) (opening_total : ℤ) (made : CheckpointOf) (bytes : List ℕ) (valid : IsBalances made.columns)
    (back : IsReadBack layout opening_total bytes made) where
  is_laid_out : stated_layout bytes ≡ Some layout
  unfolding stated_layout
  is_laid_out =
      ap (λ (front : List ℕ). cond (starts_with nat_eq (magic First) front) (Some First) (cond (starts_with nat_eq (magic Second) front) (Some Second) none))
      back.begins ∙ begun layout
    where
      none : Option Layout
      none = None

      begun : (layout : Layout) → cond (starts_with nat_eq (magic First) (magic layout)) (Some First)
          (cond (starts_with nat_eq (magic Second) (magic layout)) (Some Second) none) ≡ Some layout
      begun First = refl
      begun Second = refl

  no_head_fault : head_fault bytes (length made.columns.savings) ≡ None
  unfolding head_fault
  no_head_fault =
      ap (λ (found : Option Layout). layout_fault found bytes (length made.columns.savings)) is_laid_out
      ∙ passes (ltb (length bytes) 20 || ltb (length bytes) (stated_size layout bytes)) Short _
      (neither (ltb (length bytes) 20) (ltb (length bytes) (stated_size layout bytes)) (le-ltb _ _ (omega (arith, back.size, with_opening layout)))
      (le-ltb _ _ (omega (arith, back.size))))
      (passes (not (eqb (stated_customers bytes) (length made.columns.savings))) WrongCustomers None (ap not (eq-eqb _ _ back.many)) refl)

  no_balances_fault : balances_fault bytes ≡ None
  unfolding balances_fault
  no_balances_fault =
      let savings = stated_savings bytes in
      let checking = stated_checking bytes in
      let is_total = back.sum ∙ ap₂ (λ a b. total a +ℤ total b) back.read.savings back.read.checking in
      passes (list_any is_past_limit savings || list_any is_past_limit checking) OutOfRange _
      (neither (list_any is_past_limit savings) (list_any is_past_limit checking)
      (ap (list_any is_past_limit) (sym back.read.savings) ∙ none_past_limit made.columns.savings (savings_within made.columns.savings valid.savings))
      (ap (list_any is_past_limit) (sym back.read.checking) ∙ none_past_limit made.columns.checking valid.checking))
      (passes (list_any is_below_zero savings) NegativeSavings _
      (ap (list_any is_below_zero) (sym back.read.savings) ∙ none_negative made.columns.savings valid.savings)
      (passes (not (int_eq (stated_total bytes) (total savings +ℤ total checking))) WrongTotal None (ap not ((Decides-int_eq _ _).1 is_total)) refl))

no_opening_fault : (layout : Layout) (opening_total : ℤ) (bytes : List ℕ) → FitsSigned w64 opening_total
    → take (opening_size layout) (drop (28 + 16 * stated_customers bytes) bytes) ≡ opening_field layout opening_total
    → opening_fault layout bytes opening_total ≡ None
unfolding stated_opening
no_opening_fault First opening_total bytes fits there = refl
no_opening_fault Second opening_total bytes fits there =
    passes (not (int_eq (stated_opening bytes) opening_total)) WrongOpening None
    (ap not ((Decides-int_eq _ _).1 (ap stated_amount there ∙ amount_again opening_total fits))) refl

pub spelling_has_no_fault : SpellingHasNoFault
spelling_has_no_fault layout opening_total made bytes fits is =
    let back = read_back layout opening_total made bytes is in
    let origin : Origin = record { customers = length made.columns.savings; opening_total = opening_total } in
    no_fault bytes origin layout (is_laid_out layout opening_total made bytes is.valid.balances back)
    (no_head_fault layout opening_total made bytes is.valid.balances back) (no_balances_fault layout opening_total made bytes is.valid.balances back)
    (no_opening_fault layout opening_total bytes fits back.opening)
    (replies_without_fault layout bytes made.replies back.read.replies (omega (arith, back.count, is.valid.limit)) (omega (arith, back.size)))
