-- A code and a total that are read as a reply spell it, and what they spell is read back.
use Rattle.std.proofs.Common.{◌≡◌, ℕ, ℤ, pos, true, false, Bool, cond, eqb, Option, Some, None, refl, sym, subst, ◌∙◌, arith}
use Rattle.std.specs.Ordering.{int_eq}
use Rattle.std.proofs.lemmas.Bool.{eqb-true}
use Rattle.std.proofs.lemmas.Bool.Decides.{Decides-int_eq}
use Rattle.std.proofs.lemmas.Int.{ints}
use Rattle.sb_calls.specs.Replies.{IsTotal, IsReply, reply_code, shown_total, is_total, plain_reply, reply_with_code}
use Rattle.sb_calls.specs.declared.reply.Reply.{Reply}
use Rattle.sb_calls.specs.declared.reply.Reply.TheVariants.{Shown, Done, Penalised, NoCustomer, SameCustomer, Negative, WouldOverdraw, OverLimit}

-- ---- totals

pub within_total : (total : ℤ) → is_total total ≡ true → IsTotal total
within_total total h = record { at_least = grind (arith, ints); at_most = grind (arith, ints) }

pub is_within_total : (total : ℤ) → IsTotal total → is_total total ≡ true
is_within_total total h = let low = h.at_least in let high = h.at_most in grind (arith, ints)

-- ---- replies

-- the code and the total are those of the reply
pub record IsCoded (code : ℕ) (total : ℤ) (reply : Reply) : Type 0 where
  pub valid : IsReply reply
  pub code_is : code ≡ reply_code reply
  pub total_is : total ≡ shown_total reply

some_is : {A : Type 0} {x y : A} → ◌≡◌ {A = Option A} (Some x) (Some y) → x ≡ y
some_is h = cc

-- one of two answers, by a test
chosen : (Goal : Type 0) (test : Bool) (first second : Option Reply) (reply : Reply) → cond test first second ≡ Some reply
    → (test ≡ true → first ≡ Some reply → Goal) → (second ≡ Some reply → Goal) → Goal
chosen Goal true first second reply e chosen_first _ = chosen_first refl e
chosen Goal false first second reply e _ otherwise = otherwise e

plain_is : (code n : ℕ) (made reply : Reply) → eqb code n ≡ true → ◌≡◌ {A = Option Reply} (Some made) (Some reply) → IsReply made
    → n ≡ reply_code made → pos 0 ≡ shown_total made → IsCoded code (pos 0) reply
plain_is code n made reply is e valid code_is total_is =
    let same = some_is e in
    subst (IsCoded code (pos 0)) same
    (record { valid = valid; code_is = eqb-true code n is ∙ code_is; total_is = total_is })

plain_takes : (code : ℕ) (reply : Reply) → plain_reply code ≡ Some reply → IsCoded code (pos 0) reply
plain_takes code reply e =
    let Goal = IsCoded code (pos 0) reply in
    let none : Option Reply = None in
    let seven : Option Reply = cond (eqb code 7) (Some OverLimit) none in
    let six : Option Reply = cond (eqb code 6) (Some WouldOverdraw) seven in
    let five : Option Reply = cond (eqb code 5) (Some Negative) six in
    let four : Option Reply = cond (eqb code 4) (Some SameCustomer) five in
    let three : Option Reply = cond (eqb code 3) (Some NoCustomer) four in
    let two : Option Reply = cond (eqb code 2) (Some Penalised) three in
    chosen Goal (eqb code 1) (Some Done) two reply e (λ is f. plain_is code 1 Done reply is f tt refl refl)
    (λ e2. chosen Goal (eqb code 2) (Some Penalised) three reply e2 (λ is f. plain_is code 2 Penalised reply is f tt refl refl)
    (λ e3. chosen Goal (eqb code 3) (Some NoCustomer) four reply e3 (λ is f. plain_is code 3 NoCustomer reply is f tt refl refl)
    (λ e4. chosen Goal (eqb code 4) (Some SameCustomer) five reply e4 (λ is f. plain_is code 4 SameCustomer reply is f tt refl refl)
    (λ e5. chosen Goal (eqb code 5) (Some Negative) six reply e5 (λ is f. plain_is code 5 Negative reply is f tt refl refl)
    (λ e6. chosen Goal (eqb code 6) (Some WouldOverdraw) seven reply e6 (λ is f. plain_is code 6 WouldOverdraw reply is f tt refl refl)
    (λ e7. chosen Goal (eqb code 7) (Some OverLimit) none reply e7 (λ is f. plain_is code 7 OverLimit reply is f tt refl refl)
    (λ last. absurd cc)))))))

shown_takes : (code : ℕ) (total : ℤ) (reply : Reply) → eqb code 0 ≡ true → cond (is_total total) (Some (Shown total)) None ≡ Some reply
    → IsCoded code total reply
shown_takes code total reply is e =
    chosen (IsCoded code total reply) (is_total total) (Some (Shown total)) None reply e
    (λ fits f. subst (IsCoded code total) (some_is f)
    (record { valid = within_total total fits; code_is = eqb-true code 0 is; total_is = refl }))
    (λ last. absurd cc)

pub reply_has_code : (code : ℕ) (total : ℤ) (reply : Reply) → reply_with_code code total ≡ Some reply → IsCoded code total reply
unfolding reply_with_code
reply_has_code code total reply e =
    let plain : Option Reply = cond (int_eq total (pos 0)) (plain_reply code) None in
    chosen (IsCoded code total reply) (eqb code 0) (cond (is_total total) (Some (Shown total)) None) plain reply e
    (shown_takes code total reply)
    (λ others. chosen (IsCoded code total reply) (int_eq total (pos 0)) (plain_reply code) None reply others
    (λ zero f. subst (λ t. IsCoded code t reply) (sym ((Decides-int_eq total (pos 0)).0 zero)) (plain_takes code reply f))
    (λ last. absurd cc))

pub reply_read_back : (reply : Reply) → IsReply reply → reply_with_code (reply_code reply) (shown_total reply) ≡ Some reply
unfolding reply_with_code
reply_read_back (Shown total) h = rw (is_within_total total h) refl
reply_read_back Done h = refl
reply_read_back Penalised h = refl
reply_read_back NoCustomer h = refl
reply_read_back SameCustomer h = refl
reply_read_back Negative h = refl
reply_read_back WouldOverdraw h = refl
reply_read_back OverLimit h = refl
