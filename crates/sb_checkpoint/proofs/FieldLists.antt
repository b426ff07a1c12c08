-- Amounts and replies in a row: what is read has the spelling that was there.
use Rattle.std.proofs.Common.{◌≡◌, ℕ, zero, suc, ◌+◌, ◌*◌, ◌<◌, ◌≤◌, List, [], ◌∷◌, ◌++◌, length, get_or, take, drop, map, Option, Some, sym, ap, ap₂, ◌∙◌, append_assoc, arith}
use Rattle.std.proofs.Math.Seq.{take-add}
use Rattle.std.specs.List.{AllByRecursion, All, flat_map}
use Rattle.std.specs.Simd.{first_chunks}
use Rattle.std.proofs.lemmas.List.{append-nil, length-drop, length-take-le, map-append, take_more, take_all}
use Rattle.std.proofs.lemmas.List.Concat.{flat_map-append}
use Rattle.std.proofs.lemmas.List.Elements.{All-take, All-drop, All-from_recursion}
use Rattle.sb_calls.specs.Replies.{IsReply, amount_field, reply_field}
use Rattle.sb_calls.specs.declared.reply.Reply.{Reply}
use Rattle.sb_checkpoint.specs.Reading.{amounts_at, stated_reply}
use Rattle.sb_checkpoint.proofs.IntegerFields.{AreBytes, amount_spelled, reply_spelled}

-- one more in front
front_more : (n k : ℕ) (xs : List ℕ) → take n xs ++ take (k * n) (drop n xs) ≡ take (suc k * n) xs
front_more n k xs = sym (take-add n (k * n) xs) ∙ ap (λ m. take m xs) (omega arith)

none_of : (n : ℕ) (xs : List ℕ) → [] ≡ take (0 * n) xs
none_of n xs = let none : 0 ≡ 0 * n = omega arith in ap (λ m. take m xs) none

pub amounts_spelled : (k : ℕ) (xs : List ℕ) → k * 8 ≤ length xs → AreBytes xs → flat_map amount_field (amounts_at k xs) ≡ take (k * 8) xs
amounts_spelled zero xs room h = none_of 8 xs
amounts_spelled (suc k) xs room h =
    ap₂ (λ (a b : List ℕ). a ++ b)
    (amount_spelled (take 8 xs) (length-take-le 8 xs (omega arith)) (All-take (λ byte. byte < 256) 8 xs h))
    (amounts_spelled k (drop 8 xs) (omega (arith, length-drop 8 xs)) (All-drop (λ byte. byte < 256) 8 xs h))
    ∙ front_more 8 k xs

-- replies with spellings, and the bytes that they have
record AreSpelled (replies : List Reply) (bytes : List ℕ) : Type 0 where
  valid : AllByRecursion IsReply replies
  spelled : flat_map reply_field replies ≡ bytes

abbrev some : Reply → Option Reply
some reply = Some reply

head_is : {A : Type 0} (x y : A) (xs ys : List A) → x ∷ xs ≡ y ∷ ys → x ≡ y
head_is x y xs ys e = cc

tail_is : {A : Type 0} (x y : A) (xs ys : List A) → x ∷ xs ≡ y ∷ ys → xs ≡ ys
tail_is x y xs ys e = cc

are_spelled : (replies : List Reply) (k : ℕ) (xs : List ℕ) → map some replies ≡ map stated_reply (first_chunks 9 k xs) → k * 9 ≤ length xs → AreBytes xs
    → AreSpelled replies (take (k * 9) xs)
are_spelled [] zero xs e room h = record { valid = tt; spelled = none_of 9 xs }
are_spelled [] (suc k) xs e room h = absurd cc
are_spelled (r ∷ rs) zero xs e room h = absurd cc
are_spelled (r ∷ rs) (suc k) xs e room h =
    let first = reply_spelled (take 9 xs) r (length-take-le 9 xs (omega arith)) (All-take (λ byte. byte < 256) 9 xs h) (sym (head_is _ _ _ _ e)) in
    let others = are_spelled rs k (drop 9 xs) (tail_is _ _ _ _ e) (omega (arith, length-drop 9 xs)) (All-drop (λ byte. byte < 256) 9 xs h) in
    record {
      valid = (first.0, others.valid);
      spelled = ap₂ (λ (a b : List ℕ). a ++ b) first.1 others.spelled ∙ front_more 9 k xs;
    }

pub replies_spelled : (replies : List Reply) (k : ℕ) (xs : List ℕ) → map (λ r. Some r) replies ≡ map stated_reply (first_chunks 9 k xs)
    → k * 9 ≤ length xs → AreBytes xs
    → All IsReply replies × (flat_map reply_field replies ≡ take (k * 9) xs)
replies_spelled replies k xs e room h =
    let are = are_spelled replies k xs e room h in
    (All-from_recursion IsReply replies are.valid, are.spelled)

-- one more reply is read
pub one_more_read : (cells : List (List ℕ)) (index : ℕ) (old new : List Reply) (reply : Reply) → index < length cells
    → map (λ r. Some r) old ≡ map stated_reply (take index cells) → new ≡ old ++ reply ∷ [] → stated_reply (get_or cells index []) ≡ Some reply
    → map (λ r. Some r) new ≡ map stated_reply (take (index + 1) cells)
one_more_read cells index old new reply inside before is read =
    ap (map some) is ∙ map-append some old (reply ∷ []) ∙ ap₂ (λ xs x. xs ++ x ∷ []) before (sym read)
    ∙ sym (map-append stated_reply (take index cells) (get_or cells index [] ∷ [])) ∙ ap (map stated_reply) (sym (take_more cells index [] inside))

-- ---- fields that are appended one by one

module _ {A : Type 0} (field : A → List ℕ) (values : List A) (index : ℕ) (front : List ℕ) where
  -- the field of one more value
  pub one_more : (default : A) (old new : List ℕ) → index < length values → old ≡ front ++ flat_map field (take index values)
      → new ≡ old ++ field (get_or values index default) → new ≡ front ++ flat_map field (take (index + 1) values)
  one_more default old new inside before is =
      let next = get_or values index default in
      let fields = flat_map field (take index values) in
      is ∙ ap (λ ys. ys ++ field next) before ∙ append_assoc front fields (field next)
      ∙ ap (λ ys. front ++ ys) (ap (λ ys. fields ++ ys) (sym (append-nil (field next))) ∙ sym (flat_map-append field (take index values) (next ∷ []))
      ∙ ap (flat_map field) (sym (take_more values index default inside)))

  -- the fields of all values
  pub all_there : (whole : List ℕ) → length values ≤ index → whole ≡ front ++ flat_map field (take index values) → whole ≡ front ++ flat_map field values
  all_there whole end is = is ∙ ap (λ xs. front ++ flat_map field xs) (take_all index values end)
