-- The size of a bank's total and of the changes of its calls.
use Rattle.std.proofs.Common.{◌≡◌, ℕ, zero, suc, ◌+◌, ◌<◌, ◌≤◌, ℤ, pos, ◌+ℤ◌, List, [], ◌∷◌, length, take, get_or, sym, ap, ap₂, ◌∙◌, subst, arith, w64, FitsSigned, to_z, of_z}
use Rattle.std.proofs.lemmas.Int.{ints, to_z-of_z}
use Rattle.sb_amount.specs.Limit.{IsWithinLimit}
use Rattle.sb_calls.specs.Net.{net_if_done, net_if_paid, net_of, net_sum}
use Rattle.sb_calls.specs.declared.call.Call.{Call}
use Rattle.sb_calls.specs.declared.call.Call.TheVariants.{Balance, DepositChecking, TransactSavings, Amalgamate, WriteCheck, SendPayment}
use Rattle.sb_calls.specs.declared.reply.Reply.{Reply}
use Rattle.sb_calls.specs.declared.reply.Reply.TheVariants.{Shown, Done, Penalised, NoCustomer, SameCustomer, Negative, WouldOverdraw, OverLimit}
use Rattle.sb_rows.specs.Balances.{Balances, IsBalances}
use Rattle.lane_audit.specs.Audit.{IsBankTotal}
use Rattle.lane_audit.specs.inner.NetBounds.{IsPossibleNet, HasAmountWithin}
use Rattle.lane_audit.specs.Columns.{total}
use Rattle.lane_audit.proofs.Totals.{IsBounded, total-within}

-- both columns of a bank
pub bank_bounded : (b : Balances) → IsBalances b → IsBounded 131072 (total b.savings +ℤ total b.checking)
bank_bounded b h =
    let savings = total-within b.savings (λ k d inside. (h.savings k d inside).within) in
    let checking = total-within b.checking h.checking in
    record {
      at_least = omega (arith, ints, h.limit, h.same, savings.at_least, checking.at_least);
      at_most = omega (arith, ints, h.limit, h.same, savings.at_most, checking.at_most);
    }

pub bounded_total_fits : (z : ℤ) → IsBounded 131072 z → FitsSigned w64 z
bounded_total_fits z h = omega (arith, ints, h.at_least, h.at_most)

pub opening_bounded : (cents : ℤ) → IsBankTotal cents → IsBounded 131072 cents
opening_bounded cents h = subst (IsBounded 131072) (sym h.2) (bank_bounded h.0 h.1)

pub expected_fits : (opening net : ℤ) (n : ℕ) → n ≤ 1000000 → IsBankTotal opening → IsPossibleNet n net → FitsSigned w64 (opening +ℤ net)
expected_fits opening net n few bank h =
    let bound = opening_bounded opening bank in
    omega (arith, ints, few, bound.at_least, bound.at_most, h.at_least, h.at_most)

-- the sum of two numbers that are read from their bits
pub read_sum : (a b : ℤ) → FitsSigned w64 a → FitsSigned w64 b → FitsSigned w64 (a +ℤ b)
    → FitsSigned w64 (to_z w64 (of_z w64 a) +ℤ to_z w64 (of_z w64 b)) × (to_z w64 (of_z w64 (to_z w64 (of_z w64 a) +ℤ to_z w64 (of_z w64 b))) ≡ a +ℤ b)
read_sum a b f g h =
    let plain = ap₂ (λ x y. x +ℤ y) (to_z-of_z w64 a f) (to_z-of_z w64 b g) in
    (subst (FitsSigned w64) (sym plain) h, ap (λ z. to_z w64 (of_z w64 z)) plain ∙ to_z-of_z w64 (a +ℤ b) h)

-- ---- the changes of calls

nothing : IsPossibleNet 1 (pos 0)
nothing = record { at_least = omega (arith, ints); at_most = omega (arith, ints) }

done_within : (amount : ℤ) (reply : Reply) → IsWithinLimit amount → IsPossibleNet 1 (net_if_done amount reply)
done_within amount Done h = record { at_least = omega (arith, ints, h.at_least); at_most = omega (arith, ints, h.at_most) }
done_within amount (Shown _) h = nothing
done_within amount Penalised h = nothing
done_within amount NoCustomer h = nothing
done_within amount SameCustomer h = nothing
done_within amount Negative h = nothing
done_within amount WouldOverdraw h = nothing
done_within amount OverLimit h = nothing

paid_within : (amount : ℤ) (reply : Reply) → IsWithinLimit amount → IsPossibleNet 1 (net_if_paid amount reply)
paid_within amount Done h = record { at_least = omega (arith, ints, h.at_most); at_most = omega (arith, ints, h.at_least) }
paid_within amount Penalised h = record { at_least = omega (arith, ints, h.at_most); at_most = omega (arith, ints, h.at_least) }
paid_within amount (Shown _) h = nothing
paid_within amount NoCustomer h = nothing
paid_within amount SameCustomer h = nothing
paid_within amount Negative h = nothing
paid_within amount WouldOverdraw h = nothing
paid_within amount OverLimit h = nothing

pub net_within : (call : Call) (reply : Reply) → HasAmountWithin call → IsPossibleNet 1 (net_of call reply)
net_within (Balance name) reply h = nothing
net_within (DepositChecking name amount) reply h = done_within amount reply h
net_within (TransactSavings name amount) reply h = done_within amount reply h
net_within (Amalgamate from to) reply h = nothing
net_within (WriteCheck name amount) reply h = paid_within amount reply h
net_within (SendPayment from to amount) reply h = nothing

-- one call more
net_sum-suc : (calls : List Call) (replies : List Reply) (i : ℕ) (d : Call) (e : Reply) → i < length calls → i < length replies
    → net_sum (take i calls) (take i replies) +ℤ net_of (get_or calls i d) (get_or replies i e) ≡ net_sum (take (suc i) calls) (take (suc i) replies)
net_sum-suc [] replies i d e left right = absurd (omega (arith, left))
net_sum-suc (c ∷ cs) [] i d e left right = absurd (omega (arith, right))
net_sum-suc (c ∷ cs) (r ∷ rs) zero d e left right = omega (arith, ints)
net_sum-suc (c ∷ cs) (r ∷ rs) (suc i) d e left right = omega (arith, ints, net_sum-suc cs rs i d e (omega (arith, left)) (omega (arith, right)))

pub net_sum_more : (calls : List Call) (replies : List Reply) (i : ℕ) (call : Call) (e : Reply) {one : ℤ} → i < length calls → i < length replies
    → call ≡ get_or calls i call → one ≡ net_of call (get_or replies i e)
    → net_sum (take i calls) (take i replies) +ℤ one ≡ net_sum (take (i + 1) calls) (take (i + 1) replies)
net_sum_more calls replies i call e left right here is =
    let next : suc i ≡ i + 1 = omega arith in
    ap (λ z. net_sum (take i calls) (take i replies) +ℤ z) (is ∙ ap (λ x. net_of x (get_or replies i e)) here)
    ∙ net_sum-suc calls replies i call e left right ∙ ap (λ n. net_sum (take n calls) (take n replies)) next

pub within_more : (n : ℕ) (sum net : ℤ) → IsPossibleNet n sum → IsPossibleNet 1 net → IsPossibleNet (n + 1) (sum +ℤ net)
within_more n sum net h one = record { at_least = omega (arith, ints, h.at_least, one.at_least); at_most = omega (arith, ints, h.at_most, one.at_most) }

pub net_fits : (n : ℕ) (z : ℤ) → n ≤ 1000000 → IsPossibleNet n z → FitsSigned w64 z
net_fits n z few h = omega (arith, ints, few, h.at_least, h.at_most)
