-- Two asks are the same, or they aren't.
use Rattle.std.proofs.Common.{◌≡◌, ◌⊎◌, inl, inr, ℕ, zero, suc, ℤ, pos, Bool, List, [], refl, sym, ap, ◌∙◌}
use Rattle.std.specs.Ordering.{int_eq}
use Rattle.std.specs.Str.{bytes_eq}
use Rattle.std.specs.Bool.{Decides}
use Rattle.std.proofs.lemmas.Bool.{cases_Bool, cases_eq, true≢false}
use Rattle.std.proofs.lemmas.Bool.Decides.{Decides-int_eq}
use Rattle.std.proofs.lemmas.Slice.Eq.{bytes_eq-Decides}
use Rattle.sb_calls.specs.declared.ask.Key.{Key}
use Rattle.sb_calls.specs.declared.call.Call.{Call}
use Rattle.sb_calls.specs.declared.call.Call.TheVariants.{Balance, DepositChecking, TransactSavings, Amalgamate, WriteCheck, SendPayment}

-- they are the same, or they aren't
abbrev pub SameOrNot : {A : Type 0} → A → A → Type 0
SameOrNot a b = (a ≡ b) ⊎ (a ≡ b → ⊥)

decided : {A : Type 0} (r : Bool) (a b : A) → Decides r (a ≡ b) → SameOrNot a b
decided r a b decides = elim (cases_Bool r) [
  | inl so ↦ inl (decides.0 so)
  | inr not_so ↦ inr (λ same. true≢false (sym (decides.1 same) ∙ not_so))
]

-- ---- a call in parts

-- which procedure it calls, the names, and the amount; a part that it doesn't have is empty
record Parts : Type 0 where
  procedure : ℕ
  one : List ℕ
  other : List ℕ
  amount : ℤ

parts_of : Call → Parts
parts_of (Balance name) = record { procedure = 0; one = name; other = []; amount = pos 0 }
parts_of (DepositChecking name cents) = record { procedure = 1; one = name; other = []; amount = cents }
parts_of (TransactSavings name cents) = record { procedure = 2; one = name; other = []; amount = cents }
parts_of (Amalgamate name to) = record { procedure = 3; one = name; other = to; amount = pos 0 }
parts_of (WriteCheck name cents) = record { procedure = 4; one = name; other = []; amount = cents }
parts_of (SendPayment name to cents) = record { procedure = 5; one = name; other = to; amount = cents }

call_of : ℕ → List ℕ → List ℕ → ℤ → Call
call_of zero one other amount = Balance one
call_of (suc zero) one other amount = DepositChecking one amount
call_of (suc (suc zero)) one other amount = TransactSavings one amount
call_of (suc (suc (suc zero))) one other amount = Amalgamate one other
call_of (suc (suc (suc (suc zero)))) one other amount = WriteCheck one amount
call_of (suc (suc (suc (suc (suc n))))) one other amount = SendPayment one other amount

-- the parts make the call again
whole : (call : Call) → call_of (parts_of call).procedure (parts_of call).one (parts_of call).other (parts_of call).amount ≡ call
unfolding call_of parts_of
whole (Balance name) = refl
whole (DepositChecking name cents) = refl
whole (TransactSavings name cents) = refl
whole (Amalgamate name to) = refl
whole (WriteCheck name cents) = refl
whole (SendPayment name to cents) = refl

same_call_or_not : (a b : Call) → SameOrNot a b
same_call_or_not a b =
    by (cases_eq p.procedure q.procedure) (decided (bytes_eq p.one q.one) p.one q.one (bytes_eq-Decides p.one q.one))
    (decided (bytes_eq p.other q.other) p.other q.other (bytes_eq-Decides p.other q.other))
    (decided (int_eq p.amount q.amount) p.amount q.amount (Decides-int_eq p.amount q.amount))
  where
    p : Parts
    p = parts_of a

    q : Parts
    q = parts_of b

    by : SameOrNot p.procedure q.procedure → SameOrNot p.one q.one → SameOrNot p.other q.other → SameOrNot p.amount q.amount → SameOrNot a b
    by (inl procedure) (inl one) (inl other) (inl amount) =
        inl (sym (whole a) ∙ (λ j. call_of (procedure j) (one j) (other j) (amount j)) ∙ whole b)
    by (inr differs) one other amount = inr (λ same. differs (ap (λ c. (parts_of c).procedure) same))
    by (inl procedure) (inr differs) other amount = inr (λ same. differs (ap (λ c. (parts_of c).one) same))
    by (inl procedure) (inl one) (inr differs) amount = inr (λ same. differs (ap (λ c. (parts_of c).other) same))
    by (inl procedure) (inl one) (inl other) (inr differs) = inr (λ same. differs (ap (λ c. (parts_of c).amount) same))

-- ---- an ask

same_key_or_not : (a b : Key) → SameOrNot a b
same_key_or_not a b = by (cases_eq a.client b.client) (cases_eq a.request b.request)
  where
    by : SameOrNot a.client b.client → SameOrNot a.request b.request → SameOrNot a b
    by (inl client) (inl request) = inl (λ j. record { client = client j; request = request j })
    by (inr differs) request = inr (λ same. differs (ap (λ k. k.client) same))
    by (inl client) (inr differs) = inr (λ same. differs (ap (λ k. k.request) same))

pub same_ask_or_not : (a b : Key × Call) → SameOrNot a b
same_ask_or_not a b = by (same_key_or_not a.0 b.0) (same_call_or_not a.1 b.1)
  where
    by : SameOrNot a.0 b.0 → SameOrNot a.1 b.1 → SameOrNot a b
    by (inl key) (inl call) = inl (λ j. (key j, call j))
    by (inr differs) call = inr (λ same. differs (ap (λ ask. ask.0) same))
    by (inl key) (inr differs) = inr (λ same. differs (ap (λ ask. ask.1) same))
