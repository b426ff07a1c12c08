-- The cowns that an op declares, and the op's effect on them.
use Rattle.std.specs.Prelude.{ℕ, ◌==◌, nat_lt, ℤ, pos, neg_ℤ, ◌+ℤ◌, ◌-ℤ◌, int_lt, if◌then◌else◌, List, [], ◌∷◌}
use Rattle.sb_amount.specs.declared.cents.TheConstants.{LIMIT}
use Rattle.sb_calls.specs.Cowns.{savings_cown, checking_cown}
use Rattle.sb_calls.specs.Procedures.{takes_too_much, check_cost}
use Rattle.sb_calls.specs.declared.op.Op.{Op}
use Rattle.sb_calls.specs.declared.op.Op.TheVariants.{Balance, DepositChecking, TransactSavings, Amalgamate, WriteCheck, SendPayment, NoCustomer, SameCustomer}
use Rattle.sb_calls.specs.declared.reply.Reply.{Reply}
use Rattle.sb_calls.specs.declared.reply.Reply.TheVariants as replies

-- ---- the cowns that it declares, in rising order

-- both cowns of the giver and the checking cown of the taker, in rising order; none if the two are
-- the same
abbrev pub amalgamation_cowns : ℕ → ℕ → List ℕ
amalgamation_cowns from to =
    if from == to then []
    else if nat_lt from to then savings_cown from ∷ checking_cown from ∷ checking_cown to ∷ []
    else checking_cown to ∷ savings_cown from ∷ checking_cown from ∷ []

-- the checking cowns of the payer and the payee, in rising order; none if the two are the same
abbrev pub payment_cowns : ℕ → ℕ → List ℕ
payment_cowns from to =
    if from == to then []
    else if nat_lt from to then checking_cown from ∷ checking_cown to ∷ []
    else checking_cown to ∷ checking_cown from ∷ []

-- the cowns that an op declares, in rising order
abbrev pub declared_cowns : Op → List ℕ
declared_cowns (Balance place) = savings_cown place ∷ checking_cown place ∷ []
declared_cowns (DepositChecking place amount) = checking_cown place ∷ []
declared_cowns (TransactSavings place amount) = savings_cown place ∷ []
declared_cowns (Amalgamate places) = amalgamation_cowns places.0 places.1
declared_cowns (WriteCheck place amount) = savings_cown place ∷ checking_cown place ∷ []
declared_cowns (SendPayment places amount) = payment_cowns places.0 places.1
declared_cowns NoCustomer = []
declared_cowns SameCustomer = []

-- ---- its effect: the reply, and what its cowns contain after it

-- a deposit on the checking balance; a refusal leaves the value
abbrev pub deposit_effect : ℤ → ℤ → Reply × List ℤ
deposit_effect amount checking =
    if int_lt amount (pos 0) then (replies.Negative, checking ∷ [])
    else if int_lt LIMIT (checking +ℤ amount) then (replies.OverLimit, checking ∷ [])
    else (replies.Done, (checking +ℤ amount) ∷ [])

abbrev pub savings_effect : ℤ → ℤ → Reply × List ℤ
savings_effect amount savings =
    if int_lt (savings +ℤ amount) (pos 0) then (replies.WouldOverdraw, savings ∷ [])
    else if int_lt LIMIT (savings +ℤ amount) then (replies.OverLimit, savings ∷ [])
    else (replies.Done, (savings +ℤ amount) ∷ [])

abbrev pub check_effect : ℤ → ℤ → ℤ → Reply × List ℤ
check_effect amount savings checking =
    if int_lt amount (pos 0) then (replies.Negative, savings ∷ checking ∷ [])
    else if int_lt (checking -ℤ check_cost savings checking amount) (neg_ℤ LIMIT)
    then (replies.OverLimit, savings ∷ checking ∷ [])
    else (
      if int_lt (savings +ℤ checking) amount then replies.Penalised else replies.Done,
      savings ∷ (checking -ℤ check_cost savings checking amount) ∷ [],
    )

-- an amalgamation on the values of its cowns, in order: the giver's come first, or the taker's
abbrev pub giver_first_effect : ℤ → ℤ → ℤ → Reply × List ℤ
giver_first_effect savings checking received =
    if takes_too_much ((received +ℤ savings) +ℤ checking) then (replies.OverLimit, savings ∷ checking ∷ received ∷ [])
    else (replies.Done, pos 0 ∷ pos 0 ∷ ((received +ℤ savings) +ℤ checking) ∷ [])

abbrev pub taker_first_effect : ℤ → ℤ → ℤ → Reply × List ℤ
taker_first_effect received savings checking =
    if takes_too_much ((received +ℤ savings) +ℤ checking) then (replies.OverLimit, received ∷ savings ∷ checking ∷ [])
    else (replies.Done, ((received +ℤ savings) +ℤ checking) ∷ pos 0 ∷ pos 0 ∷ [])

-- the reply to a payment, and the payer's and the payee's balance after it
abbrev pub payment : ℤ → ℤ → ℤ → Reply × ℤ × ℤ
payment amount checking received =
    if int_lt amount (pos 0) then (replies.Negative, checking, received)
    else if int_lt checking amount then (replies.WouldOverdraw, checking, received)
    else if int_lt LIMIT (received +ℤ amount) then (replies.OverLimit, checking, received)
    else (replies.Done, checking -ℤ amount, received +ℤ amount)

-- a payment on the values of its cowns, in order: the payer's comes first, or the payee's
abbrev pub payer_first_effect : ℤ → ℤ → ℤ → Reply × List ℤ
payer_first_effect amount checking received =
    let after = payment amount checking received in (after.0, after.1 ∷ after.2 ∷ [])

abbrev pub payee_first_effect : ℤ → ℤ → ℤ → Reply × List ℤ
payee_first_effect amount received checking =
    let after = payment amount checking received in (after.0, after.2 ∷ after.1 ∷ [])

-- an effect on one, two or three values; any other number of values stays, with reply NoCustomer
abbrev pub on_one_value : (ℤ → Reply × List ℤ) → List ℤ → Reply × List ℤ
on_one_value effect (v ∷ []) = effect v
on_one_value effect inputs = (replies.NoCustomer, inputs)

abbrev pub on_two_values : (ℤ → ℤ → Reply × List ℤ) → List ℤ → Reply × List ℤ
on_two_values effect (v ∷ w ∷ []) = effect v w
on_two_values effect inputs = (replies.NoCustomer, inputs)

abbrev pub on_three_values : (ℤ → ℤ → ℤ → Reply × List ℤ) → List ℤ → Reply × List ℤ
on_three_values effect (v ∷ w ∷ x ∷ []) = effect v w x
on_three_values effect inputs = (replies.NoCustomer, inputs)

-- the effect of an amalgamation between two places
abbrev pub amalgamation_effect : ℕ → ℕ → List ℤ → Reply × List ℤ
amalgamation_effect from to inputs =
    if from == to then (replies.SameCustomer, inputs)
    else if nat_lt from to then on_three_values giver_first_effect inputs
    else on_three_values taker_first_effect inputs

-- the effect of a payment between two places
abbrev pub payment_effect : ℕ → ℕ → ℤ → List ℤ → Reply × List ℤ
payment_effect from to amount inputs =
    if from == to then (replies.SameCustomer, inputs)
    else if nat_lt from to then on_two_values (payer_first_effect amount) inputs
    else on_two_values (payee_first_effect amount) inputs

-- the reply of an op, and what its cowns contain after it, if they contained these inputs
abbrev pub effect_of : Op → List ℤ → Reply × List ℤ
effect_of (Balance place) inputs =
    on_two_values (λ savings checking. (replies.Shown (savings +ℤ checking), savings ∷ checking ∷ [])) inputs
effect_of (DepositChecking place amount) inputs = on_one_value (deposit_effect amount) inputs
effect_of (TransactSavings place amount) inputs = on_one_value (savings_effect amount) inputs
effect_of (Amalgamate places) inputs = amalgamation_effect places.0 places.1 inputs
effect_of (WriteCheck place amount) inputs = on_two_values (check_effect amount) inputs
effect_of (SendPayment places amount) inputs = payment_effect places.0 places.1 amount inputs
effect_of NoCustomer inputs = (replies.NoCustomer, inputs)
effect_of SameCustomer inputs = (replies.SameCustomer, inputs)
