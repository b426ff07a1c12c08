use Rattle.std.proofs.Common.{◌≡◌, ℕ, List, ◌++◌, ◌≤◌, sym, subst, ap, ap₂, ◌∙◌}
use Rattle.std.specs.Int.{w32, w64}
use Rattle.std.specs.Prelude.{FitsSigned}
use Rattle.std.proofs.lemmas.Int.{to_z-of_z}
use Rattle.std.specs.List.{flat_map}
use Rattle.sb_calls.specs.Replies.{integer_field, amount_field, reply_field}
use Rattle.sb_calls.specs.declared.call.TheConstants.{LOG_CALLS}
use Rattle.sb_checkpoint.specs.Checkpoint.{Second, magic, checkpoint_spelling}
use Rattle.sb_checkpoint.proofs.writing.Draft.begin.Goals as goal

-- what was written continues with a field
goes_on : (whole front wanted field wanted_field : List ℕ) → whole ≡ front ++ field → front ≡ wanted → field ≡ wanted_field
    → whole ≡ wanted ++ wanted_field
goes_on whole front wanted field wanted_field is same same_field = is ∙ ap₂ (λ (xs ys : List ℕ). xs ++ ys) same same_field

pub returns-clause-begins : goal.returns-clause-begins
unfolding checkpoint_spelling
returns-clause-begins c all same valid =
    let total_fits : FitsSigned w64 c.bank_total.result = record { sfits = c.bank_total.type_inv } in
    let begins = c.put_bytes.ensures.items ∙ ap (λ front. front ++ magic Second) c.in_ok-bytes.ensures.items in
    let size = goes_on _ _ _ _ _ c.put_length.ensures.items begins (ap (integer_field w64) (sym same)) in
    let customers = goes_on _ _ _ _ _ c.put_customers.ensures.items size (ap (integer_field w32) c.customers-customers.ensures.value) in
    let savings = goes_on _ _ _ _ _ c.put_amounts.ensures.items customers (ap (flat_map amount_field) c.savings.ensures) in
    let checking = goes_on _ _ _ _ _ c.put_amounts-2.ensures.items savings (ap (flat_map amount_field) c.checking.ensures) in
    let amounts = goes_on _ _ _ _ _ c.put_amount.ensures.items checking (ap amount_field (to_z-of_z w64 _ total_fits ∙ c.bank_total.ensures.value)) in
    let opening = goes_on _ _ _ _ _ c.put_amount-2.ensures.items amounts (ap amount_field (to_z-of_z w64 _ c.ranges.opening_total)) in
    record {
      valid = record { balances = c.customers-customers.ensures.valid; limit = subst (λ n. n ≤ LOG_CALLS) (sym same) c.requires.limit; replies = valid };
      spelled = ap (λ front. front ++ flat_map reply_field all) opening;
    }
