-- Bytes without a fault spell the checkpoint that their fields state.
use Rattle.std.proofs.Common.{◌≡◌, ℕ, ◌≤◌, false, Option, Some, None, List, [], ◌∷◌, map, refl, sym, ap, ◌∙◌, ◌||◌}
use Rattle.std.specs.Option.{option_or, option_and_then}
use Rattle.std.specs.List.{list_any}
use Rattle.sb_rows.specs.Balances.{IsBalances}
use Rattle.sb_rows.specs.declared.columns.TheConstants.{CUSTOMERS}
use Rattle.sb_calls.specs.declared.reply.Reply.{Reply}
use Rattle.sb_checkpoint.specs.Checkpoint.{CheckpointOf, Layout}
use Rattle.sb_checkpoint.specs.Reading.{FaultlessBytesSpell, balances_fault, fault_after_head, first_fault, head_fault, is_below_zero, is_no_reply, is_past_limit, layout_fault, opening_fault, replies_fault, stated_checking, stated_customers, stated_layout, stated_replies, stated_savings}
use Rattle.sb_checkpoint.specs.declared.fault.CheckpointFault.{CheckpointFault}
use Rattle.sb_checkpoint.specs.declared.fault.CheckpointFault.TheVariants.{OutOfRange, NegativeSavings, BadReply}
use Rattle.sb_checkpoint.proofs.Balances.{are_balances}
use Rattle.sb_checkpoint.proofs.Chunks.{length-amounts}
use Rattle.sb_checkpoint.proofs.ReadIsSpelling.{either, head_is, passed, taken}

abbrev Found : Type 0
Found = Option CheckpointFault

-- neither of two faults was found
neither_found : (first later : Found) → option_or first later ≡ None → (first ≡ None) × (later ≡ None)
neither_found None later e = (refl, e)
neither_found (Some fault) later e = absurd cc

-- places that all hold replies, and these replies
are_replies : (found : List (Option Reply)) → list_any is_no_reply found ≡ false → (replies : List Reply) × (map (λ r. Some r) replies ≡ found)
are_replies [] all = ([], refl)
are_replies (None ∷ found) all = absurd cc
are_replies (Some reply ∷ found) all =
    let others = are_replies found all in
    (reply ∷ others.0, ap (λ (rest : List (Option Reply)). Some reply ∷ rest) others.1)

stated_balances : (bytes : List ℕ) (customers : ℕ) → customers ≤ CUSTOMERS → stated_customers bytes ≡ customers → balances_fault bytes ≡ None
    → IsBalances (record { savings = stated_savings bytes; checking = stated_checking bytes })
unfolding balances_fault
stated_balances bytes customers few same e =
    let savings = stated_savings bytes in
    let checking = stated_checking bytes in
    let first = passed (list_any is_past_limit savings || list_any is_past_limit checking) OutOfRange _ e in
    let second = passed (list_any is_below_zero savings) NegativeSavings _ first.1 in
    let fit = either (list_any is_past_limit savings) (list_any is_past_limit checking) first.0 in
    are_balances savings checking customers (length-amounts (stated_customers bytes) _ ∙ same) (length-amounts (stated_customers bytes) _ ∙ same) few
    fit.0 fit.1 second.0

none_missing : (layout : Layout) (bytes : List ℕ) → replies_fault layout bytes ≡ None → list_any is_no_reply (stated_replies layout bytes) ≡ false
unfolding replies_fault
none_missing layout bytes e = (passed (list_any is_no_reply (stated_replies layout bytes)) BadReply _ e).0

-- bytes without a fault in the head have a layout
has_layout : (bytes : List ℕ) (customers : ℕ) → head_fault bytes customers ≡ None → (layout : Layout) × (stated_layout bytes ≡ Some layout)
unfolding head_fault
has_layout bytes customers e = which (stated_layout bytes) refl e
  where
    which : (found : Option Layout) → stated_layout bytes ≡ found → layout_fault found bytes customers ≡ None
        → (layout : Layout) × (stated_layout bytes ≡ Some layout)
    which None is e = absurd cc
    which (Some layout) is e = (layout, is)

pub faultless_bytes_spell : FaultlessBytesSpell
unfolding first_fault
faultless_bytes_spell bytes origin are few fits e =
    let customers = origin.customers in
    let head = neither_found (head_fault bytes customers) _ e in
    let layout = has_layout bytes customers head.0 in
    let later = sym (ap (option_and_then (fault_after_head bytes origin.opening_total)) layout.1) ∙ head.1 in
    let balances = neither_found (balances_fault bytes) _ later in
    let opening = neither_found (opening_fault layout.0 bytes origin.opening_total) (replies_fault layout.0 bytes) balances.1 in
    let replies = are_replies (stated_replies layout.0 bytes) (none_missing layout.0 bytes opening.1) in
    let same = (head_is bytes customers layout.0 layout.1 head.0).same in
    let made : CheckpointOf = record { columns = record { savings = stated_savings bytes; checking = stated_checking bytes }; replies = replies.0 } in (
      made,
      (
        (
          layout.0,
          taken bytes customers origin.opening_total layout.0 made are (stated_balances bytes customers few same balances.0)
              (record { savings = refl; checking = refl; replies = replies.1 })
              layout.1 head.0 balances.0 opening.0 opening.1,
        ),
        length-amounts (stated_customers bytes) _ ∙ same,
      ),
    )
