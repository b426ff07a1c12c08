-- The faults of bytes for the bank that was read from them are those for the bank that they state.
use Rattle.std.proofs.Common.{◌≡◌, ℕ, ◌≤◌, ◌<◌, min, ℤ, pos, Bool, not, cond, eqb, ltb, ◌||◌, Option, Some, None, List, length, take, refl, sym, ap, ◌∙◌, inl, inr}
use Rattle.std.specs.Option.{option_or, option_and_then, unwrap_or}
use Rattle.std.proofs.lemmas.Bool.{cases_lt, lt-ltb}
use Rattle.sb_rows.specs.declared.columns.TheConstants.{CUSTOMERS}
use Rattle.sb_checkpoint.specs.Checkpoint.{Layout, First, Second, Origin, magic}
use Rattle.sb_checkpoint.specs.Reading.{IsRefusedBy, fault_after_head, first_fault, head_fault, layout_fault, stated_customers, stated_layout, stated_opening, stated_size}
use Rattle.sb_checkpoint.specs.declared.fault.CheckpointFault.{CheckpointFault}
use Rattle.sb_checkpoint.specs.declared.fault.CheckpointFault.TheVariants.{BadMagic, Short, WrongCustomers, OutOfRange, NegativeSavings, WrongTotal, WrongOpening, BadReply, Long, OutOfMemory}
use Rattle.sb_checkpoint.proofs.ReadIsSpelling.{head_is}
use Rattle.checkpoint_text.specs.Listing.{opening_in}
use Rattle.checkpoint_text.specs.Origins.{stated_origin}

abbrev Found : Type 0
Found = Option CheckpointFault

-- a head that is too short is that for any number of customers
too_short : (layout : Layout) (bytes : List ℕ) (customers : ℕ) → length bytes < 20 → layout_fault (Some layout) bytes customers ≡ Some Short
too_short layout bytes customers short =
    ap (λ (test : Bool). cond (test || ltb (length bytes) (stated_size layout bytes)) (Some Short)
    (cond (not (eqb (stated_customers bytes) customers)) (Some WrongCustomers) nothing)) (lt-ltb (length bytes) 20 short)
  where
    nothing : Found
    nothing = None

-- a bank was read from bytes: its customers if they are stated, and its opening total if there is one
module _ (bytes : List ℕ) (origin : Origin) (found : Option ℤ)
    (few : 20 ≤ length bytes → origin.customers ≡ min (stated_customers bytes) CUSTOMERS)
    (opens : (layout : Layout) → 20 ≤ length bytes → take 8 bytes ≡ magic layout → stated_size layout bytes ≤ length bytes
    → found ≡ opening_in layout (stated_opening bytes))
    (is : origin.opening_total ≡ unwrap_or found (pos 0)) where
  pub same_head_fault : head_fault bytes origin.customers ≡ head_fault bytes (min (stated_customers bytes) CUSTOMERS)
  unfolding head_fault
  same_head_fault = by_layout (stated_layout bytes)
    where
      by_layout : (layout : Option Layout) → layout_fault layout bytes origin.customers ≡ layout_fault layout bytes (min (stated_customers bytes) CUSTOMERS)
      by_layout None = refl
      by_layout (Some layout) =
          elim (cases_lt (length bytes) 20) [
            | inl short ↦ too_short layout bytes origin.customers short ∙ sym (too_short layout bytes (min (stated_customers bytes) CUSTOMERS) short)
            | inr long ↦ ap (layout_fault (Some layout) bytes) (few long)
          ]

  same_after_head : head_fault bytes (min (stated_customers bytes) CUSTOMERS) ≡ None
      → option_and_then (fault_after_head bytes origin.opening_total) (stated_layout bytes)
      ≡ option_and_then (fault_after_head bytes (stated_opening bytes)) (stated_layout bytes)
  same_after_head right = by_layout (stated_layout bytes) refl
    where
      by_layout : (layout : Option Layout) → stated_layout bytes ≡ layout → option_and_then (fault_after_head bytes origin.opening_total) layout
          ≡ option_and_then (fault_after_head bytes (stated_opening bytes)) layout
      by_layout None laid_out = refl
      by_layout (Some First) laid_out = refl
      by_layout (Some Second) laid_out =
          let head = head_is bytes (min (stated_customers bytes) CUSTOMERS) Second laid_out right in
          ap (λ (total : ℤ). fault_after_head bytes total Second)
          (is ∙ ap (λ (total : Option ℤ). unwrap_or total (pos 0)) (opens Second head.long head.begins head.room))

  pub same_first_fault : first_fault bytes origin ≡ first_fault bytes (stated_origin bytes)
  unfolding first_fault
  same_first_fault =
      ap (λ (head : Found). option_or head (option_and_then (fault_after_head bytes origin.opening_total) (stated_layout bytes))) same_head_fault
      ∙ by_head (head_fault bytes (min (stated_customers bytes) CUSTOMERS)) refl
    where
      by_head : (head : Found) → head_fault bytes (min (stated_customers bytes) CUSTOMERS) ≡ head
          → option_or head (option_and_then (fault_after_head bytes origin.opening_total) (stated_layout bytes))
          ≡ option_or head (option_and_then (fault_after_head bytes (stated_opening bytes)) (stated_layout bytes))
      by_head (Some fault) e = refl
      by_head None e = same_after_head e

  pub same_refusal : (fault : CheckpointFault) → IsRefusedBy bytes origin fault → IsRefusedBy bytes (stated_origin bytes) fault
  same_refusal OutOfMemory h = sym same_head_fault ∙ h
  same_refusal BadMagic h = sym same_first_fault ∙ h
  same_refusal Short h = sym same_first_fault ∙ h
  same_refusal WrongCustomers h = sym same_first_fault ∙ h
  same_refusal OutOfRange h = sym same_first_fault ∙ h
  same_refusal NegativeSavings h = sym same_first_fault ∙ h
  same_refusal WrongTotal h = sym same_first_fault ∙ h
  same_refusal WrongOpening h = sym same_first_fault ∙ h
  same_refusal BadReply h = sym same_first_fault ∙ h
  same_refusal Long h = sym same_first_fault ∙ h

-- bytes without a fault have a right head
pub right_head : (bytes : List ℕ) (origin : Origin) → first_fault bytes origin ≡ None → head_fault bytes origin.customers ≡ None
unfolding first_fault
right_head bytes origin right = first (head_fault bytes origin.customers) _ right
  where
    first : (head later : Found) → option_or head later ≡ None → head ≡ None
    first None later e = refl
    first (Some fault) later e = absurd cc
