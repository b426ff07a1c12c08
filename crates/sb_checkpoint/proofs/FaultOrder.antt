-- Faults that are tested one after another.
use Rattle.std.proofs.Common.{◌≡◌, ℕ, ◌<◌, ◌≤◌, ◌⊎◌, ℤ, ◌+ℤ◌, Bool, true, false, cond, ltb, not, ◌||◌, Option, Some, None, List, [], ◌∷◌, length, get_or, map, refl, sym, ap, ap₂, ◌∙◌, arith, inl, inr}
use Rattle.std.specs.Prelude.{◌≢◌}
use Rattle.std.specs.Option.{option_or, option_and_then}
use Rattle.std.specs.List.{list_any}
use Rattle.std.specs.Ordering.{int_eq}
use Rattle.std.proofs.lemmas.Bool.{lt-ltb, le-ltb}
use Rattle.std.proofs.lemmas.Bool.Decides.{Decides-int_eq}
use Rattle.std.proofs.lemmas.List.{get_or-map, length-map}
use Rattle.std.proofs.lemmas.List.Folds.{list_any_at}
use Rattle.lane_audit.specs.Columns.{total}
use Rattle.sb_calls.specs.declared.call.TheConstants.{LOG_CALLS}
use Rattle.sb_calls.specs.declared.reply.Reply.{Reply}
use Rattle.sb_checkpoint.specs.Checkpoint.{Layout, Origin}
use Rattle.sb_checkpoint.specs.inner.ReadingFaults.{IsFaultOf}
use Rattle.sb_checkpoint.specs.Reading.{IsRefusedBy, balances_fault, fault_after_head, first_fault, head_fault, is_below_zero, is_no_reply, is_past_limit, layout_fault, opening_fault, replies_fault, stated_checking, stated_layout, stated_reply, stated_reply_count, stated_replies, stated_savings, stated_size, stated_total}
use Rattle.sb_checkpoint.specs.declared.fault.CheckpointFault.{CheckpointFault}
use Rattle.sb_checkpoint.specs.declared.fault.CheckpointFault.TheVariants.{BadMagic, Short, WrongCustomers, OutOfRange, NegativeSavings, WrongTotal, WrongOpening, BadReply, Long, OutOfMemory}

abbrev Found : Type 0
Found = Option CheckpointFault

abbrev nothing : Found
nothing = None

-- ---- the replies

-- a place that has no reply
pub no_reply_at : (cells : List (List ℕ)) (place : ℕ) → place < length cells → None ≡ stated_reply (get_or cells place [])
    → list_any is_no_reply (map stated_reply cells) ≡ true
no_reply_at cells place inside none =
    list_any_at is_no_reply (map stated_reply cells) place None (omega (arith, length-map cells stated_reply))
    (ap is_no_reply (get_or-map stated_reply cells place [] None inside ∙ sym none))

-- replies are replies
none_of_replies : (replies : List Reply) → list_any is_no_reply (map (λ r. Some r) replies) ≡ false
none_of_replies [] = refl
none_of_replies (r ∷ replies) = none_of_replies replies

abbrev pub bad_reply : Bool → Found
bad_reply test = cond test (Some BadReply) None

module _ (layout : Layout) (bytes : List ℕ) (replies : List Reply) (read : map (λ r. Some r) replies ≡ stated_replies layout bytes) where
  -- whether there are too many replies or too many bytes
  abbrev too_much : Bool
  too_much = ltb LOG_CALLS (stated_reply_count bytes) || ltb (stated_size layout bytes) (length bytes)

  -- if all are replies, there may still be too much
  replies_then : replies_fault layout bytes ≡ cond too_much (Some Long) None
  unfolding replies_fault
  replies_then =
      ap (λ (test : Bool). cond test (Some BadReply) (cond too_much (Some Long) nothing)) (ap (list_any is_no_reply) (sym read) ∙ none_of_replies replies)

  pub replies_too_long : (LOG_CALLS < stated_reply_count bytes) ⊎ (stated_size layout bytes < length bytes) → replies_fault layout bytes ≡ Some Long
  replies_too_long long =
      let test : too_much ≡ true =
      elim long [ inl a ↦ ap (λ t. t || ltb (stated_size layout bytes) (length bytes)) (lt-ltb _ _ a) | inr b ↦ either _ (lt-ltb _ _ b) ] in
      replies_then ∙ ap (λ (t : Bool). cond t (Some Long) nothing) test
    where
      either : (a : Bool) {b : Bool} → b ≡ true → (a || b) ≡ true
      either true h = refl
      either false h = h

  pub replies_without_fault : stated_reply_count bytes ≤ LOG_CALLS → length bytes ≤ stated_size layout bytes → replies_fault layout bytes ≡ None
  replies_without_fault few short =
      let test : too_much ≡ false = ap₂ (λ a b. a || b) (le-ltb _ _ few) (le-ltb _ _ short) in
      replies_then ∙ ap (λ (t : Bool). cond t (Some Long) nothing) test

-- ---- the balances

-- the tests of columns, one after another
abbrev tested : List ℤ → List ℤ → ℤ → Found
tested savings checking stated =
    cond (list_any is_past_limit savings || list_any is_past_limit checking) (Some OutOfRange)
    (cond (list_any is_below_zero savings) (Some NegativeSavings) (cond (not (int_eq stated (total savings +ℤ total checking))) (Some WrongTotal) None))

-- columns that pass all tests
pub balances_without_fault : (bytes : List ℕ) (savings checking : List ℤ) → savings ≡ stated_savings bytes → checking ≡ stated_checking bytes
    → list_any is_past_limit savings ≡ false → list_any is_past_limit checking ≡ false → list_any is_below_zero savings ≡ false
    → stated_total bytes ≡ total savings +ℤ total checking → balances_fault bytes ≡ None
unfolding balances_fault
balances_without_fault bytes savings checking savings_are checking_are within checking_within positive same =
    ap₂ (λ xs ys. tested xs ys (stated_total bytes)) (sym savings_are) (sym checking_are)
    ∙ rw (within, checking_within, positive, (Decides-int_eq (stated_total bytes) (total savings +ℤ total checking)).1 same) refl

-- ---- one after another

-- refused memory is no fault of a head
no_memory_asked : (bytes : List ℕ) (customers : ℕ) (layout : Option Layout) → layout_fault layout bytes customers ≢ Some OutOfMemory
no_memory_asked bytes customers None e = absurd cc
no_memory_asked bytes customers (Some layout) e = neither _ _ e
  where
    neither : (short other : Bool) → cond short (Some Short) (cond other (Some WrongCustomers) None) ≢ Some OutOfMemory
    neither true other e = absurd cc
    neither false true e = absurd cc
    neither false false e = absurd cc

module _ (bytes : List ℕ) (origin : Origin) where
  -- the first fault is the head's
  pub head_refuses : (fault : CheckpointFault) → head_fault bytes origin.customers ≡ Some fault → IsRefusedBy bytes origin fault
  unfolding head_fault first_fault
  head_refuses BadMagic h = ap (λ (f : Found). option_or f (option_and_then (fault_after_head bytes origin.opening_total) (stated_layout bytes))) h
  head_refuses Short h = ap (λ (f : Found). option_or f (option_and_then (fault_after_head bytes origin.opening_total) (stated_layout bytes))) h
  head_refuses WrongCustomers h = ap (λ (f : Found). option_or f (option_and_then (fault_after_head bytes origin.opening_total) (stated_layout bytes))) h
  head_refuses OutOfRange h = ap (λ (f : Found). option_or f (option_and_then (fault_after_head bytes origin.opening_total) (stated_layout bytes))) h
  head_refuses NegativeSavings h = ap (λ (f : Found). option_or f (option_and_then (fault_after_head bytes origin.opening_total) (stated_layout bytes))) h
  head_refuses WrongTotal h = ap (λ (f : Found). option_or f (option_and_then (fault_after_head bytes origin.opening_total) (stated_layout bytes))) h
  head_refuses WrongOpening h = ap (λ (f : Found). option_or f (option_and_then (fault_after_head bytes origin.opening_total) (stated_layout bytes))) h
  head_refuses BadReply h = ap (λ (f : Found). option_or f (option_and_then (fault_after_head bytes origin.opening_total) (stated_layout bytes))) h
  head_refuses Long h = ap (λ (f : Found). option_or f (option_and_then (fault_after_head bytes origin.opening_total) (stated_layout bytes))) h
  head_refuses OutOfMemory h = absurd (no_memory_asked bytes origin.customers (stated_layout bytes) h)

module _ (bytes : List ℕ) (origin : Origin) (layout : Layout) (laid_out : stated_layout bytes ≡ Some layout)
    (head : head_fault bytes origin.customers ≡ None) where
  abbrev opening : Found
  opening = opening_fault layout bytes origin.opening_total

  behind_head : first_fault bytes origin ≡ option_or (balances_fault bytes) (option_or opening (replies_fault layout bytes))
  unfolding first_fault
  behind_head =
      let later = fault_after_head bytes origin.opening_total in
      ap (λ (f : Found). option_or f (option_and_then later (stated_layout bytes))) head ∙ ap (option_and_then later) laid_out

  -- a correct head, and then a fault or refused memory
  refused_by : (fault : CheckpointFault) → IsFaultOf (first_fault bytes origin) fault → IsRefusedBy bytes origin fault
  refused_by BadMagic h = h
  refused_by Short h = h
  refused_by WrongCustomers h = h
  refused_by OutOfRange h = h
  refused_by NegativeSavings h = h
  refused_by WrongTotal h = h
  refused_by WrongOpening h = h
  refused_by BadReply h = h
  refused_by Long h = h
  refused_by OutOfMemory h = head

  found_first : (found later : Found) (fault : CheckpointFault) → first_fault bytes origin ≡ option_or found later → IsFaultOf found fault
      → IsRefusedBy bytes origin fault
  found_first found later fault is h = refused_by fault (first fault h)
    where
      first : (fault : CheckpointFault) → IsFaultOf found fault → IsFaultOf (first_fault bytes origin) fault
      first BadMagic h = is ∙ ap (λ (f : Found). option_or f later) h
      first Short h = is ∙ ap (λ (f : Found). option_or f later) h
      first WrongCustomers h = is ∙ ap (λ (f : Found). option_or f later) h
      first OutOfRange h = is ∙ ap (λ (f : Found). option_or f later) h
      first NegativeSavings h = is ∙ ap (λ (f : Found). option_or f later) h
      first WrongTotal h = is ∙ ap (λ (f : Found). option_or f later) h
      first WrongOpening h = is ∙ ap (λ (f : Found). option_or f later) h
      first BadReply h = is ∙ ap (λ (f : Found). option_or f later) h
      first Long h = is ∙ ap (λ (f : Found). option_or f later) h
      first OutOfMemory h = tt

  pub balances_refuse : (fault : CheckpointFault) → IsFaultOf (balances_fault bytes) fault → IsRefusedBy bytes origin fault
  balances_refuse fault h = found_first (balances_fault bytes) _ fault behind_head h

  behind_balances : balances_fault bytes ≡ None → first_fault bytes origin ≡ option_or opening (replies_fault layout bytes)
  behind_balances right = behind_head ∙ ap (λ (f : Found). option_or f (option_or opening (replies_fault layout bytes))) right

  pub opening_refuses : (fault : CheckpointFault) → balances_fault bytes ≡ None → IsFaultOf opening fault → IsRefusedBy bytes origin fault
  opening_refuses fault right h = found_first opening _ fault (behind_balances right) h

  behind_opening : balances_fault bytes ≡ None → opening ≡ None → first_fault bytes origin ≡ replies_fault layout bytes
  behind_opening right same = behind_balances right ∙ ap (λ (f : Found). option_or f (replies_fault layout bytes)) same

  pub replies_refuse : (fault : CheckpointFault) → balances_fault bytes ≡ None → opening ≡ None → IsFaultOf (replies_fault layout bytes) fault
      → IsRefusedBy bytes origin fault
  replies_refuse fault right same h =
      let all : replies_fault layout bytes ≡ first_fault bytes origin = sym (behind_opening right same) in
      refused_by fault (rw all at h)

  pub no_fault : balances_fault bytes ≡ None → opening ≡ None → replies_fault layout bytes ≡ None → first_fault bytes origin ≡ None
  no_fault right same done = behind_opening right same ∙ done
