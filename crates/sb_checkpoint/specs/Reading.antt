-- The fault of bytes that are read as a checkpoint: the first in order.
use Rattle.std.specs.Prelude.{FitsSigned, ◌≡◌, ℕ, ◌+◌, ◌*◌, ℤ, pos, neg_ℤ, ◌+ℤ◌, ◌<◌, ◌≤◌, int_lt, nat_lt, nat_eq, ◌==◌, Bool, true, false, ◌||◌, not, if◌then◌else◌, Option, Some, None, List, length, take, drop, get_or, map, option_and_then}
use Rattle.std.specs.Int.{w32, w64, from_be_bytes, cast_signed}
use Rattle.std.specs.List.{All, list_any, starts_with}
use Rattle.std.specs.Option.{option_or}
use Rattle.std.specs.Ordering.{int_eq}
use Rattle.std.specs.Simd.{first_chunks}
use Rattle.sb_amount.specs.declared.cents.TheConstants.{LIMIT}
use Rattle.sb_rows.specs.declared.columns.TheConstants.{CUSTOMERS}
use Rattle.sb_calls.specs.Replies.{reply_with_code}
use Rattle.sb_calls.specs.declared.call.TheConstants.{LOG_CALLS}
use Rattle.sb_calls.specs.declared.reply.Reply.{Reply}
use Rattle.lane_audit.specs.Columns.{total, is_outside}
use Rattle.sb_checkpoint.specs.Checkpoint.{CheckpointOf, Layout, First, Second, Origin, SpellsFor, SpellsInLayout, magic}
use Rattle.sb_checkpoint.specs.declared.fault.CheckpointFault.{CheckpointFault}
use Rattle.sb_checkpoint.specs.declared.fault.CheckpointFault.TheVariants.{BadMagic, Short, WrongCustomers, OutOfRange, NegativeSavings, WrongTotal, WrongOpening, BadReply, Long, OutOfMemory}

-- ---- the fields at their places

-- the layout whose magic the first eight bytes are; if there are fewer bytes, the layout whose
-- magic they begin, and the first layout if they begin both
unfoldable pub stated_layout : List ℕ → Option Layout
stated_layout bytes =
    if starts_with nat_eq (magic First) (take 8 bytes) then Some First
    else if starts_with nat_eq (magic Second) (take 8 bytes) then Some Second
    else None

abbrev pub stated_amount : List ℕ → ℤ
stated_amount cells = cast_signed w64 (from_be_bytes w64 cells)

-- the number of replies that the bytes state
unfoldable pub stated_reply_count : List ℕ → ℕ
stated_reply_count bytes = from_be_bytes w64 (take 8 (drop 8 bytes))

unfoldable pub stated_customers : List ℕ → ℕ
stated_customers bytes = from_be_bytes w32 (take 4 (drop 16 bytes))

-- this many amounts
abbrev pub amounts_at : ℕ → List ℕ → List ℤ
amounts_at count bytes = map stated_amount (first_chunks 8 count bytes)

-- the savings come first, one for each customer, then the checking balances
abbrev pub stated_savings : List ℕ → List ℤ
stated_savings bytes = amounts_at (stated_customers bytes) (drop 20 bytes)

abbrev pub stated_checking : List ℕ → List ℤ
stated_checking bytes = amounts_at (stated_customers bytes) (drop (20 + 8 * stated_customers bytes) bytes)

unfoldable pub stated_total : List ℕ → ℤ
stated_total bytes = stated_amount (take 8 (drop (20 + 16 * stated_customers bytes) bytes))

-- the opening total, which comes after the total in the second layout
unfoldable pub stated_opening : List ℕ → ℤ
stated_opening bytes = stated_amount (take 8 (drop (28 + 16 * stated_customers bytes) bytes))

-- the number of bytes of a checkpoint without customers and replies
abbrev pub empty_size : Layout → ℕ
empty_size First = 28
empty_size Second = 36

abbrev pub stated_size : Layout → List ℕ → ℕ
stated_size layout bytes = empty_size layout + 16 * stated_customers bytes + 9 * stated_reply_count bytes

-- the reply with this code and total, if there is one
unfoldable pub stated_reply : List ℕ → Option Reply
stated_reply cells = reply_with_code (get_or cells 0 0) (stated_amount (drop 1 cells))

-- each stated reply, if it is one
abbrev pub stated_replies : Layout → List ℕ → List (Option Reply)
stated_replies layout bytes = map stated_reply
    (first_chunks 9 (stated_reply_count bytes) (drop (empty_size layout + 16 * stated_customers bytes) bytes))

-- ---- the faults

abbrev pub is_no_reply : Option Reply → Bool
is_no_reply None = true
is_no_reply (Some reply) = false

abbrev pub is_past_limit : ℤ → Bool
is_past_limit = is_outside (neg_ℤ LIMIT) LIMIT

abbrev pub is_below_zero : ℤ → Bool
is_below_zero amount = int_lt amount (pos 0)

-- the fault of the head: the bytes begin otherwise, end early, or are of another bank
abbrev pub layout_fault : Option Layout → List ℕ → ℕ → Option CheckpointFault
layout_fault None bytes customers = Some BadMagic
layout_fault (Some layout) bytes customers =
    if nat_lt (length bytes) 20 || nat_lt (length bytes) (stated_size layout bytes) then Some Short
    else if not (stated_customers bytes == customers) then Some WrongCustomers
    else None

unfoldable pub head_fault : List ℕ → ℕ → Option CheckpointFault
head_fault bytes customers = layout_fault (stated_layout bytes) bytes customers

-- the balances aren't a bank's, or their sum isn't the stated total
unfoldable pub balances_fault : List ℕ → Option CheckpointFault
balances_fault bytes =
    let savings = stated_savings bytes in
    let checking = stated_checking bytes in
    if list_any is_past_limit savings || list_any is_past_limit checking then Some OutOfRange
    else if list_any is_below_zero savings then Some NegativeSavings
    else if not (int_eq (stated_total bytes) (total savings +ℤ total checking)) then Some WrongTotal
    else None

-- the opening total isn't the bank's, if the layout has one
abbrev pub opening_fault : Layout → List ℕ → ℤ → Option CheckpointFault
opening_fault First bytes opening_total = None
opening_fault Second bytes opening_total =
    if not (int_eq (stated_opening bytes) opening_total) then Some WrongOpening else None

-- a reply isn't valid, or there is too much
unfoldable pub replies_fault : Layout → List ℕ → Option CheckpointFault
replies_fault layout bytes =
    if list_any is_no_reply (stated_replies layout bytes) then Some BadReply
    else if nat_lt LOG_CALLS (stated_reply_count bytes)
    || nat_lt (stated_size layout bytes) (length bytes) then Some Long
    else None

-- the first fault after a correct head
abbrev pub fault_after_head : List ℕ → ℤ → Layout → Option CheckpointFault
fault_after_head bytes opening_total layout = option_or (balances_fault bytes)
    (option_or (opening_fault layout bytes opening_total) (replies_fault layout bytes))

-- the first fault of the bytes, if any
unfoldable pub first_fault : List ℕ → Origin → Option CheckpointFault
first_fault bytes origin = option_or (head_fault bytes origin.customers)
    (option_and_then (fault_after_head bytes origin.opening_total) (stated_layout bytes))

-- why bytes are refused: by the first fault, or, after a correct head, because memory is refused
abbrev pub IsRefusedBy : List ℕ → Origin → CheckpointFault → Type 0
IsRefusedBy bytes origin OutOfMemory = head_fault bytes origin.customers ≡ None
IsRefusedBy bytes origin fault = first_fault bytes origin ≡ Some fault

-- bytes have no fault if they spell a checkpoint, in either layout, of a bank whose opening total
-- fits an i64
abbrev pub SpellingHasNoFault : Type 0
SpellingHasNoFault = (layout : Layout) (opening_total : ℤ) (checkpoint : CheckpointOf) (bytes : List ℕ)
    → FitsSigned w64 opening_total → SpellsInLayout layout opening_total checkpoint bytes
    → first_fault bytes (record { customers = length checkpoint.columns.savings; opening_total = opening_total }) ≡ None

-- bytes without a fault, read for a bank of this many customers with an opening total that fits an
-- i64, spell a checkpoint of that many customers in one of the layouts
abbrev pub FaultlessBytesSpell : Type 0
FaultlessBytesSpell = (bytes : List ℕ) (origin : Origin) → All (λ byte. byte < 256) bytes → origin.customers ≤ CUSTOMERS
    → FitsSigned w64 origin.opening_total → first_fault bytes origin ≡ None
    → (checkpoint : CheckpointOf) × SpellsFor origin checkpoint bytes
