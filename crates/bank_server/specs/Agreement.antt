-- Two replicas that agree, and how they differ.
use Rattle.std.specs.Prelude.{◌≡◌, ◌≢◌, ◌⊎◌, ◌<◌, ◌≤◌, ℕ, ℤ, Some, List, slice_get, take}
use Rattle.sb_rows.specs.Balances.{Balances}
use Rattle.sb_calls.specs.Behaviour.{declared_cowns, effect_of}
use Rattle.sb_calls.specs.Cowns.{contents_of}
use Rattle.sb_calls.specs.SerialRun.{contents_after}
use Rattle.sb_calls.specs.declared.op.Op.{Op}
use Rattle.cown_board.specs.Board.{BoardOf, length_of, unfinished_of, reply_in}
use Rattle.bank_server.specs.declared.followers.stray_reason.StrayReason.{StrayReason}
use Rattle.bank_server.specs.declared.followers.stray_reason.StrayReason.TheVariants.{NoThread, OutOfMemory, Frame, Unfinished, Entry, Customers, Customer}

-- what a board's cowns contain after all its entries; if it is idle, these are its columns
abbrev pub final_contents : BoardOf Op → List ℤ
final_contents board = contents_after declared_cowns effect_of (contents_of board.opening) board.log

-- both boards have the same length, and the same reply to each number above this one
pub record HasSameRepliesSince (from : ℕ) (one other : BoardOf Op) : Type 0 where
  pub lengths : length_of one ≡ length_of other
  pub replies : (number : ℕ) → from < number → reply_in one number ≡ reply_in other number

-- nothing that either has is unfinished, and they have the same length, the same reply to each number
-- above this one, and the same columns
pub record AgreesSince (from : ℕ) (one other : BoardOf Op) : Type 0 where
  pub one_idle : unfinished_of one ≡ 0
  pub other_idle : unfinished_of other ≡ 0
  pub same : HasSameRepliesSince from one other
  pub columns : final_contents one ≡ final_contents other

-- the same with all replies, whose numbers begin at 1
abbrev pub Agrees : BoardOf Op → BoardOf Op → Type 0
Agrees one other = AgreesSince 0 one other

-- boards that have the same replies up to a number, and agree since then, agree
abbrev pub ComparisonsAddUp : Type 0
ComparisonsAddUp = (one other : BoardOf Op) (from : ℕ)
    → ((number : ℕ) → number ≤ from → reply_in one number ≡ reply_in other number)
    → AgreesSince from one other → Agrees one other

-- to this number they have other replies, or only one has a reply; to those between `from` and it they
-- have the same
abbrev pub IsFirstReply : ℕ → BoardOf Op → BoardOf Op → ℕ → Type 0
IsFirstReply from one other number = (reply_in one number ≢ reply_in other number)
    × ((k : ℕ) → from < k → k < number → reply_in one k ≡ reply_in other k)

-- the first place at which two columns differ
abbrev pub IsFirstDifference : List ℤ → List ℤ → ℕ → Type 0
IsFirstDifference one other place = (take place one ≡ take place other) × (slice_get one place ≢ slice_get other place)

-- the first place at which savings differ, or if they don't, at which checking balances do
abbrev pub IsFirstPlace : Balances → Balances → ℕ → Type 0
IsFirstPlace one other place = IsFirstDifference one.savings other.savings place
    ⊎ ((one.savings ≡ other.savings) × IsFirstDifference one.checking other.checking place)

-- the first place at which the columns differ after all entries
pub record DiffersAt (one other : BoardOf Op) (place : ℕ) : Type 0 where
  pub left : Balances
  pub left_is : contents_of left ≡ final_contents one
  pub right : Balances
  pub right_is : contents_of right ≡ final_contents other
  pub first : IsFirstPlace left right place

-- how boards differ that don't agree since this number, where the first has these names: the first reason
-- that holds
abbrev pub DiffersSo : ℕ → List (List ℕ) → BoardOf Op → BoardOf Op → StrayReason → Type 0
DiffersSo from names one other NoThread = ⊥
DiffersSo from names one other OutOfMemory = ⊥
DiffersSo from names one other Frame = ⊥
DiffersSo from names one other Unfinished = (unfinished_of one ≢ 0) ⊎ (unfinished_of other ≢ 0)
DiffersSo from names one other (Entry number) = (unfinished_of one ≡ 0) × (unfinished_of other ≡ 0)
    × IsFirstReply from one other number
DiffersSo from names one other Customers = HasSameRepliesSince from one other
    × (final_contents one ≢ final_contents other)
DiffersSo from names one other (Customer name) = HasSameRepliesSince from one other
    × (place : ℕ) × (slice_get names place ≡ Some name) × DiffersAt one other place
