-- What is listed of a checkpoint.
use Rattle.std.specs.Prelude.{◌≡◌, ℕ, ℤ, Option, Some, None, Ok, List, [], ◌∷◌, ◌++◌, length, map, codes, decimal}
use Rattle.std.specs.List.{range_with_len}
use Rattle.sb_amount.specs.Money.{money}
use Rattle.sb_rows.specs.Balances.{Balances}
use Rattle.sb_rows.specs.Customer.{customers_of}
use Rattle.sb_rows.specs.Opening.{customer_line, opening_lines, opening_of}
use Rattle.sb_rows.specs.Text.{unlines}
use Rattle.sb_rows.specs.declared.opening.Opening.{Opening}
use Rattle.lane_audit.specs.Audit.{balances_total}
use Rattle.sb_checkpoint.specs.Checkpoint.{CheckpointOf, Layout, First, Second, SpellsFor, SpellsInLayout}
use Rattle.sb_checkpoint.specs.Reading.{stated_opening}
use Rattle.checkpoint_text.specs.Origins.{opening_origin}
use Rattle.checkpoint_text.specs.declared.listing.CheckpointListing.{CheckpointListing}
use Rattle.checkpoint_text.specs.declared.listing.CheckpointListing.TheVariants as listing

-- ---- the lines

-- `checkpoint LENGTH`: the number of replies
abbrev pub length_line : CheckpointOf → List ℕ
length_line checkpoint = codes "checkpoint " ++ decimal (length checkpoint.replies)

-- the opening total, if the layout keeps it
abbrev pub opening_in : Layout → ℤ → Option ℤ
opening_in First opening_total = None
opening_in Second opening_total = Some opening_total

-- `opening TOTAL`, if there is one
abbrev pub opening_total_lines : Option ℤ → List (List ℕ)
opening_total_lines None = []
opening_total_lines (Some total) = (codes "opening " ++ money total) ∷ []

-- `PLACE SAVINGS CHECKING` for each customer in opening order: an opening's line, with the place, from 0 on, for
-- the name
abbrev pub place_lines : Balances → List (List ℕ)
place_lines columns =
    let places = map decimal (range_with_len 0 (length columns.savings)) in
    map customer_line (customers_of places columns)

-- `customers COUNT`, `total TOTAL`, the line of the opening total, and the line of each place
abbrev pub balance_lines : Option ℤ → Balances → List (List ℕ)
balance_lines opening_total columns =
    (codes "customers " ++ decimal (length columns.savings)) ∷ (codes "total " ++ money (balances_total columns)) ∷
    (opening_total_lines opening_total ++ place_lines columns)

-- what is listed of a checkpoint: its length, and all balances unless it is only checked
abbrev pub listing_lines : CheckpointListing → Option ℤ → CheckpointOf → List (List ℕ)
listing_lines listing.Balances opening_total checkpoint =
    length_line checkpoint ∷ balance_lines opening_total checkpoint.columns
listing_lines listing.Check opening_total checkpoint = length_line checkpoint ∷ []

-- ---- their text

-- the bytes spell a checkpoint of some bank, and the text is its listing
pub record IsCheckpointListing (listing : CheckpointListing) (bytes text : List ℕ) : Type 0 where
  pub layout : Layout
  pub checkpoint : CheckpointOf
  pub spelled : SpellsInLayout layout (stated_opening bytes) checkpoint bytes
  pub text_is : text ≡ unlines (listing_lines listing (opening_in layout (stated_opening bytes)) checkpoint)

-- the bytes spell a checkpoint of the bank of an opening, and the text is that opening with the checkpoint's
-- balances, as which it is read to its last byte
pub record IsOpeningListing (opening : Opening) (bytes text : List ℕ) : Type 0 where
  pub checkpoint : CheckpointOf
  pub spelled : SpellsFor (opening_origin opening.columns) checkpoint bytes
  pub text_is : text ≡ unlines (opening_lines (customers_of opening.directory checkpoint.columns))
  pub read : opening_of text ≡ Ok (record {
    names = opening.directory;
    balances = checkpoint.columns;
    consumed = length text;
  })
