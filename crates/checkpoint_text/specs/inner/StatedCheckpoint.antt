-- A checkpoint that was read for the bank that its bytes state.
use Rattle.std.specs.Prelude.{◌≡◌, ℕ, ℤ, Option, List}
use Rattle.sb_checkpoint.specs.Checkpoint.{CheckpointOf, Layout, SpellsInLayout}
use Rattle.sb_checkpoint.specs.Reading.{stated_opening}
use Rattle.checkpoint_text.specs.Listing.{opening_in}

-- the bytes spell it in a layout that has this opening total, if any
pub record IsStatedCheckpoint (bytes : List ℕ) (checkpoint : CheckpointOf) (opening_total : Option ℤ) : Type 0 where
  pub layout : Layout
  pub spelled : SpellsInLayout layout (stated_opening bytes) checkpoint bytes
  pub opening_is : opening_total ≡ opening_in layout (stated_opening bytes)
