-- An opening with the balances of a checkpoint.
use Rattle.std.proofs.Common.{◌≡◌, ℕ, List, ◌∙◌}
use Rattle.sb_rows.specs.Customer.{customers_of}
use Rattle.sb_rows.specs.Opening.{opening_lines}
use Rattle.sb_rows.specs.Rows.{SameCustomers}
use Rattle.sb_rows.specs.Text.{unlines}
use Rattle.sb_rows.specs.declared.opening.Opening.{Opening}
use Rattle.sb_checkpoint.specs.Checkpoint.{CheckpointOf, SpellsFor}
use Rattle.checkpoint_text.specs.Listing.{IsOpeningListing}
use Rattle.checkpoint_text.specs.Origins.{opening_origin}
use Rattle.checkpoint_text.proofs.OpeningLines.{opening_reads_back}

pub is_opening_listing : (opening : Opening) (bytes text : List ℕ) (checkpoint : CheckpointOf)
    → SpellsFor (opening_origin opening.columns) checkpoint bytes
    → text ≡ unlines (opening_lines (customers_of opening.directory checkpoint.columns)) → IsOpeningListing opening bytes text
is_opening_listing opening bytes text checkpoint spelled is =
    let own = opening.same_customers in
    let same : SameCustomers opening.directory checkpoint.columns =
    record { names = own.names; balances = spelled.0.1.valid.balances; same_length = spelled.1 ∙ own.same_length } in
    record {
      checkpoint = checkpoint;
      spelled = spelled;
      text_is = is;
      read = rw is (opening_reads_back opening.directory checkpoint.columns same);
    }
