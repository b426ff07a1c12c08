use Rattle.sb_rows.proofs.RowsByPlace.{get-rows_of, get-rows_of_absent, rows_of-with_row}
use Rattle.sb_rows.proofs.laws.rows_by_place.Goals as goal

pub returns : goal.returns
returns c = record { read = get-rows_of; absent = get-rows_of_absent; written = rows_of-with_row }
