use Rattle.std.proofs.Common.{◌≡◌, ◌-◌, ◌<◌, true, length, take}
use Rattle.std.specs.List.{list_all}
use Rattle.sb_rows.specs.Name.{is_name_byte}
use Rattle.sb_rows.proofs.name_bytes.are_name_bytes.Given as goal

abbrev pub invariant-loop-at : goal.invariant-loop-at
invariant-loop-at l = (l.at < length l.text) × (list_all is_name_byte (take l.at l.text) ≡ true)

abbrev pub decreases-loop-at : goal.decreases-loop-at
decreases-loop-at l = length l.text - l.at
