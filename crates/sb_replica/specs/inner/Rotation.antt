-- Where a replica log holds an op: in the slot of its number, counted round.
use Rattle.std.specs.Prelude.{ℕ, suc, ◌%◌, List, ◌++◌, take, drop}
use Rattle.sb_replica.specs.declared.replica_log.TheConstants.{HELD_ENTRIES}

-- a list read from an index on, round to the index before
abbrev pub rotation_from : {A : Type 0} → ℕ → List A → List A
rotation_from start items = drop start items ++ take start items

-- the slots read in the order of the numbers after a log of this length
abbrev pub in_order_after : {A : Type 0} → ℕ → List A → List A
in_order_after size items = rotation_from (suc size % HELD_ENTRIES) items
