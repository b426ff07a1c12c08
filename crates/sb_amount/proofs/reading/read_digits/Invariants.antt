use Rattle.std.proofs.Common.{◌≡◌, ◌+◌, pos, min, nat_abs, true, take}
use Rattle.std.specs.List.{list_all, count_by}
use Rattle.sb_amount.specs.declared.cents.TheConstants.{LIMIT}
use Rattle.sb_amount.specs.Reading.{is_point, cents_of_digits}
use Rattle.sb_amount.proofs.MoneyBodies.{is_body_byte}
use Rattle.sb_amount.proofs.reading.read_digits.Given as goal

-- the bytes so far are digits and points, and what they spell is counted, up to one above the limit
abbrev pub invariant-loop-byte : goal.invariant-loop-byte
invariant-loop-byte l =
    (list_all is_body_byte (take l.byte-index l.body) ≡ true)
    × (l.size ≡ pos (min (cents_of_digits (take l.byte-index l.body)) (nat_abs LIMIT + 1)))
    × (l.points ≡ count_by is_point (take l.byte-index l.body))
