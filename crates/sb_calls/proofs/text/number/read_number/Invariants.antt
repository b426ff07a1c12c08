use Rattle.std.proofs.Common.{◌≡◌, ◌-◌, ◌^◌, min, true, take}
use Rattle.std.specs.Char.{is_ascii_digit}
use Rattle.std.specs.List.{list_all}
use Rattle.std.specs.Str.Parse.{digits_value}
use Rattle.sb_calls.proofs.text.number.read_number.Given as goal

-- the bytes so far are digits, and the number is what they spell, capped at the greatest `u64`
abbrev pub invariant-loop-byte : goal.invariant-loop-byte
invariant-loop-byte l = record {
  digits : list_all is_ascii_digit (take l.byte-index l.text) ≡ true;
  value : l.number ≡ min (digits_value 10 (take l.byte-index l.text)) (2 ^ 64 - 1);
}
