use Rattle.std.proofs.Common.{◌≡◌, ◌++◌, take}
use Rattle.std.specs.List.{flat_map}
use Rattle.bank_program.specs.LineNotes.{shown_byte}
use Rattle.bank_program.proofs.line_notes.push_shown.Given as goal

abbrev pub invariant-loop-byte : goal.invariant-loop-byte
invariant-loop-byte l = l.out.items ≡ l.initial.out.items ++ flat_map shown_byte (take l.byte-index l.bytes)
