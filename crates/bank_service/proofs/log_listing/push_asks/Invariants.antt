use Rattle.std.proofs.Common.{◌≡◌, ◌++◌, take}
use Rattle.sb_rows.specs.Text.{unlines}
use Rattle.bank_service.specs.LogListing.{ask_lines_of}
use Rattle.bank_service.proofs.log_listing.push_asks.Given as goal

abbrev pub invariant-loop-before : goal.invariant-loop-before
invariant-loop-before l = l.out.items ≡ l.initial.out.items ++ unlines (ask_lines_of (take l.before l.log.log))
