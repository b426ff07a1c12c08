use Rattle.std.proofs.Common.{◌≡◌, ◌++◌, drop, map}
use Rattle.sb_rows.specs.Opening.{customer_line}
use Rattle.sb_rows.specs.Text.{unlines}
use Rattle.checkpoint_text.proofs.PlaceLines.{place_customers}
use Rattle.checkpoint_text.proofs.lines.push_places.Given as goal

-- what is written and what is left to write make up all
abbrev pub invariant-loop-place : goal.invariant-loop-place
invariant-loop-place l =
    l.out.items ++ unlines (map customer_line (drop l.place (place_customers l.columns)))
    ≡ l.fn.out.items ++ unlines (map customer_line (place_customers l.columns))
