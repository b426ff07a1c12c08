use Rattle.std.proofs.Common.{◌≡◌, ◌≤◌, length, []}
use Rattle.sb_rows.specs.Customer.{customers_of}
use Rattle.sb_rows.specs.Opening.{customers_from}
use Rattle.sb_rows.specs.Rows.{SameCustomers}
use Rattle.sb_rows.specs.Text.{lines, after_lines}
use Rattle.sb_rows.proofs.reading.read_customers.Given as goal

-- the lines so far are those of the customers so far; the rest is unread
abbrev pub invariant-loop-line : goal.invariant-loop-line
invariant-loop-line l = record {
  same : SameCustomers l.directory l.columns;
  read : customers_from (customers_of l.directory l.columns) (lines l.rest) ≡ customers_from [] (lines l.text);
  left : after_lines (length l.directory) l.text ≡ l.rest;
  shorter : length l.rest ≤ length l.text;
}

abbrev pub decreases-loop-line : goal.decreases-loop-line
decreases-loop-line l = length l.rest
