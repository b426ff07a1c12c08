-- The customer that is read from a line.
use Rattle.sb_rows.specs.Customer.{Customer}
use Rattle.sb_rows.specs.declared.customer.CustomerLine.{CustomerLine}

-- the customer on a line
abbrev pub customer : CustomerLine → Customer
customer line = record { name = line.name; savings = line.savings; checking = line.checking }
