-- Calls with places in place of names.
use Rattle.std.specs.Prelude.{ℕ, ◌<◌, ◌==◌, if◌then◌else◌, Option, Some, None, List}
use Rattle.sb_rows.specs.Directory.{place_of}
use Rattle.sb_calls.specs.declared.call.Call.{Call}
use Rattle.sb_calls.specs.declared.call.Call.TheVariants as calls
use Rattle.sb_calls.specs.declared.op.Op.{Op}
use Rattle.sb_calls.specs.declared.op.Op.TheVariants.{Balance, DepositChecking, TransactSavings, Amalgamate, WriteCheck, SendPayment, NoCustomer, SameCustomer}

-- the op at a place, if there is one
abbrev pub at_place : (ℕ → Op) → Option ℕ → Op
at_place op None = NoCustomer
at_place op (Some place) = op place

-- the op at two places: NoCustomer if one is missing, SameCustomer if they are the same
abbrev pub at_two_places : (ℕ × ℕ → Op) → Option ℕ → Option ℕ → Op
at_two_places op None to = NoCustomer
at_two_places op (Some from) None = NoCustomer
at_two_places op (Some from) (Some to) = if from == to then SameCustomer else op (from, to)

-- the op of a call, given the names by place
abbrev pub op_of : List (List ℕ) → Call → Op
op_of directory (calls.Balance name) = at_place Balance (place_of directory name)
op_of directory (calls.DepositChecking name amount) =
    at_place (λ place. DepositChecking place amount) (place_of directory name)
op_of directory (calls.TransactSavings name amount) =
    at_place (λ place. TransactSavings place amount) (place_of directory name)
op_of directory (calls.Amalgamate from to) =
    at_two_places Amalgamate (place_of directory from) (place_of directory to)
op_of directory (calls.WriteCheck name amount) =
    at_place (λ place. WriteCheck place amount) (place_of directory name)
op_of directory (calls.SendPayment from to amount) =
    at_two_places (λ places. SendPayment places amount) (place_of directory from) (place_of directory to)

-- its places are below the number of customers
abbrev pub IsOpWithin : ℕ → Op → Type 0
IsOpWithin customers (Balance place) = place < customers
IsOpWithin customers (DepositChecking place amount) = place < customers
IsOpWithin customers (TransactSavings place amount) = place < customers
IsOpWithin customers (Amalgamate places) = (places.0 < customers) × (places.1 < customers)
IsOpWithin customers (WriteCheck place amount) = place < customers
IsOpWithin customers (SendPayment places amount) = (places.0 < customers) × (places.1 < customers)
IsOpWithin customers NoCustomer = Unit {0}
IsOpWithin customers SameCustomer = Unit {0}
