-- Customers by place, with their places for names.
use Rattle.std.proofs.Common.{◌≡◌, ℕ, ◌<◌, Some, List, [], length, map, slice_get, ap, ◌∙◌, arith, zero-add}
use Rattle.std.specs.List.{range_with_len}
use Rattle.std.specs.Prelude.{decimal}
use Rattle.std.proofs.lemmas.List.FromFn.{get_or-map-range_with_len, length-map-range_with_len}
use Rattle.std.proofs.lemmas.Option.{slice_get-get_or}
use Rattle.sb_rows.specs.Balances.{Balances}
use Rattle.sb_rows.specs.Customer.{Customer, customers_of}

abbrev pub place_names : Balances → List (List ℕ)
place_names columns = map decimal (range_with_len 0 (length columns.savings))

abbrev pub place_customers : Balances → List Customer
place_customers columns = customers_of (place_names columns) columns

pub name_of_place : (columns : Balances) (place : ℕ) → place < length columns.savings → slice_get (place_names columns) place ≡ Some (decimal place)
name_of_place columns place inside =
    let count = length columns.savings in
    slice_get-get_or (place_names columns) place [] (omega (arith, length-map-range_with_len decimal 0 count))
    ∙ ap Some (get_or-map-range_with_len decimal 0 count place place [] inside (zero-add place))
