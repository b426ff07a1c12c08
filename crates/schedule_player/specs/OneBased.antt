-- Lists whose items are counted from 1.
use Rattle.std.specs.Prelude.{◌≡◌, ℕ, zero, suc, Option, Some, None, List, slice_get, slice_set}

-- the item with this number, counted from 1
abbrev pub nth_item : {A : Type 0} → List A → ℕ → Option A
nth_item items zero = None
nth_item items (suc k) = slice_get items k

abbrev pub with_nth : {A : Type 0} → List A → ℕ → A → List A
with_nth items zero item = items
with_nth items (suc k) item = slice_set items k item

-- it holds of every item
abbrev pub Every : {A : Type 0} → (A → Type 0) → List A → Type 0
Every {A} P items = (k : ℕ) (item : A) → slice_get items k ≡ Some item → P item
