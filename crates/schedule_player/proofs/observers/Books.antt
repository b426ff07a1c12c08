-- The rows and the books of an idle replica.
use Rattle.std.proofs.Common.{◌≡◌, ℕ, zero, suc, ◌+◌, ◌≤◌, Bool, ℤ, pos, ◌+ℤ◌, Option, Some, None, List, [], ◌∷◌, length, take, get_or, refl, sym, ap, subst, ◌∙◌, arith}
use Rattle.std.specs.Prelude.{slice_get, is_some, count_by, int_lt, if◌then◌else◌}
use Rattle.std.specs.FinMap.{get}
use Rattle.std.proofs.lemmas.List.Sums.{sum_by-cons}
use Rattle.std.proofs.lemmas.Option.{slice_get-get_or}
use Rattle.cown_board.specs.Board.{length_of, unfinished_of, IsAfterAll}
use Rattle.lane_audit.specs.Columns.{total, count_below}
use Rattle.sb_rows.proofs.NamePlaces.{place_of_within}
use Rattle.sb_rows.proofs.RowsByPlace.{get-rows_of, get-rows_of_absent}
use Rattle.sb_rows.specs.Balances.{Balances, IsBalances}
use Rattle.sb_rows.specs.Customer.{Customer, customers_of}
use Rattle.sb_rows.specs.Directory.{place_of}
use Rattle.sb_rows.specs.Listing.{rows_in_order, total_of}
use Rattle.sb_rows.specs.Rows.{Rows, SameCustomers, rows_of}
use Rattle.sb_calls.proofs.LogReplies.{slice_get-replies_to}
use Rattle.sb_calls.proofs.Nets.{total_after}
use Rattle.sb_calls.proofs.SerialRuns.{log_by_cowns}
use Rattle.sb_calls.specs.Behaviour.{declared_cowns, effect_of}
use Rattle.sb_calls.specs.Cowns.{contents_of}
use Rattle.sb_calls.specs.Log.{replies_to}
use Rattle.sb_calls.specs.Net.{HasNames, net_sum}
use Rattle.sb_calls.specs.Op.{op_of}
use Rattle.sb_calls.specs.Procedures.{procedure}
use Rattle.sb_calls.specs.declared.call.Call.{Call}
use Rattle.sb_replica.proofs.IdleReplies.{length_held}
use Rattle.sb_replica.specs.Replica.{board_replies}
use Rattle.sb_text.proofs.RowsByPlace.{total_by_columns, rows_in_order-rows_of}
use Rattle.schedule_player.specs.Bank.{BankOf, opening_rows, log_rows}
use Rattle.schedule_player.specs.Books.{IsRowsAt}
use Rattle.schedule_player.specs.inner.NodeInvariant.{IsNodeAt}
use Rattle.schedule_player.specs.MachineView.{ops_of}
use Rattle.schedule_player.specs.World.{books_after}
use Rattle.schedule_player.specs.declared.node.Node.{Node}
use Rattle.schedule_text.specs.declared.note.AuditNote.TheVariants as audit
use Rattle.schedule_player.proofs.hands.FinishSteps.{reply_by_names}
use Rattle.schedule_player.proofs.boards.BoardReplies.{columns_along, checkpoint_along}
use Rattle.schedule_player.proofs.boards.Stages.{length-map}
use Rattle.sb_calls.proofs.CownColumns.{contents_of-injective as same_columns}

-- ---- the rows

-- the columns that the bank's calls leave, run one by one
abbrev columns_after : (bank : BankOf) → SameCustomers bank.names bank.opening → ℕ → Balances
columns_after bank same size = let law = log_by_cowns bank.names bank.opening bank.calls same in (law.rows size).0

-- an idle replica's columns are these
idle_columns : (bank : BankOf) (same : SameCustomers bank.names bank.opening) (r : ℕ) (node : Node) (columns : Balances) → IsNodeAt bank r node
    → IsBalances columns → IsAfterAll declared_cowns effect_of node.replica.board columns
    → columns ≡ columns_after bank same (length_of node.replica.board)
idle_columns bank same r node columns is valid after =
    let law = log_by_cowns bank.names bank.opening bank.calls same in
    let rows = law.rows (length_of node.replica.board) in
    same_columns columns rows.0 valid.same rows.1.balances.same
    (columns_along (contents_of bank.opening) (ops_of bank) node.replica.board columns is.board after ∙ sym rows.2)

pub idle_rows : (bank : BankOf) (r : ℕ) (node : Node) (columns : Balances) → IsNodeAt bank r node → IsBalances columns
    → IsAfterAll declared_cowns effect_of node.replica.board columns → IsRowsAt bank (length_of node.replica.board) columns
idle_rows bank r node columns is valid after =
    let law = log_by_cowns bank.names bank.opening bank.calls is.customers in
    let rows = law.rows (length_of node.replica.board) in
    subst (IsRowsAt bank (length_of node.replica.board)) (sym (idle_columns bank is.customers r node columns is valid after))
    (record { customers = rows.1; rows = rows.3 })

-- two replicas that are idle at one length have the same columns
pub same_rows : (bank : BankOf) (a b : ℕ) (first second : Node) (left right : Balances) → IsNodeAt bank a first → IsNodeAt bank b second
    → IsBalances left → IsBalances right → IsAfterAll declared_cowns effect_of first.replica.board left
    → IsAfterAll declared_cowns effect_of second.replica.board right → length_of first.replica.board ≡ length_of second.replica.board
    → left ≡ right
same_rows bank a b first second left right is_a is_b valid_a valid_b after_a after_b same =
    idle_columns bank is_a.customers a first left is_a valid_a after_a
    ∙ ap (columns_after bank is_a.customers) same
    ∙ sym (idle_columns bank is_a.customers b second right is_b valid_b after_b)

-- ---- the replies

head_of : {A : Type 0} {x y : A} → ◌≡◌ {A = Option A} (Some x) (Some y) → x ≡ y
head_of h = cc

-- a list whose items are those of a longer list is its first part
first_part : {A : Type 0} (xs ys : List A) → length xs ≤ length ys → ((k : ℕ) (x : A) → slice_get xs k ≡ Some x → slice_get ys k ≡ Some x)
    → xs ≡ take (length xs) ys
first_part [] ys le alike = refl
first_part (x ∷ xs) [] le alike = absurd (omega (arith, le))
first_part (x ∷ xs) (y ∷ ys) le alike =
    ap (λ z. z ∷ xs) (sym (head_of (alike zero x refl)))
    ∙ ap (λ zs. y ∷ zs) (first_part xs ys (omega (arith, le)) (λ k z here. alike (suc k) z here))

length-replies_to : (opening : Rows) (bank : BankOf) → length (replies_to opening bank.calls) ≡ length bank.calls
length-replies_to opening bank = by opening bank.calls
  where
    by : (rows : Rows) (calls : List Call) → length (replies_to rows calls) ≡ length calls
    by rows [] = refl
    by rows (call ∷ calls) = let rest = by (procedure call rows).rows calls in omega (arith, rest)

-- an idle replica's replies are the log's, up to its length
pub idle_replies : (bank : BankOf) (r : ℕ) (node : Node) (columns : Balances) → IsNodeAt bank r node → unfinished_of node.replica.board ≡ 0
    → IsAfterAll declared_cowns effect_of node.replica.board columns
    → board_replies node.replica.board ≡ take (length (board_replies node.replica.board)) (replies_to (opening_rows bank) bank.calls)
idle_replies bank r node columns is idle after =
    let consistent = checkpoint_along (contents_of bank.opening) (ops_of bank) node.replica.board columns is.board idle after in
    let calls = length-map (op_of bank.names) bank.calls in
    let replies = length-replies_to (opening_rows bank) bank in
    let within = consistent.within in
    first_part (board_replies node.replica.board) (replies_to (opening_rows bank) bank.calls) (omega (arith, calls, replies, within))
    (λ k reply here.
    slice_get-replies_to (opening_rows bank) bank.calls k ∙ sym (reply_by_names bank (suc k) is.customers) ∙ consistent.replies k reply here)

pub length_replies : (bank : BankOf) (r : ℕ) (node : Node) → IsNodeAt bank r node → unfinished_of node.replica.board ≡ 0
    → length (board_replies node.replica.board) ≡ length_of node.replica.board
length_replies bank r node is idle = length_held node.replica.board idle is.board.states

-- ---- the books

has_names : (names : List (List ℕ)) (b : Balances) → SameCustomers names b → HasNames names (rows_of names b)
has_names names b same = record { names = same.names; same = λ name. by name (place_of names name) refl }
  where
    by : (name : List ℕ) (place : Option ℕ) → place_of names name ≡ place → is_some (get (rows_of names b) name) ≡ is_some (place_of names name)
    by name None none = ap is_some (get-rows_of_absent names b name same none) ∙ sym (ap is_some none)
    by name (Some place) at =
        let lt = place_of_within names name place at in
        let places = same.same_length in
        let alike = same.balances.same in
        ap is_some (get-rows_of names b name place (get_or b.savings place (pos 0)) (get_or b.checking place (pos 0)) same at
        (slice_get-get_or b.savings place (pos 0) (omega (arith, lt, places)))
        (slice_get-get_or b.checking place (pos 0) (omega (arith, lt, places, alike))))
        ∙ sym (ap is_some at)

count_first : {A : Type 0} (p : A → Bool) (x : A) (xs : List A) → count_by p (x ∷ xs) ≡ (if p x then 1 else 0) + count_by p xs
count_first p x xs = sum_by-cons (λ y. if p y then 1 else 0) x xs

abbrev is_below : ℤ → Bool
is_below value = int_lt value (pos 0)

abbrev has_below : Customer → Bool
has_below customer = int_lt customer.checking (pos 0)

count_mapped : (names : List (List ℕ)) (savings checking : List ℤ) (c : ℤ) (x : List ℕ) (s : ℤ)
    → count_below checking (pos 0) ≡ count_by has_below (customers_of names (record { savings = savings; checking = checking }))
    → count_below (c ∷ checking) (pos 0)
    ≡ count_by has_below (record { name = x; savings = s; checking = c } ∷ customers_of names (record { savings = savings; checking = checking }))
count_mapped names savings checking c x s rest =
    count_first is_below c checking ∙ ap (λ n. (if int_lt c (pos 0) then 1 else 0) + n) rest
    ∙ sym (count_first has_below (record { name = x; savings = s; checking = c }) (customers_of names (record { savings = savings; checking = checking })))

-- as many customers as checking balances are below 0
overdrawn : (names : List (List ℕ)) (savings checking : List ℤ) → length savings ≡ length names → length checking ≡ length names
    → count_below checking (pos 0)
    ≡ count_by (λ customer. int_lt customer.checking (pos 0)) (customers_of names (record { savings = savings; checking = checking }))
overdrawn [] [] [] e f = refl
overdrawn [] (s ∷ savings) checking e f = absurd (omega (arith, e))
overdrawn [] [] (c ∷ checking) e f = absurd (omega (arith, f))
overdrawn (x ∷ names) [] checking e f = absurd (omega (arith, e))
overdrawn (x ∷ names) (s ∷ savings) [] e f = absurd (omega (arith, f))
overdrawn (x ∷ names) (s ∷ savings) (c ∷ checking) e f =
    count_mapped names savings checking c x s (overdrawn names savings checking (omega (arith, e)) (omega (arith, f)))

listed_now : (bank : BankOf) (size : ℕ) (columns : Balances) → IsRowsAt bank size columns
    → rows_in_order bank.names (log_rows bank size) ≡ customers_of bank.names columns
listed_now bank size columns at = ap (rows_in_order bank.names) (sym at.rows) ∙ rows_in_order-rows_of bank.names columns at.customers

-- the rows' total and the number of overdrawn customers
pub books_are : (bank : BankOf) (size : ℕ) (columns : Balances) → IsRowsAt bank size columns
    → audit.Same (total columns.savings +ℤ total columns.checking) (count_below columns.checking (pos 0)) ≡ books_after bank size
books_are bank size columns at =
    let places = at.customers.same_length in
    let alike = at.customers.balances.same in
    (λ j. audit.Same (total_by_columns bank.names columns at.customers j)
    (overdrawn bank.names columns.savings columns.checking places (sym alike ∙ places) j))
    ∙ ap (λ rows. audit.Same (total_of rows) (count_by (λ customer. int_lt customer.checking (pos 0)) rows)) (sym (listed_now bank size columns at))

-- are what the opening and the net changes make them
pub books_balance : (bank : BankOf) (size : ℕ) (columns : Balances) → SameCustomers bank.names bank.opening → IsRowsAt bank size columns
    → total columns.savings +ℤ total columns.checking
    ≡ (total bank.opening.savings +ℤ total bank.opening.checking) +ℤ net_sum (take size bank.calls) (take size (replies_to (opening_rows bank) bank.calls))
books_balance bank size columns same at =
    total_by_columns bank.names columns at.customers
    ∙ ap total_of (sym (listed_now bank size columns at))
    ∙ total_after bank.names (opening_rows bank) bank.calls size (has_names bank.names bank.opening same)
    ∙ ap (λ t. t +ℤ net_sum (take size bank.calls) (take size (replies_to (opening_rows bank) bank.calls)))
    (ap total_of (rows_in_order-rows_of bank.names bank.opening same) ∙ sym (total_by_columns bank.names bank.opening same))
