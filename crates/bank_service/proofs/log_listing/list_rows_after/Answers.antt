use Rattle.std.proofs.Common.{◌≡◌, ◌++◌, ◌∷◌, [], ℕ, List, sym, ap, subst, ◌∙◌}
use Rattle.std.specs.Prelude.{Result, Ok, Err, codes, drop, map}
use Rattle.std.proofs.lemmas.Grind.{flat_map-append}
use Rattle.sb_rows.specs.Balances.{Balances}
use Rattle.sb_rows.specs.Customer.{customers_of}
use Rattle.sb_rows.specs.Opening.{OpeningText, opening_of, opening_lines, customer_line, ◌>>=◌}
use Rattle.sb_rows.specs.Rows.{SameCustomers, rows_of}
use Rattle.sb_rows.specs.Text.{unlines}
use Rattle.sb_rows.specs.declared.fault.LineFault.{LineFault}
use Rattle.sb_calls.specs.Log.{rows_after}
use Rattle.sb_calls.specs.declared.ask.Key.{Key}
use Rattle.sb_calls.specs.declared.call.Call.{Call}
use Rattle.sb_sequencer.specs.Numbering.{calls_of}
use Rattle.sb_replica.specs.Replica.{ReplicaOf, RestOf}
use Rattle.sb_ask_log.specs.Keeping.{KeeperModel}
use Rattle.bank_server.specs.Input.{in_opening}
use Rattle.bank_server.proofs.boards.WholeReplies.{after_ok}
use Rattle.bank_server.specs.Primary.{PrimaryOf, PreservesBank}
use Rattle.bank_service.specs.LogListing.{AreRowsAfter}
use Rattle.bank_service.specs.Opening.{with_nothing_behind, whole_opening_of}
use Rattle.bank_service.proofs.EndRows.{rows_are}
use Rattle.bank_service.proofs.log_listing.list_rows_after.Goals as goal

nothing_behind : (found : OpeningText) (rest : List ℕ) (opening : OpeningText) → with_nothing_behind found rest ≡ Ok opening → found ≡ opening
nothing_behind found [] opening is = cc
nothing_behind found (byte ∷ rest) opening is = cc

-- an opening with nothing behind it is the opening of the text
opening_if_whole : (found : Result OpeningText (ℕ × LineFault)) (rest : OpeningText → List ℕ) (opening : OpeningText)
    → (in_opening found >>= λ o. with_nothing_behind o (rest o)) ≡ Ok opening → found ≡ Ok opening
opening_if_whole (Ok found) rest opening is = ap Ok (nothing_behind found (rest found) opening is)
opening_if_whole (Err fault) rest opening is = cc

-- the bank that has this log over this opening has the rows after it
rows_after_log : {S K : Type 0} {model : KeeperModel K}
    (text : List ℕ) (opening : OpeningText) (log : List (Key × Call)) (old new : PrimaryOf S K) (after : Balances)
    → opening_of text ≡ Ok opening → old.log ≡ log → old.node.names ≡ opening.names → old.node.board.opening ≡ opening.balances
    → new.log ≡ old.log → PreservesBank model old new
    → SameCustomers new.node.names after × (rows_of new.node.names after ≡ rows_after (calls_of new.log) (rows_of new.node.names new.node.board.opening))
    → AreRowsAfter text log new.node.names after
rows_after_log text opening log old new after read log_is names_are balances_are same_log bank rows = record {
  opening = opening;
  read = read;
  names_are = ap (λ (r : RestOf _). r.names) bank.rest ∙ names_are;
  customers = rows.0;
  rows = rows.1 ∙ ap (λ (l : List (Key × Call)). rows_after (calls_of l) (rows_of new.node.names new.node.board.opening)) (same_log ∙ log_is)
      ∙ ap (λ (b : Balances). rows_after (calls_of log) (rows_of new.node.names b)) (bank.opening ∙ balances_are);
}

-- the customers' lines, and `begin`
listed_is : (lines : List (List ℕ)) (start customers listed : List ℕ) → start ≡ [] → customers ≡ start ++ unlines lines → listed ≡ customers ++ codes "begin\n"
    → listed ≡ unlines (lines ++ codes "begin" ∷ [])
listed_is lines start customers listed none some is =
    is ∙ ap (λ (l : List ℕ). l ++ codes "begin\n") (some ∙ ap (λ (l : List ℕ). l ++ unlines lines) none)
    ∙ sym (flat_map-append (λ (line : List ℕ). line ++ 10 ∷ []) lines (codes "begin" ∷ []))

pub list_customers-requires : goal.list_customers-requires
list_customers-requires c =
    let primary = c.settle.new.self in
    let names : c.directory.result.now ≡ primary.node.names = c.directory.ensures ∙ ap (λ (n : ReplicaOf _). n.names) c.node-node.ensures.value in
    let rows = rows_are primary c.node-node.result.now c.node-node.ensures.value c.node-node.ensures.valid
    (after_ok c.settle.result c.if-is_err.ensures.value c.settle.ensures.whole_log) c.final_columns.result
    c.unwrap-columns.result c.unwrap-columns.ensures c.final_columns.ensures.value c.final_columns.ensures.bank in
    subst (λ (d : List (List ℕ)). SameCustomers d c.unwrap-columns.result.now) (sym names) rows.0

pub returns-clause-listed : goal.returns-clause-listed
returns-clause-listed c =
    let primary = c.settle.new.self in
    let columns = c.unwrap-columns.result.now in
    let o = c.in-Ok.opening in
    let opening : OpeningText = record { names = o.directory; balances = o.columns; consumed = o.consumed } in
    let text = c.args.found.text.items in
    let read : opening_of text ≡ Ok opening =
    opening_if_whole (opening_of text) (λ p. drop p.consumed text) opening
    (subst (λ (t : List ℕ). whole_opening_of t ≡ Ok opening) c.deref.ensures.value c.in-Ok.ensures.whole) in
    let names : c.directory.result.now ≡ primary.node.names = c.directory.ensures ∙ ap (λ (n : ReplicaOf _). n.names) c.node-node.ensures.value in
    let rows = rows_are primary c.node-node.result.now c.node-node.ensures.value c.node-node.ensures.valid
    (after_ok c.settle.result c.if-is_err.ensures.value c.settle.ensures.whole_log) c.final_columns.result
    c.unwrap-columns.result c.unwrap-columns.ensures c.final_columns.ensures.value c.final_columns.ensures.bank in
    let node = c.in_ok-primary.ensures.node in (
      primary.node.names,
      columns,
      rows_after_log text opening c.args.found.log.value.log c.in_ok-primary.primary primary columns read c.in_ok-primary.ensures.log
          (ap (λ (n : ReplicaOf _). n.names) node) (ap (λ (n : ReplicaOf _). n.board.opening) node)
          (ap (λ p. p.log) c.settle.ensures.unchanged) c.settle.ensures.serves.bank rows,
      listed_is (map customer_line (customers_of c.directory.result.now columns)) c.new-listed.result.items c.list_customers.new.out.items
          c.extend_from_slice.new.self.items c.new-listed.ensures.items c.in_ok-list_customers.ensures c.in_ok-extend_from_slice.ensures.items
          ∙ ap (λ (d : List (List ℕ)). unlines (opening_lines (customers_of d columns))) names,
    )
