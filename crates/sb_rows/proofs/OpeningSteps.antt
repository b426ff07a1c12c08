-- Reading an opening line by line.
use Rattle.std.proofs.Common.{◌≡◌, ℕ, zero, suc, ◌+◌, true, false, Ok, Err, Result, List, [], ◌∷◌, ◌++◌, length, codes, bytes_eq, refl, sym, ap, ◌∙◌}
use Rattle.sb_rows.specs.Balances.{Balances}
use Rattle.sb_rows.specs.Customer.{Customer, customers_of, names_of, balances_of}
use Rattle.sb_rows.specs.Opening.{◌>>=◌, OpeningText, customers_from, customer_of, opening_of}
use Rattle.sb_rows.specs.inner.AddedCustomer.{AddsCustomer}
use Rattle.sb_rows.specs.OpeningReads.{Reads}
use Rattle.sb_rows.specs.Rows.{SameCustomers}
use Rattle.sb_rows.specs.Text.{lines, words, after_line, after_lines, bytes_of_lines}
use Rattle.sb_rows.specs.declared.fault.LineFault.{LineFault}
use Rattle.sb_rows.specs.declared.fault.LineFault.TheVariants.{NoBegin}
use Rattle.sb_rows.specs.declared.fault.OpeningFault.{OpeningFault}
use Rattle.sb_rows.specs.declared.fault.OpeningFault.TheVariants.{Line, OutOfMemory}
use Rattle.sb_rows.proofs.Customers.{names_of-customers_of, balances_of-customers_of, length-customers_of}

-- `begin` ends the customers
pub customers_from-begin : (before : List Customer) (line : List ℕ) (ls : List (List ℕ)) → bytes_eq line (codes "begin") ≡ true
    → customers_from before (line ∷ ls) ≡ Ok before
unfolding customers_from
customers_from-begin before line ls h = rw h

-- a customer's line adds one customer
pub customers_from-more : (before : List Customer) (line : List ℕ) (ls : List (List ℕ)) (customer : Customer) → bytes_eq line (codes "begin") ≡ false
    → customer_of before (words line) ≡ Ok customer → customers_from before (line ∷ ls) ≡ customers_from (before ++ customer ∷ []) ls
unfolding customers_from
customers_from-more before line ls customer h is = rw (h, is)

-- a faulty line ends the reading
pub customers_from-fault : (before : List Customer) (line : List ℕ) (ls : List (List ℕ)) (fault : LineFault) → bytes_eq line (codes "begin") ≡ false
    → customer_of before (words line) ≡ Err fault → customers_from before (line ∷ ls) ≡ Err (length before + 1, fault)
unfolding customers_from
customers_from-fault before line ls fault h is = rw (h, is)

-- and so does the end of the lines
pub customers_from-nil : (before : List Customer) → customers_from before [] ≡ Err (length before + 1, NoBegin)
unfolding customers_from
customers_from-nil before = refl

-- the text after one line more
pub after_lines-next : (n : ℕ) (text : List ℕ) → after_lines (suc n) text ≡ after_line (after_lines n text)
after_lines-next zero text = refl
after_lines-next (suc n) text = after_lines-next n (after_line text)

-- ---- the whole opening

-- adds the bytes taken to the customers
abbrev pub with_consumed : List ℕ → List Customer → Result OpeningText (ℕ × LineFault)
with_consumed text customers =
    Ok (record { names = names_of customers; balances = balances_of customers; consumed = bytes_of_lines (length customers + 1) text })

-- all customers were read
pub opening_of-ok : (text : List ℕ) (names : List (List ℕ)) (b : Balances) (consumed : ℕ) → SameCustomers names b
    → customers_from [] (lines text) ≡ Ok (customers_of names b) → bytes_of_lines (length names + 1) text ≡ consumed
    → opening_of text ≡ Ok (record { names = names; balances = b; consumed = consumed })
opening_of-ok text names b consumed h e at =
    let at_byte : bytes_of_lines (length (customers_of names b) + 1) text ≡ consumed =
    ap (λ n. bytes_of_lines (n + 1) text) (length-customers_of names b h) ∙ at in
    ap (λ r. r >>= with_consumed text) e
    ∙ (λ i. Ok (record { names = names_of-customers_of names b h i; balances = balances_of-customers_of names b h i; consumed = at_byte i }))

-- a line was faulty
pub opening_of-fault : (text : List ℕ) (number : ℕ) (fault : LineFault) → customers_from [] (lines text) ≡ Err (number, fault)
    → opening_of text ≡ Err (number, fault)
opening_of-fault text number fault e = ap (λ r. r >>= with_consumed text) e

-- a fault at a line is the fault of the reading
pub Reads-fault : (text : List ℕ) (before after : List Customer) (line : List ℕ) (ls : List (List ℕ)) (fault : OpeningFault)
    → bytes_eq line (codes "begin") ≡ false → customers_from [] (lines text) ≡ customers_from before (line ∷ ls)
    → AddsCustomer before line after (Err fault) → Reads (Err fault) (opening_of text)
Reads-fault text before after line ls (Line number fault) h e adds =
    opening_of-fault text number fault
    (e ∙ customers_from-fault before line ls fault h adds.1 ∙ ap (λ n. Err (n, fault)) (sym adds.0))
Reads-fault text before after line ls OutOfMemory h e adds = tt
