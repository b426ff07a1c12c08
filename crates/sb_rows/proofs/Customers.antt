-- The customers with given names and balances.
use Rattle.std.proofs.Common.{◌≡◌, ℕ, ℤ, List, [], ◌∷◌, ◌++◌, map, length, refl, sym, ap, ◌∙◌, arith}
use Rattle.std.proofs.lemmas.List.{length-map}
use Rattle.sb_rows.specs.Balances.{Balances}
use Rattle.sb_rows.specs.Customer.{names_of, balances_of, customers_of}
use Rattle.sb_rows.specs.Rows.{SameCustomers}

abbrev columns : List ℤ → List ℤ → Balances
columns savings checking = record { savings = savings; checking = checking }

-- the names, the savings and the checking balances that customers were made from
names_back : (ns : List (List ℕ)) (ss cs : List ℤ) → length ss ≡ length ns → length ss ≡ length cs → names_of (customers_of ns (columns ss cs)) ≡ ns
names_back [] ss cs h k = refl
names_back (n ∷ ns) [] cs h k = absurd (omega arith)
names_back (n ∷ ns) (s ∷ ss) [] h k = absurd (omega arith)
names_back (n ∷ ns) (s ∷ ss) (c ∷ cs) h k = ap (λ names. n ∷ names) (names_back ns ss cs (omega arith) (omega arith))

savings_back : (ns : List (List ℕ)) (ss cs : List ℤ) → length ss ≡ length ns → length ss ≡ length cs
    → map (λ c. c.savings) (customers_of ns (columns ss cs)) ≡ ss
savings_back [] [] cs h k = refl
savings_back [] (s ∷ ss) cs h k = absurd (omega arith)
savings_back (n ∷ ns) [] cs h k = absurd (omega arith)
savings_back (n ∷ ns) (s ∷ ss) [] h k = absurd (omega arith)
savings_back (n ∷ ns) (s ∷ ss) (c ∷ cs) h k = ap (λ l. s ∷ l) (savings_back ns ss cs (omega arith) (omega arith))

checking_back : (ns : List (List ℕ)) (ss cs : List ℤ) → length ss ≡ length ns → length ss ≡ length cs
    → map (λ c. c.checking) (customers_of ns (columns ss cs)) ≡ cs
checking_back [] [] [] h k = refl
checking_back [] [] (c ∷ cs) h k = absurd (omega arith)
checking_back [] (s ∷ ss) cs h k = absurd (omega arith)
checking_back (n ∷ ns) [] cs h k = absurd (omega arith)
checking_back (n ∷ ns) (s ∷ ss) [] h k = absurd (omega arith)
checking_back (n ∷ ns) (s ∷ ss) (c ∷ cs) h k = ap (λ l. c ∷ l) (checking_back ns ss cs (omega arith) (omega arith))

-- the customers after one more name and one more balance in each column
pushed : (ns : List (List ℕ)) (ss cs : List ℤ) (name : List ℕ) (s c : ℤ) → length ss ≡ length ns → length ss ≡ length cs
    → customers_of (ns ++ name ∷ []) (columns (ss ++ s ∷ []) (cs ++ c ∷ [])) ≡ customers_of ns
    (columns ss cs) ++ record { name = name; savings = s; checking = c } ∷ []
pushed [] [] [] name s c h k = refl
pushed [] [] (y ∷ cs) name s c h k = absurd (omega arith)
pushed [] (x ∷ ss) cs name s c h k = absurd (omega arith)
pushed (n ∷ ns) [] cs name s c h k = absurd (omega arith)
pushed (n ∷ ns) (x ∷ ss) [] name s c h k = absurd (omega arith)
pushed (n ∷ ns) (x ∷ ss) (y ∷ cs) name s c h k =
    ap (λ l. record { name = n; savings = x; checking = y } ∷ l) (pushed ns ss cs name s c (omega arith) (omega arith))

-- the customers made from names and balances have these names
pub names_of-customers_of : (names : List (List ℕ)) (b : Balances) → SameCustomers names b → names_of (customers_of names b) ≡ names
names_of-customers_of names b h = names_back names b.savings b.checking h.same_length h.balances.same

-- and these balances
pub balances_of-customers_of : (names : List (List ℕ)) (b : Balances) → SameCustomers names b → balances_of (customers_of names b) ≡ b
balances_of-customers_of names b h i = record {
  savings = savings_back names b.savings b.checking h.same_length h.balances.same i;
  checking = checking_back names b.savings b.checking h.same_length h.balances.same i;
}

-- there are as many customers as names
pub length-customers_of : (names : List (List ℕ)) (b : Balances) → SameCustomers names b → length (customers_of names b) ≡ length names
length-customers_of names b h = sym (length-map (customers_of names b) (λ c. c.name)) ∙ ap length (names_of-customers_of names b h)

-- appending a name and a balance to each column appends one customer
pub customers_of-push : (names : List (List ℕ)) (b : Balances) (name : List ℕ) (s c : ℤ) → SameCustomers names b
    → customers_of (names ++ name ∷ []) (record { savings = b.savings ++ s ∷ []; checking = b.checking ++ c ∷ [] })
    ≡ customers_of names b ++ record { name = name; savings = s; checking = c } ∷ []
customers_of-push names b name s c h = pushed names b.savings b.checking name s c h.same_length h.balances.same
