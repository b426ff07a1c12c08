-- One more customer keeps a directory and balances valid.
use Rattle.std.proofs.Common.{◌≡◌, ℕ, ◌+◌, ◌<◌, ◌≢◌, ℤ, pos, ◌≤ℤ◌, None, false, is_some, List, [], ◌∷◌, ◌++◌, length, get_or, bytes_eq, sym, ap, ◌∙◌, arith, length-append}
use Rattle.std.specs.Cmp.Lexicographic.{bytes_decides}
use Rattle.std.specs.List.{list_any}
use Rattle.std.proofs.lemmas.Bool.{both_ways, cond-false}
use Rattle.std.proofs.lemmas.List.Elements.{All-push}
use Rattle.std.proofs.lemmas.List.Quantifiers.{all_pairs_push}
use Rattle.indexmap.specs.IndexSet.{insert_key}
use Rattle.sb_amount.specs.Limit.{IsWithinLimit}
use Rattle.sb_rows.specs.Balances.{IsBalances, IsSavings}
use Rattle.sb_rows.specs.Directory.{IsDirectory, place_of}
use Rattle.sb_rows.specs.Name.{IsName}
use Rattle.sb_rows.specs.declared.columns.TheConstants.{CUSTOMERS}
use Rattle.sb_rows.proofs.NamePlaces.{absent_from_place, has_place}

-- a new name keeps the directory's names different
pub IsDirectory-push : (names : List (List ℕ)) (name : List ℕ) → IsDirectory names → IsName name → place_of names name ≡ None
    → length names < CUSTOMERS → IsDirectory (names ++ name ∷ [])
IsDirectory-push names name h valid new room = record {
  limit = omega (arith, length-append names (name ∷ []));
  valid = All-push IsName names name h.valid valid;
  different = all_pairs_push (λ a b. a ≢ b) names name h.different (λ k d l e.
      both_ways (bytes_eq name (get_or names k d)) (absent_from_place names name new k d l) ((bytes_decides name (get_or names k d)).1 (sym e)));
}

-- a set of names after a new one was inserted
pub names-insert_key : (names set after : List (List ℕ)) (name : List ℕ) → set ≡ names → place_of names name ≡ None
    → after ≡ insert_key bytes_eq set name → after ≡ names ++ name ∷ []
names-insert_key names set after name same new is =
    let known = list_any (bytes_eq name) in
    let absent : known set ≡ false = ap known same ∙ sym (has_place names name) ∙ ap is_some new in
    is ∙ cond-false (known set) set (set ++ name ∷ []) absent ∙ ap (λ ns. ns ++ name ∷ []) same

-- balances of one more customer are in their ranges
pub IsBalances-push : (savings checking : List ℤ) (s c : ℤ) → IsBalances (record { savings = savings; checking = checking })
    → length savings < CUSTOMERS → pos 0 ≤ℤ s → IsWithinLimit s → IsWithinLimit c
    → IsBalances (record { savings = savings ++ s ∷ []; checking = checking ++ c ∷ [] })
IsBalances-push savings checking s c h room not_negative within checked = record {
  same = length-append savings (s ∷ []) ∙ ap (λ n. n + 1) h.same ∙ sym (length-append checking (c ∷ []));
  limit = omega (arith, length-append savings (s ∷ []));
  savings = All-push IsSavings savings s h.savings (record { not_negative = not_negative; within = within });
  checking = All-push IsWithinLimit checking c h.checking checked;
}
