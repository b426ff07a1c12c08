-- Bytes that are read and compared piece by piece.
use Rattle.std.proofs.Common.{◌≡◌, ℕ, List, ◌++◌, Option, Some, None, Result, Ok, Err, Bool, true, false, IfOk, refl, sym, ap, ◌∙◌, append_assoc}
use Rattle.std.specs.Prelude.{◌≢◌, ◌↔◌, IsTrue, IfSome}
use Rattle.std.specs.Io.KnownBytes.{Consumes, Keeps}
use Rattle.std.proofs.KnownBytes.{Consumes-kept, Consumes-trans}
use Rattle.std.proofs.lemmas.Bool.{true≢false}
use Rattle.std.proofs.lemmas.Option.{none-some}
use Rattle.std.proofs.lemmas.List.{append_cancel_left}
use Rattle.sb_checkpoint.specs.Stores.{ReportsSame}
use Rattle.sb_checkpoint.specs.declared.store.StoreFault.{StoreFault}

-- some bytes were at the front of both
abbrev pub GoesOn : Option (List ℕ) → Option (List ℕ) → List ℕ → List ℕ → Type 0
GoesOn old new bytes rest = (front : List ℕ) × Consumes old new front × (bytes ≡ front ++ rest)

module _ (old mid new : Option (List ℕ)) (bytes front rest : List ℕ) (read : Consumes old mid front) (same : bytes ≡ front ++ rest) where
  -- the next piece is at the front of both
  pub goes_on : (piece after : List ℕ) → Consumes mid new piece → rest ≡ piece ++ after
      → GoesOn old new bytes after
  goes_on piece after now begins = (
    front ++ piece,
    Consumes-trans old mid new front piece read now,
    same ∙ ap (λ rest. front ++ rest) begins ∙ sym (append_assoc front piece after),
  )

  -- nothing was read
  pub stays : Keeps mid new → GoesOn old new bytes rest
  stays now = (front, Consumes-kept old mid new front read now, same)

-- the next piece isn't at the front of the rest
pub differs : (old mid new : Option (List ℕ)) (bytes front rest piece : List ℕ) → Consumes old mid front → bytes ≡ front ++ rest
    → Consumes mid new piece → ((after : List ℕ) → rest ≢ piece ++ after) → IfSome old (λ content. IsTrue false ↔ (content ≡ bytes))
differs None mid new bytes front rest piece read same now other = tt
differs (Some xs) None new bytes front rest piece read same now other = absurd read
differs (Some xs) (Some ys) None bytes front rest piece read same now other = absurd now
differs (Some xs) (Some ys) (Some zs) bytes front rest piece read same now other = (
  (λ no. absurd (true≢false (sym no))),
  (λ content. absurd (other zs (append_cancel_left front rest ys (sym same ∙ sym content ∙ read) ∙ now))),
)

-- whatever is answered, something was found that agrees with it
pub found_so : (told : Result Bool StoreFault) (bytes : List ℕ)
    → IfOk told (λ same. (found : Option (List ℕ)) × ReportsSame bytes same found × (⊥ → found ≡ None))
found_so (Ok true) bytes = (Some bytes, ((λ _. refl), (λ _. refl)), (λ never. absurd never))
found_so (Ok false) bytes = (None, ((λ no. absurd (true≢false (sym no))), (λ same. absurd (none-some bytes same))), (λ _. refl))
found_so (Err fault) bytes = tt
