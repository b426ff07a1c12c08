-- What callers see of a replica log, as it takes and holds ops.
use Rattle.std.proofs.Common.{◌≡◌, ℕ, suc, ◌+◌, ◌%◌, ◌≤◌, Option, Some, None, List, [], ◌∷◌, length, length-append, get_or, sym, ap, ◌∙◌, arith}
use Rattle.std.specs.Prelude.{replicate, slice_get, slice_set}
use Rattle.std.proofs.lemmas.Option.{slice_get-get_or}
use Rattle.sb_calls.specs.declared.op.Op.{Op}
use Rattle.cown_board.specs.Board.{BoardOf, length_of}
use Rattle.sb_replica.proofs.HeldLists.{held-none, held-first, held-next, held-write}
use Rattle.sb_replica.proofs.Rotations.{length-round}
use Rattle.sb_replica.specs.Log.{LogOf, none_held}
use Rattle.sb_replica.specs.inner.HeldOps.{IsReplicaLog}
use Rattle.sb_replica.specs.Offers.{board_with_entry, log_with_entry, log_with_held}
use Rattle.sb_replica.specs.inner.Rotation.{in_order_after}

-- the view of a board, and of the ops by the places of their numbers
abbrev pub seen : BoardOf Op → List (Option Op) → LogOf
seen board items = record { board = board; held = in_order_after (length_of board) items }

pub seen_none : (board : BoardOf Op) (items : List (Option Op)) → items ≡ replicate 64 None → seen board items ≡ record { board = board; held = none_held }
seen_none board items none =
    ap (λ (held : List (Option Op)). record { board = board; held = held })
    (ap (in_order_after (length_of board)) none ∙ held-none (length_of board))

module _ (board : BoardOf Op) (items : List (Option Op)) (kept : IsReplicaLog (seen board items)) where
  many : length items ≡ 64
  many = sym (length-round (suc (length_of board) % 64) items) ∙ kept.slots

  pub seen_taken : (op : Op) (new : BoardOf Op) (place : ℕ) → new ≡ board_with_entry board op → place ≡ suc (length_of board) % 64
      → seen new (slice_set items place None) ≡ log_with_entry (seen board items) op
  seen_taken op new place board_is place_is =
      let longer : length_of (board_with_entry board op) ≡ suc (length_of board) = omega (arith, length-append board.log (op ∷ [])) in
      ap (λ (b : BoardOf Op). seen b (slice_set items place None)) board_is
      ∙ ap (λ (held : List (Option Op)). record { board = board_with_entry board op; held = held })
      (ap (λ (size : ℕ). in_order_after size (slice_set items place None)) longer
      ∙ ap (λ (at : ℕ). in_order_after (suc (length_of board)) (slice_set items at None)) place_is
      ∙ held-next items (length_of board) many None)

  pub seen_held : (op : Op) (number place : ℕ) → suc (length_of board) ≤ number → number ≤ length_of board + 64 → place ≡ number % 64
      → seen board (slice_set items place (Some op)) ≡ log_with_held (seen board items) number op
  seen_held op number place after within place_is =
      ap (λ (held : List (Option Op)). record { board = board; held = held })
      (ap (λ (at : ℕ). in_order_after (length_of board) (slice_set items at (Some op))) place_is
      ∙ held-write items (length_of board) many number (Some op) after within)

  pub seen_next : (number place : ℕ) (otherwise : Option Op) → number ≡ length_of board → place ≡ (number + 1) % 64
      → slice_get (seen board items).held 0 ≡ Some (get_or items place otherwise)
  seen_next number place otherwise number_is place_is =
      let at : suc (length_of board) % 64 ≡ place = omega (arith, number_is, place_is) in
      held-first items (length_of board) many ∙ ap (slice_get items) at
      ∙ slice_get-get_or items place otherwise (omega (arith, many, place_is))
