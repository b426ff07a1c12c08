-- Whether a piece of a client brought a whole frame.
use Rattle.std.proofs.Common.{arith, ◌≡◌, ◌≤◌, ◌<◌, ℕ, Bool, true, false, true≢false, Some, List, length, sym, subst, ◌∙◌}
use Rattle.std.specs.Prelude.{◌↔◌, IsTrue, slice_get, slice_set}
use Rattle.std.proofs.lemmas.Option.{same_Some, slice_get_within}
use Rattle.cown_board.proofs.StateChanges.{slice_get-set_same}
use Rattle.bank_server.specs.Clients.{ClientOf, Piece}
use Rattle.bank_server.specs.inner.ClientTurns.{BringsFrame, BringsFrameAt}

-- of a client that isn't there it brought none
pub frame_of_absent : (clients : List ClientOf) (k : ℕ) (piece : Piece) → length clients ≤ k
    → IsTrue false ↔ BringsFrameAt k clients piece clients
frame_of_absent clients k piece none = (
  λ is. absurd (true≢false (sym is)),
  λ have. absurd (omega (arith, none, slice_get_within clients k have.0 have.2)),
)

-- of one that is there it did if the client says so
pub frame_of_one : (has_frame : Bool) (clients : List ClientOf) (k : ℕ) (piece : Piece) (old new : ClientOf)
    → slice_get clients k ≡ Some old → IsTrue has_frame ↔ BringsFrame old piece new
    → IsTrue has_frame ↔ BringsFrameAt k clients piece (slice_set clients k new)
frame_of_one has_frame clients k piece old new is whole = (
  λ has. (old, new, is, now, whole.0 has),
  λ have. whole.1 (subst (λ (c : ClientOf). BringsFrame c piece new) (same_Some have.0 old (sym have.2 ∙ is))
      (subst (λ (c : ClientOf). BringsFrame have.0 piece c) (same_Some have.1 new (sym have.3 ∙ now)) have.4)),
)
  where
    now : slice_get (slice_set clients k new) k ≡ Some new
    now = slice_get-set_same clients k new (slice_get_within clients k old is)
