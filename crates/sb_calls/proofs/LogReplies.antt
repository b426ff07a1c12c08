-- The replies to a log, one by one.
use Rattle.std.proofs.Common.{◌≡◌, ℕ, zero, suc, List, [], ◌∷◌, refl}
use Rattle.std.specs.Prelude.{slice_get}
use Rattle.sb_rows.specs.Rows.{Rows}
use Rattle.sb_calls.specs.Log.{replies_to, reply_to}
use Rattle.sb_calls.specs.Procedures.{procedure}
use Rattle.sb_calls.specs.declared.call.Call.{Call}

-- the reply at a place is that to the call there, on the rows after the calls before it
pub slice_get-replies_to : (opening : Rows) (log : List Call) (k : ℕ) → slice_get (replies_to opening log) k ≡ reply_to opening log (suc k)
slice_get-replies_to opening [] k = refl
slice_get-replies_to opening (call ∷ log) zero = refl
slice_get-replies_to opening (call ∷ log) (suc k) = slice_get-replies_to (procedure call opening).rows log k
