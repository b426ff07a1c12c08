-- The result of a save.
use Rattle.std.proofs.Common.{◌≡◌, ℕ, Option, Some, None, List, Ok, refl, sym, ap, ◌∙◌, inr}
use Rattle.std.specs.Prelude.{◌≢◌}
use Rattle.sb_checkpoint.specs.Stores.{StoreStep, Get, GetFault}
use Rattle.sb_checkpoint.specs.declared.store.StoreFault.{StoreFault}
use Rattle.sb_checkpoint.specs.declared.store.StoreFault.TheVariants as store
use Rattle.sb_calls.specs.declared.op.Op.{Op}
use Rattle.cown_board.specs.Board.{BoardOf}
use Rattle.sb_replica.specs.Marking.{PutsBytes, after_put}
use Rattle.sb_replica.specs.Replica.{ReplicaOf}
use Rattle.bank_server.specs.Saving.{IsSaveFaultOf, PutsThen, ReadsOther, Saves}
use Rattle.bank_server.specs.inner.SaveFaults.{save_of_store_fault}
use Rattle.bank_server.specs.declared.node0.save_fault.SaveFault.TheVariants.{ReadBack}

module _ {S : Type 0} (does : S → StoreStep → S → Type 0) (old mid new : ReplicaOf S) (bytes : List ℕ) (puts : PutsBytes does old bytes mid)
    (rest : new ≡ record mid { store = new.store }) (uncut : old.board.cut ≡ None) where
  -- without a cut the board stays as it is
  same_board : after_put (Ok tt) old.board ≡ old.board
  same_board = ap (λ (cut : Option ℕ). record old.board { cut = cut }) (sym uncut)

  then : (step : List ℕ → StoreStep → Type 0) (read : StoreStep) → does mid.store read new.store → step puts.0.bytes read → PutsThen does old step new
  then step read does_so which = record {
    mid = mid;
    puts = puts.0;
    read = read;
    does_so = does_so;
    which = which;
    stays = rest ∙ ap (λ (r : ReplicaOf S). record r { store = new.store }) puts.0.stays
        ∙ ap (λ (b : BoardOf Op). record old { board = b; store = new.store }) same_board;
  }

  -- what was put wasn't read back
  pub not_read : (fault : StoreFault) → does mid.store (GetFault fault) new.store → IsSaveFaultOf does old (save_of_store_fault fault) new
  not_read store.Device does_so = inr (then (λ bytes read. read ≡ GetFault store.Device) (GetFault store.Device) does_so refl)
  not_read store.OutOfMemory does_so = inr (then (λ bytes read. read ≡ GetFault store.OutOfMemory) (GetFault store.OutOfMemory) does_so refl)

  -- it was
  pub read_back : (held : Option (List ℕ)) → does mid.store (Get held) new.store → held ≡ Some bytes → Saves does old new
  read_back held does_so same = then (λ bytes read. read ≡ Get (Some bytes)) (Get held) does_so (ap Get (same ∙ ap Some (sym puts.1)))

  -- something else was
  pub read_other : (held : Option (List ℕ)) → does mid.store (Get held) new.store → held ≢ Some bytes → IsSaveFaultOf does old ReadBack new
  read_other held does_so other =
      then ReadsOther (Get held) does_so (held, (λ same. other (same ∙ ap Some puts.1)), refl)
