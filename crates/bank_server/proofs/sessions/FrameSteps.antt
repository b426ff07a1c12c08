-- What is handled, frame after frame, and faults.
use Rattle.std.proofs.Common.{◌≡◌, ℕ, Bool, false, Result, Err, List, [], ◌++◌, refl, sym, ap, subst, ◌∙◌, append_assoc, arith}
use Rattle.std.specs.Prelude.{◌≢◌}
use Rattle.std.specs.List.{flat_map}
use Rattle.std.proofs.lemmas.Grind.{flat_map-append}
use Rattle.sb_calls.specs.declared.op.Op.{Op}
use Rattle.sb_ask_log.specs.Keeping.{KeeperModel}
use Rattle.cown_board.specs.Board.{BoardOf}
use Rattle.cown_workers.specs.Draining.{HasNoneOut, PreservesLog}
use Rattle.sb_frames.proofs.Frames.{decoded_settled}
use Rattle.sb_frames.specs.Decoding.{decode_result, frame_size}
use Rattle.sb_frames.specs.Grammar.{spelling}
use Rattle.sb_frames.specs.declared.fault.FrameFault.{FrameFault}
use Rattle.sb_frames.specs.declared.fault.FrameFault.TheVariants.{Short}
use Rattle.sb_frames.specs.declared.frame.Frame.{Frame}
use Rattle.sb_replica.specs.Replica.{ReplicaOf, RestOf, rest_of}
use Rattle.bank_server.specs.NodeTurns.{TurnsLead}
use Rattle.bank_server.specs.Primary.{PreservesBank, PrimaryOf, log_ops}
use Rattle.bank_server.specs.inner.NumberedAsks.{NumbersAsks}
use Rattle.bank_server.specs.SessionResults.{IsFaultAt}
use Rattle.bank_server.specs.SessionFaults.{LosesCrew}
use Rattle.bank_server.specs.declared.session.session_fault.SessionFault.{SessionFault}
use Rattle.bank_server.specs.declared.session.session_fault.SessionFault.TheVariants as faults
use Rattle.bank_server.specs.declared.session.session_fault.SessionFault.TheVariants.{Unexpected, CrewGone, Device, OutOfMemory, Log, TooMany}
use Rattle.bank_server.proofs.sessions.Keeping.{extends_after, goes_on_after, kept_bank}
use Rattle.bank_server.proofs.boards.NodeTurns.{goes_on, turned_for_longer}

-- frames more, behind those of bytes before
pub further : (bytes heard unread left : List ℕ) (wires more : List Frame) → heard ≡ flat_map spelling wires ++ unread
    → unread ++ bytes ≡ flat_map spelling more ++ left → heard ++ bytes ≡ flat_map spelling (wires ++ more) ++ left
further bytes heard unread left wires more heard_are read =
    ap (λ (l : List ℕ). l ++ bytes) heard_are ∙ append_assoc (flat_map spelling wires) unread bytes
    ∙ ap (λ (l : List ℕ). flat_map spelling wires ++ l) read ∙ sym (append_assoc (flat_map spelling wires) (flat_map spelling more) left)
    ∙ ap (λ (l : List ℕ). l ++ left) (sym (flat_map-append spelling wires more))

-- ---- faults

pub keeps_on : {S K : Type 0} {model : KeeperModel K} (old mid new : PrimaryOf S K)
    → PreservesBank model old mid → PreservesBank model mid new → PreservesBank model old new
keeps_on {S} old mid new first second = record {
  rest = second.rest ∙ first.rest;
  opening = second.opening ∙ first.opening;
  log = extends_after old.log mid.log new.log first.log second.log;
  keeper = goes_on_after old.keeper mid.keeper new.keeper old.log mid.log new.log first.keeper second.keeper;
  turns = goes_on (log_ops new.node.names new.log)
      (turned_for_longer new.node.names mid.log new.log old.node mid.node second.log
      (subst (λ (r : RestOf S). TurnsLead (log_ops r.names mid.log) old.node mid.node) (sym second.rest) first.turns))
      second.turns;
}

-- then node 0 executes what is unfinished
pub executes_on : {S K : Type 0} {model : KeeperModel K} (old mid new : PrimaryOf S K) (at : ReplicaOf S)
    → PreservesBank model old mid → at ≡ mid.node → rest_of new.node ≡ rest_of at → PreservesLog at.board new.node.board
    → ((log : List Op) → TurnsLead log at new.node) → new.keeper ≡ mid.keeper → new.log ≡ mid.log → PreservesBank model old new
executes_on {S} old mid new at bank there rest stays turns keeper log =
    let ops = log_ops mid.node.names mid.log in
    keeps_on old mid new bank (kept_bank mid new
    (rest ∙ ap (λ (r : ReplicaOf S). rest_of r) there) (stays.opening ∙ ap (λ (r : ReplicaOf S). r.board.opening) there) keeper log
    (subst (λ (r : ReplicaOf S). TurnsLead ops r new.node) there (turns ops)))

pub numbers_on : {S K : Type 0} {model : KeeperModel K} (old mid new : PrimaryOf S K)
    → NumbersAsks model old mid → NumbersAsks model mid new → NumbersAsks model old new
numbers_on old mid new first second = record {
  grows = omega (arith, first.grows, second.grows);
  node = second.node ∙ first.node;
  bank = keeps_on old mid new first.bank second.bank;
}

pub loses_behind : (keeps : Bool) (old mid : BoardOf Op) (fault : SessionFault) → (keeps ≡ false → HasNoneOut old → HasNoneOut mid) → LosesCrew keeps mid fault
    → LosesCrew keeps old fault
loses_behind keeps old mid (faults.Frame f) none is = tt
loses_behind keeps old mid Unexpected none is = tt
loses_behind keeps old mid CrewGone none is = λ e out. is e (none e out)
loses_behind keeps old mid Device none is = tt
loses_behind keeps old mid OutOfMemory none is = tt
loses_behind keeps old mid (Log f) none is = tt
loses_behind keeps old mid TooMany none is = tt

err_is : {T : Type 0} {x y : FrameFault} → ◌≡◌ {A = Result T FrameFault} (Err x) (Err y) → x ≡ y
err_is h = cc

pub nothing_short : decode_result [] ≡ Err Short
unfolding decode_result frame_size
nothing_short = refl

-- bytes that no frame begins with stay so, whatever bytes follow
pub bad_at : (rest more : List ℕ) (fault : FrameFault) → decode_result rest ≡ Err fault → fault ≢ Short → IsFaultAt (faults.Frame fault) (rest ++ more)
bad_at rest more fault bad long =
    let settled : decode_result (rest ++ more) ≡ Err fault = decoded_settled rest more (λ short. long (err_is (sym bad ∙ short))) ∙ bad in
    (settled, λ none. long (err_is (sym settled ∙ ap decode_result none ∙ nothing_short)))
