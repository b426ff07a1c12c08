-- States that replicas of a world keep and were sent.
use Rattle.std.proofs.Common.{◌≡◌, ◌≢◌, ◌⊎◌, inl, inr, ◌==◌, Bool, true, false, ℕ, ◌<◌, ◌≤◌, Option, Some, None, Result, List, Bor, length, get_or, refl, sym, ap, subst, ◌∙◌, arith}
use Rattle.std.specs.Prelude.{slice_get, option_map, option_and_then, IfSome, MatchOption}
use Rattle.std.specs.List.{slice_index_or}
use Rattle.std.specs.Option.{option_copied}
use Rattle.std.proofs.lemmas.Bool.{ne_eqb}
use Rattle.std.proofs.lemmas.Option.{slice_get-get_or, slice_get_past, slice_get_within}
use Rattle.sb_checkpoint.specs.Reading.{stated_reply_count}
use Rattle.sb_rows.specs.Balances.{Balances}
use Rattle.sb_sequencer.specs.Donors.{HasStateFor}
use Rattle.sb_sequencer.specs.Sequencer.{SequencerOf}
use Rattle.schedule_sequencer.specs.DurableSequencer.{DurableSequencerOf}
use Rattle.sb_calls.specs.declared.nodes.TheConstants.{REPLICAS}
use Rattle.schedule_player.specs.Bank.{BankOf}
use Rattle.schedule_player.specs.Books.{IsStateAt}
use Rattle.schedule_player.specs.LogAgreement.{WorldAgreesWithLog}
use Rattle.schedule_player.specs.inner.NodeInvariant.{IsNodeAt, IsStateOfLog, HasState, Steps, machine_node}
use Rattle.schedule_player.specs.OneBased.{nth_item}
use Rattle.schedule_player.specs.Observers.{state_at}
use Rattle.schedule_player.specs.ReplicaMoves.{NodeOf, receive_move, opened_node}
use Rattle.schedule_player.specs.World.{WorldOf, bank_of, bank_with, give_at, give_move, move_at, move_if}
use Rattle.schedule_player.specs.inner.WorldInvariant.{IsWorld}
use Rattle.schedule_player.specs.declared.fault.StepFault.{StepFault}
use Rattle.schedule_player.specs.declared.node.Node.{Node}
use Rattle.schedule_text.specs.declared.note.Note.{Note}
use Rattle.schedule_text.specs.declared.note.Note.TheVariants as note
use Rattle.schedule_player.proofs.observers.AuditResults.{LookedUp}
use Rattle.schedule_player.proofs.checkpoints.StatesOfLog.{nth_item-map, state_is}
use Rattle.schedule_player.proofs.Lists.{every_numbered, get_here}
use Rattle.cown_board.proofs.LogLaws.{no_some as none_some}
use Rattle.cown_board.proofs.LogLaws.{injective as some_is}
use Rattle.schedule_player.proofs.logs.LongerLogs.{IsBeginningOf, state_begun}
use Rattle.schedule_player.proofs.events.WorldStep.{world_of, Stepped, steps}
use Rattle.schedule_player.proofs.boards.Stages.{length-map}
use Rattle.schedule_player.proofs.events.MemoryRefusals.{give_by}

-- a state that is sent moves its replica as the machine moves it
pub received : (names : List (List ℕ)) (opening : Balances) (s : DurableSequencerOf) (nodes : List Node) (now : WorldOf) (r : ℕ)
    (old new : Node) (bytes : List ℕ) (result : Result Note StepFault)
    → world_of names opening s nodes ≡ now → IsWorld names opening s.synced nodes → r < length now.nodes
    → old ≡ slice_index_or nodes r old → IsStateOfLog (bank_of now) bytes
    → ((bank : BankOf) (q : ℕ) → IsNodeAt bank q old → IsStateOfLog bank bytes
    → Steps bank q old new result (receive_move (machine_node old) (stated_reply_count bytes)))
    → Stepped names opening s nodes r new (λ node. receive_move node (stated_reply_count bytes)) result
received names opening s nodes now r old new bytes result view is within at state goes =
    let size = ap (λ w. length w.nodes) view in
    let many = length-map machine_node nodes in
    let lt : r < length nodes = omega (arith, size, many, within) in
    let here = get_here nodes r old lt at in
    steps names opening s nodes r old new (λ node. receive_move node (stated_reply_count bytes)) result is here (λ out_in_hands. out_in_hands)
    (goes (bank_with names opening s.synced.log) r (is.each r old here) (subst (λ w. IsStateOfLog (bank_of w) bytes) (sym view) state))

-- a replica that exists
pub there : (now : WorldOf) (r : ℕ) → r < length now.nodes → (node : NodeOf) × (slice_get now.nodes r ≡ Some node)
there now r within = (get_or now.nodes r (opened_node 0), slice_get-get_or now.nodes r (opened_node 0) within)

-- the machine sees as many as there are
pub counted : (names : List (List ℕ)) (opening : Balances) (s : DurableSequencerOf) (nodes : List Node) (now : WorldOf) (r count : ℕ)
    → world_of names opening s nodes ≡ now → count ≡ length nodes → r < count → r < length now.nodes
counted names opening s nodes now r count view is within =
    let size = ap (λ w. length w.nodes) view in
    let many = length-map machine_node nodes in
    omega (arith, size, many, is, within)

-- the state that a replica has, if it is of these bytes
pub has_these : {A : Type 0} (items : A → List ℕ) (bank : BankOf) (node : NodeOf) (state : Option A) (bytes : A) → state ≡ Some bytes
    → HasState bank node (option_map items state) → HasState bank node (Some (items bytes))
has_these items bank node state bytes is has = subst (λ s. HasState bank node (option_map items s)) is has

-- a state of at least one entry goes to the other replica
pub gives : (now : WorldOf) (a r size : ℕ) (node : NodeOf) → slice_get now.nodes a ≡ Some node → size ≡ node.stored → node.stored ≢ 0
    → move_at now r (λ one. receive_move one size) ≡ give_move now r (slice_get now.nodes a)
gives now a r size node here is some =
    ap (λ n. move_at now r (λ one. receive_move one n)) is
    ∙ sym (ap (give_by now r node.stored) (ne_eqb node.stored 0 some))
    ∙ sym (ap (give_move now r) here)

-- nothing is given where one of the two replicas is missing
pub gives_nowhere : (now : WorldOf) (a r : ℕ) → (length now.nodes ≤ a) ⊎ (length now.nodes ≤ r)
    → give_move now r (slice_get now.nodes a) ≡ (now, note.Nothing)
gives_nowhere now a r (inl far) = ap (give_move now r) (slice_get_past now.nodes a far)
gives_nowhere now a r (inr far) = by (slice_get now.nodes a)
  where
    given : (size : ℕ) (nothing : Bool) → give_by now r size nothing ≡ (now, note.Nothing)
    given size true = refl
    given size false = ap (move_if now r (λ one. receive_move one size)) (slice_get_past now.nodes r far)

    by : (found : Option NodeOf) → give_move now r found ≡ (now, note.Nothing)
    by None = refl
    by (Some donor) = given donor.stored (donor.stored == 0)

-- or where the donor keeps no entry
pub gives_nothing : (now : WorldOf) (a r : ℕ) (node : NodeOf) → slice_get now.nodes a ≡ Some node → node.stored ≡ 0
    → give_move now r (slice_get now.nodes a) ≡ (now, note.Nothing)
gives_nothing now a r node here none = ap (give_move now r) here ∙ ap (give_at now r) none

-- a replica that the sequencer doesn't know gets none
pub no_donor : (s : SequencerOf) (replica donor size : ℕ) → length s.recorded ≤ REPLICAS → (replica < 256 → ⊥) → HasStateFor s replica donor size → ⊥
no_donor s replica donor size few far has =
    let known = has.2 in
    let within = slice_get_within s.recorded replica known.0 known.1 in
    far (omega (arith, few, within))

-- what is seen of the state at a place
pub state_here : (now : WorldOf) (r : ℕ) (node : Node) → LookedUp now r node → (place : ℕ) (answer : Option (Bor (List ℕ)))
    → option_copied answer ≡ nth_item node.states place
    → MatchOption answer (state_at now r place ≡ None)
    (λ bytes. (size : ℕ) × (state_at now r place ≡ Some size) × IsStateAt (bank_of now) size bytes.now)
state_here now r node found place answer e = by answer e
  where
    seen : state_at now r place ≡ option_map stated_reply_count (nth_item node.states place)
    seen = ap (option_and_then (λ one. nth_item one.states place)) found.seen ∙ nth_item-map stated_reply_count node.states place

    by : (x : Option (Bor (List ℕ))) → option_copied x ≡ nth_item node.states place
        → MatchOption x (state_at now r place ≡ None) (λ bytes. (size : ℕ) × (state_at now r place ≡ Some size) × IsStateAt (bank_of now) size bytes.now)
    by None here = seen ∙ ap (option_map stated_reply_count) (sym here)
    by (Some bytes) here = (
      stated_reply_count bytes.now,
      seen ∙ ap (option_map stated_reply_count) (sym here),
      state_is (bank_of now) bytes.now found.consistent.customers
          (every_numbered (IsStateOfLog (bank_of now)) node.states place bytes.now found.consistent.states (sym here)),
    )

-- a state that was sent is at most as long as the bank's log
sent_within : (now : WorldOf) (r place size : ℕ) → WorldAgreesWithLog now → state_at now r place ≡ Some size → size ≤ length (bank_of now).calls
sent_within now r place size agrees here = by (slice_get now.nodes r) refl here
  where
    by : (found : Option NodeOf) → slice_get now.nodes r ≡ found → option_and_then (λ node. nth_item node.states place) found ≡ Some size
        → size ≤ length (bank_of now).calls
    by None none e = absurd (none_some e)
    by (Some node) at e =
        let calls = length-map (λ entry. entry.1) now.sequencer.synced.log in
        let within = every_numbered (λ n. n ≤ length now.sequencer.synced.log) node.states place size (agrees.states r node at) e in
        omega (arith, calls, within)

-- the same for a bank whose calls go on
pub state_by_log : (now : WorldOf) (r place : ℕ) (bank : BankOf) (answer : Option (Bor (List ℕ))) → WorldAgreesWithLog now
    → IsBeginningOf (bank_of now) bank
    → MatchOption answer (state_at now r place ≡ None)
    (λ bytes. (size : ℕ) × (state_at now r place ≡ Some size) × IsStateAt (bank_of now) size bytes.now)
    → IfSome answer (λ bytes. (size : ℕ) → state_at now r place ≡ Some size → IsStateAt bank size bytes.now)
state_by_log now r place bank None agrees begins value = tt
state_by_log now r place bank (Some bytes) agrees begins value = λ size here.
    subst (λ n. IsStateAt bank n bytes.now) (some_is (sym value.1 ∙ here))
    (state_begun (bank_of now) bank value.0 bytes.now begins (sent_within now r place value.0 agrees value.1) value.2)
