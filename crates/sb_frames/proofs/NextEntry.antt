-- The entry that a stream hands out, and where it has none.
use Rattle.std.proofs.Common.{◌≡◌, ℕ, ◌<◌, ◌≤◌, Bool, true, false, cond, eqb, List, length, drop, Option, Some, None, Result, Ok, Err, refl, sym, ap, subst, ◌∙◌}
use Rattle.std.specs.Prelude.{IfNone, IfSome}
use Rattle.std.specs.Result.{result_ok}
use Rattle.sb_calls.specs.Op.{IsOpWithin, at_place, at_two_places, op_of}
use Rattle.sb_calls.specs.declared.call.Call.{Call}
use Rattle.sb_calls.specs.declared.call.Call.TheVariants as calls
use Rattle.sb_calls.specs.declared.op.Op.{Op}
use Rattle.sb_calls.specs.declared.op.Op.TheVariants.{Balance, DepositChecking, TransactSavings, Amalgamate, WriteCheck, SendPayment, SameCustomer}
use Rattle.sb_rows.proofs.NamePlaces.{place_of_within}
use Rattle.sb_rows.specs.Directory.{place_of}
use Rattle.sb_frames.specs.Decoding.{decode_result, frame_size}
use Rattle.sb_frames.specs.Entries.{HasEntry, HasEntryOp}
use Rattle.sb_frames.specs.Streaming.{AreBytes, StreamState, next_by, next_of}
use Rattle.sb_frames.specs.declared.entry_op.EntryOp.{EntryOp}
use Rattle.sb_frames.specs.declared.fault.FrameFault.{FrameFault}
use Rattle.sb_frames.specs.declared.fault.FrameFault.TheVariants.{Short, BadLength, UnknownTag, BadName, BadAmount, BadReply, BadStatus}
use Rattle.sb_frames.specs.declared.fault.StreamFault.{StreamFault}
use Rattle.sb_frames.specs.declared.frame.Frame.{Frame}
use Rattle.sb_frames.specs.declared.frame.Frame.TheVariants.{Entry}
use Rattle.sb_frames.specs.inner.EntryReading.{first_entry}
use Rattle.sb_frames.proofs.EntryOps.{entry_with, first_entry_is_frame, frame_has_first_entry}
use Rattle.sb_frames.proofs.Frames.{decoded_size, decoded_takes}
use Rattle.sb_frames.proofs.NextFrame.{handed_out}

-- ---- an entry is there

ok_of : (names : List (List ℕ)) (unread : List ℕ) (entry : EntryOp) → result_ok (first_entry names unread) ≡ Some entry
    → first_entry names unread ≡ Ok entry
ok_of names unread entry e = of (first_entry names unread) e where
  of : (read : Result EntryOp FrameFault) → result_ok read ≡ Some entry → read ≡ Ok entry
  of (Ok found) e = cc
  of (Err fault) e = absurd cc

abbrev After : Type 0
After = Result (Option Frame) StreamFault × StreamState

-- this frame, with the stream after it
abbrev handing_out : Frame → List ℕ → Bool → After
handing_out frame unread failed = (Ok (Some frame), record { unread = unread; failed = failed })

-- what the first entry of the unread bytes says of the stream
has_op : (names : List (List ℕ)) (state : StreamState) (unread : List ℕ) (entry : EntryOp) → AreBytes unread
    → unread ≡ state.unread → state.failed ≡ false → first_entry names unread ≡ Ok entry → HasEntryOp names state entry
has_op names state unread entry are seen fine e =
    let found = first_entry_is_frame names unread entry e in
    let frame = Entry entry.number found.0 in
    let size = found.1 in
    let after : StreamState = record { unread = drop size state.unread; failed = false } in
    let decoded : decode_result state.unread ≡ Ok (frame, size) = ap decode_result (sym seen) ∙ found.2 in
    let spells = (decoded_takes unread frame size are found.2).1 in
    record {
      call = found.0;
      after = after;
      next = rw (fine, decoded) refl;
      looked_up = found.3;
      handed_out = handed_out state after unread frame size seen spells (ap (drop size) (sym seen)) refl;
    }

-- ---- its op has only customers of the directory

place_within : (names : List (List ℕ)) (op : ℕ → Op) (name : List ℕ) (place : Option ℕ) → place_of names name ≡ place
    → ((p : ℕ) → p < length names → IsOpWithin (length names) (op p)) → IsOpWithin (length names) (at_place op place)
place_within names op name None e h = tt
place_within names op name (Some p) e h = h p (place_of_within names name p e)

unless_same : (n : ℕ) (same : Bool) (op : Op) → IsOpWithin n op → IsOpWithin n (cond same SameCustomer op)
unless_same n true op h = tt
unless_same n false op h = h

places_within : (names : List (List ℕ)) (op : ℕ × ℕ → Op) (from to : List ℕ) (f t : Option ℕ) → place_of names from ≡ f → place_of names to ≡ t
    → ((p q : ℕ) → p < length names → q < length names → IsOpWithin (length names) (op (p, q))) → IsOpWithin (length names) (at_two_places op f t)
places_within names op from to None t d e h = tt
places_within names op from to (Some p) None d e h = tt
places_within names op from to (Some p) (Some q) d e h =
    unless_same (length names) (eqb p q) (op (p, q)) (h p q (place_of_within names from p d) (place_of_within names to q e))

op_within : (names : List (List ℕ)) (call : Call) → IsOpWithin (length names) (op_of names call)
op_within names (calls.Balance name) = place_within names Balance name (place_of names name) refl (λ p h. h)
op_within names (calls.DepositChecking name amount) =
    place_within names (λ place. DepositChecking place amount) name (place_of names name) refl (λ p h. h)
op_within names (calls.TransactSavings name amount) =
    place_within names (λ place. TransactSavings place amount) name (place_of names name) refl (λ p h. h)
op_within names (calls.Amalgamate from to) =
    places_within names Amalgamate from to (place_of names from) (place_of names to) refl refl (λ p q g h. (g, h))
op_within names (calls.WriteCheck name amount) = place_within names (λ place. WriteCheck place amount) name (place_of names name) refl (λ p h. h)
op_within names (calls.SendPayment from to amount) =
    places_within names (λ places. SendPayment places amount) from to (place_of names from) (place_of names to) refl refl (λ p q g h. (g, h))

entry_within : (names : List (List ℕ)) (unread : List ℕ) (entry : EntryOp) → first_entry names unread ≡ Ok entry
    → IsOpWithin (length names) entry.op
entry_within names unread entry e =
    let found = first_entry_is_frame names unread entry e in
    subst (λ (op : Op). IsOpWithin (length names) op) (sym found.3) (op_within names found.0)

-- ---- no entry is there

next_decoded : (unread : List ℕ) (read : Result (Frame × ℕ) FrameFault) (frame : Frame) (after : StreamState)
    → next_by read unread ≡ (Ok (Some frame), after) → (size : ℕ) × (read ≡ Ok (frame, size))
next_decoded unread (Ok found) frame after e =
    let answer : Ok (Some found.0) ≡ Ok (Some frame) = ap (λ (a : After). a.0) e in
    let is : found.0 ≡ frame = cc in
    (found.1, ap (λ (f : Frame). Ok (f, found.1)) is)
next_decoded unread (Err Short) frame after e = let answer = ap (λ (a : After). a.0) e in absurd cc
next_decoded unread (Err BadLength) frame after e = let answer = ap (λ (a : After). a.0) e in absurd cc
next_decoded unread (Err UnknownTag) frame after e = let answer = ap (λ (a : After). a.0) e in absurd cc
next_decoded unread (Err BadName) frame after e = let answer = ap (λ (a : After). a.0) e in absurd cc
next_decoded unread (Err BadAmount) frame after e = let answer = ap (λ (a : After). a.0) e in absurd cc
next_decoded unread (Err BadReply) frame after e = let answer = ap (λ (a : After). a.0) e in absurd cc
next_decoded unread (Err BadStatus) frame after e = let answer = ap (λ (a : After). a.0) e in absurd cc

none_is_there : (names : List (List ℕ)) (old : StreamState) (unread : List ℕ) → unread ≡ old.unread → old.failed ≡ false
    → result_ok (first_entry names unread) ≡ None → HasEntry old → ⊥
none_is_there names old unread seen fine none h =
    let read = next_decoded old.unread (decode_result old.unread) (Entry h.0 h.1) h.2 (rw fine at h.3) in
    let found = frame_has_first_entry names unread h.0 h.1 read.0 (ap decode_result seen ∙ read.1) in
    let some : result_ok (first_entry names unread) ≡ Some (entry_with h.0 (op_of names h.1)) = ap result_ok found in
    absurd cc

-- ---- a stream is looked at

pub peeked : (names : List (List ℕ)) (state : StreamState) (unread : List ℕ) (found : Option EntryOp) → AreBytes unread → unread ≡ state.unread
    → state.failed ≡ false → found ≡ result_ok (first_entry names unread)
    → IfSome found (λ entry. HasEntryOp names state entry) × IfNone found (¬ HasEntry state)
    × IfSome found (λ entry. IsOpWithin (length names) entry.op)
peeked names state unread (Some entry) are seen fine e =
    let read = ok_of names unread entry (sym e) in
    (has_op names state unread entry are seen fine read, tt, entry_within names unread entry read)
peeked names state unread None are seen fine e = (tt, none_is_there names state unread seen fine (sym e), tt)

-- ---- an entry is skipped

not_failed : (old : StreamState) → HasEntry old → old.failed ≡ false
not_failed old h = of old.failed refl where
  of : (failed : Bool) → old.failed ≡ failed → failed ≡ false
  of true e = let answer = ap (λ (a : After). a.0) (rw e at h.3) in absurd cc
  of false e = refl

-- the entry, and its size
pub front_entry : (old : StreamState) (unread : List ℕ) → unread ≡ old.unread → HasEntry old
    → (number : ℕ) × (call : Call) × (size : ℕ) × (decode_result unread ≡ Ok (Entry number call, size)) × (frame_size unread ≡ Ok size)
front_entry old unread seen h =
    let fine = not_failed old h in
    let read = next_decoded old.unread (decode_result old.unread) (Entry h.0 h.1) h.2 (rw fine at h.3) in
    let decoded : decode_result unread ≡ Ok (Entry h.0 h.1, read.0) = ap decode_result seen ∙ read.1 in
    (h.0, h.1, read.0, decoded, decoded_size unread (Entry h.0 h.1) read.0 decoded)

ok_is : (read : Result ℕ FrameFault) (one other : ℕ) → read ≡ Ok one → read ≡ Ok other → one ≡ other
ok_is (Ok size) one other e d = cc
ok_is (Err fault) one other e d = absurd cc

goes_on : (old : StreamState) (frame : Frame) (size : ℕ) (left : List ℕ) (failed : Bool) → old.failed ≡ false → decode_result old.unread ≡ Ok (frame, size)
    → drop size old.unread ≡ left → failed ≡ false → next_of old ≡ handing_out frame left failed
goes_on old frame size left failed fine decoded behind going =
    rw (fine, decoded) (ap (λ (xs : List ℕ). handing_out frame xs false) behind ∙ ap (λ (b : Bool). handing_out frame left b) (sym going))

-- what a stream is behind its size
pub skipped : (old : StreamState) (unread left : List ℕ) (failed : Bool) (size : ℕ) → HasEntry old → unread ≡ old.unread → failed ≡ old.failed
    → frame_size unread ≡ Ok size → left ≡ drop size unread
    → record { unread = left; failed = failed } ≡ (next_of old).1
skipped old unread left failed size h seen same sized rest =
    let fine = not_failed old h in
    let front = front_entry old unread seen h in
    let frame = Entry front.0 front.1 in
    let size_is : front.2 ≡ size = ok_is (frame_size unread) front.2 size front.4 sized in
    let decoded : decode_result old.unread ≡ Ok (frame, size) =
    ap decode_result (sym seen) ∙ front.3 ∙ ap (λ n. Ok (frame, n)) size_is in
    let behind : drop size old.unread ≡ left = ap (drop size) (sym seen) ∙ sym rest in
    ap (λ (a : After). a.1) (sym (goes_on old frame size left failed fine decoded behind (same ∙ fine)))
