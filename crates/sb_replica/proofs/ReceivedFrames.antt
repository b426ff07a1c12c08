-- What a replica received of a stream: an entry, or what came in its place.
use Rattle.std.proofs.Common.{◌≡◌, Some, Result, Ok, Err, refl, sym, ap, ◌∙◌}
use Rattle.std.specs.Prelude.{◌≢◌}
use Rattle.cown_board.specs.Board.{unfinished_of}
use Rattle.cown_board.specs.declared.board.TheConstants.{OPEN_BEHAVIOURS}
use Rattle.sb_calls.specs.declared.op.Op.{Op}
use Rattle.sb_frames.specs.Entries.{HasEntryOp}
use Rattle.sb_frames.specs.Grammar.{spelling}
use Rattle.sb_frames.specs.Streaming.{StreamState, next_of}
use Rattle.sb_frames.specs.declared.entry_op.EntryOp.{EntryOp}
use Rattle.sb_frames.specs.declared.frame.Frame.{Frame}
use Rattle.sb_frames.specs.declared.frame.Frame.TheVariants as frames
use Rattle.sb_replica.proofs.ReceivedBytes.{ignores, spells, whole_is}
use Rattle.sb_replica.proofs.RoomForEntries.{never_busy}
use Rattle.sb_replica.specs.Frames.{entry_answer}
use Rattle.sb_replica.specs.Offers.{after_offer, offer_answer}
use Rattle.sb_replica.specs.Receiving.{Receives}
use Rattle.sb_replica.specs.Replica.{ReplicaOf, log_of, with_log}
use Rattle.sb_replica.specs.inner.OtherFrames.{HandsOutOther}
use Rattle.sb_replica.specs.declared.fault.ReceiveFault.{ReceiveFault}
use Rattle.sb_replica.specs.declared.fault.ReceiveFault.TheVariants as fault
use Rattle.sb_replica.specs.declared.heard.Heard.{Heard}
use Rattle.sb_replica.specs.declared.received.Received.{Received}
use Rattle.sb_replica.specs.declared.received.Received.TheVariants.{Entry, Other, Short, Busy}

module _ {S : Type 0} (old : ReplicaOf S) (from rest : StreamState) where
  pub other_received : (answer : Result Received ReceiveFault) → HandsOutOther from answer rest → Receives old from answer old rest
  other_received (Ok (Entry heard)) h = elim h [ ]
  other_received (Ok (Other frame)) h = (h.0, record { next = h.1; received = ignores old frame h.2.valid h.0 })
  other_received (Ok Short) h = (h.0, refl, h.1)
  other_received (Ok Busy) h = elim h [ ]
  other_received (Err (fault.Stream why)) h = (h.0, refl, h.1)
  other_received (Err fault.OutOfMemory) h = elim h [ ]

  pub entry_received : (entry : EntryOp) (heard : Heard) (new : ReplicaOf S) → HasEntryOp old.names from entry
      → unfinished_of old.board ≢ OPEN_BEHAVIOURS → heard ≡ entry_answer entry.number (offer_answer old.board entry.number)
      → new ≡ with_log old (after_offer (log_of old) entry.op (offer_answer old.board entry.number)) → rest ≡ (next_of from).1
      → Receives old from (Ok (Entry heard)) new rest
  entry_received entry heard new has room answered after skipped =
      let frame = frames.Entry entry.number has.call in
      let behind : has.after ≡ rest = sym (skipped ∙ ap (λ a. a.1) has.next) in (
        frame,
        tt,
        (λ size e. never_busy old.board entry.number room size (sym answered ∙ e)),
        record {
          next = has.next ∙ ap (λ (s : StreamState). (Ok (Some frame), s)) behind;
          received = record {
            frame = frame;
            whole = whole_is frame (spelling frame) (spells frame has.handed_out.valid);
            answer_is = answered;
            after = after
                ∙ ap (λ (op : Op). with_log old (after_offer (log_of old) op (offer_answer old.board entry.number))) has.looked_up;
          };
        },
      )
