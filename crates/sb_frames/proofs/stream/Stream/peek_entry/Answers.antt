use Rattle.std.proofs.Common.{◌≡◌, false, sym, ap, ◌∙◌}
use Rattle.std.specs.Prelude.{IfNone, IfSome, length}
use Rattle.sb_calls.specs.Op.{IsOpWithin}
use Rattle.sb_frames.specs.Entries.{HasEntry, HasEntryOp}
use Rattle.sb_frames.specs.Streaming.{StreamState}
use Rattle.sb_frames.proofs.NextEntry.{peeked}
use Rattle.sb_frames.proofs.stream.Stream.peek_entry.Goals as goal

all : (c : goal.After-first_entry) → IfSome c.first_entry.result (λ entry. HasEntryOp c.args.directory.now c.args.self.now entry)
    × IfNone c.first_entry.result (¬ HasEntry c.args.self.now)
    × IfSome c.first_entry.result (λ entry. IsOpWithin (length c.args.directory.now) entry.op)
all c =
    let seen = c.deref.ensures ∙ ap (λ (s : StreamState). s.unread) c.self.view_is in
    let fine : c.args.self.now.failed ≡ false = sym (ap (λ (s : StreamState). s.failed) c.self.view_is) ∙ c.if-self.false in
    peeked c.args.directory.now c.args.self.now c.deref.result.now c.first_entry.result c.first_entry.ensures.bytes seen fine c.first_entry.ensures.entry

pub returns-clause-entry : goal.returns-clause-entry
returns-clause-entry c = (all c).0

pub returns-clause-none : goal.returns-clause-none
returns-clause-none c = (all c).1

pub returns-clause-within : goal.returns-clause-within
returns-clause-within c = (all c).2
