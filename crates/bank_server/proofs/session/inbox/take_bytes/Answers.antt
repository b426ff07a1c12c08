use Rattle.std.proofs.Common.{◌≡◌, ◌<◌, ◌++◌, List, length, ℕ, subst}
use Rattle.std.specs.Prelude.{◌↔◌, IfErr, IfOk, IsTrue, OnOk}
use Rattle.bank_server.specs.inner.ClientSteps.{HandlesClient, StopsClient, inbox_state}
use Rattle.bank_server.specs.Primary.{opening_rows_of}
use Rattle.bank_server.proofs.clients.ClientSteps.{fed_unread, handles_nothing}
use Rattle.bank_server.proofs.sessions.Keeping.{numbers_nothing}
use Rattle.bank_server.proofs.session.inbox.take_bytes.Goals as goal

pub returns-then-is_err-clause-stops : goal.returns-then-is_err-clause-stops
returns-then-is_err-clause-stops g c outcomes =
    let at = inbox_state c.args.primary.now.log c.args.inbox.now outcomes in
    let unread = c.args.inbox.now.stream.unread ++ c.args.bytes.now in
    record { rest = unread; handles = handles_nothing (opening_rows_of c.args.primary.now) at unread; at = λ more. tt; of_frames = tt }

pub returns-then-is_err-clause-numbered : goal.returns-then-is_err-clause-numbered
returns-then-is_err-clause-numbered g c = numbers_nothing c.args.primary.now

pub returns-clause-handles : goal.returns-clause-handles
returns-clause-handles g c =
    let fed : c.feed.new.self.unread ≡ c.args.inbox.now.stream.unread ++ c.args.bytes.now =
    fed_unread c.args.inbox.now.stream c.feed.new.self c.args.bytes.now c.feed.result c.if-is_err.ensures.value c.feed.ensures.state in
    subst (λ (unread : List ℕ). OnOk c.take_frames.result ((outcomes : List ℕ) → HandlesClient (opening_rows_of c.args.primary.now)
    (inbox_state c.args.primary.now.log c.args.inbox.now outcomes) unread
    (inbox_state c.take_frames.new.primary.log c.take_frames.new.inbox outcomes) c.take_frames.new.inbox.stream.unread))
    fed c.take_frames.ensures.handles

pub returns-clause-stops : goal.returns-clause-stops
returns-clause-stops g c =
    let fed : c.feed.new.self.unread ≡ c.args.inbox.now.stream.unread ++ c.args.bytes.now =
    fed_unread c.args.inbox.now.stream c.feed.new.self c.args.bytes.now c.feed.result c.if-is_err.ensures.value c.feed.ensures.state in
    subst (λ (unread : List ℕ). IfErr c.take_frames.result (λ fault. (outcomes : List ℕ) → StopsClient (opening_rows_of c.args.primary.now) c.args.most
    (inbox_state c.args.primary.now.log c.args.inbox.now outcomes) unread fault
    (inbox_state c.take_frames.new.primary.log c.take_frames.new.inbox outcomes)))
    fed c.take_frames.ensures.stops

pub returns-clause-whole : goal.returns-clause-whole
returns-clause-whole g c =
    let fed : c.feed.new.self.unread ≡ c.args.inbox.now.stream.unread ++ c.args.bytes.now =
    fed_unread c.args.inbox.now.stream c.feed.new.self c.args.bytes.now c.feed.result c.if-is_err.ensures.value c.feed.ensures.state in
    subst (λ (unread : List ℕ). IfOk c.take_frames.result (λ has_frame. IsTrue has_frame
    ↔ (length c.take_frames.new.inbox.stream.unread < length unread))) fed c.take_frames.ensures.whole
