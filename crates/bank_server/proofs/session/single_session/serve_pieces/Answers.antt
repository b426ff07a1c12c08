use Rattle.std.proofs.Common.{◌≡◌, Option, Some, None, length, refl, sym, ap, subst, ◌∙◌, inl, inr}
use Rattle.std.specs.Prelude.{◌⊎◌, OnOk}
use Rattle.std.proofs.lemmas.Result.{err_from_is_err_and}
use Rattle.sb_rows.specs.Rows.{Rows}
use Rattle.sb_sequencer.specs.Numbering.{IsLog}
use Rattle.bank_server.specs.Clients.{ClientOf, End, IsSound, fresh_client, piece_of}
use Rattle.bank_server.specs.Primary.{opening_rows_of}
use Rattle.bank_server.specs.SessionFaults.{session_of_crew_fault}
use Rattle.bank_server.specs.inner.ClientTurns.{StopsHearing}
use Rattle.bank_server.specs.inner.SessionSteps.{IsInSession, ServesPiece}
use Rattle.bank_server.specs.declared.session.client_limits.ClientLimits.{ClientLimits}
use Rattle.bank_server.specs.declared.session.session_fault.SessionFault.TheVariants.{Device}
use Rattle.bank_server.proofs.boards.WholeReplies.{ok_always, same_opening}
use Rattle.bank_server.proofs.clients.ClientPlaces.{fresh_ready}
use Rattle.bank_server.proofs.clients.OneClient.{flush_of_crew, own_ending, session_begins, session_broken, session_failed, session_on, session_still, session_stopped, session_well}
use Rattle.bank_server.proofs.sessions.FrameSteps.{keeps_on}
use Rattle.bank_server.proofs.sessions.Serving.{serves_behind}
use Rattle.bank_server.proofs.session.single_session.serve_pieces.Goals as goal

-- where a turn that ends a client leaves the whole log executed, it is
whole_at_end : {P : Type 0} (ending : End) (old new : Option End) → P ⊎ (new ≡ old) → old ≡ None → new ≡ Some ending → OnOk ending P
whole_at_end ending old new (inl whole) on is = ok_always ending whole
whole_at_end ending old new (inr same) on is = absurd (some_isnt_none (sym is ∙ same ∙ on))
  where
    some_isnt_none : Some ending ≡ None → ⊥
    some_isnt_none e = cc

pub returns-in_err-settle-clause-cut_short : goal.returns-in_err-settle-clause-cut_short
returns-in_err-settle-clause-cut_short g c =
    let p = err_from_is_err_and c.from_residual.result c.from_residual.ensures.1 in
    let old = c.args.primary.now in
    let start = g.W.Write.contents c.args.writer.now.writer.now in
    let given = g.R.Read.remaining c.args.reader.now in
    let fault = c.in_err-settle.field-0.0 in
    let settled = c.in_err-settle.ensures in
    let log = c.settle.new.self.log in
    let is : IsLog old.log = subst IsLog (ap (λ p. p.log) settled.unchanged) settled.one_each in
    let client = fresh_client (record { asks = 0; unread = 0 }) in
    rw (p.1, p.2) (session_broken (opening_rows_of old) old.log given given start start start log client (session_of_crew_fault fault) (flush_of_crew fault)
    (session_begins (opening_rows_of old) old.log given start log client.limits client is (ap (λ p. p.log) settled.unchanged) refl))

pub returns-in_err-settle-clause-serves : goal.returns-in_err-settle-clause-serves
returns-in_err-settle-clause-serves g c =
    let p = err_from_is_err_and c.from_residual.result c.from_residual.ensures.1 in
    rw (p.1, p.2) c.in_err-settle.ensures.serves

pub loop-init : goal.loop-init
loop-init g c =
    let old = c.args.primary.now in
    let start = g.W.Write.contents c.args.writer.now.writer.now in
    let given = g.R.Read.remaining c.args.reader.now in
    let settled = c.in_ok-settle.ensures in
    let log = c.settle.new.self.log in
    let is : IsLog old.log = subst IsLog (ap (λ p. p.log) settled.unchanged) settled.one_each in
    let fresh = c.new-client.ensures in
    record {
      session = session_begins (opening_rows_of old) old.log given start log c.alone.result c.new-client.result is
          (ap (λ p. p.log) settled.unchanged) fresh;
      same_writer = refl;
      sound = subst (λ (x : ClientOf). IsSound (length log) x) (sym fresh) (fresh_ready c.alone.result (length log)).sound;
      on = ap (λ (x : ClientOf). x.ending) fresh;
      told = ap (λ (x : ClientOf). x.outcomes) fresh;
      none_due = ap (λ (x : ClientOf). x.due) fresh;
      limit = ap (λ (x : ClientOf). x.limits.asks) fresh ∙ c.alone.ensures.asks;
      bank = settled.serves.bank;
      none_out = settled.serves.none_out;
    }

pub loop-preserved-in_default : goal.loop-preserved-in_default
loop-preserved-in_default g c =
    let old = c.args.primary.now in
    let kept = c.loop.invariant in
    record {
      session = session_still (opening_rows_of old) old.log (g.R.Read.remaining c.args.reader.now) (g.R.Read.remaining c.loop.reader)
          (g.R.Read.remaining c.read_piece.new.reader) (g.W.Write.contents c.args.writer.now.writer.now) (g.W.Write.contents c.loop.writer.writer.now)
          c.loop.primary.log c.loop.client kept.on c.in_default.ensures.none kept.session;
      same_writer = kept.same_writer;
      sound = kept.sound;
      on = kept.on;
      told = kept.told;
      none_due = kept.none_due;
      limit = kept.limit;
      bank = kept.bank;
      none_out = kept.none_out;
    }

pub serve_piece-requires-clause-sound : goal.serve_piece-requires-clause-sound
serve_piece-requires-clause-sound g c = c.loop.invariant.sound

pub serve_piece-requires-clause-told : goal.serve_piece-requires-clause-told
serve_piece-requires-clause-told g c = c.loop.invariant.told

pub returns-in_err-serve_piece-clause-cut_short : goal.returns-in_err-serve_piece-clause-cut_short
returns-in_err-serve_piece-clause-cut_short g c =
    let p = err_from_is_err_and c.from_residual-in_err-serve_piece.result c.from_residual-in_err-serve_piece.ensures.1 in
    let old = c.args.primary.now in
    let loop = c.loop in
    let kept = loop.invariant in
    let new = c.serve_piece.new in
    let piece = piece_of c.read_piece.new.chunk c.in-Some.read in
    let stops : StopsHearing (opening_rows_of old) loop.primary.log loop.client piece new.primary.log =
    subst (λ (rows : Rows). StopsHearing rows loop.primary.log loop.client piece new.primary.log) (same_opening old loop.primary kept.bank)
    c.in_err-serve_piece.ensures.stopped in
    rw (p.1, p.2) (session_stopped (opening_rows_of old) old.log (g.R.Read.remaining c.args.reader.now) (g.R.Read.remaining loop.reader)
    (g.R.Read.remaining c.read_piece.new.reader) (g.W.Write.contents c.args.writer.now.writer.now) (g.W.Write.contents loop.writer.writer.now)
    (g.W.Write.contents new.writer.writer.now) loop.primary.log new.primary.log loop.client piece c.in_err-serve_piece.field-0.0
    c.in_err-serve_piece.ensures.fault kept.on stops c.in-Some.ensures.bytes kept.session)

pub returns-in_err-serve_piece-clause-serves : goal.returns-in_err-serve_piece-clause-serves
returns-in_err-serve_piece-clause-serves g c =
    let p = err_from_is_err_and c.from_residual-in_err-serve_piece.result c.from_residual-in_err-serve_piece.ensures.1 in
    let kept = c.loop.invariant in
    rw (p.1, p.2) (serves_behind _ c.args.primary.now c.loop.primary c.serve_piece.new.primary kept.bank kept.none_out
    c.in_err-serve_piece.ensures.serves)

pub returns-in-Some-ending-clause-served : goal.returns-in-Some-ending-clause-served
returns-in-Some-ending-clause-served g c =
    let old = c.args.primary.now in
    let opening = opening_rows_of old in
    let start = g.W.Write.contents c.args.writer.now.writer.now in
    let given = g.R.Read.remaining c.args.reader.now in
    let loop = c.loop in
    let kept = loop.invariant in
    let step = c.in_ok-serve_piece.ensures in
    let new = c.serve_piece.new in
    let left = g.R.Read.remaining c.read_piece.new.reader in
    let before = g.W.Write.contents loop.writer.writer.now in
    let after = g.W.Write.contents new.writer.writer.now in
    let piece = piece_of c.read_piece.new.chunk c.in-Some.read in
    let serves : ServesPiece opening loop.primary.log loop.client before piece new.primary.log new.client after =
    subst (λ (rows : Rows). ServesPiece rows loop.primary.log loop.client before piece new.primary.log new.client after)
    (same_opening old loop.primary kept.bank) step.served in
    let session : IsInSession opening old.log given left start after new.primary.log new.client =
    session_on opening old.log given (g.R.Read.remaining loop.reader) left start before after loop.primary.log new.primary.log loop.client new.client
    piece kept.on serves c.in-Some.ensures.bytes c.in-Some.ensures.end kept.session in
    session_well opening old.log given left start after new.primary.log new.client c.in-Some-ending.ending
    (sym c.ending.ensures ∙ c.in-Some-ending.is) step.none_due step.told session

pub returns-in-Some-ending-clause-whole_log : goal.returns-in-Some-ending-clause-whole_log
returns-in-Some-ending-clause-whole_log g c =
    whole_at_end c.in-Some-ending.ending c.loop.client.ending c.serve_piece.new.client.ending c.in_ok-serve_piece.ensures.whole_log
    c.loop.invariant.on (sym c.ending.ensures ∙ c.in-Some-ending.is)

pub returns-in-Some-ending-clause-cut_short : goal.returns-in-Some-ending-clause-cut_short
returns-in-Some-ending-clause-cut_short g c =
    let old = c.args.primary.now in
    let opening = opening_rows_of old in
    let start = g.W.Write.contents c.args.writer.now.writer.now in
    let given = g.R.Read.remaining c.args.reader.now in
    let loop = c.loop in
    let kept = loop.invariant in
    let step = c.in_ok-serve_piece.ensures in
    let new = c.serve_piece.new in
    let left = g.R.Read.remaining c.read_piece.new.reader in
    let before = g.W.Write.contents loop.writer.writer.now in
    let after = g.W.Write.contents new.writer.writer.now in
    let piece = piece_of c.read_piece.new.chunk c.in-Some.read in
    let serves : ServesPiece opening loop.primary.log loop.client before piece new.primary.log new.client after =
    subst (λ (rows : Rows). ServesPiece rows loop.primary.log loop.client before piece new.primary.log new.client after)
    (same_opening old loop.primary kept.bank) step.served in
    let session : IsInSession opening old.log given left start after new.primary.log new.client =
    session_on opening old.log given (g.R.Read.remaining loop.reader) left start before after loop.primary.log new.primary.log loop.client new.client
    piece kept.on serves c.in-Some.ensures.bytes c.in-Some.ensures.end kept.session in
    session_failed opening old.log given left start after new.primary.log new.client c.in-Some-ending.ending
    (sym c.ending.ensures ∙ c.in-Some-ending.is) step.none_due step.told
    (ap (λ (l : ClientLimits). l.asks) c.serve_piece.ensures.limits ∙ kept.limit) session

pub returns-in-Some-ending-clause-serves : goal.returns-in-Some-ending-clause-serves
returns-in-Some-ending-clause-serves g c =
    let old = c.args.primary.now in
    let opening = opening_rows_of old in
    let start = g.W.Write.contents c.args.writer.now.writer.now in
    let given = g.R.Read.remaining c.args.reader.now in
    let loop = c.loop in
    let kept = loop.invariant in
    let step = c.serve_piece.ensures.serves in
    let new = c.serve_piece.new in
    let left = g.R.Read.remaining c.read_piece.new.reader in
    let before = g.W.Write.contents loop.writer.writer.now in
    let after = g.W.Write.contents new.writer.writer.now in
    let piece = piece_of c.read_piece.new.chunk c.in-Some.read in
    let serves : ServesPiece opening loop.primary.log loop.client before piece new.primary.log new.client after =
    subst (λ (rows : Rows). ServesPiece rows loop.primary.log loop.client before piece new.primary.log new.client after)
    (same_opening old loop.primary kept.bank) c.in_ok-serve_piece.ensures.served in
    let session : IsInSession opening old.log given left start after new.primary.log new.client =
    session_on opening old.log given (g.R.Read.remaining loop.reader) left start before after loop.primary.log new.primary.log loop.client new.client
    piece kept.on serves c.in-Some.ensures.bytes c.in-Some.ensures.end kept.session in
    let own = own_ending g.C.Crew.keeps g.K.Keeper.model.fails (g.K.Keeper.model.has_failed new.primary.keeper) old.node.board opening old.log given left
    start after new.primary.log new.client c.in-Some-ending.ending (sym c.ending.ensures ∙ c.in-Some-ending.is) session in
    record {
      bank = keeps_on old loop.primary new.primary kept.bank step.bank;
      none_out = λ e none. step.none_out e (kept.none_out e none);
      crew_lost = own.0;
      log_lost = own.1;
    }

pub loop-preserved : goal.loop-preserved
loop-preserved g c =
    let old = c.args.primary.now in
    let opening = opening_rows_of old in
    let start = g.W.Write.contents c.args.writer.now.writer.now in
    let given = g.R.Read.remaining c.args.reader.now in
    let loop = c.loop in
    let kept = loop.invariant in
    let step = c.in_ok-serve_piece.ensures in
    let new = c.serve_piece.new in
    let left = g.R.Read.remaining c.read_piece.new.reader in
    let before = g.W.Write.contents loop.writer.writer.now in
    let after = g.W.Write.contents new.writer.writer.now in
    let piece = piece_of c.read_piece.new.chunk c.in-Some.read in
    let serves : ServesPiece opening loop.primary.log loop.client before piece new.primary.log new.client after =
    subst (λ (rows : Rows). ServesPiece rows loop.primary.log loop.client before piece new.primary.log new.client after)
    (same_opening old loop.primary kept.bank) step.served in
    record {
      session = session_on opening old.log given (g.R.Read.remaining loop.reader) left start before after loop.primary.log new.primary.log loop.client
          new.client piece kept.on serves c.in-Some.ensures.bytes c.in-Some.ensures.end kept.session;
      same_writer = c.serve_piece.ensures.same_writer ∙ kept.same_writer;
      sound = step.sound;
      on = sym c.ending.ensures ∙ c.in_default-ending.is;
      told = step.told;
      none_due = step.none_due;
      limit = ap (λ (l : ClientLimits). l.asks) c.serve_piece.ensures.limits ∙ kept.limit;
      bank = keeps_on old loop.primary new.primary kept.bank step.serves.bank;
      none_out = λ e none. step.serves.none_out e (kept.none_out e none);
    }

pub returns-clause-cut_short : goal.returns-clause-cut_short
returns-clause-cut_short g c =
    let old = c.args.primary.now in
    let written = g.W.Write.contents c.loop.writer.writer.now in
    session_broken (opening_rows_of old) old.log (g.R.Read.remaining c.args.reader.now) (g.R.Read.remaining c.loop.reader)
    (g.W.Write.contents c.args.writer.now.writer.now) written written c.loop.primary.log c.loop.client Device tt c.loop.invariant.session

pub returns-clause-serves : goal.returns-clause-serves
returns-clause-serves g c =
    record { bank = c.loop.invariant.bank; none_out = c.loop.invariant.none_out; crew_lost = tt; log_lost = tt }
