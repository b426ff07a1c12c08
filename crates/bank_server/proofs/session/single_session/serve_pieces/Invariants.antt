use Rattle.std.proofs.Common.{◌≡◌, [], None, false, length}
use Rattle.cown_workers.specs.Draining.{HasNoneOut}
use Rattle.bank_server.specs.Clients.{IsSound}
use Rattle.bank_server.specs.inner.SessionSteps.{IsInSession}
use Rattle.bank_server.specs.Primary.{PreservesBank, opening_rows_of}
use Rattle.bank_server.proofs.session.single_session.serve_pieces.Given as goal

-- the pieces so far led here
abbrev pub invariant-loop : goal.invariant-loop
invariant-loop g l = record {
  session : IsInSession (opening_rows_of l.fn.primary) l.fn.primary.log (g.R.Read.remaining l.fn.reader) (g.R.Read.remaining l.reader)
      (g.W.Write.contents l.fn.writer.writer.now) (g.W.Write.contents l.writer.writer.now) l.primary.log l.client;
  same_writer : l.writer.writer.ghost_name ≡ l.fn.writer.writer.ghost_name;
  sound : IsSound (length l.primary.log) l.client;
  on : l.client.ending ≡ None;
  told : l.client.outcomes ≡ [];
  none_due : l.client.due ≡ 0;
  limit : l.client.limits.asks ≡ 2000000;
  bank : PreservesBank g.K.Keeper.model l.fn.primary l.primary;
  none_out : g.C.Crew.keeps ≡ false → HasNoneOut l.fn.primary.node.board → HasNoneOut l.primary.node.board;
}
