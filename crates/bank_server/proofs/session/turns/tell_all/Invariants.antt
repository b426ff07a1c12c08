use Rattle.std.proofs.Common.{◌≡◌, List, All, drop, length}
use Rattle.bank_server.specs.Clients.{AreCalmBut, ClientOf, IsSound}
use Rattle.bank_server.specs.Primary.{opening_rows_of}
use Rattle.bank_server.specs.inner.ClientTurns.{AreDueWithin, TellsClients}
use Rattle.bank_server.proofs.session.turns.tell_all.Given as goal

-- those so far were told
abbrev pub invariant-loop-slot : goal.invariant-loop-slot
invariant-loop-slot g l = record {
  sound : All (λ client. IsSound (length l.primary.log) client) l.clients;
  none_due : AreDueWithin (drop l.slot-index l.stirred) l.clients;
  told : TellsClients (opening_rows_of l.primary) l.primary.log l.fn.clients l.clients;
  calm : (first : List ClientOf) → AreCalmBut l.stirred first l.fn.clients → AreCalmBut l.stirred first l.clients;
  as_many : length l.clients ≡ length l.fn.clients;
}
