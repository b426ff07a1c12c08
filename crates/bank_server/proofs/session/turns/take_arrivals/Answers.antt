use Rattle.std.proofs.Common.{◌<◌, ◌∷◌, [], ℕ, Option, List, All, length, refl, sym, subst, ◌∙◌}
use Rattle.std.proofs.lemmas.List.Elements.{All-nil}
use Rattle.sb_replica.specs.Replica.{ReplicaOf}
use Rattle.sb_rows.specs.Rows.{rows_of}
use Rattle.bank_server.specs.Clients.{AreCalmBut, Piece, TakesArrivals, TakesFromFront, TakesOfThem, piece_of}
use Rattle.bank_server.specs.Primary.{opening_rows_of}
use Rattle.bank_server.specs.inner.ClientTurns.{IsServing, StopsTaking}
use Rattle.bank_server.proofs.clients.ClientLists.{turn_begins, turn_on, turn_stops}
use Rattle.bank_server.proofs.sessions.FrameSteps.{numbers_on}
use Rattle.bank_server.proofs.sessions.Keeping.{numbers_nothing}
use Rattle.bank_server.proofs.boards.WholeReplies.{err_always}
use Rattle.bank_server.proofs.clients.Stirs.{calm_at_first}
use Rattle.bank_server.proofs.session.turns.take_arrivals.Goals as goal

pub loop-init : goal.loop-init
loop-init g c = record {
  sound = c.requires.sound;
  taken = turn_begins (opening_rows_of c.args.primary.now) (g.A.Arrivals.coming c.args.arrivals.now) (g.A.Arrivals.here c.args.arrivals.now)
      c.args.primary.now.log c.args.clients.now;
  there = subst (λ (l : List ℕ). All (λ k. k < length c.args.clients.now) l) (sym c.requires.none) (All-nil (λ (k : ℕ). k < length c.args.clients.now));
  calm = subst (λ (l : List ℕ). AreCalmBut l c.args.clients.now c.args.clients.now) (sym c.requires.none)
      (calm_at_first c.args.clients.now c.requires.none_due);
  untold = refl;
  outgoing = refl;
  as_many = refl;
  numbered = numbers_nothing c.args.primary.now;
}

pub loop-preserved : goal.loop-preserved
loop-preserved g c =
    let loop = c.loop in
    let kept = loop.invariant in
    let step = c.in_ok-has_frame.ensures in
    let new = c.take_arrival.new in
    let arrival : ℕ × Piece = (c.in-Some.arrival.client, piece_of c.next.new.chunk c.in-Some.arrival.read) in
    let one : TakesArrivals (IsServing (opening_rows_of c.args.primary.now)) loop.primary.log loop.clients (arrival ∷ []) new.primary.log new.clients =
    subst (λ (node : ReplicaOf g.row.S.Denot). TakesArrivals (IsServing (rows_of node.names node.board.opening)) loop.primary.log loop.clients (arrival ∷ [])
    new.primary.log new.clients) kept.numbered.node step.taken in
    let came : TakesFromFront (g.A.Arrivals.coming loop.arrivals) (g.A.Arrivals.coming c.note_frame.new.arrivals) (arrival ∷ []) =
    subst (λ (left : Option (List (ℕ × Piece))). TakesFromFront (g.A.Arrivals.coming loop.arrivals) left (arrival ∷ []))
    (sym c.note_frame.ensures.coming) c.in-Some.ensures.next in
    let of_them : TakesOfThem 1 (g.A.Arrivals.here loop.arrivals) (g.A.Arrivals.here c.note_frame.new.arrivals) =
    subst (TakesOfThem 1 (g.A.Arrivals.here loop.arrivals)) (sym c.note_frame.ensures.here) c.in-Some.ensures.one in
    record {
      sound = step.sound;
      taken = turn_on (opening_rows_of c.args.primary.now) (g.A.Arrivals.coming c.args.arrivals.now) (g.A.Arrivals.coming loop.arrivals)
          (g.A.Arrivals.coming c.note_frame.new.arrivals) (g.A.Arrivals.here c.args.arrivals.now) (g.A.Arrivals.here loop.arrivals)
          (g.A.Arrivals.here c.note_frame.new.arrivals) loop.counter c.args.primary.now.log c.args.clients.now loop.primary.log loop.clients new.primary.log
          new.clients arrival step.as_many kept.taken came of_them one;
      there = step.there;
      calm = step.calm c.args.clients.now kept.calm;
      untold = step.untold ∙ kept.untold;
      outgoing = c.note_frame.ensures.outgoing ∙ c.next.ensures.outgoing ∙ kept.outgoing;
      as_many = step.as_many ∙ kept.as_many;
      numbered = numbers_on c.args.primary.now loop.primary new.primary kept.numbered step.numbered;
    }

pub returns-in_err-has_frame-clause-untold : goal.returns-in_err-has_frame-clause-untold
returns-in_err-has_frame-clause-untold g c = c.take_arrival.ensures.untold ∙ c.loop.invariant.untold

pub returns-in_err-has_frame-clause-stopped : goal.returns-in_err-has_frame-clause-stopped
returns-in_err-has_frame-clause-stopped g c =
    let loop = c.loop in
    let kept = loop.invariant in
    let new = c.take_arrival.new in
    let arrival : ℕ × Piece = (c.in-Some.arrival.client, piece_of c.next.new.chunk c.in-Some.arrival.read) in
    let stops : StopsTaking (IsServing (opening_rows_of c.args.primary.now)) loop.primary.log loop.clients (arrival ∷ []) new.primary.log =
    subst (λ (node : ReplicaOf g.row.S.Denot). StopsTaking (IsServing (rows_of node.names node.board.opening)) loop.primary.log loop.clients (arrival ∷ [])
    new.primary.log) kept.numbered.node c.in_err-has_frame.ensures.stopped in
    err_always _ (turn_stops (opening_rows_of c.args.primary.now) (g.A.Arrivals.coming c.args.arrivals.now) (g.A.Arrivals.coming loop.arrivals)
    (g.A.Arrivals.coming c.next.new.self) (g.A.Arrivals.here c.args.arrivals.now) (g.A.Arrivals.here loop.arrivals) loop.counter
    c.args.primary.now.log c.args.clients.now loop.primary.log loop.clients new.primary.log arrival kept.as_many kept.taken c.in-Some.ensures.next stops)
