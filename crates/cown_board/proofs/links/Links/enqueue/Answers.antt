use Rattle.std.proofs.Common.{◌++◌, ◌∷◌, [], refl, sym, ap, ◌∙◌, arith}
use Rattle.std.proofs.lemmas.Bool.{true≢false}
use Rattle.std.proofs.lemmas.Result.{on_ok_weaker}
use Rattle.cown_queue.specs.Queues.{CownQueues}
use Rattle.cown_board.proofs.links.Links.enqueue.Goals as goal

pub returns-then-not-self-clause-ok : goal.returns-then-not-self-clause-ok
returns-then-not-self-clause-ok g c =
    let made = c.in_ok-reserve.ensures in
    on_ok_weaker c.reserve_places.result (λ same. record {
      counts = made.behind_room;
      ready = made.ready_room;
      linked = λ is. absurd (true≢false (sym is ∙ c.if-not-self.true));
      unlinked = λ _. (
        record { lists = ap (λ (q : CownQueues). q.lists) same; behind = made.behind.0; ready = made.ready.0 },
        (let places = ap (λ (q : CownQueues). q.places) same in omega (arith, places)),
      );
    }) c.reserve_places.ensures.ok

pub returns-clause-room : goal.returns-clause-room
returns-clause-room g c =
    let places = ap (λ q. q.places) c.in_ok-reserve-2.ensures.ok in
    record {
      linked = refl;
      counts = omega (arith, c.push.ensures.counts, c.reserve.ensures.counts);
      ready = omega (arith, c.push.ensures.room, c.reserve.ensures.room);
      places = omega (arith, c.append.ensures.places, places);
    }

pub returns-clause-ok : goal.returns-clause-ok
returns-clause-ok g c =
    let made = c.in_ok-reserve.ensures in
    let lists = ap (λ (q : CownQueues). q.lists) c.in_ok-reserve-2.ensures.ok in
    let declared = c.as_slice-cowns.ensures.value ∙ c.cowns-cowns.ensures in
    let behind = c.count_occupied-behind.ensures in
    record {
      counts = omega (arith, c.push.ensures.counts, made.behind_room);
      ready = omega (arith, c.push.ensures.room, made.ready_room);
      linked = λ _. record {
        lists = rw (sym lists, sym declared) c.append.ensures.lists;
        behind = rw (sym lists, sym declared, sym behind)
            (c.push.ensures.behind ∙ ap (λ counts. counts ++ c.count_occupied-behind.result ∷ []) made.behind.0);
        ready = rw (sym lists, sym declared, sym behind) (rw (sym made.ready.0) c.push.ensures.ready);
      };
      unlinked = λ isnt. absurd (true≢false (sym c.if-not-self.false ∙ isnt));
    }
