use Rattle.std.proofs.Common.{arith, ◌≡◌, ◌∷◌, ◌++◌, [], ℕ, List, Some, is_some, refl, sym, ap, subst, ◌∙◌}
use Rattle.std.specs.Prelude.{get_or, slice_get, slice_set}
use Rattle.std.proofs.lemmas.Option.{slice_get-get_or}
use Rattle.bank_server.specs.Clients.{AreCalmBut, piece_of}
use Rattle.bank_server.specs.Primary.{opening_rows_of}
use Rattle.bank_server.proofs.clients.ClientLists.{stops_before, stops_one, takes_absent, takes_one}
use Rattle.bank_server.proofs.sessions.Keeping.{numbers_nothing}
use Rattle.bank_server.proofs.boards.WholeReplies.{err_always}
use Rattle.bank_server.proofs.clients.WholeFrames.{frame_of_absent, frame_of_one}
use Rattle.bank_server.proofs.clients.Stirs.{calm_but_one, calm_still, same_ending, untold_but_one}
use Rattle.bank_server.proofs.session.turns.take_arrival.Goals as goal

pub returns-then-arrival-clients-clause-taken : goal.returns-then-arrival-clients-clause-taken
returns-then-arrival-clients-clause-taken g c =
    takes_absent (opening_rows_of c.args.primary.now) c.args.primary.now.log c.args.clients.now c.args.arrival.client
    (piece_of c.args.chunk.now c.args.arrival.read) c.if-arrival-clients.true

pub returns-then-arrival-clients-clause-numbered : goal.returns-then-arrival-clients-clause-numbered
returns-then-arrival-clients-clause-numbered g c = numbers_nothing c.args.primary.now

pub returns-in_err-reserve-clause-numbered : goal.returns-in_err-reserve-clause-numbered
returns-in_err-reserve-clause-numbered g c = numbers_nothing c.args.primary.now

pub returns-then-is_stirred-clause-taken : goal.returns-then-is_stirred-clause-taken
returns-then-is_stirred-clause-taken g c =
    let k = c.args.arrival.client in
    let old = get_or c.args.clients.now k c.index-clients-arrival.result in
    let is : slice_get c.args.clients.now k ≡ Some old =
    slice_get-get_or c.args.clients.now k c.index-clients-arrival.result (omega (arith, c.if-arrival-clients.false)) in
    takes_one (opening_rows_of c.args.primary.now) c.args.primary.now.log c.args.clients.now k (piece_of c.args.chunk.now c.args.arrival.read) old
    c.hear.new.client c.hear.new.primary.log (slice_set c.args.clients.now k c.hear.new.client) is refl c.in_ok-has_frame.ensures.heard

pub returns-else-is_stirred-clause-taken : goal.returns-else-is_stirred-clause-taken
returns-else-is_stirred-clause-taken g c =
    let k = c.args.arrival.client in
    let old = get_or c.args.clients.now k c.index-clients-arrival.result in
    let is : slice_get c.args.clients.now k ≡ Some old =
    slice_get-get_or c.args.clients.now k c.index-clients-arrival.result (omega (arith, c.if-arrival-clients.false)) in
    takes_one (opening_rows_of c.args.primary.now) c.args.primary.now.log c.args.clients.now k (piece_of c.args.chunk.now c.args.arrival.read) old
    c.hear.new.client c.hear.new.primary.log (slice_set c.args.clients.now k c.hear.new.client) is refl c.in_ok-has_frame.ensures.heard

pub returns-then-is_stirred-clause-calm : goal.returns-then-is_stirred-clause-calm
returns-then-is_stirred-clause-calm g c first calm =
    let k = c.args.arrival.client in
    let items : c.push_reserved.new.self.items ≡ c.args.stirred.now.items ++ k ∷ [] =
    c.push_reserved.ensures.items ∙ ap (λ (l : List ℕ). l ++ k ∷ []) c.in_ok-reserve.ensures.items in
    subst (λ (l : List ℕ). AreCalmBut l first (slice_set c.args.clients.now k c.hear.new.client)) (sym items)
    (calm_but_one c.args.stirred.now.items first c.args.clients.now k c.hear.new.client calm)

pub returns-else-is_stirred-clause-calm : goal.returns-else-is_stirred-clause-calm
returns-else-is_stirred-clause-calm g c first calm =
    let k = c.args.arrival.client in
    let old = get_or c.args.clients.now k c.index-clients-arrival.result in
    let is : slice_get c.args.clients.now k ≡ Some old =
    slice_get-get_or c.args.clients.now k c.index-clients-arrival.result (omega (arith, c.if-arrival-clients.false)) in
    let same : is_some c.hear.new.client.ending ≡ is_some old.ending = c.is_stirred.ensures.still c.if-is_stirred.false ∙ c.has_ended-had_ended.ensures in
    let ending = same_ending old.ending c.hear.new.client.ending c.hear.ensures.over same in
    subst (λ (l : List ℕ). AreCalmBut l first (slice_set c.args.clients.now k c.hear.new.client)) (sym c.in_ok-reserve.ensures.items)
    (calm_still c.args.stirred.now.items first c.args.clients.now k old c.hear.new.client is c.hear.ensures.outcomes ending
    (c.is_stirred.ensures.none_due c.if-is_stirred.false) calm)

pub returns-in_err-reserve-clause-stopped : goal.returns-in_err-reserve-clause-stopped
returns-in_err-reserve-clause-stopped g c =
    err_always _ (stops_before (opening_rows_of c.args.primary.now) c.args.primary.now.log c.args.clients.now c.args.arrival.client
    (piece_of c.args.chunk.now c.args.arrival.read))

pub returns-in_err-has_frame-clause-stopped : goal.returns-in_err-has_frame-clause-stopped
returns-in_err-has_frame-clause-stopped g c =
    let k = c.args.arrival.client in
    let old = get_or c.args.clients.now k c.index-clients-arrival.result in
    let is : slice_get c.args.clients.now k ≡ Some old =
    slice_get-get_or c.args.clients.now k c.index-clients-arrival.result (omega (arith, c.if-arrival-clients.false)) in
    err_always _ (stops_one (opening_rows_of c.args.primary.now) c.args.primary.now.log c.args.clients.now k
    (piece_of c.args.chunk.now c.args.arrival.read) old c.hear.new.primary.log is c.in_err-has_frame.ensures.stopped)

pub returns-then-arrival-clients-clause-whole : goal.returns-then-arrival-clients-clause-whole
returns-then-arrival-clients-clause-whole g c =
    frame_of_absent c.args.clients.now c.args.arrival.client (piece_of c.args.chunk.now c.args.arrival.read) c.if-arrival-clients.true

pub returns-then-is_stirred-clause-whole : goal.returns-then-is_stirred-clause-whole
returns-then-is_stirred-clause-whole g c =
    let k = c.args.arrival.client in
    let old = get_or c.args.clients.now k c.index-clients-arrival.result in
    let is : slice_get c.args.clients.now k ≡ Some old =
    slice_get-get_or c.args.clients.now k c.index-clients-arrival.result (omega (arith, c.if-arrival-clients.false)) in
    frame_of_one c.in_ok-has_frame.has_frame c.args.clients.now k (piece_of c.args.chunk.now c.args.arrival.read) old c.hear.new.client is
    c.in_ok-has_frame.ensures.whole

pub returns-else-is_stirred-clause-whole : goal.returns-else-is_stirred-clause-whole
returns-else-is_stirred-clause-whole g c =
    let k = c.args.arrival.client in
    let old = get_or c.args.clients.now k c.index-clients-arrival.result in
    let is : slice_get c.args.clients.now k ≡ Some old =
    slice_get-get_or c.args.clients.now k c.index-clients-arrival.result (omega (arith, c.if-arrival-clients.false)) in
    frame_of_one c.in_ok-has_frame.has_frame c.args.clients.now k (piece_of c.args.chunk.now c.args.arrival.read) old c.hear.new.client is
    c.in_ok-has_frame.ensures.whole

pub returns-then-is_stirred-clause-untold : goal.returns-then-is_stirred-clause-untold
returns-then-is_stirred-clause-untold g c =
    let k = c.args.arrival.client in
    untold_but_one c.args.clients.now k (get_or c.args.clients.now k c.index-clients-arrival.result) c.hear.new.client
    (slice_get-get_or c.args.clients.now k c.index-clients-arrival.result (omega (arith, c.if-arrival-clients.false))) c.hear.ensures.outcomes

pub returns-else-is_stirred-clause-untold : goal.returns-else-is_stirred-clause-untold
returns-else-is_stirred-clause-untold g c =
    let k = c.args.arrival.client in
    untold_but_one c.args.clients.now k (get_or c.args.clients.now k c.index-clients-arrival.result) c.hear.new.client
    (slice_get-get_or c.args.clients.now k c.index-clients-arrival.result (omega (arith, c.if-arrival-clients.false))) c.hear.ensures.outcomes

pub returns-in_err-has_frame-clause-untold : goal.returns-in_err-has_frame-clause-untold
returns-in_err-has_frame-clause-untold g c =
    let k = c.args.arrival.client in
    untold_but_one c.args.clients.now k (get_or c.args.clients.now k c.index-clients-arrival.result) c.hear.new.client
    (slice_get-get_or c.args.clients.now k c.index-clients-arrival.result (omega (arith, c.if-arrival-clients.false))) c.hear.ensures.outcomes
