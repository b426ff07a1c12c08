use Rattle.std.proofs.Common.{arith, ◌≡◌, ◌<◌, ℕ, Some, get_or, length, refl, ◌∙◌}
use Rattle.std.specs.Prelude.{slice_get, slice_set}
use Rattle.std.proofs.lemmas.List.Elements.{All-set}
use Rattle.std.proofs.lemmas.List.{length-set}
use Rattle.std.proofs.lemmas.Option.{slice_get-get_or}
use Rattle.bank_server.specs.Clients.{ClientOf, IsSound}
use Rattle.bank_server.specs.Primary.{opening_rows_of}
use Rattle.bank_server.proofs.clients.ClientLists.{tells_one}
use Rattle.bank_server.proofs.clients.Stirs.{calm_anyway, due_after_one, is_stirred}
use Rattle.bank_server.proofs.session.turns.tell_all.Goals as goal

pub loop-slot-preserved : goal.loop-slot-preserved
loop-slot-preserved g c =
    let loop = c.loop-slot in
    let kept = loop.invariant in
    let step = c.in_ok-tell_client.ensures in
    let k : ℕ = get_or c.args.stirred.now loop.slot-index 0 in
    let in_list : loop.slot-index < length c.args.stirred.now = c.loop-slot-test.true in
    let was : k < length c.args.clients.now = c.requires.there loop.slot-index 0 in_list in
    let within : k < length loop.clients = omega (arith, was, kept.as_many) in
    let old = get_or loop.clients k c.index-clients-slot.result in
    let is : slice_get loop.clients k ≡ Some old = slice_get-get_or loop.clients k c.index-clients-slot.result within in
    record {
      sound = All-set (λ (x : ClientOf). IsSound (length c.args.primary.now.log) x) loop.clients k c.tell_client.new.client step.sound kept.sound;
      none_due = due_after_one c.args.stirred.now loop.slot-index k loop.clients c.tell_client.new.client in_list refl within step.none_due kept.none_due;
      told = tells_one (opening_rows_of c.args.primary.now) c.args.primary.now.log c.args.clients.now loop.clients k old c.tell_client.new.client
          (slice_set loop.clients k c.tell_client.new.client) is refl kept.told step.told;
      calm = λ first calm. calm_anyway c.args.stirred.now first loop.clients k c.tell_client.new.client
          (is_stirred c.args.stirred.now loop.slot-index k in_list refl) (kept.calm first calm);
      as_many = length-set loop.clients k c.tell_client.new.client ∙ kept.as_many;
    }
