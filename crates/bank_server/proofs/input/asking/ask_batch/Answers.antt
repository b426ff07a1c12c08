use Rattle.std.proofs.Common.{◌≡◌, ◌+◌, List, [], ◌∷◌, ◌++◌, length, take, sym, ap, subst, ◌∙◌, arith, length-append, append_assoc}
use Rattle.std.proofs.lemmas.List.{take_more}
use Rattle.sb_calls.specs.Ask.{IsKey}
use Rattle.sb_calls.specs.declared.ask.AskLine.{AskLine}
use Rattle.bank_server.specs.inner.AskSteps.{HasStandings}
use Rattle.bank_server.proofs.lines.AskedLines.{after_push, standings_push, running_after_le}
use Rattle.bank_server.proofs.input.asking.ask_batch.Goals as goal

pub loop-asked-preserved : goal.loop-asked-preserved
loop-asked-preserved g c =
    let index = c.loop-asked.asked-index in
    let batch = c.args.batch.now in
    let asked = c.asked-item.result in
    let running = c.loop-asked.running in
    let next = c.next_running-running.result in
    let log = c.loop-asked.primary.log in
    let new = c.ask_line.new.primary.log in
    let standings = c.loop-asked.standings.items in
    let standing = c.in_ok-ask_line.field-0 in
    let key : IsKey asked.key = subst (λ (ask : AskLine). IsKey ask.key) (sym c.asked-item.is)
    (c.requires.keys index asked c.loop-asked-test.true) in
    let more : take (index + 1) batch ≡ take index batch ++ asked ∷ [] =
    take_more batch index asked c.loop-asked-test.true ∙ ap (λ ask. take index batch ++ ask ∷ []) (sym c.asked-item.is) in
    let longer : length c.push.new.self.items ≡ length (standings ++ standing ∷ []) = ap length c.in_ok-push.ensures.items in
    let count = length-append standings (standing ∷ []) in
    let bound = running_after_le running asked.key in
    record {
      asked = λ asks before.
          let so_far = c.loop-asked.invariant.asked asks before in
          let all : List AskLine = asks ++ take index batch in
          let one = c.in_ok-ask_line.ensures.asked all so_far.after in
          let joined : all ++ asked ∷ [] ≡ asks ++ take (index + 1) batch =
          append_assoc asks (take index batch) (asked ∷ []) ∙ ap (λ list. asks ++ list) (sym more) in
          subst (λ (list : List AskLine). HasStandings list next new c.push.new.self.items) joined (record {
            after = after_push all asked running next log new so_far.after key c.next_running-running.ensures one.0;
            standings_are = c.in_ok-push.ensures.items
                ∙ standings_push all asked running log new standings standing so_far.after one.0 one.1 so_far.standings_are;
          });
      running = omega (arith, bound, c.next_running-running.ensures, c.loop-asked.invariant.running);
      count = omega (arith, longer, count, c.loop-asked.invariant.count);
      node = c.ask_line.ensures.node ∙ c.loop-asked.invariant.node;
    }
