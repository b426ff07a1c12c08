use Rattle.std.proofs.Common.{rules, ◌≡◌, Err, List, [], ◌∷◌, ◌++◌, length, refl, sym, ap, subst, ◌∙◌, arith, length-append, append_assoc}
use Rattle.std.specs.List.{All}
use Rattle.std.proofs.lemmas.List.Elements.{All-push}
use Rattle.sb_calls.specs.Ask.{ask_line_of, IsKey}
use Rattle.sb_calls.specs.declared.ask.AskLine.{AskLine}
use Rattle.sb_rows.proofs.SplitAtFirstByte.{lines-nil}
use Rattle.sb_rows.specs.Text.{lines}
use Rattle.bank_server.specs.Input.{asks_from, in_call}
use Rattle.bank_server.specs.declared.fault.InputFault.TheVariants as faults
use Rattle.bank_server.proofs.lines.AskedLines.{asked_is_valid, asks_from-line, asks_from-fault, fault_is_asked, pushed_is_asked}
use Rattle.bank_server.proofs.input.asking.read_batch.Goals as goal

pub returns-in_default-clause-read : goal.returns-in_default-clause-read
returns-in_default-clause-read c first before at =
    c.loop-taken.invariant.all first before ∙ ap (asks_from first (before ++ c.loop-taken.batch.items)) (c.in_default.ensures.line ∙ sym (lines-nil [] refl))

pub returns-in-Err-clause-read : goal.returns-in-Err-clause-read
returns-in-Err-clause-read c first before at =
    let old = c.loop-taken.batch in
    let so_far : List AskLine = before ++ old.items in
    let met = fault_is_asked _ (ask_line_of c.in-Some.line.now) c.push_ask.result old.items c.push_ask.new.asks.items
    c.in-Err.fault c.push_ask.ensures.pushed c.in-Err.is in
    let fault = asks_from-fault first so_far c.in-Some.line.now (lines c.in-Some.rest.now) c.in-Err.fault met.0 in
    let count = length-append before old.items in
    let same : length c.push_ask.new.asks.items ≡ length old.items = ap (λ batch. length batch.items) met.1 in
    ap in_call (c.loop-taken.invariant.all first before ∙ (ap (asks_from first so_far) c.in-Some.ensures.line ∙ fault))
    ∙ ap (λ n. Err (n, faults.Call c.in-Err.fault)) (omega (arith, count, same, at, c.len.ensures))

pub loop-taken-preserved : goal.loop-taken-preserved
loop-taken-preserved c =
    let old = c.loop-taken.batch in
    let new = c.push_ask.new.asks in
    let met = pushed_is_asked _ (ask_line_of c.in-Some.line.now) c.push_ask.result old.items new.items c.push_ask.ensures.pushed (search rules) in
    let asked = met.0 in
    let items : new.items ≡ old.items ++ asked ∷ [] = met.2 in
    let longer : length new.items ≡ length (old.items ++ asked ∷ []) = ap length items in
    let count = length-append old.items (asked ∷ []) in
    record {
      all = λ first before.
          let so_far : List AskLine = before ++ old.items in
          let one = asks_from-line first so_far c.in-Some.line.now (lines c.in-Some.rest.now) asked met.1 in
          let joined : so_far ++ asked ∷ [] ≡ before ++ new.items = append_assoc before old.items (asked ∷ []) ∙ ap (λ more. before ++ more) (sym items) in
          c.loop-taken.invariant.all first before ∙ (ap (asks_from first so_far) c.in-Some.ensures.line
          ∙ (one ∙ ap (λ all. asks_from first all (lines c.in-Some.rest.now)) joined));
      count = omega (arith, longer, count, c.loop-taken.invariant.count);
      room = omega (arith, c.push_ask.ensures.capacity, c.loop-taken.invariant.room);
      keys = subst (λ (batch : List AskLine). All (λ ask. IsKey ask.key) batch) (sym items)
          (All-push (λ (ask : AskLine). IsKey ask.key) old.items asked c.loop-taken.invariant.keys (asked_is_valid c.in-Some.line.now asked met.1).0);
      within = omega (arith, longer, count, c.loop-taken.invariant.within, c.in-Some.ensures.shorter);
    }
