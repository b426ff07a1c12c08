use Rattle.std.proofs.Common.{◌≡◌, List, length, ap, sym, subst, ◌∙◌}
use Rattle.sb_calls.specs.declared.ask.Key.{Key}
use Rattle.sb_calls.specs.declared.call.Call.{Call}
use Rattle.sb_sequencer.specs.Numbering.{IsLog}
use Rattle.sb_sequencer.specs.Sequencer.{SequencerOf}
use Rattle.bank_server.specs.inner.CountedAsks.{counts_by}
use Rattle.bank_server.specs.declared.node0.ask_counts.AskCounts.{AskCounts}
use Rattle.bank_server.specs.Primary.{ExtendsLog, PrimaryOf}
use Rattle.bank_server.proofs.boards.LogOps.{kept_by_more}
use Rattle.bank_server.proofs.lines.AnswerStandings.{asks_one, counted_so}
use Rattle.bank_server.proofs.sessions.Keeping.{extends_by_answer, numbers_by}
use Rattle.bank_server.proofs.node0.primary.Primary.ask.Goals as goal
use Rattle.bank_server.proofs.node0.primary.Primary.ask.Goals.{in-Some, in-None}

pub returns-clause-asked : goal.returns-clause-asked
returns-clause-asked g c =
    let log : c.deref_mut.result.now.log ≡ c.args.self.now.log =
    ap (λ (s : SequencerOf). s.log) c.deref_mut.ensures.value ∙ ap (λ (p : PrimaryOf g.row.S.Denot g.row.K.Denot). p.log) c.self.view_is in
    elim c.match-standing_of.branch [
      | in-Some w ↦ rw (w.result-is) (λ asks e.
          asks_one asks c.deref_mut.result.now.log c.ask-answer.new.self.log (c.args.key, c.args.call.now) c.ask-answer.result
          w.in-Some.standing (sym w.in-Some.ensures)
          (log ∙ e) c.ask-answer.ensures.answer c.ask-answer.ensures.log)
      | in-None w ↦ rw (w.result-is) tt
    ]

pub invariant_of-self : goal.invariant_of-self
invariant_of-self g c =
    let old = c.self.inside.log.value.log in
    let new : List (Key × Call) = c.ask-answer.new.self.log in
    let extends : ExtendsLog old new =
    subst (λ (l : List (Key × Call)). ExtendsLog l new) (ap (λ (s : SequencerOf). s.log) c.deref_mut.ensures.value)
    (extends_by_answer c.deref_mut.result.now.log new (c.args.key, c.args.call.now) c.ask-answer.result c.ask-answer.ensures.log) in
    let valid : IsLog new = subst (λ (s : SequencerOf). IsLog s.log) c.deref.ensures c.length.ensures.valid in
    kept_by_more g.K.Keeper.model old new extends.0 c.self.inside.counts c.count_answer.new.self c.self.inside.keeper c.self.inside.node.value
    c.self.invariant valid extends.1

pub returns-clause-counted : goal.returns-clause-counted
returns-clause-counted g c =
    let log : c.deref_mut.result.now.log ≡ c.args.self.now.log =
    ap (λ (s : SequencerOf). s.log) c.deref_mut.ensures.value ∙ ap (λ (p : PrimaryOf g.row.S.Denot g.row.K.Denot). p.log) c.self.view_is in
    let was : c.self.inside.counts ≡ c.args.self.now.counts = ap (λ (p : PrimaryOf g.row.S.Denot g.row.K.Denot). p.counts) c.self.view_is in
    elim c.match-standing_of.branch [
      | in-Some w ↦ rw (w.result-is) (c.count_answer.ensures
          ∙ counted_so c.self.inside.counts c.deref_mut.result.now.log (c.args.key, c.args.call.now) c.ask-answer.result w.in-Some.standing
          (sym w.in-Some.ensures) c.ask-answer.ensures.answer
          ∙ ap (λ (l : List (Key × Call)). counts_by (length l) w.in-Some.standing c.self.inside.counts) log
          ∙ ap (λ (n : AskCounts). counts_by (length c.args.self.now.log) w.in-Some.standing n) was)
      | in-None w ↦ rw (w.result-is) tt
    ]

pub returns-clause-numbered : goal.returns-clause-numbered
returns-clause-numbered g c =
    let new : List (Key × Call) = c.ask-answer.new.self.log in
    let log : c.deref_mut.result.now.log ≡ c.args.self.now.log =
    ap (λ (s : SequencerOf). s.log) c.deref_mut.ensures.value ∙ ap (λ (p : PrimaryOf g.row.S.Denot g.row.K.Denot). p.log) c.self.view_is in
    numbers_by c.args.self.now (record { log = new; counts = c.count_answer.new.self; node = c.self.inside.node.value; keeper = c.self.inside.keeper })
    (subst (λ (l : List (Key × Call)). ExtendsLog l new) log
    (extends_by_answer c.deref_mut.result.now.log new (c.args.key, c.args.call.now) c.ask-answer.result c.ask-answer.ensures.log))
    (ap (λ (p : PrimaryOf g.row.S.Denot g.row.K.Denot). p.node) c.self.view_is)
    (ap (λ (p : PrimaryOf g.row.S.Denot g.row.K.Denot). p.keeper) c.self.view_is)
