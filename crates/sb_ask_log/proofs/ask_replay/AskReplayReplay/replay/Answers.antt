use Rattle.std.proofs.Common.{ap, sym, ◌∙◌, eqb-true, arith, vec_len}
use Rattle.std.proofs.lemmas.List.{nil_from_length}
use Rattle.sb_ask_log.specs.inner.Replaying.{AskReplayOf}
use Rattle.sb_ask_log.proofs.Replays.{opening_taken}
use Rattle.sb_ask_log.proofs.ask_replay.AskReplayReplay.replay.Goals as goal

pub returns-then-is_empty : goal.returns-then-is_empty
returns-then-is_empty c =
    opening_taken c.args.self.now (record { text = c.take_opening.new.text.items; log = c.self.inside.log.value.log }) c.args.body.now
    (ap (λ (it : AskReplayOf). it.text) (sym c.self.view_is)
    ∙ nil_from_length c.self.inside.text.items (let none = eqb-true (vec_len c.self.inside.text) 0 (sym c.is_empty.ensures ∙ c.if-is_empty.true) in omega
    (arith, none)))
    (ap (λ (it : AskReplayOf). it.log) c.self.view_is)
    c.take_opening.result c.take_opening.ensures
