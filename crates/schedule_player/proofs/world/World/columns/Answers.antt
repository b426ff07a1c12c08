use Rattle.cown_board.specs.Board.{IsAfterAll}
use Rattle.sb_calls.specs.Behaviour.{declared_cowns, effect_of}
use Rattle.schedule_player.specs.EventLists.{bank_after}
use Rattle.schedule_player.specs.World.{bank_of}
use Rattle.schedule_player.proofs.observers.AuditResults.{looked_up}
use Rattle.schedule_player.proofs.observers.Observers.{lent_idle, lent_rows}
use Rattle.schedule_player.proofs.events.EventLists.{played_bank}
use Rattle.schedule_player.proofs.logs.LongerLogs.{itself}
use Rattle.schedule_player.proofs.world.World.columns.Goals as goal

pub returns-clause-idle : goal.returns-clause-idle
returns-clause-idle c =
    let w = c.self.inside in
    let node = c.index.result.now in
    let found = looked_up w.directory w.opening w.sequencer w.nodes.items c.args.self.now c.args.replica node c.self.view_is c.self.invariant
    c.requires c.index.ensures in
    lent_idle c.args.self.now c.args.replica node found (λ columns. IsAfterAll declared_cowns effect_of node.replica.board columns.now)
    c.final_columns.result c.final_columns.ensures.value

pub returns-clause-rows : goal.returns-clause-rows
returns-clause-rows c =
    let w = c.self.inside in
    let node = c.index.result.now in
    let found = looked_up w.directory w.opening w.sequencer w.nodes.items c.args.self.now c.args.replica node c.self.view_is c.self.invariant
    c.requires c.index.ensures in
    lent_rows c.args.self.now c.args.replica node found (λ columns. columns.now) c.final_columns.result (bank_of c.args.self.now)
    c.final_columns.ensures.value c.final_columns.ensures.bank (itself (bank_of c.args.self.now))

pub returns-clause-by_log : goal.returns-clause-by_log
returns-clause-by_log c schedule played =
    let w = c.self.inside in
    let node = c.index.result.now in
    let found = looked_up w.directory w.opening w.sequencer w.nodes.items c.args.self.now c.args.replica node c.self.view_is c.self.invariant
    c.requires c.index.ensures in
    lent_rows c.args.self.now c.args.replica node found (λ columns. columns.now) c.final_columns.result (bank_after schedule)
    c.final_columns.ensures.value c.final_columns.ensures.bank (played_bank schedule c.args.self.now played)
