use Rattle.std.proofs.Common.{◌∙◌, ap, max, take}
use Rattle.std.proofs.lemmas.List.Elements.{All-take}
use Rattle.sb_ask_log.specs.Asks.{IsAsk}
use Rattle.sb_ask_log.specs.MemoryLog.{MemoryLogOf}
use Rattle.sb_ask_log.proofs.MemoryLogs.{IsLog-take, crash_leaves}
use Rattle.sb_ask_log.proofs.memory_log.MemoryLog.crashed.Goals as goal

pub returns : goal.returns
returns c =
    let log = c.args.log.now.log in
    let left = max c.args.self.now.synced c.args.kept in
    c.read_back.ensures (take left log) (IsLog-take left log c.requires.one_each) (All-take IsAsk left log c.requires.valid)
    (c.in_ok-file.ensures.content
    ∙ ap (λ (l : MemoryLogOf). take (max l.file.synced c.size_of_first.result) l.file.content) c.self.view_is
    ∙ crash_leaves c.args.self.now log c.args.kept c.size_of_first.result c.requires c.size_of_first.ensures)
