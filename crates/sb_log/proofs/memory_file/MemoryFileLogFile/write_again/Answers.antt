use Rattle.std.proofs.Common.{ap, arith, length-drop, length-take, length, drop}
use Rattle.sb_log.specs.MemoryFile.{MemoryFileOf}
use Rattle.sb_log.proofs.memory_file.MemoryFileLogFile.write_again.Goals as goal

pub returns-clause-ok : goal.returns-clause-ok
returns-clause-ok c honest within =
    let content = c.args.self.now.content in
    omega (
      arith,
      within,
      c.reach.ensures.reached within,
      c.reach.ensures.syncable,
      c.min-end.ensures,
      c.saturating_add.ensures,
      c.len.ensures,
      c.len.type_inv,
      c.self.inside.bytes.ok.0,
      ap (λ (f : MemoryFileOf). length f.content) c.self.view_is,
      ap length (c.requires honest),
      length-take (length c.args.bytes.now) (drop c.args.at content),
      length-drop c.args.at content,
    )
