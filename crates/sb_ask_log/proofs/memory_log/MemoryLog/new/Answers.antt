use Rattle.std.proofs.Common.{[], ◌∙◌, ◌++◌, List, ℕ, ap, refl, sym, length}
use Rattle.sb_log.specs.MemoryFile.{MemoryFileOf}
use Rattle.sb_log.specs.Records.{record_after}
use Rattle.sb_ask_log.specs.LogFile.{log_magic}
use Rattle.sb_ask_log.specs.MemoryLog.{no_customers}
use Rattle.sb_ask_log.proofs.MemoryLogs.{has_none}
use Rattle.sb_ask_log.proofs.memory_log.MemoryLog.new.Goals as goal

pub returns : goal.returns
returns c =
    let body = log_magic ++ no_customers in
    let content = c.append_body.ensures.content [] c.new-hasher.ensures
    ∙ ap (λ (l : List ℕ). l ++ record_after [] body) (c.in_ok-reserve.ensures.content ∙ c.new-file.ensures.content) in (
      has_none c.mark_synced.new.self c.append_body.new.hasher
          (ap (λ (f : MemoryFileOf). f.content) c.mark_synced.ensures ∙ content)
          (ap (λ (f : MemoryFileOf). f.synced) c.mark_synced.ensures ∙ ap (λ (f : MemoryFileOf). length f.content) (sym c.mark_synced.ensures))
          (c.append_body.ensures.hasher [] c.new-hasher.ensures),
      refl,
    )
