use Rattle.std.proofs.Common.{◌∙◌, ◌++◌, List, ℕ, ap, length, sym}
use Rattle.sb_log.specs.MemoryFile.{MemoryFileOf}
use Rattle.sb_ask_log.proofs.MemoryLogs.{read_has}
use Rattle.sb_ask_log.proofs.memory_log.read_back.Goals as goal

pub returns : goal.returns
returns c asks is valid content =
    let found = c.in-Ok.found in
    let read = c.in-Ok.ensures.file tt in
    read_has asks found.log.value.log c.args.file.content found.text.items read.rest c.mark_synced.new.self found.end.hasher c.length-synced.result
    is valid content read.read
    (read.cut ∙ ap (λ (l : List ℕ). l ++ read.rest) (ap (λ (f : MemoryFileOf). f.content) (sym c.mark_synced.ensures)))
    (ap (λ (f : MemoryFileOf). f.synced) c.mark_synced.ensures ∙ ap (λ (f : MemoryFileOf). length f.content) (sym c.mark_synced.ensures))
    (c.length-synced.ensures.value ∙ ap (λ s. length s.log) c.deref.ensures) (λ some. (c.in-Ok.ensures.resumes some).holds)
