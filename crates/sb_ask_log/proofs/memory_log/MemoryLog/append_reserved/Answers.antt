use Rattle.std.proofs.Common.{◌∙◌, refl, subst, sym}
use Rattle.sb_ask_log.specs.LogFile.{log_bytes}
use Rattle.sb_ask_log.specs.MemoryLog.{HasAsks, MemoryLogOf, no_customers}
use Rattle.sb_ask_log.proofs.MemoryLogs.{has_one_more}
use Rattle.sb_ask_log.proofs.memory_log.MemoryLog.append_reserved.Goals as goal

pub returns-clause-asks : goal.returns-clause-asks
returns-clause-asks c asks has is =
    let old : MemoryLogOf = record { file = c.self.inside.file; hasher = c.self.inside.hasher; synced = c.self.inside.synced } in
    let new : MemoryLogOf = record { file = c.append_body.new.file; hasher = c.append_body.new.hasher; synced = c.self.inside.synced } in
    let was : HasAsks old asks = subst (λ (l : MemoryLogOf). HasAsks l asks) (sym c.self.view_is) has in
    has_one_more old new asks (c.args.key, c.args.call.now) c.deref.result.now was is
    (record { valid = c.encode-body.ensures.valid; spelled = c.deref.ensures.0 ∙ c.encode-body.ensures.spelled })
    (c.append_body.ensures.content (log_bytes no_customers asks) was.holds) c.append_body.ensures.synced refl
    (c.append_body.ensures.hasher (log_bytes no_customers asks) was.holds)
