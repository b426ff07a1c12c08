use Rattle.std.proofs.Common.{◌≡◌, ◌++◌, ◌∙◌, List, ℕ, length, drop, ap, refl, subst, sym, append-nil, append_assoc}
use Rattle.std.proofs.lemmas.List.{drop_at}
use Rattle.std.proofs.lemmas.Result.{err_from_is_err_and}
use Rattle.sha2.specs.Hashers.{Holds256}
use Rattle.sb_log.specs.declared.record.TheConstants.{HEAD}
use Rattle.sb_ask_log.specs.LogFile.{log_magic}
use Rattle.sb_ask_log.specs.Telling.{IsResumable}
use Rattle.sb_ask_log.proofs.Openings.{opening_filled}
use Rattle.sb_ask_log.proofs.Saving.{part_created, tells_created}
use Rattle.sb_ask_log.proofs.creation.create_asks.Goals as goal

-- what is behind the head of a record
body_of : (head_bytes items longer all text : List ℕ) → length head_bytes ≡ HEAD → items ≡ head_bytes → longer ≡ items ++ log_magic → all ≡ longer ++ text
    → drop HEAD all ≡ log_magic ++ text
body_of head_bytes items longer all text size is more whole =
    ap (λ (l : List ℕ). drop HEAD l)
    (whole ∙ ap (λ (l : List ℕ). l ++ text) (more ∙ ap (λ (l : List ℕ). l ++ log_magic) is) ∙ append_assoc head_bytes log_magic text)
    ∙ drop_at head_bytes (log_magic ++ text) HEAD size

pub returns-in_err-end-clause-fault : goal.returns-in_err-end-clause-fault
returns-in_err-end-clause-fault g c =
    let body = body_of _ c.in_ok-record.record.items c.extend_from_slice.new.self.items c.deref_mut.result.now c.args.text.items refl
    c.in_ok-record.ensures.items c.in_ok-extend_from_slice.ensures.items
    (c.deref_mut.ensures.value ∙ c.in_ok-extend_from_slice-2.ensures.items
    ∙ ap (λ (l : List ℕ). c.extend_from_slice.new.self.items ++ l) c.deref.ensures.value) in
    let p = err_from_is_err_and c.from_residual-in_err-end.result c.from_residual-in_err-end.ensures.1 in
    rw (p.1, p.2, c.in_err-end.ensures.fault) (
      c.in_err-end.ensures.failed,
      λ still.
          let life = c.in_err-end.ensures.life (c.create_log.ensures.honest.1 still) in
          part_created (g.F.LogFile.model c.create_log.new.file) c.in_err-end.field-0.0 c.args.text.items
          (drop HEAD c.deref_mut.result.now) life.0 body life.1 life.2,
    )

pub returns-clause-made : goal.returns-clause-made
returns-clause-made g c =
    let text = c.args.text.items in
    let end = c.in_ok-end.end in
    let body = body_of _ c.in_ok-record.record.items c.extend_from_slice.new.self.items c.deref_mut.result.now c.args.text.items refl
    c.in_ok-record.ensures.items c.in_ok-extend_from_slice.ensures.items
    (c.deref_mut.ensures.value ∙ c.in_ok-extend_from_slice-2.ensures.items
    ∙ ap (λ (l : List ℕ). c.extend_from_slice.new.self.items ++ l) c.deref.ensures.value) in
    let is_log = c.in_ok-log.ensures in (
      refl,
      is_log,
      c.in_ok-end.ensures.end.1,
      subst (IsResumable {F = g.row.F.Denot} g.F.LogFile.IsHonest g.F.LogFile.model c.create_log.new.file end text) (sym is_log)
          (record {
            some = opening_filled text c.requires.opening;
            holds = subst (Holds256 end.hasher) (body ∙ sym (ap (λ (l : List ℕ). log_magic ++ l) (append-nil text))) c.in_ok-end.ensures.end.2;
            told = λ still.
                let life = c.in_ok-end.ensures.life (c.create_log.ensures.honest.1 still) in
                tells_created (g.F.LogFile.model c.create_log.new.file) end text
                (drop HEAD c.deref_mut.result.now) life.0 body c.requires.opening life.1 life.2 c.in_ok-end.ensures.end.2;
          }),
    )
