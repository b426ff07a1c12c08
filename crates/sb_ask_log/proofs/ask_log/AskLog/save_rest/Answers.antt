use Rattle.std.proofs.Common.{◌≡◌, ◌⊎◌, ⊎_elim, inr, ◌≢◌, ◌++◌, ◌∙◌, true, ℕ, List, [], length, drop, take, refl, ap, sym, subst, arith, ◌≤◌, true≢false, length-drop}
use Rattle.std.proofs.lemmas.List.{drop_at, take-append-drop}
use Rattle.std.proofs.lemmas.Result.{MatchResult-at_ok, err_from_is_err_and}
use Rattle.sha2.specs.Hashers.{Holds256}
use Rattle.sha2.specs.declared.Sha256.{Sha256}
use Rattle.sb_calls.specs.declared.ask.Key.{Key}
use Rattle.sb_calls.specs.declared.call.Call.{Call}
use Rattle.sb_log.specs.declared.record.TheConstants.{HEAD}
use Rattle.sb_ask_log.specs.Asks.{asks_field}
use Rattle.sb_ask_log.specs.LogFile.{log_bytes}
use Rattle.sb_ask_log.specs.Telling.{AskLogOf, KeepsAsks}
use Rattle.sb_ask_log.proofs.Bodies.{log_bytes_more}
use Rattle.sb_ask_log.proofs.Fields.{fits_record}
use Rattle.sb_ask_log.proofs.Saving.{IsRest, after_err, append_failed, sync_failed, tells_more}
use Rattle.sb_ask_log.proofs.ask_log.AskLog.save_rest.Goals as goal

-- what is behind the head of a record
body_of : (cleared head_bytes items all field : List ℕ) → cleared ≡ [] → items ≡ cleared ++ head_bytes → length head_bytes ≡ HEAD → all ≡ items ++ field
    → drop HEAD all ≡ field
body_of cleared head_bytes items all field none head size whole =
    ap (λ (l : List ℕ). drop HEAD l) whole
    ∙ drop_at items field HEAD (ap length (head ∙ ap (λ (l : List ℕ). l ++ head_bytes) none) ∙ size)

some_left : (log : List (Key × Call)) (saved : ℕ) → saved ≤ length log → (saved ≡ length log → ⊥) → drop saved log ≢ []
some_left log saved le other none = omega (arith, le, other, length-drop saved log, ap length none)

pub append-requires-clause-body : goal.append-requires-clause-body
append-requires-clause-body g c =
    let log = c.args.log.now.log in
    let rest = drop c.self.inside.saved log in
    let body : drop HEAD c.deref_mut.result.now ≡ asks_field rest =
    body_of c.clear.new.self.items _ c.extend_from_slice.new.self.items c.deref_mut.result.now (asks_field rest)
    c.clear.ensures.items c.in_ok-extend_from_slice.ensures.items refl (c.deref_mut.ensures.value ∙ c.in_ok-push_asks.ensures.spelled) in
    let few = fits_record rest c.in_ok-push_asks.ensures.valid (omega (arith, length-drop c.self.inside.saved log, c.length-length.ensures.valid.limit)) in
    omega (arith, ap length body, few)

pub returns-in_err-append-clause-keeps : goal.returns-in_err-append-clause-keeps
returns-in_err-append-clause-keeps g c keeps =
    let log = c.args.log.now.log in
    let s = c.self.inside in
    let rest = drop s.saved log in
    let left : s.saved ≤ length log = subst (λ (a : AskLogOf g.row.F.Denot). a.saved ≤ length log) (sym c.self.view_is) c.requires in
    let body : drop HEAD c.deref_mut.result.now ≡ asks_field rest =
    body_of c.clear.new.self.items _ c.extend_from_slice.new.self.items c.deref_mut.result.now (asks_field rest)
    c.clear.ensures.items c.in_ok-extend_from_slice.ensures.items refl (c.deref_mut.ensures.value ∙ c.in_ok-push_asks.ensures.spelled) in
    let is_rest : IsRest log s.saved (drop HEAD c.deref_mut.result.now) = record {
      some = some_left log s.saved left (λ e. c.if-self-length.false (e ∙ sym c.length-length.ensures.value));
      valid = c.in_ok-push_asks.ensures.valid;
      is_log = c.length-length.ensures.valid;
      body_is = body;
    } in
    let was : KeepsAsks {F = g.row.F.Denot} g.F.LogFile.IsHonest g.F.LogFile.model
    (record { log = s.log; text = s.text.items; hasher = s.hasher; saved = s.saved }) (take s.saved log) =
    subst (λ (a : AskLogOf g.row.F.Denot). KeepsAsks {F = g.row.F.Denot} g.F.LogFile.IsHonest g.F.LogFile.model a (take a.saved log))
    (sym c.self.view_is) keeps in
    let ill = c.in_err-append.ensures.failed.1 in
    let now : KeepsAsks {F = g.row.F.Denot} g.F.LogFile.IsHonest g.F.LogFile.model
    (record { log = c.append.new.self; text = s.text.items; hasher = s.hasher; saved = s.saved }) (take s.saved log) = record {
      saved_is = was.saved_is;
      holds = was.holds;
      goes_on = λ f. absurd (true≢false (sym ill ∙ f));
      told = λ honest.
          let before = c.append.ensures.honest.1 honest in
          let tells = was.told before in
          let a = c.in_err-append.ensures.life before tells.l tells.file in
          append_failed (g.F.LogFile.model s.log.file) (g.F.LogFile.model c.append.new.self.file) s.log.failed c.append.new.self.failed s.log.hasher
          c.append.new.self.hasher s.text.items log s.saved (drop HEAD c.deref_mut.result.now) c.in_err-append.field-0.0 is_rest tells a.0 a.1 a.2 ill;
    } in
    let p = err_from_is_err_and c.from_residual-in_err-append.result c.from_residual-in_err-append.ensures.1 in
    after_err c.from_residual-in_err-append.result _ _ p.0 p.1
    (subst (λ (a : AskLogOf g.row.F.Denot). KeepsAsks {F = g.row.F.Denot} g.F.LogFile.IsHonest g.F.LogFile.model
    (record { log = c.append.new.self; text = s.text.items; hasher = s.hasher; saved = s.saved }) (take a.saved log)) c.self.view_is now)

pub returns-in_err-sync-clause-keeps : goal.returns-in_err-sync-clause-keeps
returns-in_err-sync-clause-keeps g c keeps =
    let log = c.args.log.now.log in
    let s = c.self.inside in
    let rest = drop s.saved log in
    let left : s.saved ≤ length log = subst (λ (a : AskLogOf g.row.F.Denot). a.saved ≤ length log) (sym c.self.view_is) c.requires in
    let body : drop HEAD c.deref_mut.result.now ≡ asks_field rest =
    body_of c.clear.new.self.items _ c.extend_from_slice.new.self.items c.deref_mut.result.now (asks_field rest)
    c.clear.ensures.items c.in_ok-extend_from_slice.ensures.items refl (c.deref_mut.ensures.value ∙ c.in_ok-push_asks.ensures.spelled) in
    let is_rest : IsRest log s.saved (drop HEAD c.deref_mut.result.now) = record {
      some = some_left log s.saved left (λ e. c.if-self-length.false (e ∙ sym c.length-length.ensures.value));
      valid = c.in_ok-push_asks.ensures.valid;
      is_log = c.length-length.ensures.valid;
      body_is = body;
    } in
    let was : KeepsAsks {F = g.row.F.Denot} g.F.LogFile.IsHonest g.F.LogFile.model
    (record { log = s.log; text = s.text.items; hasher = s.hasher; saved = s.saved }) (take s.saved log) =
    subst (λ (a : AskLogOf g.row.F.Denot). KeepsAsks {F = g.row.F.Denot} g.F.LogFile.IsHonest g.F.LogFile.model a (take a.saved log))
    (sym c.self.view_is) keeps in
    let ill = c.in_err-sync.ensures.failed.1 in
    let now : KeepsAsks {F = g.row.F.Denot} g.F.LogFile.IsHonest g.F.LogFile.model
    (record { log = c.sync.new.self; text = s.text.items; hasher = s.hasher; saved = s.saved }) (take s.saved log) = record {
      saved_is = was.saved_is;
      holds = was.holds;
      goes_on = λ f. absurd (true≢false (sym ill ∙ f));
      told = λ honest.
          let between = c.sync.ensures.honest.1 honest in
          let before = c.append.ensures.honest.1 between in
          let tells = was.told before in
          let a = c.in_ok-append.ensures.life before tells.l tells.file in
          let b = c.in_err-sync.ensures.life between a.0 a.2 in
          sync_failed (g.F.LogFile.model s.log.file) (g.F.LogFile.model c.sync.new.self.file) s.log.failed c.sync.new.self.failed s.log.hasher
          c.sync.new.self.hasher s.text.items log s.saved (drop HEAD c.deref_mut.result.now) c.in_err-sync.field-0.0 is_rest tells a.0 b.0 a.1 b.1 b.2 ill;
    } in
    let p = err_from_is_err_and c.from_residual-in_err-sync.result c.from_residual-in_err-sync.ensures.1 in
    after_err c.from_residual-in_err-sync.result _ _ p.0 p.1
    (subst (λ (a : AskLogOf g.row.F.Denot). KeepsAsks {F = g.row.F.Denot} g.F.LogFile.IsHonest g.F.LogFile.model
    (record { log = c.sync.new.self; text = s.text.items; hasher = s.hasher; saved = s.saved }) (take a.saved log)) c.self.view_is now)

pub returns-clause-keeps : goal.returns-clause-keeps
returns-clause-keeps g c keeps =
    let log = c.args.log.now.log in
    let s = c.self.inside in
    let rest = drop s.saved log in
    let left : s.saved ≤ length log = subst (λ (a : AskLogOf g.row.F.Denot). a.saved ≤ length log) (sym c.self.view_is) c.requires in
    let body : drop HEAD c.deref_mut.result.now ≡ asks_field rest =
    body_of c.clear.new.self.items _ c.extend_from_slice.new.self.items c.deref_mut.result.now (asks_field rest)
    c.clear.ensures.items c.in_ok-extend_from_slice.ensures.items refl (c.deref_mut.ensures.value ∙ c.in_ok-push_asks.ensures.spelled) in
    let is_rest : IsRest log s.saved (drop HEAD c.deref_mut.result.now) = record {
      some = some_left log s.saved left (λ e. c.if-self-length.false (e ∙ sym c.length-length.ensures.value));
      valid = c.in_ok-push_asks.ensures.valid;
      is_log = c.length-length.ensures.valid;
      body_is = body;
    } in
    let was : KeepsAsks {F = g.row.F.Denot} g.F.LogFile.IsHonest g.F.LogFile.model
    (record { log = s.log; text = s.text.items; hasher = s.hasher; saved = s.saved }) (take s.saved log) =
    subst (λ (a : AskLogOf g.row.F.Denot). KeepsAsks {F = g.row.F.Denot} g.F.LogFile.IsHonest g.F.LogFile.model a (take a.saved log))
    (sym c.self.view_is) keeps in
    let bytes : log_bytes s.text.items (take s.saved log) ++ drop HEAD c.deref_mut.result.now ≡ log_bytes s.text.items log =
    ap (λ (l : List ℕ). log_bytes s.text.items (take s.saved log) ++ l) body ∙ sym (log_bytes_more s.text.items (take s.saved log) rest)
    ∙ ap (λ (l : List (Key × Call)). log_bytes s.text.items l) (take-append-drop s.saved log) in
    let longer : Holds256 c.append.new.self.hasher (log_bytes s.text.items log) =
    subst (Holds256 c.append.new.self.hasher) bytes
    (c.in_ok-append.ensures.hasher (log_bytes s.text.items (take s.saved log)) (was.goes_on c.in_ok-append.ensures.ok.0)) in
    let cloned : c.unwrap-self-inside.result ≡ c.hasher.result.now =
    MatchResult-at_ok (λ (h : Sha256). h ≡ c.hasher.result.now) _ c.unwrap-self-inside.result c.unwrap-self-inside.ensures c.clone.ensures.cases in
    let goes_on : Holds256 c.sync.new.self.hasher (log_bytes s.text.items log) =
    subst (λ (h : Sha256). Holds256 h (log_bytes s.text.items log)) (sym c.sync.ensures.hasher) longer in
    record {
      saved_is = c.length-length.ensures.value;
      holds = subst (λ (h : Sha256). Holds256 h (log_bytes s.text.items log)) (sym (cloned ∙ c.hasher.ensures)) goes_on;
      goes_on = λ f. goes_on;
      told = λ honest.
          let between = c.sync.ensures.honest.1 honest in
          let before = c.append.ensures.honest.1 between in
          let tells = was.told before in
          let a = c.in_ok-append.ensures.life before tells.l tells.file in
          let b = c.in_ok-sync.ensures.life between a.0 a.2 in
          tells_more (g.F.LogFile.model s.log.file) (g.F.LogFile.model c.sync.new.self.file) s.log.failed c.sync.new.self.failed s.log.hasher
          c.sync.new.self.hasher s.text.items log s.saved (drop HEAD c.deref_mut.result.now) is_rest tells a.0 b.0 a.1 b.1 b.2;
    }

pub returns-in_err-append-clause-fault : goal.returns-in_err-append-clause-fault
returns-in_err-append-clause-fault g c =
    let p = err_from_is_err_and c.from_residual-in_err-append.result c.from_residual-in_err-append.ensures.1 in
    rw (p.1, p.2, c.in_err-append.ensures.failed.0) (
      c.in_err-append.ensures.failed.1,
      subst (λ (a : AskLogOf g.row.F.Denot). (a.log.failed ≡ true) ⊎ (g.F.LogFile.has_failed c.append.new.self.file ≡ true)) c.self.view_is
          c.in_err-append.ensures.failed.2,
    )

pub returns-in_err-sync-clause-fault : goal.returns-in_err-sync-clause-fault
returns-in_err-sync-clause-fault g c =
    let p = err_from_is_err_and c.from_residual-in_err-sync.result c.from_residual-in_err-sync.ensures.1 in
    rw (p.1, p.2, c.in_err-sync.ensures.failed.0) (
      c.in_err-sync.ensures.failed.1,
      ⊎_elim
          (λ (ill : c.append.new.self.failed ≡ true). absurd (true≢false (sym ill ∙ c.in_ok-append.ensures.ok.1)))
          (λ (fails : g.F.LogFile.has_failed c.sync.new.self.file ≡ true). inr fails)
          c.in_err-sync.ensures.failed.2,
    )
