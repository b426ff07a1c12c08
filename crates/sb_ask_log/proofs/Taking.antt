-- How the asks of a batch are taken, one after another.
use Rattle.std.proofs.Common.{◌≡◌, ◌≢◌, ◌==◌, ℕ, Bool, false, eq-eqb, true≢false, List, [], ◌∷◌, ◌++◌, length, take, drop, refl, sym, ap, subst, ◌∙◌, append_assoc}
use Rattle.std.specs.List.{All}
use Rattle.std.proofs.lemmas.List.{flat_map_more, take-append-drop}
use Rattle.std.proofs.lemmas.List.Elements.{All-push, All-drop}
use Rattle.std.proofs.lemmas.List.{drop_at}
use Rattle.sb_calls.specs.declared.ask.Key.{Key}
use Rattle.sb_calls.specs.declared.call.Call.{Call}
use Rattle.sb_frames.specs.Grammar.{spelling}
use Rattle.sb_sequencer.specs.Numbering.{IsLog}
use Rattle.sb_log.specs.Replaying.{IsReplayFault}
use Rattle.sb_log.specs.declared.replay.ReplayFault.{ReplayFault}
use Rattle.sb_log.specs.declared.replay.ReplayFault.TheVariants.{OutOfMemory, Refused}
use Rattle.sb_ask_log.specs.Asks.{IsAsk, asks_field, ask_frame}
use Rattle.sb_ask_log.proofs.Fields.{fields_begin}

-- what the loop over a body keeps: which asks are taken, and what is left
pub record Taken (body rest : List ℕ) (before log : List (Key × Call)) : Type 0 where
  pub asks : List (Key × Call)
  pub valid : All IsAsk asks
  pub body_is : body ≡ asks_field asks ++ rest
  pub log_is : log ≡ before ++ asks
  pub is_log : asks ≢ [] → IsLog log

-- one more ask is
pub one_taken : (body rest : List ℕ) (before log longer : List (Key × Call)) (ask : Key × Call) (size : ℕ) → Taken body rest before log
    → IsAsk ask → take size rest ≡ spelling (ask_frame ask) → longer ≡ log ++ ask ∷ [] → IsLog longer → Taken body (drop size rest) before longer
one_taken body rest before log longer ask size taken valid front grown is =
    let field = spelling (ask_frame ask) in
    record {
      asks = taken.asks ++ ask ∷ [];
      valid = All-push IsAsk taken.asks ask taken.valid valid;
      body_is = taken.body_is ∙ ap (λ (l : List ℕ). asks_field taken.asks ++ l) (sym (take-append-drop size rest) ∙ ap (λ
          (l : List ℕ). l ++ drop size rest) front)
          ∙ sym (append_assoc (asks_field taken.asks) field (drop size rest))
          ∙ ap (λ (l : List ℕ). l ++ drop size rest) (flat_map_more (λ (it : Key × Call). spelling (ask_frame it)) [] taken.asks ask);
      log_is = grown ∙ ap (λ (l : List (Key × Call)). l ++ ask ∷ []) taken.log_is ∙ append_assoc before taken.asks (ask ∷ []);
      is_log = λ some. is;
    }

-- what a batch with this body has behind the asks that are taken
behind_taken : (body rest : List ℕ) (before log : List (Key × Call)) → Taken body rest before log → (batch : List (Key × Call)) → All IsAsk batch
    → body ≡ asks_field batch → rest ≢ [] → (more : List (Key × Call)) × (before ++ batch ≡ log ++ more) × (rest ≡ asks_field more) × (more ≢ [])
    × All IsAsk more
behind_taken body rest before log taken batch valid e filled =
    let more = fields_begin taken.asks batch rest taken.valid valid (sym e ∙ taken.body_is) in (
      more.0,
      ap (λ (l : List (Key × Call)). before ++ l) more.1 ∙ sym (append_assoc before taken.asks more.0) ∙ ap (λ (l : List (Key × Call)). l ++ more.0)
          (sym taken.log_is),
      more.2,
      (λ none. filled (more.2 ∙ ap asks_field none)),
      subst (All IsAsk) (ap (λ (l : List (Key × Call)). drop (length taken.asks) l) more.1 ∙ drop_at taken.asks more.0 (length taken.asks) refl)
          (All-drop IsAsk (length taken.asks) batch valid),
    )

-- no batch has a body in which no ask follows
pub no_ask_follows : (body rest : List ℕ) (before log : List (Key × Call)) → Taken body rest before log → rest ≢ []
    → ((asks : List (Key × Call)) → asks ≢ [] → All IsAsk asks → rest ≢ asks_field asks)
    → (batch : List (Key × Call)) → batch ≢ [] → All IsAsk batch → body ≡ asks_field batch → IsLog (before ++ batch) → ⊥
no_ask_follows body rest before log taken filled none batch some valid e is =
    let more = behind_taken body rest before log taken batch valid e filled in
    none more.0 more.3 more.4 more.2

-- nor one in which an ask follows that no log takes
pub ask_refused : (body rest : List ℕ) (before log : List (Key × Call)) → Taken body rest before log → (ask : Key × Call) (size : ℕ)
    → IsAsk ask → take size rest ≡ spelling (ask_frame ask) → ((more : List (Key × Call)) → IsLog (log ++ ask ∷ more) → ⊥)
    → (batch : List (Key × Call)) → batch ≢ [] → All IsAsk batch → body ≡ asks_field batch → IsLog (before ++ batch) → ⊥
ask_refused body rest before log taken ask size valid_ask front refuses batch some valid e is =
    let asks = taken.asks ++ ask ∷ [] in
    let field = spelling (ask_frame ask) in
    let parted : asks_field batch ≡ asks_field asks ++ drop size rest =
    sym e ∙ taken.body_is ∙ ap (λ (l : List ℕ). asks_field taken.asks ++ l) (sym (take-append-drop size rest) ∙ ap (λ (l : List ℕ). l ++ drop size rest) front)
    ∙ sym (append_assoc (asks_field taken.asks) field (drop size rest))
    ∙ ap (λ (l : List ℕ). l ++ drop size rest) (flat_map_more (λ (it : Key × Call). spelling (ask_frame it)) [] taken.asks ask) in
    let more = fields_begin asks batch (drop size rest) (All-push IsAsk taken.asks ask taken.valid valid_ask) valid parted in
    let all : before ++ batch ≡ log ++ ask ∷ more.0 =
    ap (λ (l : List (Key × Call)). before ++ l) (more.1 ∙ append_assoc taken.asks (ask ∷ []) more.0)
    ∙ sym (append_assoc before taken.asks (ask ∷ more.0)) ∙ ap (λ (l : List (Key × Call)). l ++ ask ∷ more.0) (sym taken.log_is) in
    refuses more.0 (subst IsLog all is)

-- one reason to refuse is another
pub refused_so : (P Q : Type 0) (fault : ReplayFault) → (P → Q) → IsReplayFault P fault → IsReplayFault Q fault
refused_so P Q Refused f p = f p
refused_so P Q OutOfMemory f p = tt

-- a list with some length
pub filled_by_test : (xs : List ℕ) (b : Bool) → b ≡ (length xs == 0) → b ≡ false → xs ≢ []
filled_by_test xs b test off e = true≢false (sym (eq-eqb (length xs) 0 (ap length e)) ∙ sym test ∙ off)
