-- The bodies of a log's file, by its opening text and its asks.
use Rattle.std.proofs.Common.{◌≡◌, ◌≢◌, ℕ, List, [], ◌∷◌, ◌++◌, map, refl, sym, ap, ◌∙◌, append_assoc}
use Rattle.std.specs.List.{All, flat_map}
use Rattle.std.proofs.lemmas.List.{append_cancel_left, flat_map_more, map-append}
use Rattle.std.proofs.lemmas.List.Concat.{flat_map-append}
use Rattle.std.proofs.lemmas.List.Elements.{All-append, All-nil, All-push}
use Rattle.sb_calls.specs.declared.ask.Key.{Key}
use Rattle.sb_calls.specs.declared.call.Call.{Call}
use Rattle.sb_frames.specs.Grammar.{spelling}
use Rattle.sb_sequencer.specs.Numbering.{IsLog}
use Rattle.sb_log.specs.Reading.{Begins}
use Rattle.sb_log.specs.Records.{body_bytes}
use Rattle.sb_ask_log.specs.Asks.{IsAsk, asks_field, ask_frame}
use Rattle.sb_ask_log.specs.LogFile.{AreBodiesOf, IsOpeningText, log_bytes, log_magic}
use Rattle.sb_ask_log.proofs.Fields.{fields_begin}
use Rattle.sb_ask_log.proofs.Numbers.{no_log}

-- all batches body_bytes
abbrev pub all_of : List (List (Key × Call)) → List (Key × Call)
all_of batches = flat_map (λ batch. batch) batches

pub joined_fields : (batches : List (List (Key × Call))) → body_bytes (map asks_field batches) ≡ asks_field (all_of batches)
joined_fields [] = refl
joined_fields (batch ∷ batches) =
    ap (λ (l : List ℕ). asks_field batch ++ l) (joined_fields batches)
    ∙ sym (flat_map-append (λ (ask : Key × Call). spelling (ask_frame ask)) batch (all_of batches))

-- the bodies, body_bytes, are the log's bytes
pub joined_log : (bodies : List (List ℕ)) (text : List ℕ) (log : List (Key × Call)) → AreBodiesOf bodies text log
    → body_bytes bodies ≡ log_bytes text log
joined_log bodies text log are =
    ap body_bytes are.bodies_are
    ∙ ap (λ (l : List ℕ). (log_magic ++ text) ++ l) (joined_fields are.batches ∙ ap asks_field (sym are.log_is.log_is))
    ∙ append_assoc log_magic text (asks_field log)

-- an opening alone
pub opened : (text : List ℕ) → IsOpeningText text → AreBodiesOf ((log_magic ++ text) ∷ []) text []
opened text is = record {
  batches = [];
  bodies_are = refl;
  opening = is;
  log_is = record {
    some = All-nil (λ (batch : List (Key × Call)). batch ≢ []);
    valid = All-nil IsAsk;
    log_is = refl;
    one_each = no_log;
  };
}

-- one more batch
pub batch_more : (bodies : List (List ℕ)) (text : List ℕ) (log more : List (Key × Call)) → AreBodiesOf bodies text log
    → more ≢ [] → All IsAsk more → IsLog (log ++ more) → AreBodiesOf (bodies ++ asks_field more ∷ []) text (log ++ more)
batch_more bodies text log more are some valid is = record {
  batches = are.batches ++ more ∷ [];
  bodies_are = ap (λ (l : List (List ℕ)). l ++ asks_field more ∷ []) are.bodies_are
      ∙ ap (λ (l : List (List ℕ)). (log_magic ++ text) ∷ l) (sym (map-append asks_field are.batches (more ∷ [])));
  opening = are.opening;
  log_is = record {
    some = All-push (λ (batch : List (Key × Call)). batch ≢ []) are.batches more are.log_is.some some;
    valid = All-append IsAsk log more are.log_is.valid valid;
    log_is = ap (λ (l : List (Key × Call)). l ++ more) are.log_is.log_is
        ∙ flat_map_more (λ (batch : List (Key × Call)). batch) [] are.batches more;
    one_each = is;
  };
}

-- the first body says the text
pub text_of : (text other : List ℕ) (xs ys : List (List ℕ)) → (log_magic ++ text) ∷ xs ≡ (log_magic ++ other) ∷ ys → (text ≡ other) × (xs ≡ ys)
text_of text other xs ys e =
    let first : log_magic ++ text ≡ log_magic ++ other = cc in
    (append_cancel_left log_magic text other first, cc)

-- a log whose bodies begin those of another: the opening is the same, and its asks begin the other's
pub bodies_begin : (front all : List (List ℕ)) (text other : List ℕ) (log longer : List (Key × Call))
    → AreBodiesOf front text log → AreBodiesOf all other longer → Begins front all → (other ≡ text) × Begins log longer
bodies_begin front all text other log longer are these begins =
    let same = text_of other text (map asks_field these.batches) (map asks_field are.batches ++ begins.0)
    (sym these.bodies_are ∙ begins.1 ∙ ap (λ (l : List (List ℕ)). l ++ begins.0) are.bodies_are) in
    let rest = body_bytes begins.0 in
    let parted : asks_field longer ≡ asks_field log ++ rest =
    ap asks_field these.log_is.log_is ∙ sym (joined_fields these.batches) ∙ ap body_bytes same.1
    ∙ flat_map-append (λ (body : List ℕ). body) (map asks_field are.batches) begins.0
    ∙ ap (λ (l : List ℕ). l ++ rest) (joined_fields are.batches ∙ ap asks_field (sym are.log_is.log_is)) in
    let more = fields_begin log longer rest are.log_is.valid these.log_is.valid parted in
    (same.0, (more.0, more.1))

-- one more batch of a log's bytes
pub log_bytes_more : (text : List ℕ) (log more : List (Key × Call)) → log_bytes text (log ++ more) ≡ log_bytes text log ++ asks_field more
log_bytes_more text log more =
    ap (λ (l : List ℕ). log_magic ++ (text ++ l)) (flat_map-append (λ (ask : Key × Call). spelling (ask_frame ask)) log more)
    ∙ ap (λ (l : List ℕ). log_magic ++ l) (sym (append_assoc text (asks_field log) (asks_field more)))
    ∙ sym (append_assoc log_magic (text ++ asks_field log) (asks_field more))
