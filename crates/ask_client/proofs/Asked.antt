-- How far a client's run has come, line after line.
use Rattle.std.proofs.Common.{◌≡◌, ℕ, ◌+◌, ◌-◌, ◌<◌, Option, Some, None, Result, Ok, Err, List, [], ◌∷◌, ◌++◌, length, map, drop, take, refl, sym, ap, subst, ◌∙◌, arith, append_assoc, append-nil, length-append, length-drop}
use Rattle.std.specs.Prelude.{◌≢◌, IfErr, IfSome, MatchResult, OnOk}
use Rattle.std.specs.Io.KnownBytes.{Consumes, IsAtEnd}
use Rattle.std.proofs.KnownBytes.{Appends-nil, Consumes-trans}
use Rattle.std.proofs.lemmas.List.{map-append}
use Rattle.memchr.specs.Find.{IsFirstByte}
use Rattle.sb_rows.specs.Text.{is_line_feed, lines, unlines}
use Rattle.sb_rows.proofs.SplitAtFirstByte.{lines-nil, to_end}
use Rattle.sb_calls.specs.Call.{call_of}
use Rattle.sb_calls.specs.declared.call.Call.{Call}
use Rattle.sb_calls.specs.declared.text.fault.CallFault.{CallFault}
use Rattle.sb_frames.specs.declared.frame.AskOutcome.{AskOutcome}
use Rattle.ask_client.specs.Asking.{AskEnd, AsksLines, EndsRun, LeavesAll, SpellCalls}
use Rattle.ask_client.specs.Batches.{BatchOf, after_outcomes}
use Rattle.ask_client.specs.Connections.{BringsAll, DialerStreams}
use Rattle.ask_client.specs.OutcomeLines.{outcome_lines}
use Rattle.ask_client.specs.declared.ask_fault.AskFault.{AskFault}
use Rattle.ask_client.specs.declared.ask_fault.AskFault.TheVariants.{Line, NoNumber, Unexpected, Connection, End, Input, Output, OutOfMemory}
use Rattle.ask_client.specs.declared.server_stream.ServerStream.{ServerStream}
use Rattle.ask_client.specs.inner.Progress.{AskStart, AskState, HasAsked, HasRun, HasStopped, HasTold, BringsSoFar, IsBatchFault, IsHangUpFault, IsLineFault, TellsMore, ask_start, ask_state}
use Rattle.ask_client.specs.inner.Reading.{HasNoLineEnd, last_lines, missing_end}
use Rattle.ask_client.proofs.Connections.{none_made}
use Rattle.ask_client.proofs.LineEnds.{last_line, last_split, lines_split}
use Rattle.ask_client.proofs.MoreTold.{prints_until, told_until}
use Rattle.ask_client.proofs.Told.{some_element}

-- one line more, and its call
spelled_push : (before : List (List ℕ)) (calls : List Call) (line : List ℕ) (call : Call) → SpellCalls before calls → call_of line ≡ Ok call
    → SpellCalls (before ++ line ∷ []) (calls ++ call ∷ [])
spelled_push before calls line call spelled is =
    let ok : Call → Result Call CallFault = λ c. Ok c in
    map-append call_of before (line ∷ []) ∙ ap (λ (l : List (Result Call CallFault)). l ++ call_of line ∷ []) spelled
    ∙ ap (λ (r : Result Call CallFault). map ok calls ++ r ∷ []) is ∙ sym (map-append ok calls (call ∷ []))

-- why the batch isn't told says how the run ends
batch_ends : (fault : AskFault) (left : BatchOf) (first calls told : ℕ) (behind : List (List ℕ)) → IsBatchFault left fault
    → (left.calls ≢ [] → told < calls) → EndsRun (Err fault) first calls told behind
batch_ends (Line number fault) left first calls told behind never few = absurd never
batch_ends (NoNumber number) left first calls told behind never few = absurd never
batch_ends Unexpected left first calls told behind is few = tt
batch_ends Connection left first calls told behind is few = few is
batch_ends End left first calls told behind never few = absurd never
batch_ends Input left first calls told behind never few = absurd never
batch_ends Output left first calls told behind is few = tt
batch_ends OutOfMemory left first calls told behind is few = tt

-- why a line isn't put into the batch says how the run ends, once the batch is told
line_ends : (fault : AskFault) (batch : BatchOf) (first calls told : ℕ) (line : List ℕ) (behind : List (List ℕ)) → IsLineFault first batch line fault
    → batch.first + length batch.calls ≡ first + calls → told ≡ calls → EndsRun (Err fault) first calls told (line ∷ behind)
line_ends (Line number fault) batch first calls told line behind (is, at) next all =
    (line, behind, refl, is, omega (arith, at, next), all)
line_ends (NoNumber number) batch first calls told line behind (call, is, full, at) next all =
    (line, behind, call, refl, is, sym next ∙ full, omega (arith, at, next), all)
line_ends Unexpected batch first calls told line behind never next all = absurd never
line_ends Connection batch first calls told line behind never next all = absurd never
line_ends End batch first calls told line behind never next all = absurd never
line_ends Input batch first calls told line behind never next all = absurd never
line_ends Output batch first calls told line behind never next all = absurd never
line_ends OutOfMemory batch first calls told line behind is next all = tt

-- the end of the last connection says how a run ends that told all
ends_so : (result : AskEnd) (first calls told : ℕ) (behind : List (List ℕ)) → IfErr result IsHangUpFault → EndsRun (Ok tt) first calls told behind
    → EndsRun result first calls told behind
ends_so (Ok done) first calls told behind why all = all
ends_so (Err (Line number fault)) first calls told behind never all = absurd never
ends_so (Err (NoNumber number)) first calls told behind never all = absurd never
ends_so (Err Unexpected) first calls told behind why all = tt
ends_so (Err Connection) first calls told behind never all = absurd never
ends_so (Err End) first calls told behind why all = all
ends_so (Err Input) first calls told behind never all = absurd never
ends_so (Err Output) first calls told behind never all = absurd never
ends_so (Err OutOfMemory) first calls told behind never all = absurd never

module _ {R W : Type 0} (remaining : R → Option (List ℕ)) where
  -- the same lines, said otherwise
  pub behind_so : (start : AskStart R W) (taken taken_so : List ℕ) (old new : List ℕ → List (List ℕ)) (state : AskState R W)
      → ((more : List ℕ) → (between : List ℕ) × (taken_so ++ more ≡ taken ++ between) × (old between ≡ new more))
      → HasAsked remaining start taken old state → HasAsked remaining start taken_so new state
  behind_so start taken taken_so old new state same asked = record {
    before = asked.before;
    calls = asked.calls;
    told = asked.told;
    read = λ more. let (between, is, reads) = same more in
        ap lines is ∙ asked.read between ∙ ap (λ (l : List (List ℕ)). asked.before ++ l) reads;
    spelled = asked.spelled;
    waiting = asked.waiting;
    has_told = asked.has_told;
  }

  -- nothing is asked yet
  pub nothing_asked : (start : AskStart R W) (state : AskState R W) → state.batch.calls ≡ [] → HasTold remaining start (Ok tt) [] state
      → HasAsked remaining start [] (λ more. lines more) state
  nothing_asked start state none has = record {
    before = [];
    calls = [];
    told = [];
    read = λ more. refl;
    spelled = refl;
    waiting = let empty : length state.batch.calls ≡ 0 = ap length none in omega (arith, empty);
    has_told = has;
  }

  -- a line's call is put into the batch
  pub line_pushed : (start : AskStart R W) (taken line : List ℕ) (behind : List ℕ → List (List ℕ)) (streams : Option (DialerStreams R W))
      (open_stream : Option (ServerStream R W)) (old new : BatchOf) (text : Option (List ℕ)) (call : Call) → call_of line ≡ Ok call
      → new ≡ record old { calls = old.calls ++ call ∷ [] }
      → HasAsked remaining start taken (λ more. line ∷ behind more) (ask_state streams open_stream old text)
      → HasAsked remaining start taken behind (ask_state streams open_stream new text)
  line_pushed start taken line behind streams open_stream old new text call spells pushed asked =
      let counts : length new.calls ≡ length (old.calls ++ call ∷ []) = ap (λ (b : BatchOf). length b.calls) pushed in
      let has = asked.has_told in
      record {
        before = asked.before ++ line ∷ [];
        calls = asked.calls ++ call ∷ [];
        told = asked.told;
        read = λ more. asked.read more ∙ sym (append_assoc asked.before (line ∷ []) (behind more));
        spelled = spelled_push asked.before asked.calls line call asked.spelled spells;
        waiting = omega (arith, length-append asked.calls (call ∷ []), length-append old.calls (call ∷ []), counts, asked.waiting);
        has_told = record {
          client_is = ap (λ (b : BatchOf). b.client) pushed ∙ has.client_is;
          next = ap (λ (b : BatchOf). b.first) pushed ∙ has.next;
          brought = has.brought;
          printed = has.printed;
        };
      }

  -- the batch is asked
  pub batch_asked : (start : AskStart R W) (taken : List ℕ) (behind : List ℕ → List (List ℕ)) (old new : AskState R W)
      → TellsMore remaining (Ok tt) old new → HasAsked remaining start taken behind old → HasAsked remaining start taken behind new
  batch_asked start taken behind old new tells asked =
      let (more, has, within, is) = tells start asked.told asked.has_told in
      let calls : length new.batch.calls ≡ length (after_outcomes (length more) old.batch).calls = ap (λ (b : BatchOf). length b.calls) is in
      record {
        before = asked.before;
        calls = asked.calls;
        told = asked.told ++ more;
        read = asked.read;
        spelled = asked.spelled;
        waiting = omega (arith, length-append asked.told more, length-drop (length more) old.batch.calls, calls, within, asked.waiting);
        has_told = has;
      }

  -- the batch isn't told
  pub batch_stopped : (start : AskStart R W) (taken : List ℕ) (behind : List ℕ → List (List ℕ)) (old new : AskState R W) (fault : AskFault)
      → TellsMore remaining (Err fault) old new → IsBatchFault new.batch fault → HasAsked remaining start taken behind old
      → HasStopped remaining start taken fault new
  batch_stopped start taken behind old new fault tells why asked =
      let (more, has, within, is) = tells start asked.told asked.has_told in
      let calls : length new.batch.calls ≡ length (after_outcomes (length more) old.batch).calls = ap (λ (b : BatchOf). length b.calls) is in
      let all = length-append asked.told more in
      record {
        before = asked.before;
        calls = asked.calls;
        told = asked.told ++ more;
        read = λ text. (
          behind text,
          asked.read text,
          batch_ends fault new.batch start.first (length asked.calls) (length (asked.told ++ more)) (behind text) why
              (λ some. let left = some_element new.batch.calls some in
              omega (arith, all, length-drop (length more) old.batch.calls, calls, within, asked.waiting, left)),
        );
        spelled = asked.spelled;
        within = omega (arith, all, within, asked.waiting);
        has_told = has;
      }

  -- both
  pub batch_over : (start : AskStart R W) (taken : List ℕ) (behind : List ℕ → List (List ℕ)) (old new : AskState R W)
      (result : Result (Unit {0}) AskFault) → TellsMore remaining result old new → IfErr result (IsBatchFault new.batch)
      → HasAsked remaining start taken behind old
      → MatchResult result (λ done. HasAsked remaining start taken behind new) (λ fault. HasStopped remaining start taken fault new)
  batch_over start taken behind old new (Ok done) tells why asked = batch_asked start taken behind old new tells asked
  batch_over start taken behind old new (Err fault) tells why asked = batch_stopped start taken behind old new fault tells why asked

  -- all that was taken is told
  all_told : (start : AskStart R W) (taken : List ℕ) (behind : List ℕ → List (List ℕ)) (state : AskState R W) → state.batch.calls ≡ []
      → (asked : HasAsked remaining start taken behind state) → length asked.told ≡ length asked.calls
  all_told start taken behind state none asked = let empty = ap length none in omega (arith, empty, asked.waiting)

  -- a line is at fault
  pub line_stopped : (start : AskStart R W) (taken line : List ℕ) (behind : List ℕ → List (List ℕ)) (old new : AskState R W) (first : ℕ) (fault : AskFault)
      → start.first ≡ first → IsLineFault first old.batch line fault → TellsMore remaining (Ok tt) old new → new.batch.calls ≡ []
      → HasAsked remaining start taken (λ more. line ∷ behind more) old → HasStopped remaining start taken fault new
  unfolding batch_asked
  line_stopped start taken line behind old new first fault first_is why tells none asked =
      let then = batch_asked start taken (λ more. line ∷ behind more) old new tells asked in
      let all = all_told start taken (λ more. line ∷ behind more) new none then in
      let next : old.batch.first + length old.batch.calls ≡ start.first + length asked.calls = omega (arith, asked.has_told.next, asked.waiting) in
      let so = subst (λ (n : ℕ). IsLineFault n old.batch line fault) (sym first_is) why in
      record {
        before = then.before;
        calls = then.calls;
        told = then.told;
        read = λ more. (
          line ∷ behind more,
          then.read more,
          line_ends fault old.batch start.first (length then.calls) (length then.told) line (behind more) so next all,
        );
        spelled = then.spelled;
        within = omega (arith, all);
        has_told = told_until remaining (Err fault) start then.told new then.has_told;
      }

  -- a fault that says nothing of the lines
  pub stopped_anyhow : (start : AskStart R W) (taken : List ℕ) (behind : List ℕ → List (List ℕ)) (state : AskState R W) (fault : AskFault)
      → ((first calls told : ℕ) (lines : List (List ℕ)) → EndsRun (Err fault) first calls told lines)
      → HasAsked remaining start taken behind state → HasStopped remaining start taken fault state
  stopped_anyhow start taken behind state fault anyhow asked = record {
    before = asked.before;
    calls = asked.calls;
    told = asked.told;
    read = λ more. (behind more, asked.read more, anyhow start.first (length asked.calls) (length asked.told) (behind more));
    spelled = asked.spelled;
    within = omega (arith, asked.waiting);
    has_told = told_until remaining (Err fault) start asked.told state asked.has_told;
  }

  -- ---- a whole input

  pub run_stopped : (start : AskStart R W) (taken : List ℕ) (a b : Option (List ℕ)) (fault : AskFault) (state : AskState R W) → Consumes a b taken
      → HasStopped remaining start taken fault state → IfSome a (λ text. HasRun remaining start text (Err fault) state)
  run_stopped start taken None b fault state reads stopped = tt
  run_stopped start taken (Some text) None fault state reads stopped = absurd reads
  run_stopped start taken (Some text) (Some rest) fault state reads stopped =
      let (behind, are, ends) = stopped.read rest in
      record {
        before = stopped.before;
        behind = behind;
        calls = stopped.calls;
        told = stopped.told;
        lines_are = ap lines reads ∙ are;
        spelled = stopped.spelled;
        within = stopped.within;
        has_told = stopped.has_told;
        end = ends;
      }

  pub run_ended : (start : AskStart R W) (taken last : List ℕ) (a b : Option (List ℕ)) (state : AskState R W) → Consumes a b taken → IsAtEnd b
      → lines taken ≡ lines last → state.batch.calls ≡ [] → HasAsked remaining start last (λ more. lines more) state
      → IfSome a (λ text. HasRun remaining start text (Ok tt) state)
  run_ended start taken last None b state reads end same none asked = tt
  run_ended start taken last (Some text) None state reads end same none asked = absurd reads
  run_ended start taken last (Some text) (Some rest) state reads end same none asked =
      let whole : text ≡ taken = reads ∙ ap (λ (l : List ℕ). taken ++ l) end ∙ append-nil taken in
      let all = all_told start last (λ more. lines more) state none asked in
      record {
        before = asked.before;
        behind = [];
        calls = asked.calls;
        told = asked.told;
        lines_are = ap lines whole ∙ same ∙ ap lines (sym (append-nil last)) ∙ asked.read []
            ∙ ap (λ (l : List (List ℕ)). asked.before ++ l) (lines-nil [] refl);
        spelled = asked.spelled;
        within = omega (arith, all);
        has_told = asked.has_told;
        end = (refl, all);
      }

  -- the input ended, and its last line was asked
  pub run_over : (start : AskStart R W) (taken last : List ℕ) (a b : Option (List ℕ)) (result : AskEnd) (state : AskState R W) → Consumes a b taken
      → IsAtEnd b → lines taken ≡ lines last → OnOk result (state.batch.calls ≡ [])
      → MatchResult result (λ done. HasAsked remaining start last (λ more. lines more) state) (λ fault. HasStopped remaining start last fault state)
      → IfSome a (λ text. HasRun remaining start text result state)
  run_over start taken last a b (Ok done) state reads end same none asked = run_ended start taken last a b state reads end same none asked
  run_over start taken last None b (Err fault) state reads end same none stopped = tt
  run_over start taken last (Some text) None (Err fault) state reads end same none stopped = absurd reads
  run_over start taken last (Some text) (Some rest) (Err fault) state reads end same none stopped =
      let whole : text ≡ taken = reads ∙ ap (λ (l : List ℕ). taken ++ l) end ∙ append-nil taken in
      let (behind, are, ends) = stopped.read [] in
      record {
        before = stopped.before;
        behind = behind;
        calls = stopped.calls;
        told = stopped.told;
        lines_are = ap lines whole ∙ same ∙ ap lines (sym (append-nil last)) ∙ are;
        spelled = stopped.spelled;
        within = stopped.within;
        has_told = stopped.has_told;
        end = ends;
      }

  -- the lines that were read, and those with the line feed that the last one may lack
  pub same_lines : (start : AskStart R W) (taken text : List ℕ) (state : AskState R W) → HasNoLineEnd text
      → HasAsked remaining start taken (λ more. lines (text ++ more)) state → lines taken ≡ lines (taken ++ missing_end text)
  same_lines start taken text state none asked =
      ap lines (sym (append-nil taken)) ∙ asked.read [] ∙ ap (λ (l : List (List ℕ)). asked.before ++ l) (ap lines (append-nil text) ∙ last_line text none)
      ∙ sym (asked.read (missing_end text))

  -- the last line is behind the others
  pub last_behind : (start : AskStart R W) (taken text : List ℕ) (state : AskState R W) → HasNoLineEnd text
      → HasAsked remaining start taken (λ more. lines (text ++ more)) state
      → HasAsked remaining start (taken ++ missing_end text) (λ more. last_lines text ++ lines more) state
  last_behind start taken text state none asked =
      behind_so start taken (taken ++ missing_end text) (λ more. lines (text ++ more)) (λ more. last_lines text ++ lines more) state
      (λ more. (missing_end text ++ more, append_assoc taken (missing_end text) more, last_split text more none)) asked

  -- more bytes are read
  pub fed : (start : AskStart R W) (taken text bytes : List ℕ) (state : AskState R W) → HasAsked remaining start taken (λ more. lines (text ++ more)) state
      → HasAsked remaining start (taken ++ bytes) (λ more. lines ((text ++ bytes) ++ more)) state
  fed start taken text bytes state asked =
      behind_so start taken (taken ++ bytes) (λ more. lines (text ++ more)) (λ more. lines ((text ++ bytes) ++ more)) state
      (λ more. (bytes ++ more, append_assoc taken bytes more, ap lines (sym (append_assoc text bytes more)))) asked

  -- the state, said otherwise
  pub state_so : (start : AskStart R W) (taken : List ℕ) (behind : List ℕ → List (List ℕ)) (streams : Option (DialerStreams R W))
      (old_stream new_stream : Option (ServerStream R W)) (old new : BatchOf) (text : Option (List ℕ)) → new_stream ≡ old_stream → new ≡ old
      → HasAsked remaining start taken behind (ask_state streams old_stream old text)
      → HasAsked remaining start taken behind (ask_state streams new_stream new text)
  state_so start taken behind streams old_stream new_stream old new text stream_is batch_is asked =
      subst (λ (b : BatchOf). HasAsked remaining start taken behind (ask_state streams new_stream b text)) (sym batch_is)
      (subst (λ (o : Option (ServerStream R W)). HasAsked remaining start taken behind (ask_state streams o old text)) (sym stream_is) asked)

  -- ---- a run's beginning, and its end

  pub begins : (client first : ℕ) (streams : Option (DialerStreams R W)) (open_stream : Option (ServerStream R W)) (batch : BatchOf) (text : Option (List ℕ))
      → open_stream ≡ None → batch ≡ record { client = client; first = first; calls = [] }
      → HasTold remaining (ask_start client first streams text) (Ok tt) [] (ask_state streams open_stream batch text)
  begins client first streams open_stream batch text none is =
      let at : batch.first ≡ first = ap (λ (b : BatchOf). b.first) is in
      record {
        client_is = ap (λ (b : BatchOf). b.client) is;
        next = omega (arith, at);
        brought = subst (λ (o : Option (ServerStream R W)). BringsSoFar remaining client streams streams o first []) (sym none)
            (none_made remaining client streams first);
        printed = Appends-nil text;
      }

  pub asks_all : (start : AskStart R W) (result : AskEnd) (state : AskState R W) (then : Option (DialerStreams R W)) → IfErr result IsHangUpFault
      → ((told : List AskOutcome) → HasTold remaining start (Ok tt) told state
      → BringsAll remaining start.client (LeavesAll remaining result told) start.streams then start.first told)
      → (a : Option (List ℕ)) → IfSome a (λ text. HasRun remaining start text (Ok tt) state)
      → IfSome a (λ text. AsksLines remaining start.client start.first text result start.streams then start.text state.text)
  asks_all start result state then why brings None run = tt
  asks_all start result state then why brings (Some text) run = record {
    before = run.before;
    behind = run.behind;
    calls = run.calls;
    told = run.told;
    lines_are = run.lines_are;
    spelled = run.spelled;
    within = run.within;
    brought = brings run.told run.has_told;
    printed = prints_until result (unlines (outcome_lines start.first run.told)) start.text state.text run.has_told.printed;
    end = ends_so result start.first (length run.calls) (length run.told) run.behind why run.end;
  }

  pub asks_some : (start : AskStart R W) (fault : AskFault) (state : AskState R W) (then : Option (DialerStreams R W))
      → ((told : List AskOutcome) → BringsSoFar remaining start.client start.streams state.streams state.open_stream start.first told
      → BringsAll remaining start.client (λ left. Unit {0}) start.streams then start.first told)
      → (a : Option (List ℕ)) → IfSome a (λ text. HasRun remaining start text (Err fault) state)
      → IfSome a (λ text. AsksLines remaining start.client start.first text (Err fault) start.streams then start.text state.text)
  asks_some start fault state then brings None run = tt
  asks_some start fault state then brings (Some text) run = record {
    before = run.before;
    behind = run.behind;
    calls = run.calls;
    told = run.told;
    lines_are = run.lines_are;
    spelled = run.spelled;
    within = run.within;
    brought = brings run.told run.has_told.brought;
    printed = run.has_told.printed;
    end = run.end;
  }

-- a read at the end gave nothing
pub reads_none : (a b c : Option (List ℕ)) (taken buf : List ℕ) (n : ℕ) → Consumes a b taken → Consumes b c (take n buf) → n ≡ 0 → Consumes a c taken
reads_none a b c taken buf n first second none =
    let empty : take n buf ≡ [] = ap (λ (k : ℕ). take k buf) none in
    subst (Consumes a c) (ap (λ (l : List ℕ). taken ++ l) empty ∙ append-nil taken) (Consumes-trans a b c taken (take n buf) first second)

-- the next line of a text is behind the others
pub line_behind : {R W : Type 0} (remaining : R → Option (List ℕ)) (start : AskStart R W) (taken text : List ℕ) (count end : ℕ) (state : AskState R W)
    → IsFirstByte is_line_feed (take (length text - count) (drop count text)) (Some end)
    → HasAsked remaining start taken (λ more. lines (drop count text ++ more)) state
    → HasAsked remaining start taken (λ more. take ((count + end) - count) (drop count text) ∷ lines (drop (end + 1) (drop count text) ++ more)) state
line_behind remaining start taken text count end state found asked =
    let hay = drop count text in
    let at : IsFirstByte is_line_feed hay (Some end) = subst (λ (l : List ℕ). IsFirstByte is_line_feed l (Some end)) (to_end text count) found in
    let size : (count + end) - count ≡ end = omega arith in
    behind_so remaining start taken taken (λ more. lines (hay ++ more))
    (λ more. take ((count + end) - count) hay ∷ lines (drop (end + 1) hay ++ more)) state
    (λ more. (more, refl, lines_split hay more end at ∙ ap (λ (k : ℕ). take k hay ∷ lines (drop (end + 1) hay ++ more)) (sym size))) asked
