-- Serving many clients of a bank at once, step by step.
use Rattle.std.proofs.Common.{◌≡◌, ℕ, ◌+◌, Bool, Option, Some, None, List, [], ◌∷◌, ◌++◌, false, length, refl, sym, ap, subst, ◌∙◌, arith, length-append, inl, inr}
use Rattle.std.specs.Prelude.{Result, Ok, Err, IfSome, OnOk, slice_get}
use Rattle.std.proofs.KnownBytes.{Appends-nil}
use Rattle.std.proofs.lemmas.List.Elements.{All-append, All-cons, All-nil}
use Rattle.sb_checkpoint.specs.Stores.{StoreModel}
use Rattle.sb_ask_log.specs.Keeping.{KeeperModel}
use Rattle.sb_calls.specs.declared.ask.Key.{Key}
use Rattle.sb_calls.specs.declared.call.Call.{Call}
use Rattle.sb_rows.specs.Balances.{Balances}
use Rattle.sb_rows.specs.Rows.{Rows}
use Rattle.sb_replica.specs.Replica.{RestOf}
use Rattle.cown_board.specs.Board.{BoardOf}
use Rattle.cown_board.specs.declared.state.State.{State}
use Rattle.cown_board.specs.declared.state.State.TheVariants.{Out}
use Rattle.cown_workers.specs.Draining.{HasNoneOut}
use Rattle.sb_calls.specs.declared.op.Op.{Op}
use Rattle.bank_server.specs.Execution.{HasNoEntries}
use Rattle.bank_server.specs.Clients.{ClientOf, End, IsLeft, IsServed, PastOf}
use Rattle.bank_server.specs.Primary.{PreservesBank, PrimaryOf, opening_rows_of}
use Rattle.bank_server.specs.declared.session.session_fault.SessionFault.TheVariants.{Frame, Unexpected, CrewGone, Device, OutOfMemory, Log, TooMany}
use Rattle.bank_clients.specs.History.{GoesOn, HistoryOf, IsOver, IsOverAt, IsOverWith, OutsideOf, ServesEach, history_after}
use Rattle.bank_clients.proofs.Histories.{goes_on_then, stays_on}
use Rattle.bank_service.specs.ServeOutput.{PrintsLines, ServerContinues, end_lines, log_lines, port_line, session_line, session_lines}
use Rattle.bank_service.specs.ServedAtOnce.{ServesAtOnce}
use Rattle.bank_service.specs.ServedBank.{IsBankAfter, IsSameBank}
use Rattle.program_words.specs.declared.plan.Plan.{Plan}
use Rattle.bank_service.specs.inner.AtOnceSteps.{ServesOver, ServesSome, StaysBank}
use Rattle.bank_service.specs.inner.ServeSteps.{PrintsLog, PrintsRows}
use Rattle.bank_service.proofs.BankAfter.{left_behind_first}
use Rattle.bank_service.proofs.PrintedLines.{PrintsLines-trans, same_rows, session_lines-push}

abbrev CallLog : Type 0
CallLog = List (Key × Call)

-- ---- how sessions end

-- a client who is served never ends with a fault of the server
continues_if_left : (own : End) (past : PastOf) (client : ClientOf) (rest : List ℕ) → IsLeft (Some own) past client rest → ServerContinues own
continues_if_left (Ok done) past client rest left = tt
continues_if_left (Err (Frame fault)) past client rest left = tt
continues_if_left (Err Unexpected) past client rest left = tt
continues_if_left (Err CrewGone) past client rest left = left
continues_if_left (Err Device) past client rest left = tt
continues_if_left (Err OutOfMemory) past client rest left = left
continues_if_left (Err (Log fault)) past client rest left = left
continues_if_left (Err TooMany) past client rest left = tt

continues_with_rest : (own : End) (rest : List ℕ) (broken : Bool) (end : End) → ServerContinues own → IsOverWith own rest broken end
    → ServerContinues end
continues_with_rest own [] broken end on is = subst ServerContinues (sym is) on
continues_with_rest own (byte ∷ rest) broken end on (is, why) = subst ServerContinues (sym is) tt

continues_if_over : (opening : Rows) (asks log : CallLog) (past : PastOf) (client : ClientOf) (end : End) → IsServed opening asks log past client
    → IsOver client end → ServerContinues end
continues_if_over opening asks log past client end served (own, ended, is) =
    let left = subst (λ (o : Option End). IsLeft o past client served.heard.rest) ended served.heard.left in
    continues_with_rest own client.outcomes client.broken end (continues_if_left own past client served.heard.rest left) is

-- a session that is over lets the server go on
pub over_continues : (opening : Rows) (h : HistoryOf) (log : CallLog) (clients : List ClientOf) (place : ℕ) (end : End)
    → ServesEach opening h log clients → IsOverAt clients place end → ServerContinues end
over_continues opening h log clients place end served (client, is, inr (ended, most)) = subst ServerContinues (sym ended) tt
over_continues opening h log clients place end served (client, is, inl over) =
    continues_if_over opening h.asks log (h.past place) client end
    (subst (λ (o : Option ClientOf). IfSome o (λ c. IsServed opening h.asks log (h.past place) c)) is (served.each place)) over

-- what all three say of a success, a success gives
pub if_all : {E P Q R To : Type 0} (result : Result (Unit {0}) E) → (P → Q → R → To) → OnOk result P → OnOk result Q → OnOk result R → OnOk result To
if_all (Ok done) f p q r = f p q r
if_all (Err fault) f p q r = tt

nothing_is_out : None ≡ Some Out → ⊥
nothing_is_out e = cc

-- a board without entries has none out
pub no_entries_none_out : (board : BoardOf Op) → HasNoEntries board → HasNoneOut board
no_entries_none_out board none k is = nothing_is_out (subst (λ (states : List State). slice_get states k ≡ Some Out) none.states is)

module _ {S K : Type 0} (model : StoreModel S) (keeper : KeeperModel K) where
  -- ---- the bank stays

  stays_at_first : (saves : Bool) (bank : PrimaryOf S K) → StaysBank model keeper saves bank bank
  stays_at_first saves bank = record {
    bank = record { names = refl; opening = refl };
    text = refl;
    store = record { honest = λ honest. honest; stored = λ s some honest. absurd (omega (arith, some)); unchanged = λ s. refl };
  }

  stays_then : (saves : Bool) (old mid new : PrimaryOf S K) → StaysBank model keeper saves old mid → StaysBank model keeper saves mid new
      → StaysBank model keeper saves old new
  stays_then saves old mid new first next = record {
    bank = record { names = next.bank.names ∙ first.bank.names; opening = next.bank.opening ∙ first.bank.opening };
    text = next.text ∙ first.text;
    store = record {
      honest = λ honest. next.store.honest (first.store.honest honest);
      stored = λ s some honest. absurd (omega (arith, some));
      unchanged = λ s. next.store.unchanged s ∙ first.store.unchanged s;
    };
  }

  -- in a round
  stays_in_round : (saves : Bool) (old new : PrimaryOf S K) → PreservesBank keeper old new
      → StaysBank model keeper saves old new
  stays_in_round saves old new kept =
      let same : new.node.store ≡ old.node.store = ap (λ (r : RestOf S). r.store) kept.rest in
      record {
        bank = record { names = ap (λ (r : RestOf S). r.names) kept.rest; opening = kept.opening };
        text = kept.keeper.same_opening;
        store = record {
          honest = λ honest. subst model.IsHonest (sym same) honest;
          stored = λ s some honest. absurd (omega (arith, some));
          unchanged = λ s. same;
        };
      }

  -- as a session is finished
  stays_in_session : (saves : Bool) (old new : PrimaryOf S K) → IsBankAfter model keeper saves 1 old new → StaysBank model keeper saves old new
  stays_in_session saves old new after = record {
    bank = after.bank;
    text = after.text;
    store = record {
      honest = after.kept.honest;
      stored = λ s some honest. absurd (omega (arith, some));
      unchanged = after.kept.unchanged;
    };
  }

  -- a bank that stayed, and is finished then
  finished_then : (saves : Bool) (old mid new : PrimaryOf S K) → StaysBank model keeper saves old mid → IsBankAfter model keeper saves 1 mid new
      → IsBankAfter model keeper saves 1 old new
  finished_then saves old mid new first next = record {
    bank = record { names = next.bank.names ∙ first.bank.names; opening = next.bank.opening ∙ first.bank.opening };
    one_each = next.one_each;
    all = next.all;
    kept_log = next.kept_log;
    text = next.text ∙ first.text;
    kept = record {
      honest = λ honest. next.kept.honest (first.store.honest honest);
      stored = λ s some honest. next.kept.stored s some (first.store.honest honest);
      unchanged = λ s. next.kept.unchanged s ∙ first.store.unchanged s;
    };
  }

  -- ---- sessions

  pub some_at_first : (saves : Bool) (o : OutsideOf) (clients : List ClientOf) (bank : PrimaryOf S K) (a : Option (List ℕ))
      → ServesSome model keeper saves 0 o o clients clients bank bank a a
  unfolding session_lines
  some_at_first saves o clients bank a = record {
    ends = [];
    goes_on = stays_on (opening_rows_of bank) o bank.log clients;
    all = refl;
    go_on = All-nil ServerContinues;
    printed = Appends-nil a;
    stays = stays_at_first saves bank;
  }

  -- who was served at first is served now
  pub still_begun : (o p : OutsideOf) (xs ys : List ClientOf) (ends : List End) (old new : PrimaryOf S K)
      → GoesOn (opening_rows_of old) o old.log xs ends p new.log ys → IsSameBank old new
      → ((h : HistoryOf) × ServesEach (opening_rows_of old) h old.log xs) → (h : HistoryOf) × ServesEach (opening_rows_of new) h new.log ys
  still_begun o p xs ys ends old new on same (h, served) =
      let (events, may, out, now) = on h served in
      (history_after h events, subst (λ (rows : Rows). ServesEach rows (history_after h events) new.log ys) (sym (same_rows old new same)) now)

  -- rounds, while no session is over
  pub rounds_at_first : (saves : Bool) (o : OutsideOf) (clients : List ClientOf) (bank : PrimaryOf S K)
      → GoesOn (opening_rows_of bank) o bank.log clients [] o bank.log clients × StaysBank model keeper saves bank bank
  rounds_at_first saves o clients bank = (stays_on (opening_rows_of bank) o bank.log clients, stays_at_first saves bank)

  pub rounds_then : (saves : Bool) (o p q : OutsideOf) (xs ys zs : List ClientOf) (old mid new : PrimaryOf S K)
      → GoesOn (opening_rows_of old) o old.log xs [] p mid.log ys → StaysBank model keeper saves old mid
      → GoesOn (opening_rows_of mid) p mid.log ys [] q new.log zs → PreservesBank keeper mid new
      → GoesOn (opening_rows_of old) o old.log xs [] q new.log zs × StaysBank model keeper saves old new
  rounds_then saves o p q xs ys zs old mid new on stays round kept = (
    goes_on_then (opening_rows_of old) o p q old.log mid.log new.log xs ys zs [] [] on
        (subst (λ (rows : Rows). GoesOn rows p mid.log ys [] q new.log zs) (same_rows old mid stays.bank) round),
    stays_then saves old mid new stays (stays_in_round saves mid new kept),
  )

  -- behind these rounds a session is over, and its client left
  pub over_behind : (saves : Bool) (number : ℕ) (o p q : OutsideOf) (xs ys zs : List ClientOf) (old mid new : PrimaryOf S K) (a b c : Option (List ℕ))
      (end : End) → GoesOn (opening_rows_of old) o old.log xs [] p mid.log ys → StaysBank model keeper saves old mid → b ≡ a → ServerContinues end
      → PrintsLines (session_line number end ∷ []) b c → IsBankAfter model keeper saves 1 mid new
      → GoesOn (opening_rows_of mid) p mid.log ys (end ∷ []) q mid.log zs → new.log ≡ mid.log
      → ServesOver model keeper saves number o q xs zs old new a c
  over_behind saves number o p q xs ys zs old mid new a b c end on stays same continues printed after left log = record {
    end = end;
    goes_on = subst (λ (l : CallLog). GoesOn (opening_rows_of old) o old.log xs (end ∷ []) q l zs) (sym log)
        (goes_on_then (opening_rows_of old) o p q old.log mid.log mid.log xs ys zs [] (end ∷ []) on
        (subst (λ (rows : Rows). GoesOn rows p mid.log ys (end ∷ []) q mid.log zs) (same_rows old mid stays.bank) left));
    continues = continues;
    printed = subst (λ (l : Option (List ℕ)). PrintsLines (session_line number end ∷ []) l c) same printed;
    stays = stays_then saves old mid new stays (stays_in_session saves mid new after);
  }

  -- one session more is over
  pub some_then_over : (saves : Bool) (count : ℕ) (o p q : OutsideOf) (xs ys zs : List ClientOf) (old mid new : PrimaryOf S K) (a b c : Option (List ℕ))
      → ServesSome model keeper saves count o p xs ys old mid a b → ServesOver model keeper saves (count + 1) p q ys zs mid new b c
      → ServesSome model keeper saves (count + 1) o q xs zs old new a c
  some_then_over saves count o p q xs ys zs old mid new a b c so_far next =
      let number : 1 + length so_far.ends ≡ count + 1 = omega (arith, so_far.all) in
      record {
        ends = so_far.ends ++ next.end ∷ [];
        goes_on = goes_on_then (opening_rows_of old) o p q old.log mid.log new.log xs ys zs so_far.ends (next.end ∷ []) so_far.goes_on
            (subst (λ (rows : Rows). GoesOn rows p mid.log ys (next.end ∷ []) q new.log zs) (same_rows old mid so_far.stays.bank) next.goes_on);
        all = omega (arith, length-append so_far.ends (next.end ∷ []), so_far.all);
        go_on = All-append ServerContinues so_far.ends (next.end ∷ []) so_far.go_on
            (All-cons ServerContinues next.end [] next.continues (All-nil ServerContinues));
        printed = subst (λ (ls : List (List ℕ)). PrintsLines ls a c) (sym (session_lines-push 1 so_far.ends next.end))
            (PrintsLines-trans a b c (session_lines 1 so_far.ends) (session_line (1 + length so_far.ends) next.end ∷ []) so_far.printed
            (subst (λ (n : ℕ). PrintsLines (session_line n next.end ∷ []) b c) (sym number) next.printed));
        stays = stays_then saves old mid new so_far.stays next.stays;
      }

  -- all that a bank prints
  pub serves_at_once : (plan : Plan) (port : ℕ) (o p : OutsideOf) (xs ys : List ClientOf) (first opened served last : PrimaryOf S K)
      (a b c d e f : Option (List ℕ)) → IsBankAfter model keeper false 1 first opened → opened.log ≡ first.log
      → PrintsLog keeper opened a b → PrintsLines (port_line plan.host port ∷ []) b c
      → ServesSome model keeper plan.saves plan.sessions o p xs ys opened served c d
      → IsBankAfter model keeper plan.saves 1 served last → last.log ≡ served.log
      → PrintsLog keeper last d e → PrintsRows last e f
      → ServesAtOnce model keeper plan port o p xs ys first last a f
  serves_at_once plan port o p xs ys first opened served last a b c d e f early same_log line start some after log last_line rows =
      let whole = left_behind_first model keeper plan.saves 1 first opened last early
      (finished_then plan.saves opened served last some.stays after) in
      let same_lines : end_lines last.node.names last.node.board.opening last.log ≡ end_lines first.node.names first.node.board.opening last.log =
      ap (λ (names : List (List ℕ)). end_lines names last.node.board.opening last.log) whole.bank.names
      ∙ ap (λ (opening : Balances). end_lines first.node.names opening last.log) whole.bank.opening in
      let ended = end_lines first.node.names first.node.board.opening last.log in
      let sessions = session_lines 1 some.ends in
      let lines = log_lines (keeper.opening first.keeper) last.log in
      record {
        ends = some.ends;
        goes_on = subst (λ (l : CallLog). GoesOn (opening_rows_of first) o first.log xs some.ends p l ys) (sym log)
            (subst (λ (l : CallLog). GoesOn (opening_rows_of first) o l xs some.ends p served.log ys) same_log
            (subst (λ (r : Rows). GoesOn r o opened.log xs some.ends p served.log ys) (same_rows first opened early.bank) some.goes_on));
        all = some.all;
        go_on = some.go_on;
        printed =
            let rest = PrintsLines-trans b e f ((port_line plan.host port ∷ sessions) ++ lines) ended
            (PrintsLines-trans b d e (port_line plan.host port ∷ sessions) lines
            (PrintsLines-trans b c d (port_line plan.host port ∷ []) sessions start some.printed)
            (subst (λ (text : Option (List ℕ)). PrintsLines (log_lines text last.log) d e) whole.text last_line))
            (subst (λ (ls : List (List ℕ)). PrintsLines ls e f) same_lines rows) in
            PrintsLines-trans a b f (log_lines (keeper.opening first.keeper) first.log) (((port_line plan.host port ∷ sessions) ++ lines) ++ ended)
            (subst (λ (text : Option (List ℕ)). PrintsLines (log_lines text first.log) a b) early.text
            (subst (λ (l : CallLog). PrintsLines (log_lines (keeper.opening opened.keeper) l) a b) same_log line)) rest;
        left = whole;
      }
