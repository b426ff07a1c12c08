-- What a client has told, step by step.
use Rattle.std.proofs.Common.{◌≡◌, ℕ, ◌+◌, Option, Some, None, Result, Ok, Err, true, true≢false, List, [], ◌++◌, length, sym, ap, subst, ◌∙◌, arith, append_assoc, append-nil, length-append, length-drop}
use Rattle.std.specs.Prelude.{OnErr, is_ok}
use Rattle.std.specs.List.{flat_map}
use Rattle.std.specs.Io.KnownBytes.{Appends, Consumes}
use Rattle.std.proofs.KnownBytes.{Appends-trans}
use Rattle.sb_rows.specs.Text.{unlines}
use Rattle.sb_frames.specs.Grammar.{spelling}
use Rattle.sb_frames.specs.declared.frame.AskOutcome.{AskOutcome}
use Rattle.ask_client.specs.Asking.{AskEnd, PrintsUntil}
use Rattle.ask_client.specs.Batches.{BatchOf, after_outcomes, outcome_frames}
use Rattle.ask_client.specs.Connections.{DialerStreams, LeavesStream}
use Rattle.ask_client.specs.Conversations.{Hears}
use Rattle.ask_client.specs.OutcomeLines.{outcome_lines}
use Rattle.ask_client.specs.Writes.{WritesFront}
use Rattle.ask_client.specs.declared.ask_fault.AskFault.TheVariants.{Line, NoNumber, Unexpected, Connection, End, Input, Output, OutOfMemory}
use Rattle.ask_client.specs.declared.server_stream.ServerStream.{ServerStream}
use Rattle.ask_client.specs.declared.talk_fault.TalkFault.{TalkFault}
use Rattle.ask_client.specs.inner.Progress.{AskStart, AskState, BringsSoFar, HasTold, TellsMore, TellsOver, ask_state}
use Rattle.ask_client.proofs.Connections.{open_left, open_stays}
use Rattle.ask_client.proofs.Told.{after_more, after_none, unlines-append}

-- ---- what is printed

-- bytes were printed, whatever comes then
pub prints_until : (result : AskEnd) (bytes : List ℕ) (a b : Option (List ℕ)) → Appends a b bytes → PrintsUntil result bytes a b
prints_until (Ok done) bytes a b prints = prints
prints_until (Err (Line number fault)) bytes a b prints = prints
prints_until (Err (NoNumber number)) bytes a b prints = prints
prints_until (Err Unexpected) bytes a b prints = prints
prints_until (Err Connection) bytes a b prints = prints
prints_until (Err End) bytes a b prints = prints
prints_until (Err Input) bytes a b prints = prints
prints_until (Err Output) bytes a b prints = (bytes, [], sym (append-nil bytes), prints, tt)
prints_until (Err OutOfMemory) bytes a b prints = prints

-- bytes were printed, and then more, or a first part of them
pub prints_more : {E : Type 0} (result : AskEnd) (sent : Result (Unit {0}) E) (x y : List ℕ) (a b c : Option (List ℕ)) → Appends a b x
    → WritesFront sent y b c → OnErr sent (result ≡ Err Output) → PrintsUntil result (x ++ y) a c
prints_more result (Ok done) x y a b c prints (front, rest, parts, wrote, none) whole =
    let all : y ≡ front = parts ∙ ap (λ (l : List ℕ). front ++ l) none ∙ append-nil front in
    prints_until result (x ++ y) a c (subst (λ (l : List ℕ). Appends a c (x ++ l)) (sym all) (Appends-trans a b c x front prints wrote))
prints_more result (Err fault) x y a b c prints (front, rest, parts, wrote, none) whole =
    subst (λ (r : AskEnd). PrintsUntil r (x ++ y) a c) (sym whole)
    (x ++ front, rest, ap (λ (l : List ℕ). x ++ l) parts ∙ sym (append_assoc x front rest), Appends-trans a b c x front prints wrote, tt)

-- what holds anyhow holds after a failure
pub on_err : {E : Type 0} (r : Result (Unit {0}) E) (P : Type 0) → P → OnErr r P
on_err (Ok done) P p = tt
on_err (Err fault) P p = p

-- there was no failure
pub not_err : {E : Type 0} (r : Result (Unit {0}) E) (P : Type 0) → is_ok r ≡ true → OnErr r P
not_err (Ok done) P ok = tt
not_err (Err fault) P ok = absurd (true≢false (sym ok))

module _ {R W : Type 0} (remaining : R → Option (List ℕ)) where
  -- ---- what is told

  -- the same, up to an end
  pub told_until : (result : AskEnd) (start : AskStart R W) (told : List AskOutcome) (state : AskState R W)
      → HasTold remaining start (Ok tt) told state → HasTold remaining start result told state
  told_until result start told state has = record {
    client_is = has.client_is;
    next = has.next;
    brought = has.brought;
    printed = prints_until result (unlines (outcome_lines start.first told)) start.text state.text has.printed;
  }

  -- nothing more is told, and no connection brought more
  pub tells_none : (old new : AskState R W) → new.batch ≡ old.batch → new.text ≡ old.text
      → ((client : ℕ) (start : Option (DialerStreams R W)) (first : ℕ) (told : List AskOutcome)
      → BringsSoFar remaining client start old.streams old.open_stream first told → BringsSoFar remaining client start new.streams new.open_stream first told)
      → TellsMore remaining (Ok tt) old new
  tells_none old new batch text brings start told has =
      let same : HasTold remaining start (Ok tt) told new = record {
        client_is = ap (λ (b : BatchOf). b.client) batch ∙ has.client_is;
        next = ap (λ (b : BatchOf). b.first) batch ∙ has.next;
        brought = brings start.client start.streams start.first told has.brought;
        printed = subst (λ (t : Option (List ℕ)). Appends start.text t (unlines (outcome_lines start.first told))) (sym text) has.printed;
      } in
      ([], subst (λ (l : List AskOutcome). HasTold remaining start (Ok tt) l new) (sym (append-nil told)) same, omega arith, batch ∙ after_none old.batch)

  -- some is told, and then more
  pub tells_then : (result : AskEnd) (old mid new : AskState R W) → TellsMore remaining (Ok tt) old mid → TellsMore remaining result mid new
      → TellsMore remaining result old new
  tells_then result old mid new first second start told has =
      let (xs, then, within, is) = first start told has in
      let (ys, end, also, left) = second start (told ++ xs) then in
      let calls : length mid.batch.calls ≡ length (after_outcomes (length xs) old.batch).calls = ap (λ (b : BatchOf). length b.calls) is in (
        xs ++ ys,
        subst (λ (l : List AskOutcome). HasTold remaining start result l new) (append_assoc told xs ys) end,
        omega (arith, length-append xs ys, length-drop (length xs) old.batch.calls, calls, within, also),
        left ∙ ap (after_outcomes (length ys)) is ∙ after_more old.batch xs ys,
      )

  -- what came over a connection is told
  pub tells_over : {E : Type 0} (result : AskEnd) (sent : Result (Unit {0}) E) (streams between then : Option (DialerStreams R W))
      (open_stream later_stream : Option (ServerStream R W)) (stream : ServerStream R W) (batch left : BatchOf) (text : List ℕ) (old new : Option (List ℕ))
      → ((client : ℕ) (start : Option (DialerStreams R W)) (first : ℕ) (told : List AskOutcome)
      → BringsSoFar remaining client start streams open_stream first told → BringsSoFar remaining client start between (Some stream) first told)
      → TellsOver remaining between stream batch then later_stream left text → WritesFront sent text old new
      → OnErr sent (result ≡ Err Output)
      → TellsMore remaining result (ask_state streams open_stream batch old) (ask_state then later_stream left new)
  tells_over result sent streams between then open_stream later_stream stream batch left text old new opens (more, lines_are, within, left_is, brings) wrote
      whole start told has =
      let at : BringsSoFar remaining batch.client start.streams streams open_stream start.first told =
      subst (λ (n : ℕ). BringsSoFar remaining n start.streams streams open_stream start.first told) (sym has.client_is) has.brought in
      let came : BringsSoFar remaining batch.client start.streams then later_stream start.first (told ++ more) =
      brings start.streams start.first told has.next (opens batch.client start.streams start.first told at) in
      let x = unlines (outcome_lines start.first told) in
      let y = unlines (outcome_lines (start.first + length told) more) in
      let text_is : text ≡ y = lines_are ∙ ap (λ (n : ℕ). unlines (outcome_lines n more)) has.next in
      let firsts : left.first ≡ (after_outcomes (length more) batch).first = ap (λ (b : BatchOf). b.first) left_is in
      let next : left.first ≡ start.first + length (told ++ more) = omega (arith, firsts, has.next, length-append told more) in
      let printed : PrintsUntil result (x ++ y) start.text new =
      prints_more result sent x y start.text old new has.printed (subst (λ (l : List ℕ). WritesFront sent l old new) text_is wrote) whole in (
        more,
        record {
          client_is = ap (λ (b : BatchOf). b.client) left_is ∙ has.client_is;
          next = next;
          brought = subst (λ (n : ℕ). BringsSoFar remaining n start.streams then later_stream start.first (told ++ more)) has.client_is came;
          printed = subst (λ (l : List ℕ). PrintsUntil result l start.text new) (sym (unlines-append start.first told more)) printed;
        },
        within,
        left_is,
      )

  -- ---- a talk over a connection, which stays open or is left

  pub talked_on : (batch left : BatchOf) (text : List ℕ) (streams : Option (DialerStreams R W)) (stream last : ServerStream R W)
      → Hears batch (Ok tt) (remaining stream.reader) (remaining last.reader) [] text left
      → TellsOver remaining streams stream batch streams (Some last) left text
  talked_on batch left text streams stream last (bytes, rest, reads, tells, ends) = (
    tells.told,
    tells.lines_are,
    tells.within,
    tells.left_is,
    λ start first told next brings.
        let at : bytes ≡ flat_map spelling (outcome_frames batch.client (first + length told) tells.told) ++ [] =
        tells.bytes_are ∙ ap (λ (l : List ℕ). flat_map spelling (outcome_frames batch.client batch.first tells.told) ++ l) ends.1
        ∙ ap (λ (n : ℕ). flat_map spelling (outcome_frames batch.client n tells.told) ++ []) next in
        open_stays remaining batch.client start streams first told tells.told stream last brings
        (subst (Consumes (remaining stream.reader) (remaining last.reader)) at reads),
  )

  pub talked_off : (batch left : BatchOf) (text : List ℕ) (streams then : Option (DialerStreams R W)) (stream last : ServerStream R W) (fault : TalkFault)
      → Hears batch (Err fault) (remaining stream.reader) (remaining last.reader) [] text left → LeavesStream last streams then
      → TellsOver remaining streams stream batch then None left text
  talked_off batch left text streams then stream last fault (bytes, rest, reads, tells, ends) leaves = (
    tells.told,
    tells.lines_are,
    tells.within,
    tells.left_is,
    λ start first told next brings.
        let at : bytes ≡ flat_map spelling (outcome_frames batch.client (first + length told) tells.told) ++ rest =
        tells.bytes_are ∙ ap (λ (n : ℕ). flat_map spelling (outcome_frames batch.client n tells.told) ++ rest) next in
        open_left remaining batch.client (λ left. Unit {0}) start streams then first told tells.told rest stream last brings
        (subst (Consumes (remaining stream.reader) (remaining last.reader)) at reads) leaves (λ left. tt),
  )
