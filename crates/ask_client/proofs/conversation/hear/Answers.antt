use Rattle.std.proofs.Common.{ℕ, List, [], sym, ap, subst, ◌∙◌}
use Rattle.std.proofs.KnownBytes.{Consumes-kept, Consumes-nil}
use Rattle.std.proofs.lemmas.Result.{err_from_is_err_and}
use Rattle.sb_frames.specs.Streaming.{StreamState}
use Rattle.ask_client.specs.Conversations.{TellsFirst}
use Rattle.ask_client.proofs.TakenFrames.{ends_talk, heard_more}
use Rattle.ask_client.proofs.Told.{tells_nothing}
use Rattle.ask_client.proofs.conversation.hear.Goals as goal
use Rattle.ask_client.proofs.conversation.hear.Goals.{in-Ok+in_ok-take_bytes-in-Ok, in-Err+else-ne}

pub loop-init : goal.loop-init
loop-init g c =
    let batch = c.args.batch.now in
    let text = c.args.lines.now.items in
    record {
      so_far = (
        [],
        Consumes-nil (g.R.Read.remaining c.args.reader.now),
        subst (λ (s : StreamState). TellsFirst batch [] s.unread text text batch) (sym c.new-frames.ensures) (tells_nothing batch [] text),
      );
      going = ap (λ (s : StreamState). s.failed) c.new-frames.ensures;
      done = λ none. ap (λ (s : StreamState). s.unread) c.new-frames.ensures;
    }

pub loop-preserved : goal.loop-preserved
loop-preserved g c =
    let loop = c.loop in
    let (bytes, read, told) = loop.invariant.so_far in
    let start = c.args.batch.now in
    let text = c.args.lines.now.items in
    elim c.match-read.branch [
      | in-Ok+in_ok-take_bytes-in-Ok w ↦
          let (rest, tells, ends) = w.in_ok-take_bytes-in-Ok.ensures in
          let new = w.take_bytes.new in
          let heard = heard_more (g.R.Read.remaining c.args.reader.now) (g.R.Read.remaining loop.reader) (g.R.Read.remaining c.read.new.self)
          start loop.batch new.batch bytes loop.frames.unread _ rest text loop.lines.items new.lines.items read told w.in-Ok.ensures.bytes.0 tells in
          rw (w.frames-is, w.batch-is, w.lines-is) (record {
            so_far = (heard.0, heard.1, subst (λ (l : List ℕ). TellsFirst start heard.0 l text new.lines.items new.batch) ends.1 heard.2);
            going = ends.0;
            done = λ none. sym ends.1 ∙ ends.2 none;
          })
      | in-Err+else-ne w ↦ rw (w.frames-is, w.batch-is, w.lines-is) (record {
        so_far = (bytes, Consumes-kept _ _ _ bytes read w.in-Err.ensures.bytes, told);
        going = loop.invariant.going;
        done = loop.invariant.done;
      })
    ]

pub returns-in_err-take_bytes-in-Ok : goal.returns-in_err-take_bytes-in-Ok
returns-in_err-take_bytes-in-Ok g c =
    let p = err_from_is_err_and c.from_residual.result c.from_residual.ensures.1 in
    let loop = c.loop in
    let (bytes, read, told) = loop.invariant.so_far in
    let new = c.take_bytes.new in
    let fault = c.in_err-take_bytes-in-Ok.field-0.0 in
    let (rest, tells, ends) = c.in_err-take_bytes-in-Ok.ensures in
    let heard = heard_more (g.R.Read.remaining c.args.reader.now) (g.R.Read.remaining loop.reader) (g.R.Read.remaining c.read.new.self)
    c.args.batch.now loop.batch new.batch bytes loop.frames.unread _ rest c.args.lines.now.items loop.lines.items new.lines.items read told
    c.in-Ok.ensures.bytes.0 tells in
    rw (p.1, p.2) (heard.0, rest, heard.1, heard.2, ends_talk new.batch rest new.frames fault ends)
