use Rattle.std.proofs.lemmas.Result.{err_from_is_err_and}
use Rattle.ask_client.proofs.Told.{hears_nothing}
use Rattle.ask_client.proofs.conversation.converse.Goals as goal

pub returns-in_err-send_batch-clause-heard : goal.returns-in_err-send_batch-clause-heard
returns-in_err-send_batch-clause-heard g c =
    let p = err_from_is_err_and c.from_residual.result c.from_residual.ensures.1 in
    rw (p.1, p.2) (hears_nothing (g.R.Read.remaining c.args.stream.now.reader) c.args.batch.now c.args.lines.now.items
    c.in_err-send_batch.field-0.0 c.in_err-send_batch.ensures.fault)

pub returns-clause-heard : goal.returns-clause-heard
returns-clause-heard g c = c.hear.ensures
