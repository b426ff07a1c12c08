use Rattle.std.proofs.Common.{Ok, Err}
use Rattle.std.proofs.lemmas.Result.{err_from_is_err_and}
use Rattle.sb_rows.proofs.OpeningLaws.{Reads-spelled, Reads-taken}
use Rattle.sb_rows.specs.declared.opening.Opening.{Opening}
use Rattle.sb_rows.proofs.reading.read_opening.Goals as goal
use Rattle.sb_rows.proofs.reading.read_opening.Goals.{In_ok-consumed}

-- what was read
opening : In_ok-consumed → Opening
opening c = record {
  directory = c.read_customers.new.directory;
  columns = c.read_customers.new.columns;
  consumed = c.in_ok-consumed.consumed;
  same_customers = c.in_ok-consumed.ensures.same;
}

pub returns-clause-spelled : goal.returns-clause-spelled
unfolding opening
returns-clause-spelled c = Reads-spelled c.args.text.now (Ok (opening (goal.at.returns-clause-spelled c).In_ok-consumed)) c.in_ok-consumed.ensures.exact

pub returns-clause-complete : goal.returns-clause-complete
unfolding opening
returns-clause-complete c = Reads-taken c.args.text.now (Ok (opening (goal.at.returns-clause-complete c).In_ok-consumed)) c.in_ok-consumed.ensures.exact

pub returns-in_err-consumed-clause-complete : goal.returns-in_err-consumed-clause-complete
returns-in_err-consumed-clause-complete c =
    let exit = err_from_is_err_and c.from_residual.result c.from_residual.ensures.1 in
    rw (exit.1, exit.2) (Reads-taken c.args.text.now (Err _) c.in_err-consumed.ensures.exact)
