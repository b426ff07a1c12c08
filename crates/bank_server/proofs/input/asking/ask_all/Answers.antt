use Rattle.std.proofs.Common.{◌≡◌, Ok, [], length, refl, sym, ap, subst, ◌∙◌, arith}
use Rattle.std.proofs.lemmas.Bool.{eqb-true}
use Rattle.sb_rows.proofs.SplitAtFirstByte.{lines-nil}
use Rattle.sb_rows.specs.Text.{lines}
use Rattle.bank_server.specs.AskResults.{LinesGiveStandings}
use Rattle.bank_server.specs.Input.{asks_from}
use Rattle.bank_server.proofs.lines.AskedLines.{asks_from-end, log_of_asks-nil}
use Rattle.bank_server.proofs.input.asking.ask_all.Goals as goal

pub loop-left-init : goal.loop-left-init
loop-left-init g c = (
  [],
  record {
    all = refl;
    standings = record {
      after = record { keys = tt; running_is = refl; log_is = c.requires.log ∙ sym log_of_asks-nil };
      standings_are = c.requires.standings;
    };
    room = omega arith;
    count = ap length c.requires.standings;
    node = refl;
    few = omega arith;
  },
)

pub returns-clause-asked : goal.returns-clause-asked
returns-clause-asked g c =
    let asks = c.loop-left.invariant.0 in
    let so_far = c.loop-left.invariant.1 in
    let none = lines-nil c.loop-left.left.now (eqb-true (length c.loop-left.left.now) 0 (sym c.is_empty.ensures ∙ c.loop-left-test.false)) in
    let all : asks_from c.args.first_line [] (lines c.args.text.now) ≡ Ok asks =
    sym so_far.all ∙ (ap (asks_from c.args.first_line asks) none ∙ asks_from-end c.args.first_line asks) in
    subst (λ read. LinesGiveStandings read c.loop-left.primary.log c.loop-left.standings.items) (sym all)
    (record { log_is = so_far.standings.after.log_is; standings_are = so_far.standings.standings_are })
