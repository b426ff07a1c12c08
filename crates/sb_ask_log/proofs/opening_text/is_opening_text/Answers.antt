use Rattle.std.proofs.Common.{ap, eqb-true, sym, ◌∙◌, length}
use Rattle.sb_rows.specs.Opening.{OpeningText}
use Rattle.sb_ask_log.proofs.Openings.{ends_line, line_ends, one_opening}
use Rattle.sb_ask_log.proofs.opening_text.is_opening_text.Goals as goal
use Rattle.sb_ask_log.proofs.opening_text.is_opening_text.Goals.{then-opening-text, else-opening-text}

pub returns-after-opening-text : goal.returns-after-opening-text
returns-after-opening-text c = elim c.if-opening-text.branch [
  | then-opening-text w ↦ (
    (λ is. record {
      opening = record { names = c.in-Ok.opening.directory; balances = c.in-Ok.opening.columns; consumed = c.in-Ok.opening.consumed };
      read = c.in-Ok.ensures.exact;
      whole = w.if-opening-text.true;
      ended = ends_line c.args.text.now (sym (w.result-is ∙ w.ends_with.ensures.value) ∙ is);
    }),
    (λ is. w.result-is ∙ w.ends_with.ensures.value ∙ line_ends c.args.text.now is.ended.0 is.ended.1),
  )
  | else-opening-text w ↦ (
    (λ is. absurd (w.if-opening-text.false (eqb-true c.in-Ok.opening.consumed (length c.args.text.now) (sym w.result-is ∙ is)))),
    (λ is. absurd (w.if-opening-text.false
        (ap (λ (o : OpeningText). o.consumed) (one_opening c.args.text.now _ _ c.in-Ok.ensures.exact is.read) ∙ is.whole))),
  )
]
