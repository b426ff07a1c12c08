use Rattle.std.proofs.Common.{rules, ◌≡◌, ◌+ℤ◌, FitsSigned, w64, of_z, length, map, take, sym, ap, subst, ◌∙◌}
use Rattle.std.proofs.lemmas.Int.{to_z-of_z}
use Rattle.lane_audit.specs.Columns.{total}
use Rattle.sb_calls.specs.Net.{net_sum}
use Rattle.sb_rows.specs.Rows.{SameCustomers}
use Rattle.schedule_player.specs.World.{bank_of}
use Rattle.schedule_text.specs.declared.note.AuditNote.TheVariants as audit
use Rattle.schedule_player.proofs.observers.Books.{books_are, books_balance}
use Rattle.schedule_player.proofs.world.World.books.Goals as goal

pub returns-then-found : goal.returns-then-found
returns-then-found c =
    let found = c.audit-found in
    let fits : FitsSigned w64 found.result.total = search rules in
    (λ j. audit.Same ((to_z-of_z w64 found.result.total fits ∙ found.ensures.total) j) (found.ensures.overdrawn j))
    ∙ books_are (bank_of c.args.self.now) (length c.args.replies.now) c.args.columns.now c.requires.rows

pub returns-else-found : goal.returns-else-found
returns-else-found c =
    let found = c.audit-found in
    let bank = bank_of c.args.self.now in
    let same : SameCustomers bank.names bank.opening = subst (λ w. SameCustomers w.names w.opening) c.self.view_is c.self.invariant.customers in
    let balance = books_balance bank (length c.args.replies.now) c.args.columns.now same c.requires.rows in
    let calls = ap (take (length c.args.replies.now)) (c.synced_calls.ensures ∙ ap (λ w. map (λ entry. entry.1) w.sequencer.synced.log) c.self.view_is) in
    let fits : FitsSigned w64 c.bank_total.result = search rules in
    let opening = to_z-of_z w64 c.bank_total.result fits ∙ c.bank_total.ensures.value ∙ ap
    (λ w. total w.opening.savings +ℤ total w.opening.checking) c.self.view_is in
    let right : found.result.total ≡ found.result.expected =
    found.ensures.total ∙ balance
    ∙ (λ j. sym opening j +ℤ net_sum (sym calls j) (sym c.requires.replies j))
    ∙ sym found.ensures.expected in
    absurd (c.if-found.false (ap (of_z w64) right))
