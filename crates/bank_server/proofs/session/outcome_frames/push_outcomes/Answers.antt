use Rattle.std.proofs.Common.{◌≡◌, ℕ, ◌+◌, ◌<◌, List, [], ◌++◌, length, drop, sym, ap, ◌∙◌, arith, append_assoc, append-nil}
use Rattle.std.specs.List.{flat_map}
use Rattle.std.proofs.lemmas.List.{drop_all}
use Rattle.sb_frames.specs.Grammar.{spelling}
use Rattle.sb_frames.specs.declared.frame.Frame.TheVariants.{Outcome}
use Rattle.bank_server.specs.Session.{outcome_by}
use Rattle.bank_server.specs.declared.session.inbox.PendingAsk.{PendingAsk}
use Rattle.bank_server.proofs.clients.FlatLists.{flat_map-drop}
use Rattle.bank_server.proofs.session.outcome_frames.push_outcomes.Goals as goal

pub loop-ask-preserved : goal.loop-ask-preserved
loop-ask-preserved g c replies tells =
    let loop = c.loop-ask in
    let ask : PendingAsk = c.ask-item.result in
    let spelled = λ (a : PendingAsk). flat_map spelling (outcome_by replies a.key a.standing) in
    let outcome = Outcome ask.key.client ask.key.request c.outcome_of-outcome.result in
    let told : c.encode.result.items ≡ spelled ask =
    c.encode.ensures.spelled ∙ sym (append-nil (spelling outcome))
    ∙ ap (flat_map spelling) (sym (c.outcome_of-outcome.ensures replies tells ask.key)) in
    let left : List ℕ = flat_map spelled (drop (loop.ask-index + 1) c.args.pending.now) in
    let within : loop.ask-index < length c.args.pending.now = omega arith in
    let next = flat_map-drop spelled c.args.pending.now loop.ask-index ask within c.ask-item.is in
    ap (λ (out : List ℕ). out ++ left) (c.in_ok-extend_from_slice.ensures.items ∙ ap (λ (b : List ℕ). loop.out.items ++ b) (c.deref.ensures.0 ∙ told))
    ∙ append_assoc loop.out.items (spelled ask) left ∙ ap (λ (l : List ℕ). loop.out.items ++ l) (sym next) ∙ loop.invariant replies tells

pub returns : goal.returns
returns g c replies tells =
    let loop = c.loop-ask in
    let spelled = λ (a : PendingAsk). flat_map spelling (outcome_by replies a.key a.standing) in
    let none : drop loop.ask-index c.args.pending.now ≡ [] = drop_all loop.ask-index c.args.pending.now c.loop-ask-test.false in
    sym (append-nil loop.out.items) ∙ ap (λ (l : List PendingAsk). loop.out.items ++ flat_map spelled l) (sym none) ∙ loop.invariant replies tells
