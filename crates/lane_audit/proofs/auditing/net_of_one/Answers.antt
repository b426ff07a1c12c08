use Rattle.std.proofs.Common.{sym, ◌∙◌, subst, w64}
use Rattle.std.proofs.lemmas.Int.{to_z-of_z}
use Rattle.lane_audit.specs.inner.NetBounds.{IsPossibleNet}
use Rattle.lane_audit.proofs.Audits.{net_within}
use Rattle.lane_audit.proofs.auditing.net_of_one.Goals as goal

pub returns-clause-within : goal.returns-clause-within
returns-clause-within c =
    subst (IsPossibleNet 1) (sym (to_z-of_z w64 c.net.result (record { sfits = c.net.type_inv }) ∙ c.net.ensures))
    (net_within c.args.call.now c.args.reply c.amount_within.ensures)
