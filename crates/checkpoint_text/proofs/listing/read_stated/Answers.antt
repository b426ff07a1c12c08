use Rattle.std.proofs.Common.{rules, ◌<◌, ◌∙◌, w64, FitsSigned, to_z, of_z}
use Rattle.std.proofs.lemmas.Int.{to_z-of_z}
use Rattle.std.proofs.lemmas.List.Elements.{All-from_get_or}
use Rattle.std.proofs.lemmas.Result.{err_from_is_err_and}
use Rattle.sb_checkpoint.specs.Checkpoint.{Origin}
use Rattle.sb_checkpoint.proofs.SpellingIsRead.{read_back}
use Rattle.checkpoint_text.proofs.StatedFaults.{same_refusal}
use Rattle.checkpoint_text.proofs.StatedSpellings.{size_of_spelling, spelled_as_stated, spelling_is_faultless}
use Rattle.checkpoint_text.proofs.listing.read_stated.Goals as goal

pub returns-in_err-checkpoint-clause-fault : goal.returns-in_err-checkpoint-clause-fault
returns-in_err-checkpoint-clause-fault c =
    let p = err_from_is_err_and c.from_residual.result c.from_residual.ensures.1 in
    let bank = c.of-bank.result in
    let total = c.unwrap_or-opening_total.result in
    let fits : FitsSigned w64 total = search rules in
    let origin : Origin = record { customers = bank.customers; opening_total = to_z w64 (of_z w64 total) } in
    rw (p.1, p.2)
    (same_refusal c.args.bytes.now origin bank.opening_total c.of-bank.ensures.customers c.of-bank.ensures.opening_total
    (to_z-of_z w64 total fits ∙ c.unwrap_or-opening_total.ensures) c.in_err-checkpoint.field-0.0 c.in_err-checkpoint.ensures.fault)

pub returns-clause-checkpoint : goal.returns-clause-checkpoint
returns-clause-checkpoint c =
    let bytes = c.args.bytes.now in
    let checkpoint = c.in_ok-checkpoint.checkpoint in
    let spelled = c.in_ok-checkpoint.ensures.checkpoint in
    let size = size_of_spelling spelled.0.0 _ checkpoint bytes spelled.0.1 in
    let back = read_back spelled.0.0 _ checkpoint bytes spelled.0.1 in
    record {
      layout = spelled.0.0;
      spelled = spelled_as_stated spelled.0.0 _ checkpoint bytes (All-from_get_or (λ byte. byte < 256) bytes 0 (λ i inside. (c.type_inv.bytes i).fits))
          spelled.0.1;
      opening_is = c.of-bank.ensures.opening_total spelled.0.0 size.0 back.begins size.1;
    }

pub returns-clause-fault : goal.returns-clause-fault
returns-clause-fault c =
    let bytes = c.args.bytes.now in
    let spelled = c.in_ok-checkpoint.ensures.checkpoint in
    spelling_is_faultless spelled.0.0 _ c.in_ok-checkpoint.checkpoint bytes
    (All-from_get_or (λ byte. byte < 256) bytes 0 (λ i inside. (c.type_inv.bytes i).fits)) spelled.0.1
