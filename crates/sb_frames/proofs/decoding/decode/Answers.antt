use Rattle.std.proofs.Common.{rules, ◌<◌, ◌∙◌, sym, arith}
use Rattle.std.proofs.lemmas.List.Elements.{All-from_get_or}
use Rattle.sb_frames.specs.Decoding.{decode_result}
use Rattle.sb_frames.proofs.Frames.{found_is_spelled, spelled_is_found, decoded_settled}
use Rattle.sb_frames.proofs.decoding.decode.Goals as goal

pub returns-in_err-size-clause-exact : goal.returns-in_err-size-clause-exact
unfolding decode_result
returns-in_err-size-clause-exact c = search rules

pub returns-in_err-size-clause-complete : goal.returns-in_err-size-clause-complete
returns-in_err-size-clause-complete c = λ frame k long h. returns-in_err-size-clause-exact c ∙ spelled_is_found c.args.bytes.now frame k long h

pub returns-in_err-size-clause-stable : goal.returns-in_err-size-clause-stable
returns-in_err-size-clause-stable c =
    let exact = returns-in_err-size-clause-exact c in
    λ more whole. decoded_settled c.args.bytes.now more (λ short. whole (exact ∙ short)) ∙ sym exact

pub returns-in_err-frame-clause-exact : goal.returns-in_err-frame-clause-exact
unfolding decode_result
returns-in_err-frame-clause-exact c = search rules

pub returns-in_err-frame-clause-complete : goal.returns-in_err-frame-clause-complete
returns-in_err-frame-clause-complete c = λ frame k long h. returns-in_err-frame-clause-exact c ∙ spelled_is_found c.args.bytes.now frame k long h

pub returns-in_err-frame-clause-stable : goal.returns-in_err-frame-clause-stable
returns-in_err-frame-clause-stable c =
    let exact = returns-in_err-frame-clause-exact c in
    λ more whole. decoded_settled c.args.bytes.now more (λ short. whole (exact ∙ short)) ∙ sym exact

pub returns-clause-exact : goal.returns-clause-exact
unfolding decode_result
returns-clause-exact c = search rules

pub returns-clause-spelled : goal.returns-clause-spelled
returns-clause-spelled c =
    found_is_spelled c.args.bytes.now _
    (All-from_get_or (λ byte. byte < 256) c.args.bytes.now 0 (λ i lt. omega (arith, c.type_inv.bytes i))) (returns-clause-exact c)

pub returns-clause-complete : goal.returns-clause-complete
returns-clause-complete c = λ frame k long h. returns-clause-exact c ∙ spelled_is_found c.args.bytes.now frame k long h

pub returns-clause-stable : goal.returns-clause-stable
returns-clause-stable c =
    let exact = returns-clause-exact c in
    λ more whole. decoded_settled c.args.bytes.now more (λ short. whole (exact ∙ short)) ∙ sym exact
