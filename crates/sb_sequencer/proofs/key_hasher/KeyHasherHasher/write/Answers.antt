use Rattle.std.proofs.Common.{◌≡◌, ◌+◌, ◌*◌, ◌^◌, ◌%◌, ◌<◌, bit_or, ap, ◌∙◌, arith}
use Rattle.std.proofs.lemmas.Nat.{or_shifted}
use Rattle.sb_sequencer.proofs.key_hasher.KeyHasherHasher.write.Goals as goal

-- the older number leaves, and the newer one makes room
pub returns : goal.returns
returns c =
    let state = c.args.self.now.state in
    let number = c.first_number.result in
    let kept = state % 2 ^ 32 in
    let below : number < 2 ^ 32 = c.first_number.type_inv in
    let shifted : state * 2 ^ 32 % 2 ^ 64 ≡ kept * 2 ^ 32 = omega arith in
    let joined : bit_or (state * 2 ^ 32 % 2 ^ 64) number ≡ kept * 2 ^ 32 + number = ap (λ high. bit_or high number) shifted ∙ or_shifted kept 32 number below in
    let wrapped : kept * 2 ^ 32 + number ≡ (state * 2 ^ 32 + number) % 2 ^ 64 = omega (arith, below) in
    λ j. record { state = (joined ∙ wrapped ∙ ap (λ n. (state * 2 ^ 32 + n) % 2 ^ 64) c.first_number.ensures) j }
