-- The text that the pushes write is money text, whatever the sign.
use Rattle.std.proofs.Common.{rules, ◌≡◌, ℕ, ◌/◌, ◌%◌, List, [], ◌∷◌, ◌++◌, ◌∙◌, sym, ap, append_assoc, decimal, nat_abs, lit<, w64}
use Rattle.std.proofs.lemmas.Int.{to_z-of_z}
use Rattle.arrayvec.specs.ArrayString.{ArrayString}
use Rattle.sb_amount.specs.Money.{two_digits, unsigned_money}
use Rattle.sb_amount.proofs.Money.{money-negative, money-unsigned}
use Rattle.sb_amount.proofs.printing.print_total.Goals as goal
use Rattle.sb_amount.proofs.printing.print_total.Goals.{then-cents-lt0, else-cents-lt0}

-- what comes before the digits, and the three pieces pushed behind it
pushed : (front whole pointed ended : List ℕ) (n : ℕ) → whole ≡ front ++ decimal (n / 100) → pointed ≡ whole ++ 46 ∷ []
    → ended ≡ pointed ++ two_digits (n % 100) → ended ≡ front ++ unsigned_money n
pushed front whole pointed ended n a b c =
    c ∙ ap (λ cs. cs ++ two_digits (n % 100)) (b ∙ ap (λ cs. cs ++ 46 ∷ []) a) ∙ simp append_assoc

pub returns : goal.returns
returns c =
    let n = nat_abs c.args.cents in
    let size : c.unsigned_abs-size.result ≡ n = c.unsigned_abs-size.ensures.value ∙ ap nat_abs (to_z-of_z w64 c.args.cents c.ranges.cents) in
    let front = c.if-cents-lt0.text.bytes in
    let whole : c.push_str.new.self.bytes ≡ front ++ decimal (n / 100) =
    c.push_str.ensures.bytes ∙ ap (λ cs. front ++ cs) (c.format.ensures.text ∙ ap (λ k. decimal (k / 100)) size) in
    let pointed : c.push-2.new.self.bytes ≡ c.push_str.new.self.bytes ++ 46 ∷ [] = c.push-2.ensures.ascii (lit< tt) in
    let ended : c.push_two_digits.new.text.bytes ≡ c.push-2.new.self.bytes ++ two_digits (n % 100) =
    c.push_two_digits.ensures ∙ ap (λ k. c.push-2.new.self.bytes ++ two_digits (k % 100)) size in
    let written = pushed front c.push_str.new.self.bytes c.push-2.new.self.bytes c.push_two_digits.new.text.bytes n whole pointed ended in
    elim c.if-cents-lt0.branch [
      | then-cents-lt0 w ↦
          let minus : front ≡ 45 ∷ [] = ap (λ (text : ArrayString). text.bytes) w.text-is ∙ w.push.ensures.ascii (lit< tt)
          ∙ ap (λ cs. cs ++ 45 ∷ []) c.new-text.ensures in
          written ∙ ap (λ cs. cs ++ unsigned_money n) minus ∙ sym (money-negative c.args.cents (search rules))
      | else-cents-lt0 w ↦
          let none : front ≡ [] = ap (λ (text : ArrayString). text.bytes) w.text-is ∙ c.new-text.ensures in
          written ∙ ap (λ cs. cs ++ unsigned_money n) none ∙ sym (money-unsigned c.args.cents (search rules))
    ]
