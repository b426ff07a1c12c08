-- The opening total that stands in bytes.
use Rattle.std.proofs.Common.{◌≡◌, ℕ, ◌+◌, ◌*◌, ℤ, true, false, Some, List, take, drop, ap, ◌∙◌}
use Rattle.std.specs.Prelude.{nat_eq}
use Rattle.std.specs.Cmp.Lexicographic.{pointwise}
use Rattle.std.specs.List.{starts_with}
use Rattle.sb_checkpoint.specs.Checkpoint.{Layout, First, Second, magic}
use Rattle.sb_checkpoint.specs.Reading.{stated_amount, stated_customers, stated_opening}
use Rattle.checkpoint_text.specs.Listing.{opening_in}

-- bytes that begin as the second layout does have that layout, and its opening total
pub opening_of_second : (layout : Layout) (bytes : List ℕ) (customers : ℕ) (amount : ℤ) → true ≡ starts_with nat_eq bytes (magic Second)
    → take 8 bytes ≡ magic layout → customers ≡ stated_customers bytes → amount ≡ stated_amount (take 8 (drop (28 + 16 * customers) bytes))
    → Some amount ≡ opening_in layout (stated_opening bytes)
unfolding stated_opening
opening_of_second First bytes customers amount second begins same is =
    let wrong : true ≡ false = second ∙ ap (λ (front : List ℕ). pointwise nat_eq (magic Second) front) begins in
    absurd cc
opening_of_second Second bytes customers amount second begins same is =
    ap (λ (total : ℤ). Some total) (is ∙ ap (λ (n : ℕ). stated_amount (take 8 (drop (28 + 16 * n) bytes))) same)
