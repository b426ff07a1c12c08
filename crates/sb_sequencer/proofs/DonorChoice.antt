-- The donor among the first of some checkpoints.
use Rattle.std.proofs.Common.{◌≡◌, ◌≢◌, ℕ, suc, ◌+◌, ◌<◌, ◌≤◌, inl, inr, Option, Some, None, List, length, slice_get, refl, sym, subst, ◌∙◌, arith}
use Rattle.std.proofs.lemmas.Bool.{cases_lt}
use Rattle.std.proofs.lemmas.Option.{get_or_from_slice_get, slice_get_within}
use Rattle.sb_sequencer.specs.Donors.{IsDonor}
use Rattle.sb_sequencer.specs.Sequencer.{SequencerOf}

same_at : (sizes : List ℕ) (place one other : ℕ) → slice_get sizes place ≡ Some one → slice_get sizes place ≡ Some other → one ≡ other
same_at sizes place one other is also = sym (get_or_from_slice_get sizes place one 0 is) ∙ get_or_from_slice_get sizes place other 0 also

-- each of the first checkpoints, except one replica's own, is below a bound
abbrev pub AllBelow : List ℕ → ℕ → ℕ → ℕ → Type 0
AllBelow sizes replica before bound = (other more : ℕ) → other < before → other ≢ replica → slice_get sizes other ≡ Some more → more < bound

-- the donor is the first with the most; without a donor, the most is what the replica has
abbrev pub HasMost : List ℕ → ℕ → ℕ → ℕ → Option (ℕ × ℕ) → Type 0
HasMost sizes replica floor most None = most ≡ floor
HasMost sizes replica floor most (Some (donor, size)) =
    (size ≡ most) × (floor < most) × (donor ≢ replica) × (slice_get sizes donor ≡ Some most) × AllBelow sizes replica donor most

pub record IsDonorBefore (sizes : List ℕ) (replica floor before most : ℕ) (donor : Option (ℕ × ℕ)) : Type 0 where
  pub least : floor ≤ most
  pub below : AllBelow sizes replica before (suc most)
  pub has : HasMost sizes replica floor most donor

-- the donor, by equal numbers
pub donor_is : (sizes : List ℕ) (replica floor before most largest : ℕ) (donor chosen : Option (ℕ × ℕ))
    → IsDonorBefore sizes replica floor before most donor → largest ≡ most → chosen ≡ donor → IsDonorBefore sizes replica floor before largest chosen
donor_is sizes replica floor before most largest donor chosen is same also =
    subst (λ (n : ℕ). IsDonorBefore sizes replica floor before n chosen) (sym same)
    (subst (λ (found : Option (ℕ × ℕ)). IsDonorBefore sizes replica floor before most found) (sym also) is)

module _ (sizes : List ℕ) (replica floor before most : ℕ) (donor : Option (ℕ × ℕ)) (is : IsDonorBefore sizes replica floor before most donor) where
  -- one with more replaces the donor
  pub donor_with_more : (size : ℕ) → before ≢ replica → slice_get sizes before ≡ Some size → most < size
      → IsDonorBefore sizes replica floor (before + 1) size (Some (before, size))
  donor_with_more size other here more = record {
    least = omega (arith, is.least, more);
    below = λ k length l differs there. elim (cases_lt k before) [
      | inl earlier ↦ let less = is.below k length earlier differs there in omega (arith, less, more)
      | inr later ↦
          let at : before ≡ k = omega (arith, l, later) in
          let same : size ≡ length = same_at sizes k size length ((λ j. slice_get sizes (sym at j)) ∙ here) there in
          omega (arith, same)
    ];
    has = (
      refl,
      omega (arith, is.least, more),
      other,
      here,
      λ k length l differs there. let less = is.below k length l differs there in omega (arith, less, more),
    );
  }

  -- the replica's own, and one without more, leaves the donor
  pub donor_stays : ((size : ℕ) → before ≢ replica → slice_get sizes before ≡ Some size → size ≤ most)
      → IsDonorBefore sizes replica floor (before + 1) most donor
  donor_stays no_more = record {
    least = is.least;
    below = λ k length l differs there. elim (cases_lt k before) [
      | inl earlier ↦ is.below k length earlier differs there
      | inr later ↦
          let at : k ≡ before = omega (arith, l, later) in
          let less = no_more length (λ same. differs (at ∙ same)) ((λ j. slice_get sizes (sym at j)) ∙ there) in
          omega (arith, less)
    ];
    has = is.has;
  }

-- after all checkpoints it is the donor
pub donor_of_all : (s : SequencerOf) (replica floor before most : ℕ) (donor : Option (ℕ × ℕ)) → slice_get s.recorded replica ≡ Some floor
    → length s.checkpoints ≤ before → IsDonorBefore s.checkpoints replica floor before most donor → IsDonor s replica donor
donor_of_all s replica floor before most None recorded all is = λ other size has.
    let within : other < length s.checkpoints = slice_get_within s.checkpoints other size has.1 in
    let less = is.below other size (omega (arith, within, all)) has.0 has.1 in
    let same : has.2.0 ≡ floor = same_at s.recorded replica has.2.0 floor has.2.1 recorded in
    absurd (omega (arith, less, is.has, same, has.2.2))
donor_of_all s replica floor before most (Some (donor, size)) recorded all is =
    let found : slice_get s.checkpoints donor ≡ Some size = is.has.3 ∙ (λ j. Some (sym is.has.0 j)) in (
      (is.has.2, found, (floor, recorded, omega (arith, is.has.0, is.has.1))),
      λ other more has.
          let within : other < length s.checkpoints = slice_get_within s.checkpoints other more has.1 in
          let less = is.below other more (omega (arith, within, all)) has.0 has.1 in
          elim (cases_lt other donor) [
            | inl earlier ↦ let least = is.has.4 other more earlier has.0 has.1 in inl (omega (arith, least, is.has.0))
            | inr later ↦ elim (cases_lt more size) [ inl l ↦ inl l | inr l ↦ inr (omega (arith, l, less, is.has.0), later) ]
          ],
    )
