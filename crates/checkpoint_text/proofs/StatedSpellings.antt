-- A spelling has the opening total that its bytes state, and bytes without a fault are spellings.
use Rattle.std.proofs.Common.{◌≡◌, ℕ, ◌+◌, ◌*◌, ◌≤◌, ◌<◌, min, ℤ, None, List, ◌++◌, length, take, drop, sym, ap, ◌∙◌, arith}
use Rattle.std.proofs.Math.Facts.{sfits_to_z}
use Rattle.std.proofs.Math.Nat.{min-eq_left, min-le_right}
use Rattle.std.proofs.lemmas.List.{length-drop, length-take-le}
use Rattle.std.proofs.lemmas.List.Elements.{All-drop, All-take}
use Rattle.std.specs.Int.{w32, w64, from_be_bytes}
use Rattle.std.specs.List.{flat_map}
use Rattle.std.specs.Prelude.{FitsSigned}
use Rattle.sb_rows.specs.declared.columns.TheConstants.{CUSTOMERS}
use Rattle.sb_calls.specs.Replies.{integer_field, amount_field, reply_field}
use Rattle.lane_audit.specs.Audit.{balances_total}
use Rattle.sb_checkpoint.specs.Checkpoint.{CheckpointOf, Layout, First, Second, SpellsInLayout, checkpoint_spelling, magic}
use Rattle.sb_checkpoint.specs.Reading.{first_fault, stated_amount, stated_customers, stated_opening, stated_size}
use Rattle.sb_checkpoint.proofs.FaultlessBytes.{faultless_bytes_spell}
use Rattle.sb_checkpoint.proofs.IntegerFields.{AreBytes, amount_spelled, number64_below}
use Rattle.sb_checkpoint.proofs.ReadIsSpelling.{with_opening}
use Rattle.sb_checkpoint.proofs.SpellingIsRead.{read_back, spelling_has_no_fault}
use Rattle.checkpoint_text.specs.Origins.{FaultlessIfSpelled, stated_origin}

-- the opening total that bytes state is an amount
stated_opening_fits : (bytes : List ℕ) → AreBytes bytes → FitsSigned w64 (stated_opening bytes)
unfolding stated_opening
stated_opening_fits bytes are =
    let cells = take 8 (drop (28 + 16 * stated_customers bytes) bytes) in
    let cells_are : AreBytes cells = All-take (λ byte. byte < 256) 8 _ (All-drop (λ byte. byte < 256) (28 + 16 * stated_customers bytes) bytes are) in
    sfits_to_z {w = w64} {n = from_be_bytes w64 cells} (record { fits = number64_below cells cells_are })

-- what bytes spell they also spell with the opening total that they state
pub spelled_as_stated : (layout : Layout) (opening_total : ℤ) (checkpoint : CheckpointOf) (bytes : List ℕ) → AreBytes bytes
    → SpellsInLayout layout opening_total checkpoint bytes → SpellsInLayout layout (stated_opening bytes) checkpoint bytes
unfolding checkpoint_spelling stated_opening
spelled_as_stated First opening_total checkpoint bytes are is = record { valid = is.valid; spelled = is.spelled }
spelled_as_stated Second opening_total checkpoint bytes are is =
    let back = read_back Second opening_total checkpoint bytes is in
    let at = 28 + 16 * stated_customers bytes in
    let cells = take 8 (drop at bytes) in
    let size : length cells ≡ 8 = length-take-le 8 (drop at bytes) (omega (arith, back.size, length-drop at bytes)) in
    let same : amount_field (stated_amount cells) ≡ amount_field opening_total =
    amount_spelled cells size (All-take (λ byte. byte < 256) 8 _ (All-drop (λ byte. byte < 256) at bytes are)) ∙ back.opening in
    let columns = checkpoint.columns in
    record {
      valid = is.valid;
      spelled = is.spelled
          ∙ ap (λ (opening : List ℕ). magic Second ++ integer_field w64 (length checkpoint.replies) ++ integer_field w32 (length columns.savings)
          ++ flat_map amount_field columns.savings ++ flat_map amount_field columns.checking ++ amount_field (balances_total columns) ++ opening
          ++ flat_map reply_field checkpoint.replies) (sym same);
    }

-- a spelling has a whole head, and as many bytes as it states
pub size_of_spelling : (layout : Layout) (opening_total : ℤ) (checkpoint : CheckpointOf) (bytes : List ℕ)
    → SpellsInLayout layout opening_total checkpoint bytes → (20 ≤ length bytes) × (stated_size layout bytes ≤ length bytes)
size_of_spelling layout opening_total checkpoint bytes is =
    let back = read_back layout opening_total checkpoint bytes is in
    (omega (arith, back.size, with_opening layout), omega (arith, back.size))

-- what bytes spell has no fault for the bank that they state
pub spelling_is_faultless : (layout : Layout) (opening_total : ℤ) (checkpoint : CheckpointOf) (bytes : List ℕ) → AreBytes bytes
    → SpellsInLayout layout opening_total checkpoint bytes → first_fault bytes (stated_origin bytes) ≡ None
spelling_is_faultless layout opening_total checkpoint bytes are is =
    let stated = spelled_as_stated layout opening_total checkpoint bytes are is in
    let back = read_back layout opening_total checkpoint bytes is in
    let customers : length checkpoint.columns.savings ≡ min (stated_customers bytes) CUSTOMERS =
    sym back.many ∙ sym (min-eq_left (omega (arith, back.many, is.valid.balances.limit))) in
    ap (λ (n : ℕ). first_fault bytes (record { customers = n; opening_total = stated_opening bytes })) (sym customers)
    ∙ spelling_has_no_fault layout (stated_opening bytes) checkpoint bytes (stated_opening_fits bytes are) stated

pub faultless_if_spelled : FaultlessIfSpelled
faultless_if_spelled bytes are = (
  λ right.
      let few = min-le_right (stated_customers bytes) CUSTOMERS in
      let spelled = faultless_bytes_spell bytes (stated_origin bytes) are few (stated_opening_fits bytes are) right in
      (stated_origin bytes, spelled.0, spelled.1),
  λ (origin, checkpoint, spelled). spelling_is_faultless spelled.0.0 origin.opening_total checkpoint bytes are spelled.0.1,
)
