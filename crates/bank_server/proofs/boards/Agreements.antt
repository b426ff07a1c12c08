-- Two boards that agree.
use Rattle.std.proofs.Common.{◌≡◌, inl, inr, ℕ, zero, suc, ◌+◌, ◌<◌, ◌≤◌, None, length, refl, sym, ap, subst, ◌∙◌, arith}
use Rattle.std.specs.Prelude.{IsSome}
use Rattle.std.proofs.lemmas.Bool.{cases_lt}
use Rattle.sb_rows.specs.Balances.{Balances}
use Rattle.sb_calls.proofs.CownColumns.{contents_of-injective}
use Rattle.sb_calls.specs.Cowns.{contents_of}
use Rattle.sb_calls.specs.declared.op.Op.{Op}
use Rattle.sb_calls.specs.declared.reply.Reply.{Reply}
use Rattle.cown_board.specs.Board.{BoardOf, length_of, unfinished_of, reply_in}
use Rattle.sb_replica.proofs.IdleReplies.{is_there, length_held, reply_at}
use Rattle.sb_replica.specs.Replica.{board_replies}
use Rattle.bank_server.specs.Agreement.{ComparisonsAddUp, HasSameRepliesSince, final_contents}
use Rattle.bank_server.proofs.boards.Boards.{past}

-- a board has no reply beyond its length
none_past : (board : BoardOf Op) (k : ℕ) → unfinished_of board ≡ 0 → length board.log ≡ length board.states
    → length_of board ≤ k → reply_in board (k + 1) ≡ None
none_past board k idle beside le = reply_at board k idle ∙ past (board_replies board) k (omega (arith, le, length_held board idle beside))

-- the same replies to the numbers behind one and up to another
pub same_before : (one other : BoardOf Op) (start index : ℕ)
    → ((k : ℕ) → start ≤ k → k < index → reply_in one (k + 1) ≡ reply_in other (k + 1))
    → (k : ℕ) → start < k → k < index + 1 → reply_in one k ≡ reply_in other k
same_before one other start index each zero behind lt = absurd (omega (arith, behind))
same_before one other start index each (suc k) behind lt =
    let next : suc k ≡ k + 1 = omega arith in
    ap (reply_in one) next ∙ each k (omega (arith, behind)) (omega (arith, lt)) ∙ ap (reply_in other) (sym next)

none_is_some : IsSome {T = Reply} None → ⊥
none_is_some e = cc

-- of two boards none is longer that has the same replies from there up to its own length
not_longer : (one other : BoardOf Op) (start : ℕ) → unfinished_of one ≡ 0 → unfinished_of other ≡ 0 → length one.log ≡ length one.states
    → length other.log ≡ length other.states → start ≤ length_of one
    → ((k : ℕ) → start ≤ k → k < length_of other → reply_in one (k + 1) ≡ reply_in other (k + 1))
    → length_of one < length_of other → ⊥
not_longer one other start idle idle' beside beside' begun each lt =
    let k = length_of one in
    let some : IsSome (reply_in other (k + 1)) = is_there other k (reply_in other (k + 1)) idle' beside' lt refl in
    none_is_some (subst IsSome (sym (each k begun lt) ∙ none_past one k idle beside (omega arith)) some)

-- boards with the same replies from there up to the longer one's length have the same length, and the same reply to each number behind that
pub same_replies : (from start : ℕ) (one other : BoardOf Op) → unfinished_of one ≡ 0 → unfinished_of other ≡ 0 → length one.log ≡ length one.states
    → length other.log ≡ length other.states → (end : ℕ) → start ≤ from → start ≤ length_of one → start ≤ length_of other
    → length_of one ≤ end → length_of other ≤ end
    → ((k : ℕ) → start ≤ k → k < end → reply_in one (k + 1) ≡ reply_in other (k + 1)) → HasSameRepliesSince from one other
same_replies from start one other idle idle' beside beside' end begun begun1 begun2 first second each = record { lengths = long; replies = all }
  where
    long : length_of one ≡ length_of other
    long = elim (cases_lt (length_of one) (length_of other)) [
      | inl lt ↦ absurd (not_longer one other start idle idle' beside beside' begun1 (λ k from_start below. each k from_start (omega (arith, below, second)))
          lt)
      | inr ge ↦ elim (cases_lt (length_of other) (length_of one)) [
        | inl lt ↦ absurd (not_longer other one start idle' idle beside' beside begun2
            (λ k from_start below. sym (each k from_start (omega (arith, below, first)))) lt)
        | inr le ↦ omega (arith, ge, le)
      ]
    ]

    all : (number : ℕ) → from < number → reply_in one number ≡ reply_in other number
    all zero above = absurd (omega (arith, above))
    all (suc k) above =
        let next : suc k ≡ k + 1 = omega arith in
        ap (reply_in one) next ∙ here k (omega (arith, above, begun)) ∙ ap (reply_in other) (sym next)
      where
        here : (k : ℕ) → start ≤ k → reply_in one (k + 1) ≡ reply_in other (k + 1)
        here k from_start = elim (cases_lt k end) [
          | inl lt ↦ each k from_start lt
          | inr ge ↦ none_past one k idle beside (omega (arith, ge, first)) ∙ sym (none_past other k idle' beside' (omega (arith, ge, second)))
        ]

-- what was compared before needn't be compared again
pub comparisons_add_up : ComparisonsAddUp
comparisons_add_up one other from before since = record {
  one_idle = since.one_idle;
  other_idle = since.other_idle;
  same = record {
    lengths = since.same.lengths;
    replies = λ number above. elim (cases_lt from number) [
      | inl lt ↦ since.same.replies number lt
      | inr ge ↦ before number ge
    ];
  };
  columns = since.columns;
}

-- idle boards with the same contents after all their entries have the same columns
pub same_columns : (one other : BoardOf Op) (left right : Balances) → length left.savings ≡ length left.checking
    → length right.savings ≡ length right.checking → contents_of left ≡ final_contents one → contents_of right ≡ final_contents other
    → final_contents one ≡ final_contents other → left ≡ right
same_columns one other left right beside beside' left_is right_is same = contents_of-injective left right beside beside' (left_is ∙ same ∙ sym right_is)
