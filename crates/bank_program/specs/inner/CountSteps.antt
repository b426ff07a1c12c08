-- How answers are counted, one after another.
use Rattle.std.specs.Prelude.{◌≡◌, ◌+◌, ◌-◌, ◌^◌, ℕ, min}
use Rattle.bank_program.specs.declared.answer_counts.AnswerCounts.{AnswerCounts}
use Rattle.bank_program.specs.declared.answer_counts.AnswerKind.{AnswerKind}
use Rattle.bank_program.specs.declared.answer_counts.AnswerKind.TheVariants.{Reply, LogFull, Mismatch}

-- no line was answered
abbrev pub CountsNone : AnswerCounts → Type 0
CountsNone counts = (counts.answers ≡ 0) × (counts.log_full ≡ 0) × (counts.mismatches ≡ 0)

-- one more, but at most the greatest number
abbrev pub one_more : ℕ → ℕ
one_more count = min (count + 1) (2 ^ 64 - 1)

-- one more line was answered so
abbrev pub CountsOneMore : AnswerKind → AnswerCounts → AnswerCounts → Type 0
CountsOneMore Reply old new = (new.answers ≡ one_more old.answers) × (new.log_full ≡ old.log_full)
    × (new.mismatches ≡ old.mismatches)
CountsOneMore LogFull old new = (new.answers ≡ one_more old.answers) × (new.log_full ≡ one_more old.log_full)
    × (new.mismatches ≡ old.mismatches)
CountsOneMore Mismatch old new = (new.answers ≡ one_more old.answers) × (new.log_full ≡ old.log_full)
    × (new.mismatches ≡ one_more old.mismatches)
