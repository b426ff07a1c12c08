use Rattle.std.proofs.Common.{List, ℕ, length, map, string_bytes}
use Rattle.program_words.specs.Words.{HasValue}
use Rattle.program_words.proofs.options.value.Given as goal

-- the option has a value in the words that are left exactly if it has it in all words
abbrev pub invariant-loop-word : goal.invariant-loop-word
invariant-loop-word l = record {
  stands : (text : List ℕ) → HasValue l.option text (map string_bytes l.rest) → HasValue l.option text (map string_bytes l.words);
  left : (text : List ℕ) → HasValue l.option text (map string_bytes l.words) → HasValue l.option text (map string_bytes l.rest);
}

abbrev pub decreases-loop-word : goal.decreases-loop-word
decreases-loop-word l = length l.rest
