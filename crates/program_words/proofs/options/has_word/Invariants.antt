use Rattle.std.proofs.Common.{◌≡◌, length, map, string_bytes}
use Rattle.program_words.specs.Words.{has_word}
use Rattle.program_words.proofs.options.has_word.Given as goal

-- the word is among those that are left exactly if it is among all
abbrev pub invariant-loop-first : goal.invariant-loop-first
invariant-loop-first l = has_word l.word (map string_bytes l.rest) ≡ has_word l.word (map string_bytes l.words)

abbrev pub decreases-loop-first : goal.decreases-loop-first
decreases-loop-first l = length l.rest
