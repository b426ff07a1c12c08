-- The answers by index, as callers see them.
use Rattle.std.specs.Prelude.{ℕ, ◌-◌, Option, None, List, ◌++◌, length, replicate}
use Rattle.sb_calls.specs.declared.reply.Reply.{Reply}

-- the answers by slot, followed by slots without an answer
abbrev pub padded_answers : ℕ → List (Option Reply) → List (Option Reply)
padded_answers slots answers = answers ++ replicate (slots - length answers) None
