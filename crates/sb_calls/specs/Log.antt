-- A log of calls, run one by one.
use Rattle.std.specs.Prelude.{ℕ, zero, suc, Option, None, List, [], ◌∷◌, take, slice_get}
use Rattle.std.specs.Option.{option_map}
use Rattle.sb_rows.specs.Rows.{Rows}
use Rattle.sb_calls.specs.Procedures.{procedure}
use Rattle.sb_calls.specs.declared.call.Call.{Call}
use Rattle.sb_calls.specs.declared.reply.Reply.{Reply}

-- the rows after all calls of a log
abbrev pub rows_after : List Call → Rows → Rows
rows_after [] rows = rows
rows_after (call ∷ log) rows = rows_after log (procedure call rows).rows

-- the rows after the first k calls of a log
abbrev pub rows_after_calls : Rows → List Call → ℕ → Rows
rows_after_calls opening log k = rows_after (take k log) opening

-- the reply to call n of a log, counted from 1, if there is one
abbrev pub reply_to : Rows → List Call → ℕ → Option Reply
reply_to opening log zero = None
reply_to opening log (suc k) =
    option_map (λ call. (procedure call (rows_after_calls opening log k)).reply) (slice_get log k)

-- the replies to all calls of a log, in order
abbrev pub replies_to : Rows → List Call → List Reply
replies_to opening [] = []
replies_to opening (call ∷ log) = (procedure call opening).reply ∷ replies_to (procedure call opening).rows log
