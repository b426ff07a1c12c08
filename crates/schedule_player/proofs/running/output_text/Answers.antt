use Rattle.std.proofs.Common.{◌≡◌, ℕ, Result, Ok, Err, List, Vec, Global, sym, subst}
use Rattle.std.specs.Prelude.{MatchResult}
use Rattle.sb_rows.specs.Text.{unlines}
use Rattle.schedule_player.specs.EventLists.{PlaysEvents}
use Rattle.schedule_player.specs.RunText.{HasOutput, played_lines}
use Rattle.schedule_player.specs.World.{WorldOf, opened_world}
use Rattle.schedule_player.specs.declared.fault.ScheduleFault.{ScheduleFault}
use Rattle.schedule_player.specs.declared.fault.ScheduleFault.TheVariants.{OutOfMemory}
use Rattle.schedule_player.specs.inner.FaultConversions.{BlamesScheduleText}
use Rattle.schedule_text.specs.ScheduleReading.{schedule_value}
use Rattle.schedule_text.specs.ScheduleText.{ScheduleOf, schedule_of}
use Rattle.schedule_text.specs.declared.fault.ScheduleLineFault.{ScheduleLineFault}
use Rattle.schedule_text.specs.declared.note.Note.{Note}
use Rattle.schedule_player.proofs.running.output_text.Goals as goal

-- what was played is the schedule that was read
is_output : (read : Result ScheduleOf (ℕ × ScheduleLineFault)) (schedule : ScheduleOf) (old new : WorldOf) (answer : Result (Vec ℕ Global) ScheduleFault)
    → read ≡ Ok schedule → old ≡ opened_world schedule
    → MatchResult answer (λ output. (notes : List Note) × (PlaysEvents old schedule.events notes new × (output.items ≡ unlines (played_lines notes new))))
    (λ fault. fault ≡ OutOfMemory)
    → MatchResult answer (λ output. HasOutput read output.items) (λ fault. BlamesScheduleText fault read)
is_output read schedule old new (Ok output) is opened played =
    subst (λ r. HasOutput r output.items) (sym is)
    (record { notes = played.0; world = new; plays = subst (λ w. PlaysEvents w schedule.events played.0 new) opened played.1.0; written = played.1.1 })
is_output read schedule old new (Err fault) is opened refused = subst (λ f. BlamesScheduleText f read) (sym refused) tt

pub returns : goal.returns
returns c =
    is_output (schedule_of c.args.text.now) (schedule_value c.in_ok-nodes.field-0) c.in_ok-world.world c.play_and_list.new.world c.play_and_list.result
    c.in_ok-nodes.ensures c.in_ok-world.ensures.value c.play_and_list.ensures
