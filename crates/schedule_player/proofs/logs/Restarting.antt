-- What is read of a log's file after a stop is the machine's log after a crash.
use Rattle.std.proofs.Common.{◌≡◌, ℕ, max, Some, false, List, [], ◌∷◌, ◌++◌, length, map, take, refl, sym, ap, subst, ◌∙◌, arith}
use Rattle.std.proofs.Math.Seq.{take-append_seam}
use Rattle.std.proofs.lemmas.List.{length-append}
use Rattle.sb_calls.specs.declared.ask.Key.{Key}
use Rattle.sb_calls.specs.declared.call.Call.{Call}
use Rattle.sb_log.proofs.Lives.{keeps_what_it_told}
use Rattle.sb_log.specs.Lives.{Crash, Life, newborn}
use Rattle.sb_log.specs.Reading.{Begins}
use Rattle.sb_ask_log.proofs.Bodies.{bodies_begin}
use Rattle.sb_ask_log.proofs.Recovering.{read_behind}
use Rattle.sb_ask_log.proofs.Saving.{happens_more}
use Rattle.schedule_player.specs.Bank.{log_reply}
use Rattle.schedule_player.specs.LogLaws.{IsReadAfterCrash, RestartsAfterCrash}
use Rattle.schedule_player.specs.World.{WorldOf, bank_of, bank_with, world_log}
use Rattle.schedule_player.proofs.logs.LongerLogs.{reply_stays}
use Rattle.schedule_player.proofs.logs.WorldLogs.{call_in, longer_bank}

-- a log that begins with what is synced, and begins the whole log, is what some crash leaves
read_so : (world : WorldOf) (text read_text : List ℕ) (read : List (Key × Call)) → read_text ≡ text → Begins world.sequencer.synced.log read
    → Begins read (world_log world) → IsReadAfterCrash world text read_text read
read_so world text read_text read same behind before =
    let synced = world.sequencer.synced.log in
    let longer = ap length behind.1 in
    let parts = length-append synced behind.0 in
    let most : max (length synced) (length read) ≡ length read = omega (arith, longer, parts) in
    record {
      same_opening = same;
      kept = length read;
      read_is =
          ap (λ n. take n (world_log world)) most ∙ ap (take (length read)) before.1 ∙ take-append_seam read before.0;
      begins = behind;
      replies = λ number reply here.
          subst (λ bank. log_reply bank number ≡ Some reply)
          (sym (longer_bank world.names world.opening synced behind.0) ∙ ap (bank_with world.names world.opening) (sym behind.1))
          (reply_stays (bank_of world) (map call_in behind.0) number reply here);
    }

pub restarts : RestartsAfterCrash
restarts world l events text lived told given kept read_text read rest reads =
    let crashed : Life = record l { content = take (max l.synced kept) l.content; healthy = false } in
    let begins = keeps_what_it_told (events ++ Crash kept ∷ []) crashed reads.bodies rest
    (happens_more events newborn l crashed (Crash kept) lived refl) reads.reads in
    let are = read_behind l.told reads.bodies text read_text world.sequencer.synced.log read told begins.0 reads.are in
    let behind = bodies_begin l.told reads.bodies text read_text world.sequencer.synced.log read told are begins.0 in
    let before = bodies_begin reads.bodies l.given read_text text read (world_log world) are given begins.1 in
    read_so world text read_text read behind.0 behind.1 before.1
