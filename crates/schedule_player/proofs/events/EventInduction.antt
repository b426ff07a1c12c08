-- What each event keeps, a list of events keeps.
use Rattle.std.proofs.Common.{ℕ, List, [], ◌∷◌, sym, subst}
use Rattle.std.specs.Prelude.{slice_get}
use Rattle.sb_calls.specs.declared.ask.Key.{Key}
use Rattle.sb_calls.specs.declared.call.Call.{Call}
use Rattle.schedule_player.specs.EventLists.{PlaysEvents}
use Rattle.schedule_player.specs.World.{WorldOf, AppendsAsk, Moves, synced_world, crashed_world, world_move, replica_move, from_move, give_move}
use Rattle.schedule_text.specs.declared.event.Event.{Event}
use Rattle.schedule_text.specs.declared.event.Event.TheVariants as event
use Rattle.schedule_text.specs.declared.event.NodeEvent.{NodeEvent}
use Rattle.schedule_text.specs.declared.event.SystemEvent.TheVariants as system
use Rattle.schedule_text.specs.declared.note.Note.{Note}

module _ (P : WorldOf → Type 0)
    (node_keeps : (world : WorldOf) (r : ℕ) (happens : NodeEvent) → P world → P (replica_move world r happens).0)
    (heard_keeps : (world : WorldOf) (r place : ℕ) → P world → P (from_move world r place (slice_get world.nodes r)).0)
    (gives_keep : (world : WorldOf) (a r : ℕ) → P world → P (give_move world r (slice_get world.nodes a)).0)
    (appends_keep : (old : WorldOf) (ask : Key × Call) (n : Note) (new : WorldOf) → AppendsAsk old ask n new → P old → P new)
    (sync_keeps : (world : WorldOf) → P world → P (synced_world world))
    (crash_keeps : (world : WorldOf) (kept : ℕ) → P world → P (crashed_world world kept)) where
  moves_keep : (world : WorldOf) (happens : Event) → P world → P (world_move world happens).0
  moves_keep world (event.At r happens) holds = node_keeps world r happens holds
  moves_keep world (event.System (system.From r place)) holds = heard_keeps world r place holds
  moves_keep world (event.System (system.Give a r)) holds = gives_keep world a r holds
  moves_keep world (event.System system.Sync) holds = sync_keeps world holds
  moves_keep world (event.System (system.Crash kept)) holds = crash_keeps world kept holds
  moves_keep world other holds = holds

  one_keeps : (old : WorldOf) (happens : Event) (n : Note) (new : WorldOf) → Moves old happens n new → P old → P new
  one_keeps old (event.Ask client request call) n new moves holds =
      subst P (sym moves.2) (sync_keeps moves.0 (appends_keep old (record { client = client; request = request }, call) n moves.0 moves.1 holds))
  one_keeps old (event.Append client request call) n new moves holds =
      appends_keep old (record { client = client; request = request }, call) n new moves holds
  one_keeps old (event.System (system.Donor r)) n new moves holds = subst P (sym moves.1) holds
  one_keeps old other n new moves holds = subst (λ m. P m.0) moves (moves_keep old other holds)

  pub all_keep : (old : WorldOf) (events : List Event) (notes : List Note) (new : WorldOf) → PlaysEvents old events notes new → P old → P new
  all_keep old [] [] new plays holds = subst P (sym plays) holds
  all_keep old [] (n ∷ notes) new plays holds = absurd plays
  all_keep old (happens ∷ events) [] new plays holds = absurd plays
  all_keep old (happens ∷ events) (n ∷ notes) new plays holds =
      all_keep plays.0 events notes new plays.2 (one_keeps old happens n plays.0 plays.1 holds)
