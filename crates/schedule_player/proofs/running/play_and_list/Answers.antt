use Rattle.std.proofs.Common.{◌++◌, map, sym, ap, ◌∙◌}
use Rattle.sb_rows.specs.Text.{unlines}
use Rattle.schedule_player.specs.RunText.{states_from}
use Rattle.schedule_text.specs.NoteText.{note_line}
use Rattle.schedule_player.proofs.events.FinalStates.{both_lines}
use Rattle.schedule_player.proofs.running.play_and_list.Goals as goal

-- the notes, and then the final states
pub returns : goal.returns
returns c =
    let world = c.play_lines.new.world in
    let played = c.in_ok-play_lines.ensures.plays in
    let states = states_from world 0 world.nodes in
    let told = played.2 ∙ ap (λ out. out ++ unlines (map note_line played.0)) c.new-output.ensures.items in (
      played.0,
      (
        played.1,
        c.in_ok-push_states.ensures ∙ ap (λ out. out ++ unlines states) told ∙ sym (both_lines (map note_line played.0) states),
      ),
    )
