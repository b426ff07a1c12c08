-- Keeping is a sync.
use Rattle.std.proofs.Common.{◌≡◌, ℕ, List, refl, sym, ap, subst, ◌∙◌, arith, append-nil}
use Rattle.std.specs.Prelude.{max, take}
use Rattle.sb_log.specs.LogFiles.{LogFileOf}
use Rattle.sb_ask_log.specs.LogFile.{AreBodiesOf}
use Rattle.sb_ask_log.specs.Recovery.{ReadsAskLog}
use Rattle.schedule_player.specs.World.{synced_world, world_log}
use Rattle.schedule_player.proofs.logs.Restarting.{restarts}
use Rattle.replica_laws.specs.KeepingSyncs.{KeepingSyncs}

pub keeping_syncs : {F : Type 0} (IsHonest : F → Type 0) (model : F → LogFileOf) → KeepingSyncs IsHonest model
keeping_syncs IsHonest model keeper world keeps honest well =
    let tells = keeps.told honest in
    let now = model keeper.log.file in
    let after = synced_world world in
    let whole : world_log after ≡ world_log world = append-nil (world_log world) in (
      refl,
      refl,
      λ kept read_text read rest reads.
          -- what the file has synced beyond the life's claim counts as kept
          let left = max now.synced kept in
          let content : take left now.content ≡ take (max tells.l.synced left) tells.l.content =
          ap (λ (n : ℕ). take n now.content) (omega (arith, tells.file.file.synced_in))
          ∙ ap (λ (c : List ℕ). take (max tells.l.synced left) c) (sym tells.file.file.content_is) in
          restarts after tells.l tells.events keeper.text tells.lived tells.told_are
          (subst (AreBodiesOf tells.l.given keeper.text) (tells.only well ∙ sym whole) tells.given_are) left read_text read rest
          (subst (λ (c : List ℕ). ReadsAskLog c read_text read rest) content reads),
    )
