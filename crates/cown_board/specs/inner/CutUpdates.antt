-- What a finish does to a cut.
use Rattle.std.specs.Prelude.{◌≡◌, ℕ, ◌+◌, ◌<◌, ◌≤◌, ℤ, Option, Some, None, List}
use Rattle.sb_calls.specs.Cowns.{contents_of, write_cowns}
use Rattle.cown_board.specs.declared.cut.Cut.{Cut}

-- the behaviour of this number is finished, and left these values in these cowns: a cut that
-- includes it gets the values and one unfinished fewer; a cut before it stays
pub record UpdatesCut (finished : ℕ) (cowns : List ℕ) (values : List ℤ) (old new : Cut) : Type 0 where
  pub same : new.number ≡ old.number
  pub written : finished ≤ old.number → contents_of new.columns ≡ write_cowns (contents_of old.columns) cowns values
  pub fewer : finished ≤ old.number → new.unfinished + 1 ≡ old.unfinished
  pub before : old.number < finished → new ≡ old

-- the same, if there may be no cut
abbrev pub UpdatesAnyCut : ℕ → List ℕ → List ℤ → Option Cut → Option Cut → Type 0
UpdatesAnyCut finished cowns values None None = Unit {0}
UpdatesAnyCut finished cowns values None (Some new) = ⊥
UpdatesAnyCut finished cowns values (Some old) None = ⊥
UpdatesAnyCut finished cowns values (Some old) (Some new) = UpdatesCut finished cowns values old new
