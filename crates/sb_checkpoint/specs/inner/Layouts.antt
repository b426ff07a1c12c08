-- The layouts, as the code has them.
use Rattle.sb_checkpoint.specs.Checkpoint.{Layout, First, Second}
use Rattle.sb_checkpoint.specs.declared.layout.Layout.{Layout as CodeLayout}
use Rattle.sb_checkpoint.specs.declared.layout.Layout.TheVariants as code

abbrev pub layout_of : CodeLayout → Layout
layout_of code.First = First
layout_of code.Second = Second
