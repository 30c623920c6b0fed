-- A walk that the code holds has 32 places.
-- Assumes nothing.
use mathlib.Core.Path.{◌≡◌}
use mathlib.Core.List.{List}
use lib.ListN.{length}
use mir.Val.{Val}
use denote.Laws.{Is}
use denote.Struct.Declared.{row}
use borrow.Author.Rules.{rules}
use Rattle.routes.specs.declared.Walk.{Walk}
use Rattle.routes.specs.contracts.Walk.{the_type}

pub walk-long : (w : Walk) (vs : List Val) → Is (row the_type) w vs → length w.edges ≡ 32
walk-long w vs p = search rules
