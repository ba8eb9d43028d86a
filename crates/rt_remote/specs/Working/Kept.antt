-- The bytes of a text that is kept.
use Rattle.std.specs.Prelude.{ℕ, List}
use Rattle.rt_remote.specs.declared.said.Kept.{Kept}
use Rattle.rt_remote.specs.declared.said.Kept.TheVariants.{Line, Lines}

abbrev pub kept_text : Kept → List ℕ
kept_text (Line line) = line.items
kept_text (Lines text) = text
