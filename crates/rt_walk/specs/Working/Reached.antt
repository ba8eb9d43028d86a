-- Positions that were all reached from a first one.
use Rattle.std.specs.Prelude.{List}
use Rattle.std.specs.List.{All}
use Rattle.rt_walk.specs.Position.{PositionState, IsReached}

abbrev pub AreReached : PositionState → List PositionState → Type 0
AreReached first places = All (IsReached first) places
