-- What the text of a shape computes with.
use Rattle.std.specs.Fmt.{digits}
use Rattle.rt_chart.specs.MarkText.{path_text}

unfoldable pub computing : Unit {0}
unfolding path_text digits
computing = tt
