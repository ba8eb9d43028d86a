-- The colours and the widths of marks on a light ground, as attributes of their elements. Red is a fault, or a missed deadline.
use Rattle.std.specs.Prelude.{ℕ, List, [], codes}
use Rattle.rt_drawing.specs.declared.mark.Event.{Event}
use Rattle.rt_drawing.specs.declared.mark.Event.TheVariants.{FreshWake, KeptWake, Deadline, Postponed, GivenUp, End, Yield, Sleep, Granted, Refused, Fault}

-- those of all marks, in a group
abbrev pub marks_begin : List ℕ
marks_begin = codes "<g fill=\"none\" stroke=\"#222\" stroke-width=\"1.5\">\n"

-- those that an event's mark has of its own
abbrev pub ink : Event → List ℕ
ink (FreshWake budget) = codes " stroke=\"#1a7f37\""
ink KeptWake = codes " stroke=\"#9a6700\""
ink Deadline = codes " stroke=\"#57606a\""
ink (Postponed old new) = codes " fill=\"#bc6c00\" stroke=\"none\""
ink (GivenUp old new) = codes " fill=\"#bc6c00\" stroke=\"none\""
ink End = codes " fill=\"#222\""
ink Yield = []
ink (Sleep w) = codes " stroke=\"#1f5fa8\""
ink (Granted q) = codes " stroke=\"#6e40c9\""
ink Refused = codes " stroke=\"#6e40c9\""
ink (Fault fault) = codes " stroke=\"#c0262d\" stroke-width=\"2.5\""
