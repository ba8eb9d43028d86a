-- The texts of stretches and marks: an element of SVG 1.1 for each, in the coordinates of its task's row.
use Rattle.std.specs.Prelude.{ℕ, ◌-◌, Bool, true, false, None, Some, List, [], ◌++◌, codes, decimal}
use Rattle.rt_exec.specs.Numbering.{fault_name}
use Rattle.rt_drawing.specs.declared.mark.Event.{Event}
use Rattle.rt_drawing.specs.declared.mark.Event.TheVariants.{FreshWake, KeptWake, Deadline, Postponed, GivenUp, End, Yield, Sleep, Granted, Refused, Fault}
use Rattle.rt_drawing.specs.declared.mark.Mark.{Mark}
use Rattle.rt_chart.specs.declared.mark_text.Bar.{Bar}
use Rattle.rt_chart.specs.declared.mark_text.Bar.TheVariants.{Run, Wait}
use Rattle.rt_chart.specs.declared.look.Look.{Look}
use Rattle.rt_chart.specs.declared.look.MarkStyle.{MarkStyle}
use Rattle.rt_chart.specs.declared.look.MarkStyle.TheVariants.{Shapes, Lines, LowLines}
use Rattle.rt_drawing.specs.declared.stretch.Stretch.{Stretch}
use Rattle.rt_chart.specs.Scale.{place, middle, extent}
use Rattle.rt_chart.specs.Ink.{ink}

-- the classes of an event's element
abbrev pub class_text : Event → List ℕ
class_text (FreshWake budget) = codes "wake fresh"
class_text KeptWake = codes "wake kept"
class_text Deadline = codes "deadline"
class_text (Postponed old new) = codes "postponed"
class_text (GivenUp old new) = codes "postponed"
class_text End = codes "end"
class_text Yield = codes "yield"
class_text (Sleep w) = codes "sleep"
class_text (Granted q) = codes "reserve"
class_text Refused = codes "reserve refused"
class_text (Fault fault) = codes "fault"

-- wakes and deadlines lie at the begin of their tick, what a record does in its middle
abbrev pub place_of : Look → ℕ → Event → ℕ
place_of l t (FreshWake budget) = place l.window l.style t
place_of l t KeptWake = place l.window l.style t
place_of l t Deadline = place l.window l.style t
place_of l t _ = middle l.window l.style t

-- how an event is drawn: so far below the top of its row its path begins, and so it goes on from there
pub record Shape : Type 0 where
  pub top : ℕ
  pub path : List ℕ

abbrev pub shape : ℕ → List ℕ → Shape
shape top path = record { top = top; path = path }

-- an arrow up, broken where a wake is kept, an arrow down, a notch in the bar, and below the bar a square, a diamond, a ring, a
-- triangle that stands or hangs, a cross
abbrev pub whole_shape : Event → Shape
whole_shape (FreshWake budget) = shape 28 (codes "v-12l-3,4m3,-4l3,4")
whole_shape KeptWake = shape 28 (codes "v-3m0,-3v-6l-3,4m3,-4l3,4")
whole_shape Deadline = shape 2 (codes "v12l-3,-4m3,4l3,-4")
whole_shape (Postponed old new) = shape 37 (codes "l-4,-6h8z")
whole_shape (GivenUp old new) = shape 37 (codes "l-4,-6h8z")
whole_shape End = shape 45 (codes "h3v6h-6v-6z")
whole_shape Yield = shape 44 (codes "l4,4l-4,4l-4,-4z")
whole_shape (Sleep w) = shape 45 (codes "a3,3,0,1,0,1,0z")
whole_shape (Granted q) = shape 51 (codes "h-4l4,-7l4,7z")
whole_shape Refused = shape 44 (codes "h-4l4,7l4,-7z")
whole_shape (Fault fault) = shape 48 (codes "l-4,-4l8,8l-4,-4l4,-4l-8,8")

-- where there are many, lines of the same height, and on the bar a box of one unit; an end and a fault come but once, and stay
abbrev pub line_shape : Event → Shape
line_shape (FreshWake budget) = shape 25 (codes "v-9")
line_shape KeptWake = shape 25 (codes "v-3m0,-3v-3")
line_shape Deadline = shape 2 (codes "v12")
line_shape (Postponed old new) = shape 30 (codes "v-4h1v4")
line_shape (GivenUp old new) = shape 30 (codes "v-4h1v4")
line_shape Yield = shape 44 (codes "v5")
line_shape (Sleep w) = shape 44 (codes "v5")
line_shape (Granted q) = shape 44 (codes "v5")
line_shape Refused = shape 44 (codes "v2m0,1v2")
line_shape End = whole_shape End
line_shape (Fault fault) = whole_shape (Fault fault)

-- the same in the low rows of a compact picture
abbrev pub low_shape : Event → Shape
low_shape (FreshWake budget) = shape 8 (codes "v-4")
low_shape KeptWake = shape 8 (codes "v-1m0,-2v-1")
low_shape Deadline = shape 0 (codes "v4")
low_shape (Postponed old new) = shape 8 (codes "v-3h1v3")
low_shape (GivenUp old new) = shape 8 (codes "v-3h1v3")
low_shape Yield = shape 17 (codes "v3")
low_shape (Sleep w) = shape 17 (codes "v3")
low_shape (Granted q) = shape 17 (codes "v3")
low_shape Refused = shape 17 (codes "v1m0,1v1")
low_shape End = shape 17 (codes "h2v3h-4v-3z")
low_shape (Fault fault) = shape 18 (codes "l-2,-2l4,4l-2,-2l2,-2l-4,4")

abbrev pub shape_of : MarkStyle → Event → Shape
shape_of Shapes event = whole_shape event
shape_of Lines event = line_shape event
shape_of LowLines event = low_shape event

-- the rest of a path that begins so far below the top
unfoldable pub path_text : ℕ → List ℕ → List ℕ
path_text top path = codes "," ++ decimal top ++ path

abbrev pub shape_text : Shape → List ℕ
shape_text s = path_text s.top s.path

-- what its title says
abbrev pub event_text : Event → List ℕ
event_text (FreshWake None) = codes "wakes afresh"
event_text (FreshWake (Some q)) = codes "wakes afresh, budget " ++ decimal q
event_text KeptWake = codes "wakes with what it had"
event_text Deadline = codes "deadline"
event_text (Postponed old new) = codes "budget used up, deadline from " ++ decimal old ++ codes " to " ++ decimal new
event_text (GivenUp old new) = codes "rest of the budget given up, deadline from " ++ decimal old ++ codes " to " ++ decimal new
event_text End = codes "ends"
event_text Yield = codes "yields"
event_text (Sleep w) = codes "sleeps until " ++ decimal w
event_text (Granted q) = codes "reserve granted, budget " ++ decimal q
event_text Refused = codes "reserve refused"
event_text (Fault fault) = codes "fault " ++ fault_name fault

unfoldable pub mark_text : Look → ℕ → Mark → List ℕ
mark_text l i m =
    codes "<path class=\"" ++ class_text m.event ++ codes "\" data-task=\"" ++ decimal i ++ codes "\" data-tick=\"" ++ decimal m.tick
    ++ codes "\" d=\"M" ++ decimal (place_of l m.tick m.event) ++ shape_text (shape_of l.marks m.event)
    ++ codes "\"" ++ ink m.event ++ codes "><title>tick " ++ decimal m.tick ++ codes ": " ++ event_text m.event ++ codes "</title></path>\n"

-- the classes of a stretch's element
abbrev pub bar_class : Bar → Bool → List ℕ
bar_class Run false = codes "run"
bar_class Run true = codes "run over"
bar_class Wait false = codes "wait"
bar_class Wait true = codes "wait over"

-- a run is a bar on the line of its row, a wait a thin one: how far below the top of the row it begins, how high it is, and its colour
-- on a light ground; rows of a compact picture have lower bars. Over the period, which nobody promised, is amber, a wait hatched.
abbrev pub bar_top : Bool → Bar → List ℕ
bar_top false Run = codes "30"
bar_top false Wait = codes "38"
bar_top true Run = codes "8"
bar_top true Wait = codes "13"

abbrev pub bar_height : Bool → Bar → List ℕ
bar_height false Run = codes "12"
bar_height false Wait = codes "4"
bar_height true Run = codes "8"
bar_height true Wait = codes "3"

abbrev pub bar_fill : Bar → Bool → List ℕ
bar_fill Run false = codes "#7aa6d8"
bar_fill Run true = codes "#f0a030"
bar_fill Wait false = codes "#cbd5e1"
bar_fill Wait true = codes "url(#hatch)"

-- what its title says of the task, of its ticks, and of their job
abbrev pub bar_words : Bar → List ℕ
bar_words Run = codes ", ticks "
bar_words Wait = codes " waits, ticks "

-- how long the response of its job has become with its last tick
abbrev pub response : Stretch → ℕ
response s = s.to - s.job.release

-- a response over the period is so since the tick at which it was the period
abbrev pub over_since : ℕ → Stretch → ℕ
over_since period s = s.to - (response s - period)

abbrev pub over_words : Bool → ℕ → List ℕ
over_words false since = []
over_words true since = codes ", over the period since " ++ decimal since

unfoldable pub job_words : Stretch → List ℕ
job_words s =
    codes "; job " ++ decimal s.job.number ++ codes ", released at " ++ decimal s.job.release ++ codes ", " ++ decimal s.job.ticks
    ++ codes " ticks so far, response " ++ decimal (response s)

-- the begin of a stretch's element, with its ticks; where it is drawn; and its title: its last tick is the one before its end
unfoldable pub bar_begin : ℕ → Bar → Stretch → List ℕ
bar_begin i bar s =
    codes "<rect class=\"" ++ bar_class bar s.over ++ codes "\" data-task=\"" ++ decimal i ++ codes "\" data-from=\"" ++ decimal s.from
    ++ codes "\" data-to=\"" ++ decimal s.to

unfoldable pub bar_place : Look → Bar → Stretch → List ℕ
bar_place l bar s =
    codes "\" x=\"" ++ decimal (place l.window l.style s.from) ++ codes "\" y=\"" ++ bar_top l.style.is_compact bar ++ codes "\" width=\"" ++ decimal (extent l.window l.style s.from s.to)
    ++ codes "\" height=\"" ++ bar_height l.style.is_compact bar ++ codes "\" fill=\"" ++ bar_fill bar s.over

unfoldable pub bar_title : ℕ → List ℕ → ℕ → Bar → Stretch → List ℕ
bar_title i name period bar s =
    codes "\"><title>task " ++ decimal i ++ codes " " ++ name ++ bar_words bar ++ decimal s.from ++ codes " to " ++ decimal (s.to - 1)
    ++ over_words s.over (over_since period s) ++ job_words s ++ codes "</title></rect>\n"

abbrev pub stretch_text : Look → ℕ → List ℕ → ℕ → Bar → Stretch → List ℕ
stretch_text l i name period bar s = bar_begin i bar s ++ bar_place l bar s ++ bar_title i name period bar s
