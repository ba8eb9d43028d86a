-- Rows of pictures: what is drawn of a task.
use Rattle.std.specs.Prelude.{◌≡◌, ℕ, true, false, List, [], ◌∷◌, ◌++◌, map, codes, replicate, Option, Some, None}
use Rattle.std.specs.List.{flat_map}
use Rattle.rt_exec.specs.declared.outcome.Fault.TheVariants.{Illegal}
use Rattle.rt_image.specs.SystemFile.{TaskSet}
use Rattle.rt_history.specs.declared.mode.Mode.TheVariants.{Active, Ended, Faulted}
use Rattle.rt_history.specs.Legal.{legal}
use Rattle.rt_drawing.specs.declared.mark.Event.{Event}
use Rattle.rt_drawing.specs.declared.mark.Event.TheVariants.{FreshWake, KeptWake, Deadline, Postponed, GivenUp, End, Yield, Sleep, Granted, Refused, Fault}
use Rattle.rt_drawing.specs.declared.mark.Mark.{Mark}
use Rattle.rt_drawing.specs.declared.miss.Miss.{Miss}
use Rattle.rt_drawing.specs.declared.job.Job.{Job}
use Rattle.rt_drawing.specs.declared.stretch.Stretch.{Stretch}
use Rattle.rt_chart.specs.declared.style.Style.{Style}
use Rattle.rt_drawing.specs.declared.window.Window.{Window}
use Rattle.rt_drawing.specs.Drawing.{Drawing, drawings}
use Rattle.rt_chart.specs.Looks.{look_of}
use Rattle.rt_chart.specs.ChartText.{row_text}
use Rattle.rt_rows.specs.Sets.{one, task, set_of, busy}

-- job k, its release, and how many ticks it has taken
abbrev pub job : ℕ → ℕ → ℕ → Job
job k release ticks = record { number = k; release = release; ticks = ticks }

-- ticks of a job from one on, up to another that is no longer in it, and some that are over the period
abbrev pub ran : ℕ → ℕ → Job → Stretch
ran from to j = record { from = from; to = to; over = false; job = j }

abbrev pub late : ℕ → ℕ → Job → Stretch
late from to j = record { from = from; to = to; over = true; job = j }

abbrev pub at : ℕ → Event → Mark
at tick event = record { tick = tick; event = event }

-- the style that is not asked for, and the compact one
abbrev pub usual : Style
usual = record { width = None; is_compact = false }

abbrev pub compact : Style
compact = record { width = None; is_compact = true }

-- the window has these ends
abbrev pub Spans : ℕ → ℕ → Window → Type 0
Spans from to w = (w.from ≡ from) × (w.to ≡ to)

-- what is drawn of a set in a window
abbrev pub drawn : Window → TaskSet → List Drawing
drawn w set = drawings w [] set (legal set w.to)

-- the rows of that picture
abbrev pub rows_drawn : Window → TaskSet → List ℕ
rows_drawn w set = flat_map (row_text (look_of w usual (drawn w set))) (drawn w set)

-- Of `soft` over 30 ticks: it runs at 0 to 3, at 7 to 13 and at 26 to 29, each time from its release on, and never waits. The sleeps at 7 and 8 end
-- jobs of a tick. The deadlines 30, 36 and 46 aren't in the picture.
abbrev pub soft_drawing : Drawing
soft_drawing = record {
  task = 0;
  name = codes "task0";
  budget = 5;
  period = 10;
  waits = [];
  stretches = ran 0 4 (job 0 0 4) ∷ ran 7 8 (job 1 7 1) ∷ ran 8 9 (job 2 7 1) ∷ ran 9 14 (job 3 7 5) ∷ ran 26 30 (job 4 26 4) ∷ [];
  marks =
      at 0 (FreshWake None) ∷ at 10 Deadline
      ∷ at 3 (Sleep 7)
      ∷ at 7 KeptWake ∷ at 7 (Postponed 10 20) ∷ at 20 Deadline ∷ at 7 (Sleep 7)
      ∷ at 8 (Sleep 7)
      ∷ at 10 (GivenUp 20 30) ∷ at 10 Yield
      ∷ at 13 (Sleep 26)
      ∷ at 26 (FreshWake None)
      ∷ at 27 (GivenUp 36 46) ∷ at 27 Yield
      ∷ at 29 End
      ∷ [];
  miss = None;
  stands = Ended;
}

-- and of its ticks from 9 to 26 alone: the wake at 26 has come, but isn't in the picture
abbrev pub soft_part : Drawing
soft_part = record {
  task = 0;
  name = codes "task0";
  budget = 5;
  period = 10;
  waits = [];
  stretches = ran 9 14 (job 3 7 5) ∷ [];
  marks =
      at 10 Deadline
      ∷ at 20 Deadline
      ∷ at 10 (GivenUp 20 30) ∷ at 10 Yield
      ∷ at 13 (Sleep 26)
      ∷ [];
  miss = None;
  stands = Active;
}

-- Both tasks loop, and are to have 3 and 8 of each 10 ticks. Task 0 runs at 0 to 2, task 1 at 3 to 9: at tick 10, its deadline, it lacks one.
abbrev pub too_much : TaskSet
too_much = set_of 10 (task 3 10 busy ∷ task 8 10 busy ∷ [])

abbrev pub misses_drawn : Window → List (Option Miss)
misses_drawn w = map (λ d. d.miss) (drawn w too_much)

abbrev pub lacks_one : Miss
lacks_one = record { tick = 10; deadline = 10; unspent = 1 }

-- nop; li a7,3; ecall, of a budget of 1 and a period of 2: each of the first two ticks uses the budget up, and the third, which is
-- over the period, yields
abbrev pub short : TaskSet
short = one 1 2 (0x00000013 ∷ 0x00300893 ∷ 0x00000073 ∷ [])

-- over 3 ticks, which are 800 units wide: they begin at 0, 266 and 533, and half of one is 133 units; behind a label of 12 letters of 7
-- units, and 20 units
abbrev pub short_text : List ℕ
short_text =
    codes "<g transform=\"translate(104,10)\">\n"
    ++ codes "<text x=\"-94\" y=\"40\">0 task0  1/2</text>\n"
    ++ codes "<path class=\"base\" d=\"M0,42h800\" fill=\"none\" stroke=\"#999\" stroke-width=\"1\"/>\n"
    ++ codes "<rect class=\"run\" data-task=\"0\" data-from=\"0\" data-to=\"2\" x=\"0\" y=\"30\" width=\"533\" height=\"12\" fill=\"#7aa6d8\"><title>task 0 task0, ticks 0 to 1; job 0, released at 0, 2 ticks so far, response 2</title></rect>\n"
    ++ codes "<rect class=\"run over\" data-task=\"0\" data-from=\"2\" data-to=\"3\" x=\"533\" y=\"30\" width=\"267\" height=\"12\" fill=\"#f0a030\"><title>task 0 task0, ticks 2 to 2, over the period since 2; job 0, released at 0, 3 ticks so far, response 3</title></rect>\n"
    ++ codes "<g fill=\"none\" stroke=\"#222\" stroke-width=\"1.5\">\n"
    ++ codes "<path class=\"wake fresh\" data-task=\"0\" data-tick=\"0\" d=\"M0,28v-12l-3,4m3,-4l3,4\" stroke=\"#1a7f37\"><title>tick 0: wakes afresh</title></path>\n"
    ++ codes "<path class=\"deadline\" data-task=\"0\" data-tick=\"2\" d=\"M533,2v12l-3,-4m3,4l3,-4\" stroke=\"#57606a\"><title>tick 2: deadline</title></path>\n"
    ++ codes "<path class=\"postponed\" data-task=\"0\" data-tick=\"0\" d=\"M133,37l-4,-6h8z\" fill=\"#bc6c00\" stroke=\"none\"><title>tick 0: budget used up, deadline from 2 to 4</title></path>\n"
    ++ codes "<path class=\"postponed\" data-task=\"0\" data-tick=\"1\" d=\"M399,37l-4,-6h8z\" fill=\"#bc6c00\" stroke=\"none\"><title>tick 1: budget used up, deadline from 4 to 6</title></path>\n"
    ++ codes "<path class=\"postponed\" data-task=\"0\" data-tick=\"2\" d=\"M666,37l-4,-6h8z\" fill=\"#bc6c00\" stroke=\"none\"><title>tick 2: rest of the budget given up, deadline from 6 to 8</title></path>\n"
    ++ codes "<path class=\"yield\" data-task=\"0\" data-tick=\"2\" d=\"M666,44l4,4l-4,4l-4,-4z\"><title>tick 2: yields</title></path>\n"
    ++ codes "</g>\n"
    ++ codes "<text x=\"810\" y=\"40\">active</text>\n"
    ++ codes "</g>\n"

-- a drawing with each bar and each mark, and a missed deadline, of task 2, whose row begins 10 + 2 * 56 units down, or 10 + 2 * 20
abbrev pub all_marks : Drawing
all_marks = record {
  task = 2;
  name = codes "pid";
  budget = 3;
  period = 8;
  waits = ran 2 8 (job 4 0 2) ∷ late 8 10 (job 4 0 2) ∷ [];
  stretches = ran 10 60 (job 5 10 50) ∷ late 60 91 (job 6 52 31) ∷ [];
  marks =
      at 10 (FreshWake None) ∷ at 12 (FreshWake (Some 4)) ∷ at 20 KeptWake ∷ at 30 Deadline ∷ at 40 (Postponed 30 50) ∷ at 50 (GivenUp 50 70)
      ∷ at 60 Yield ∷ at 70 (Sleep 90) ∷ at 74 (Granted 4) ∷ at 76 Refused ∷ at 80 End ∷ at 90 (Fault Illegal)
      ∷ [];
  miss = Some (record { tick = 95; deadline = 92; unspent = 2 });
  stands = Faulted Illegal;
}

-- a row of more than a mark for each 8 of 1,600 units
abbrev pub crowd : Drawing
crowd = record all_marks { marks = replicate 201 (at 0 Deadline) }

-- Where 400 ticks are 1,600 units wide, a tick is 4: two arrows up, one that is broken, an arrow down, two notches, and a diamond, a
-- ring, a triangle that stands and one that hangs, a square and a cross; the first four where their ticks begin, the others 2 units
-- further; and a line where tick 95 begins.
abbrev pub marks_as_shapes : List ℕ
marks_as_shapes =
    codes "<g transform=\"translate(90,122)\">\n"
    ++ codes "<text x=\"-80\" y=\"40\">2 pid  3/8</text>\n"
    ++ codes "<path class=\"base\" d=\"M0,42h1600\" fill=\"none\" stroke=\"#999\" stroke-width=\"1\"/>\n"
    ++ codes "<rect class=\"wait\" data-task=\"2\" data-from=\"2\" data-to=\"8\" x=\"8\" y=\"38\" width=\"24\" height=\"4\" fill=\"#cbd5e1\"><title>task 2 pid waits, ticks 2 to 7; job 4, released at 0, 2 ticks so far, response 8</title></rect>\n"
    ++ codes "<rect class=\"wait over\" data-task=\"2\" data-from=\"8\" data-to=\"10\" x=\"32\" y=\"38\" width=\"8\" height=\"4\" fill=\"url(#hatch)\"><title>task 2 pid waits, ticks 8 to 9, over the period since 8; job 4, released at 0, 2 ticks so far, response 10</title></rect>\n"
    ++ codes "<rect class=\"run\" data-task=\"2\" data-from=\"10\" data-to=\"60\" x=\"40\" y=\"30\" width=\"200\" height=\"12\" fill=\"#7aa6d8\"><title>task 2 pid, ticks 10 to 59; job 5, released at 10, 50 ticks so far, response 50</title></rect>\n"
    ++ codes "<rect class=\"run over\" data-task=\"2\" data-from=\"60\" data-to=\"91\" x=\"240\" y=\"30\" width=\"124\" height=\"12\" fill=\"#f0a030\"><title>task 2 pid, ticks 60 to 90, over the period since 60; job 6, released at 52, 31 ticks so far, response 39</title></rect>\n"
    ++ codes "<g fill=\"none\" stroke=\"#222\" stroke-width=\"1.5\">\n"
    ++ codes "<path class=\"wake fresh\" data-task=\"2\" data-tick=\"10\" d=\"M40,28v-12l-3,4m3,-4l3,4\" stroke=\"#1a7f37\"><title>tick 10: wakes afresh</title></path>\n"
    ++ codes "<path class=\"wake fresh\" data-task=\"2\" data-tick=\"12\" d=\"M48,28v-12l-3,4m3,-4l3,4\" stroke=\"#1a7f37\"><title>tick 12: wakes afresh, budget 4</title></path>\n"
    ++ codes "<path class=\"wake kept\" data-task=\"2\" data-tick=\"20\" d=\"M80,28v-3m0,-3v-6l-3,4m3,-4l3,4\" stroke=\"#9a6700\"><title>tick 20: wakes with what it had</title></path>\n"
    ++ codes "<path class=\"deadline\" data-task=\"2\" data-tick=\"30\" d=\"M120,2v12l-3,-4m3,4l3,-4\" stroke=\"#57606a\"><title>tick 30: deadline</title></path>\n"
    ++ codes "<path class=\"postponed\" data-task=\"2\" data-tick=\"40\" d=\"M162,37l-4,-6h8z\" fill=\"#bc6c00\" stroke=\"none\"><title>tick 40: budget used up, deadline from 30 to 50</title></path>\n"
    ++ codes "<path class=\"postponed\" data-task=\"2\" data-tick=\"50\" d=\"M202,37l-4,-6h8z\" fill=\"#bc6c00\" stroke=\"none\"><title>tick 50: rest of the budget given up, deadline from 50 to 70</title></path>\n"
    ++ codes "<path class=\"yield\" data-task=\"2\" data-tick=\"60\" d=\"M242,44l4,4l-4,4l-4,-4z\"><title>tick 60: yields</title></path>\n"
    ++ codes "<path class=\"sleep\" data-task=\"2\" data-tick=\"70\" d=\"M282,45a3,3,0,1,0,1,0z\" stroke=\"#1f5fa8\"><title>tick 70: sleeps until 90</title></path>\n"
    ++ codes "<path class=\"reserve\" data-task=\"2\" data-tick=\"74\" d=\"M298,51h-4l4,-7l4,7z\" stroke=\"#6e40c9\"><title>tick 74: reserve granted, budget 4</title></path>\n"
    ++ codes "<path class=\"reserve refused\" data-task=\"2\" data-tick=\"76\" d=\"M306,44h-4l4,7l4,-7z\" stroke=\"#6e40c9\"><title>tick 76: reserve refused</title></path>\n"
    ++ codes "<path class=\"end\" data-task=\"2\" data-tick=\"80\" d=\"M322,45h3v6h-6v-6z\" fill=\"#222\"><title>tick 80: ends</title></path>\n"
    ++ codes "<path class=\"fault\" data-task=\"2\" data-tick=\"90\" d=\"M362,48l-4,-4l8,8l-4,-4l4,-4l-8,8\" stroke=\"#c0262d\" stroke-width=\"2.5\"><title>tick 90: fault Illegal</title></path>\n"
    ++ codes "<line class=\"breach\" data-task=\"2\" data-tick=\"95\" x1=\"380\" y1=\"0\" x2=\"380\" y2=\"56\" stroke=\"#e5484d\" stroke-width=\"2\"><title>tick 95: deadline 92 passed with 2 ticks of the budget unspent</title></line>\n"
    ++ codes "</g>\n"
    ++ codes "<text x=\"1610\" y=\"40\">Illegal</text>\n"
    ++ codes "</g>\n"

-- As plain lines, but for an end and a fault.
abbrev pub marks_as_lines : List ℕ
marks_as_lines =
    codes "<g transform=\"translate(90,122)\">\n"
    ++ codes "<text x=\"-80\" y=\"40\">2 pid  3/8</text>\n"
    ++ codes "<path class=\"base\" d=\"M0,42h1600\" fill=\"none\" stroke=\"#999\" stroke-width=\"1\"/>\n"
    ++ codes "<rect class=\"wait\" data-task=\"2\" data-from=\"2\" data-to=\"8\" x=\"8\" y=\"38\" width=\"24\" height=\"4\" fill=\"#cbd5e1\"><title>task 2 pid waits, ticks 2 to 7; job 4, released at 0, 2 ticks so far, response 8</title></rect>\n"
    ++ codes "<rect class=\"wait over\" data-task=\"2\" data-from=\"8\" data-to=\"10\" x=\"32\" y=\"38\" width=\"8\" height=\"4\" fill=\"url(#hatch)\"><title>task 2 pid waits, ticks 8 to 9, over the period since 8; job 4, released at 0, 2 ticks so far, response 10</title></rect>\n"
    ++ codes "<rect class=\"run\" data-task=\"2\" data-from=\"10\" data-to=\"60\" x=\"40\" y=\"30\" width=\"200\" height=\"12\" fill=\"#7aa6d8\"><title>task 2 pid, ticks 10 to 59; job 5, released at 10, 50 ticks so far, response 50</title></rect>\n"
    ++ codes "<rect class=\"run over\" data-task=\"2\" data-from=\"60\" data-to=\"91\" x=\"240\" y=\"30\" width=\"124\" height=\"12\" fill=\"#f0a030\"><title>task 2 pid, ticks 60 to 90, over the period since 60; job 6, released at 52, 31 ticks so far, response 39</title></rect>\n"
    ++ codes "<g fill=\"none\" stroke=\"#222\" stroke-width=\"1.5\">\n"
    ++ codes "<path class=\"wake fresh\" data-task=\"2\" data-tick=\"10\" d=\"M40,25v-9\" stroke=\"#1a7f37\"><title>tick 10: wakes afresh</title></path>\n"
    ++ codes "<path class=\"wake fresh\" data-task=\"2\" data-tick=\"12\" d=\"M48,25v-9\" stroke=\"#1a7f37\"><title>tick 12: wakes afresh, budget 4</title></path>\n"
    ++ codes "<path class=\"wake kept\" data-task=\"2\" data-tick=\"20\" d=\"M80,25v-3m0,-3v-3\" stroke=\"#9a6700\"><title>tick 20: wakes with what it had</title></path>\n"
    ++ codes "<path class=\"deadline\" data-task=\"2\" data-tick=\"30\" d=\"M120,2v12\" stroke=\"#57606a\"><title>tick 30: deadline</title></path>\n"
    ++ codes "<path class=\"postponed\" data-task=\"2\" data-tick=\"40\" d=\"M162,30v-4h1v4\" fill=\"#bc6c00\" stroke=\"none\"><title>tick 40: budget used up, deadline from 30 to 50</title></path>\n"
    ++ codes "<path class=\"postponed\" data-task=\"2\" data-tick=\"50\" d=\"M202,30v-4h1v4\" fill=\"#bc6c00\" stroke=\"none\"><title>tick 50: rest of the budget given up, deadline from 50 to 70</title></path>\n"
    ++ codes "<path class=\"yield\" data-task=\"2\" data-tick=\"60\" d=\"M242,44v5\"><title>tick 60: yields</title></path>\n"
    ++ codes "<path class=\"sleep\" data-task=\"2\" data-tick=\"70\" d=\"M282,44v5\" stroke=\"#1f5fa8\"><title>tick 70: sleeps until 90</title></path>\n"
    ++ codes "<path class=\"reserve\" data-task=\"2\" data-tick=\"74\" d=\"M298,44v5\" stroke=\"#6e40c9\"><title>tick 74: reserve granted, budget 4</title></path>\n"
    ++ codes "<path class=\"reserve refused\" data-task=\"2\" data-tick=\"76\" d=\"M306,44v2m0,1v2\" stroke=\"#6e40c9\"><title>tick 76: reserve refused</title></path>\n"
    ++ codes "<path class=\"end\" data-task=\"2\" data-tick=\"80\" d=\"M322,45h3v6h-6v-6z\" fill=\"#222\"><title>tick 80: ends</title></path>\n"
    ++ codes "<path class=\"fault\" data-task=\"2\" data-tick=\"90\" d=\"M362,48l-4,-4l8,8l-4,-4l4,-4l-8,8\" stroke=\"#c0262d\" stroke-width=\"2.5\"><title>tick 90: fault Illegal</title></path>\n"
    ++ codes "<line class=\"breach\" data-task=\"2\" data-tick=\"95\" x1=\"380\" y1=\"0\" x2=\"380\" y2=\"56\" stroke=\"#e5484d\" stroke-width=\"2\"><title>tick 95: deadline 92 passed with 2 ticks of the budget unspent</title></line>\n"
    ++ codes "</g>\n"
    ++ codes "<text x=\"1610\" y=\"40\">Illegal</text>\n"
    ++ codes "</g>\n"

-- And in a row of 20 units.
abbrev pub marks_as_low_lines : List ℕ
marks_as_low_lines =
    codes "<g transform=\"translate(90,50)\">\n"
    ++ codes "<text x=\"-80\" y=\"14\">2 pid  3/8</text>\n"
    ++ codes "<path class=\"base\" d=\"M0,16h1600\" fill=\"none\" stroke=\"#999\" stroke-width=\"1\"/>\n"
    ++ codes "<rect class=\"wait\" data-task=\"2\" data-from=\"2\" data-to=\"8\" x=\"8\" y=\"13\" width=\"24\" height=\"3\" fill=\"#cbd5e1\"><title>task 2 pid waits, ticks 2 to 7; job 4, released at 0, 2 ticks so far, response 8</title></rect>\n"
    ++ codes "<rect class=\"wait over\" data-task=\"2\" data-from=\"8\" data-to=\"10\" x=\"32\" y=\"13\" width=\"8\" height=\"3\" fill=\"url(#hatch)\"><title>task 2 pid waits, ticks 8 to 9, over the period since 8; job 4, released at 0, 2 ticks so far, response 10</title></rect>\n"
    ++ codes "<rect class=\"run\" data-task=\"2\" data-from=\"10\" data-to=\"60\" x=\"40\" y=\"8\" width=\"200\" height=\"8\" fill=\"#7aa6d8\"><title>task 2 pid, ticks 10 to 59; job 5, released at 10, 50 ticks so far, response 50</title></rect>\n"
    ++ codes "<rect class=\"run over\" data-task=\"2\" data-from=\"60\" data-to=\"91\" x=\"240\" y=\"8\" width=\"124\" height=\"8\" fill=\"#f0a030\"><title>task 2 pid, ticks 60 to 90, over the period since 60; job 6, released at 52, 31 ticks so far, response 39</title></rect>\n"
    ++ codes "<g fill=\"none\" stroke=\"#222\" stroke-width=\"1.5\">\n"
    ++ codes "<path class=\"wake fresh\" data-task=\"2\" data-tick=\"10\" d=\"M40,8v-4\" stroke=\"#1a7f37\"><title>tick 10: wakes afresh</title></path>\n"
    ++ codes "<path class=\"wake fresh\" data-task=\"2\" data-tick=\"12\" d=\"M48,8v-4\" stroke=\"#1a7f37\"><title>tick 12: wakes afresh, budget 4</title></path>\n"
    ++ codes "<path class=\"wake kept\" data-task=\"2\" data-tick=\"20\" d=\"M80,8v-1m0,-2v-1\" stroke=\"#9a6700\"><title>tick 20: wakes with what it had</title></path>\n"
    ++ codes "<path class=\"deadline\" data-task=\"2\" data-tick=\"30\" d=\"M120,0v4\" stroke=\"#57606a\"><title>tick 30: deadline</title></path>\n"
    ++ codes "<path class=\"postponed\" data-task=\"2\" data-tick=\"40\" d=\"M162,8v-3h1v3\" fill=\"#bc6c00\" stroke=\"none\"><title>tick 40: budget used up, deadline from 30 to 50</title></path>\n"
    ++ codes "<path class=\"postponed\" data-task=\"2\" data-tick=\"50\" d=\"M202,8v-3h1v3\" fill=\"#bc6c00\" stroke=\"none\"><title>tick 50: rest of the budget given up, deadline from 50 to 70</title></path>\n"
    ++ codes "<path class=\"yield\" data-task=\"2\" data-tick=\"60\" d=\"M242,17v3\"><title>tick 60: yields</title></path>\n"
    ++ codes "<path class=\"sleep\" data-task=\"2\" data-tick=\"70\" d=\"M282,17v3\" stroke=\"#1f5fa8\"><title>tick 70: sleeps until 90</title></path>\n"
    ++ codes "<path class=\"reserve\" data-task=\"2\" data-tick=\"74\" d=\"M298,17v3\" stroke=\"#6e40c9\"><title>tick 74: reserve granted, budget 4</title></path>\n"
    ++ codes "<path class=\"reserve refused\" data-task=\"2\" data-tick=\"76\" d=\"M306,17v1m0,1v1\" stroke=\"#6e40c9\"><title>tick 76: reserve refused</title></path>\n"
    ++ codes "<path class=\"end\" data-task=\"2\" data-tick=\"80\" d=\"M322,17h2v3h-4v-3z\" fill=\"#222\"><title>tick 80: ends</title></path>\n"
    ++ codes "<path class=\"fault\" data-task=\"2\" data-tick=\"90\" d=\"M362,18l-2,-2l4,4l-2,-2l2,-2l-4,4\" stroke=\"#c0262d\" stroke-width=\"2.5\"><title>tick 90: fault Illegal</title></path>\n"
    ++ codes "<line class=\"breach\" data-task=\"2\" data-tick=\"95\" x1=\"380\" y1=\"0\" x2=\"380\" y2=\"20\" stroke=\"#e5484d\" stroke-width=\"2\"><title>tick 95: deadline 92 passed with 2 ticks of the budget unspent</title></line>\n"
    ++ codes "</g>\n"
    ++ codes "<text x=\"1610\" y=\"14\">Illegal</text>\n"
    ++ codes "</g>\n"
