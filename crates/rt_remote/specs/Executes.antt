-- One request: what is said to it, and how the session stands after it.
use Rattle.std.specs.Prelude.{◌≡◌, ◌-◌, Bool, true, [], None}
use Rattle.std.specs.List.{list_all}
use Rattle.rt_packet.specs.declared.request.request.Request.{Request}
use Rattle.rt_packet.specs.declared.request.request.Request.TheVariants as requests
use Rattle.rt_packet.specs.request.MonitorLine.{monitor_of}
use Rattle.rt_packet.specs.declared.answer.replies.Refused.TheVariants.{Malformed, ReadOnly, NoAnnex}
use Rattle.rt_packet.specs.declared.answer.replies.Reply.TheVariants as replies
use Rattle.rt_packet.specs.answer.Ids.{task_text, tasks_text}
use Rattle.rt_packet.specs.answer.Stops.{stop_text}
use Rattle.rt_packet.specs.answer.Replies.{supported_text}
use Rattle.rt_packet.specs.answer.Description.{piece_text}
use Rattle.rt_remote.specs.Remote.{RemoteState, without_interrupt}
use Rattle.rt_remote.specs.Chosen.{listed, is_id, one_task, resumed_by, continued, stepped_too}
use Rattle.rt_remote.specs.Said.{Said, says, says_reply, refuses}
use Rattle.rt_remote.specs.Monitors.{Monitors}
use Rattle.rt_remote.specs.Runs.{IfAny, RunsOn, RunsBack, StepsOneBack}
use Rattle.rt_remote.specs.Selects.{ids_of, with_ids, Tells, selected, Does}
use Rattle.rt_remote.specs.Shows.{one_said, task_said, shown_view, registers_said, NumberOf, memory_said}
use Rattle.rt_remote.specs.Places.{point_of, may_insert, removed, InsertsPoint}
use Rattle.rt_remote.specs.LetsGo.{may_go, without_task, without_tasks}

-- One request. `paused` says whether the pace of a run asked for a pause. An interrupt that is kept stays kept, but where it is told in
-- place of what would move, and where gdb comes, leaves, or ends the session.
abbrev pub Executes : RemoteState → Request → Bool → Said → RemoteState → Type 0
Executes old (requests.Supported has_processes) paused said new =
    (new ≡ without_interrupt (with_ids (ids_of has_processes) old)) × (said ≡ says (supported_text (ids_of has_processes)))
Executes old requests.LastStop paused said new = Tells old (says (stop_text old.selection.ids old.selection.last.stop old.selection.last.task)) said new
Executes old requests.Actions paused said new = Tells old (says_reply replies.Actions) said new
Executes old (requests.Resume actions) paused said new =
    IfAny (list_all (λ part. is_id old part.1) actions) old said new (RunsOn old (resumed_by old actions) paused said new)
Executes old requests.Continue paused said new = RunsOn old (continued old) paused said new
Executes old requests.Step paused said new = RunsOn old (stepped_too old) paused said new
Executes old requests.BackStep paused said new = StepsOneBack old said new
Executes old requests.BackContinue paused said new = RunsBack old paused said new
Executes old (requests.Select of tasks) paused said new = Does old (is_id old tasks) (selected of tasks old) said new
Executes old (requests.IsThere tasks) paused said new = Tells old (one_said (one_task old tasks) (λ i. says_reply replies.Done)) said new
Executes old requests.Current paused said new = Tells old (says (task_text old.selection.ids old.selection.shown)) said new
Executes old requests.FirstTasks paused said new = Tells old (says (tasks_text old.selection.ids (listed old))) said new
Executes old requests.MoreTasks paused said new = Tells old (says_reply replies.NoMoreTasks) said new
Executes old (requests.TaskLine tasks) paused said new = Tells old (one_said (one_task old tasks) (task_said old)) said new
Executes old requests.Attached paused said new = Tells old (says_reply replies.Attached) said new
Executes old (requests.Description offset count) paused said new = Tells old (says (piece_text offset count)) said new
Executes old requests.OtherAnnex paused said new = Tells old (refuses NoAnnex) said new
Executes old (requests.Monitor line) paused said new = Monitors old (monitor_of line) said new
Executes old requests.Registers paused said new = Tells old (registers_said old) said new
Executes old (requests.Register n) paused said new = (new ≡ old) × NumberOf old n said (shown_view old)
Executes old (requests.Memory address count) paused said new = Tells old (memory_said old address count) said new
Executes old requests.Write paused said new = Tells old (refuses ReadOnly) said new
Executes old (requests.Insert spot) paused said new = InsertsPoint (may_insert old spot) old (point_of old spot) said new
Executes old (requests.Remove spot) paused said new =
    (new ≡ removed old spot) × (said ≡ says_reply replies.Done)
Executes old requests.DetachAll paused said new = Does old true (without_interrupt (without_tasks old)) said new
Executes old (requests.Detach n) paused said new = Does old (may_go old n) (without_interrupt (without_task (n - 1) old)) said new
Executes old requests.Kill paused said new = (new ≡ without_interrupt old) × (said ≡ record { console = []; answer = None })
Executes old requests.Malformed paused said new = Tells old (refuses Malformed) said new
Executes old requests.Unknown paused said new = Tells old (says_reply replies.Unknown) said new
