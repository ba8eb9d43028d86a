-- The rows of the tables, as contracts see them.
use Rattle.std.specs.Prelude.{ℕ, false, List}
use Rattle.std.specs.Borrow.{Bor}
use Rattle.rt_packet.specs.declared.request.whole.Whole.{Whole}
use Rattle.rt_packet.specs.declared.request.whole.Whole.TheVariants as wholes
use Rattle.rt_packet.specs.declared.request.prefixes.Prefix.{Prefix}
use Rattle.rt_packet.specs.declared.request.prefixes.Prefix.TheVariants as beginnings
use Rattle.rt_packet.specs.declared.request.request.Request.{Request}
use Rattle.rt_packet.specs.declared.request.request.Request.TheVariants.{Supported, LastStop, Actions, Continue, Step, BackStep, BackContinue, Current, FirstTasks, MoreTasks, Attached, Registers, DetachAll, Kill}
use Rattle.rt_packet.specs.request.Requests.{supported, resumes, selects, is_there, task_line, attached, described, monitors, register, memory, write, inserts, removes, detaches}

abbrev pub request_of_whole : Whole → Request
request_of_whole wholes.Supported = Supported false
request_of_whole wholes.LastStop = LastStop
request_of_whole wholes.Actions = Actions
request_of_whole wholes.Continue = Continue
request_of_whole wholes.Step = Step
request_of_whole wholes.BackStep = BackStep
request_of_whole wholes.BackContinue = BackContinue
request_of_whole wholes.Current = Current
request_of_whole wholes.FirstTasks = FirstTasks
request_of_whole wholes.MoreTasks = MoreTasks
request_of_whole wholes.Attached = Attached
request_of_whole wholes.Registers = Registers
request_of_whole wholes.DetachAll = DetachAll
request_of_whole wholes.Kill = Kill

-- a row without where its text lies in memory
abbrev pub seen_whole : Bor (List ℕ) × Whole → List ℕ × Request
seen_whole row = (row.0.now, request_of_whole row.1)

abbrev pub request_behind : Prefix → List ℕ → Request
request_behind beginnings.Supported = supported
request_behind beginnings.Resume = resumes
request_behind (beginnings.Select of) = selects of
request_behind beginnings.IsThere = is_there
request_behind beginnings.TaskLine = task_line
request_behind beginnings.Attached = attached
request_behind beginnings.Description = described
request_behind beginnings.Monitor = monitors
request_behind beginnings.Register = register
request_behind beginnings.Memory = memory
request_behind beginnings.Write = write
request_behind (beginnings.Insert kind) = inserts kind
request_behind (beginnings.Remove kind) = removes kind
request_behind beginnings.Detach = detaches

abbrev pub seen_prefix : Bor (List ℕ) × Prefix → List ℕ × (List ℕ → Request)
seen_prefix row = (row.0.now, request_behind row.1)
