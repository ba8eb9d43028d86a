-- The kinds of requests: those that lead on or back, those that change what is agreed on, selected or watched or end the session, and
-- all others, which only look.
use Rattle.std.specs.Prelude.{Bool, true, false}
use Rattle.rt_packet.specs.declared.request.request.Request.{Request}
use Rattle.rt_packet.specs.declared.request.request.Request.TheVariants as requests

abbrev pub moves : Request → Bool
moves (requests.Resume actions) = true
moves requests.Continue = true
moves requests.Step = true
moves requests.BackStep = true
moves requests.BackContinue = true
moves request = false

abbrev pub changes : Request → Bool
changes (requests.Supported has_processes) = true
changes (requests.Select of tasks) = true
changes (requests.Monitor line) = true
changes (requests.Insert spot) = true
changes (requests.Remove spot) = true
changes requests.DetachAll = true
changes (requests.Detach n) = true
changes requests.Kill = true
changes request = false
