-- The requests: which payload asks for what.
use Rattle.std.specs.Prelude.{ℕ, ◌==◌, false, Bool, length, take, drop, List, [], ◌∷◌, codes, Option, if◌then◌else◌}
use Rattle.std.specs.List.{list_any}
use Rattle.std.specs.Map.{lookup}
use Rattle.std.specs.Option.{option_map, unwrap_or}
use Rattle.std.specs.Str.{byte, bytes_eq}
use Rattle.rt_points.specs.declared.point.PointKind.{PointKind}
use Rattle.rt_points.specs.declared.point.PointKind.TheVariants.{Break, Watch}
use Rattle.rt_points.specs.declared.point.BreakKind.TheVariants.{Software, Hardware}
use Rattle.rt_points.specs.declared.point.WatchKind.TheVariants as watches
use Rattle.rt_packet.specs.declared.request.request.Selected.{Selected}
use Rattle.rt_packet.specs.declared.request.request.Selected.TheVariants.{Shown, Resumed}
use Rattle.rt_packet.specs.declared.request.request.Request.{Request}
use Rattle.rt_packet.specs.declared.request.request.Request.TheVariants.{Supported, LastStop, Actions, Resume, Continue, Step, BackStep, BackContinue, Select, IsThere, Current, FirstTasks, MoreTasks, TaskLine, Attached, Description, OtherAnnex, Monitor, Registers, Register, Memory, Write, Insert, Remove, DetachAll, Detach, Kill, Malformed, Unknown}
use Rattle.rt_packet.specs.request.Numbers.{cut_at, long_number, two_numbers}
use Rattle.rt_packet.specs.request.Ids.{tasks_of}
use Rattle.rt_packet.specs.request.Actions.{parts, resumed}
use Rattle.rt_packet.specs.request.HexLines.{hex_line}
use Rattle.rt_packet.specs.request.Points.{spot_of}

-- the payloads that are one request, whole
unfoldable pub whole_requests : List (List ℕ × Request)
whole_requests =
    (codes "qSupported", Supported false) ∷ (codes "?", LastStop) ∷ (codes "vCont?", Actions) ∷ (codes "c", Continue) ∷
    (codes "s", Step) ∷ (codes "bs", BackStep) ∷ (codes "bc", BackContinue) ∷ (codes "qC", Current) ∷
    (codes "qfThreadInfo", FirstTasks) ∷ (codes "qsThreadInfo", MoreTasks) ∷ (codes "qAttached", Attached) ∷
    (codes "g", Registers) ∷ (codes "D", DetachAll) ∷ (codes "k", Kill) ∷ []

-- what is found behind a beginning, or else the request is malformed
abbrev pub or_malformed : Option Request → Request
or_malformed found = unwrap_or found Malformed

-- features that semicolons separate: one of them is that gdb knows processes
abbrev pub supported : List ℕ → Request
supported text = Supported (list_any (λ feature. bytes_eq feature (codes "multiprocess+")) (parts text))

abbrev pub resumes : List ℕ → Request
resumes text = or_malformed (option_map Resume (resumed text))

abbrev pub selects : Selected → List ℕ → Request
selects of text = or_malformed (option_map (Select of) (tasks_of text))

abbrev pub is_there : List ℕ → Request
is_there text = or_malformed (option_map IsThere (tasks_of text))

abbrev pub task_line : List ℕ → Request
task_line text = or_malformed (option_map TaskLine (tasks_of text))

abbrev pub attached : List ℕ → Request
attached text = Attached

-- "ANNEX:OFFSET,COUNT", where only the annex target.xml is read on
abbrev pub of_annex : List ℕ × List ℕ → Request
of_annex found =
    if bytes_eq found.0 (codes "target.xml")
    then or_malformed (option_map (λ numbers. Description numbers.0 numbers.1) (two_numbers found.1))
    else OtherAnnex

abbrev pub described : List ℕ → Request
described text = or_malformed (option_map of_annex (cut_at (byte ":") text))

abbrev pub monitors : List ℕ → Request
monitors text = or_malformed (option_map Monitor (hex_line text))

abbrev pub register : List ℕ → Request
register text = or_malformed (option_map Register (long_number text))

-- from an address at least one byte
abbrev pub of_bytes : ℕ × ℕ → Request
of_bytes numbers = if numbers.1 == 0 then Malformed else Memory numbers.0 numbers.1

abbrev pub memory : List ℕ → Request
memory text = or_malformed (option_map of_bytes (two_numbers text))

abbrev pub write : List ℕ → Request
write text = Write

abbrev pub inserts : PointKind → List ℕ → Request
inserts kind text = or_malformed (option_map Insert (spot_of kind text))

abbrev pub removes : PointKind → List ℕ → Request
removes kind text = or_malformed (option_map Remove (spot_of kind text))

abbrev pub detaches : List ℕ → Request
detaches text = or_malformed (option_map Detach (long_number text))

-- what a request begins with, and how what stands behind that is read
unfoldable pub prefixes : List (List ℕ × (List ℕ → Request))
prefixes =
    (codes "qSupported:", supported) ∷ (codes "vCont;", resumes) ∷ (codes "Hg", selects Shown) ∷
    (codes "Hc", selects Resumed) ∷ (codes "T", is_there) ∷ (codes "qThreadExtraInfo,", task_line) ∷
    (codes "qAttached:", attached) ∷ (codes "qXfer:features:read:", described) ∷ (codes "qRcmd,", monitors) ∷
    (codes "p", register) ∷ (codes "m", memory) ∷ (codes "G", write) ∷ (codes "P", write) ∷ (codes "M", write) ∷
    (codes "X", write) ∷ (codes "Z0", inserts (Break Software)) ∷ (codes "Z1", inserts (Break Hardware)) ∷
    (codes "Z2", inserts (Watch watches.Write)) ∷ (codes "Z3", inserts (Watch watches.Read)) ∷ (codes "Z4", inserts (Watch watches.Access)) ∷
    (codes "z0", removes (Break Software)) ∷ (codes "z1", removes (Break Hardware)) ∷
    (codes "z2", removes (Watch watches.Write)) ∷ (codes "z3", removes (Watch watches.Read)) ∷ (codes "z4", removes (Watch watches.Access)) ∷
    (codes "D;", detaches) ∷ (codes "vKill;", detaches) ∷ []

abbrev pub begins_with : List ℕ → List ℕ → Bool
begins_with prefix payload = bytes_eq (take (length prefix) payload) prefix

-- the request of the first row whose text a payload begins with
abbrev pub by_prefix : List (List ℕ × (List ℕ → Request)) → List ℕ → Request
by_prefix [] payload = Unknown
by_prefix (row ∷ rows) payload =
    if begins_with row.0 payload then row.1 (drop (length row.0) payload) else by_prefix rows payload

abbrev pub whole_request : List ℕ → Option Request
whole_request payload = lookup (bytes_eq payload) whole_requests

-- a payload is one request whole, or begins with the text of a row
abbrev pub request_of : List ℕ → Request
request_of payload = unwrap_or (whole_request payload) (by_prefix prefixes payload)
