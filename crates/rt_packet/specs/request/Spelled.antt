-- The payloads: what is written for each request.
use Rattle.std.specs.Prelude.{◌≡◌, ◌≢◌, ℕ, ◌≤◌, ◌⊎◌, false, List, ◌∷◌, ◌++◌, codes}
use Rattle.std.specs.Str.{byte}
use Rattle.rt_packet.specs.declared.request.ids.Tasks.{Tasks}
use Rattle.rt_packet.specs.declared.request.request.Selected.{Selected}
use Rattle.rt_packet.specs.declared.request.request.Selected.TheVariants.{Shown, Resumed}
use Rattle.rt_packet.specs.declared.request.request.Request.{Request}
use Rattle.rt_packet.specs.declared.request.request.Request.TheVariants.{Supported, LastStop, Actions, Resume, Continue, Step, BackStep, BackContinue, Select, IsThere, Current, FirstTasks, MoreTasks, TaskLine, Attached, Description, OtherAnnex, Monitor, Registers, Register, Memory, Write, Insert, Remove, DetachAll, Detach, Kill, Malformed, Unknown}
use Rattle.rt_packet.specs.request.SpelledParts.{Lacks, IsHexadecimal, IsTwo, IsId, AreActions, IsHexLine, IsFeatures, IsPoint}

-- a text, and an id behind it
abbrev pub HasId : List ℕ → List ℕ → Tasks → Type 0
HasId front payload tasks = (id : List ℕ) × (payload ≡ front ++ id) × IsId id tasks

-- a text, and a number of 1 to 16 digits behind it
abbrev pub HasNumber : List ℕ → List ℕ → ℕ → Type 0
HasNumber front payload n = (text : List ℕ) × (payload ≡ front ++ text) × IsHexadecimal 16 text n

-- a text, and anything behind it
abbrev pub Begins : List ℕ → List ℕ → Type 0
Begins front payload = (rest : List ℕ) × (payload ≡ front ++ rest)

abbrev pub IsSelect : List ℕ → Selected → Tasks → Type 0
IsSelect payload Shown tasks = HasId (codes "Hg") payload tasks
IsSelect payload Resumed tasks = HasId (codes "Hc") payload tasks

-- the payload of each request
abbrev pub IsSpelled : List ℕ → Request → Type 0
IsSpelled payload (Supported has_processes) =
    ((payload ≡ codes "qSupported") × (has_processes ≡ false))
    ⊎ ((text : List ℕ) × (payload ≡ codes "qSupported:" ++ text) × IsFeatures text has_processes)
IsSpelled payload LastStop = payload ≡ codes "?"
IsSpelled payload Actions = payload ≡ codes "vCont?"
IsSpelled payload (Resume parts) = (text : List ℕ) × (payload ≡ codes "vCont;" ++ text) × AreActions text parts
IsSpelled payload Continue = payload ≡ codes "c"
IsSpelled payload Step = payload ≡ codes "s"
IsSpelled payload BackStep = payload ≡ codes "bs"
IsSpelled payload BackContinue = payload ≡ codes "bc"
IsSpelled payload (Select of tasks) = IsSelect payload of tasks
IsSpelled payload (IsThere tasks) = HasId (codes "T") payload tasks
IsSpelled payload Current = payload ≡ codes "qC"
IsSpelled payload FirstTasks = payload ≡ codes "qfThreadInfo"
IsSpelled payload MoreTasks = payload ≡ codes "qsThreadInfo"
IsSpelled payload (TaskLine tasks) = HasId (codes "qThreadExtraInfo,") payload tasks
IsSpelled payload Attached = (payload ≡ codes "qAttached") ⊎ Begins (codes "qAttached:") payload
IsSpelled payload (Description o n) =
    (text : List ℕ) × (payload ≡ codes "qXfer:features:read:target.xml:" ++ text) × IsTwo text o n
IsSpelled payload OtherAnnex =
    (annex : List ℕ) × (rest : List ℕ) × (payload ≡ codes "qXfer:features:read:" ++ (annex ++ byte ":" ∷ rest))
    × Lacks (byte ":") annex × (annex ≢ codes "target.xml")
IsSpelled payload (Monitor line) = (text : List ℕ) × (payload ≡ codes "qRcmd," ++ text) × IsHexLine text line
IsSpelled payload Registers = payload ≡ codes "g"
IsSpelled payload (Register n) = HasNumber (codes "p") payload n
IsSpelled payload (Memory a n) = (text : List ℕ) × (payload ≡ codes "m" ++ text) × IsTwo text a n × (1 ≤ n)
IsSpelled payload Write =
    Begins (codes "G") payload ⊎ Begins (codes "P") payload ⊎ Begins (codes "M") payload ⊎ Begins (codes "X") payload
IsSpelled payload (Insert spot) = IsPoint (byte "Z") payload spot
IsSpelled payload (Remove spot) = IsPoint (byte "z") payload spot
IsSpelled payload DetachAll = payload ≡ codes "D"
IsSpelled payload (Detach n) = HasNumber (codes "D;") payload n ⊎ HasNumber (codes "vKill;") payload n
IsSpelled payload Kill = payload ≡ codes "k"
IsSpelled payload Malformed = ⊥
IsSpelled payload Unknown = ⊥

-- a request of the table: `Malformed` and `Unknown` are read of payloads that are none
abbrev pub IsKnown : Request → Type 0
IsKnown r = (r ≢ Malformed) × (r ≢ Unknown)
