-- The parts of payloads: what is written for an id, an action, a line of digits, a point.
use Rattle.std.specs.Prelude.{◌≡◌, ◌≢◌, ℕ, ◌+◌, ◌*◌, ◌≤◌, ◌⊎◌, true, Bool, length, List, [], ◌∷◌, ◌++◌, codes}
use Rattle.std.specs.Char.{is_digit, digit_value}
use Rattle.std.specs.List.{AllByRecursion, join_with_byte, list_any}
use Rattle.std.specs.Str.{byte, bytes_eq}
use Rattle.std.specs.Str.Parse.{digits_value}
use Rattle.rt_token.specs.Number.{are_digits}
use Rattle.rt_packet.specs.declared.request.actions.Action.{Action}
use Rattle.rt_packet.specs.declared.request.actions.Action.TheVariants as actions
use Rattle.rt_packet.specs.declared.request.ids.Tasks.{Tasks}
use Rattle.rt_packet.specs.declared.request.ids.Tasks.TheVariants.{All, One}
use Rattle.rt_points.specs.declared.point.PointKind.{PointKind}
use Rattle.rt_points.specs.declared.point.PointKind.TheVariants.{Break, Watch}
use Rattle.rt_points.specs.declared.point.BreakKind.TheVariants.{Software, Hardware}
use Rattle.rt_points.specs.declared.point.WatchKind.TheVariants as watches
use Rattle.rt_packet.specs.declared.request.points.Spot.{Spot}

-- no byte is this mark
abbrev pub Lacks : ℕ → List ℕ → Type 0
Lacks mark text = AllByRecursion (λ b. b ≢ mark) text

-- a number in one to so many hexadecimal digits, of either case
abbrev pub IsHexadecimal : ℕ → List ℕ → ℕ → Type 0
IsHexadecimal most text n = (are_digits 16 text ≡ true) × (length text ≤ most) × (digits_value 16 text ≡ n)

-- two numbers with a comma between them
abbrev pub IsTwo : List ℕ → ℕ → ℕ → Type 0
IsTwo text a n =
    (first : List ℕ) × (second : List ℕ) × (text ≡ first ++ byte "," ∷ second) × IsHexadecimal 16 first a × IsHexadecimal 16 second n

-- a process or a thread
abbrev pub IsPart : List ℕ → Tasks → Type 0
IsPart text All = (text ≡ codes "-1") ⊎ IsHexadecimal 8 text 0
IsPart text (One i) = IsHexadecimal 8 text (i + 1)

-- a thread of the process of these tasks
abbrev pub IsThread : List ℕ → Tasks → Type 0
IsThread text All = (tasks : Tasks) × IsPart text tasks
IsThread text (One i) = IsPart text All ⊎ IsPart text (One i)

-- a process and its thread, with a '.' between them
abbrev pub IsBoth : List ℕ → Tasks → Type 0
IsBoth text tasks =
    (process : List ℕ) × (thread : List ℕ) × (text ≡ process ++ byte "." ∷ thread) × IsPart process tasks × IsThread thread tasks

-- an id: "pPROCESS", "pPROCESS.THREAD" or "THREAD"
abbrev pub IsId : List ℕ → Tasks → Type 0
IsId text tasks =
    IsPart text tasks ⊎ ((rest : List ℕ) × (text ≡ byte "p" ∷ rest) × (IsPart rest tasks ⊎ IsBoth rest tasks))

-- a letter and a signal
abbrev pub IsSignalled : ℕ → List ℕ → Type 0
IsSignalled letter text =
    (high : ℕ) × (low : ℕ) × (text ≡ letter ∷ high ∷ low ∷ []) × (is_digit high 16 ≡ true) × (is_digit low 16 ≡ true)

abbrev pub IsAction : List ℕ → Action → Type 0
IsAction text actions.Continue = (text ≡ codes "c") ⊎ IsSignalled (byte "C") text
IsAction text actions.Step = (text ≡ codes "s") ⊎ IsSignalled (byte "S") text

-- an action for every task, or one with an id
abbrev pub IsActionFor : List ℕ → Action × Tasks → Type 0
IsActionFor text part =
    (IsAction text part.0 × (part.1 ≡ All))
    ⊎ ((action : List ℕ) × (id : List ℕ) × (text ≡ action ++ byte ":" ∷ id) × IsAction action part.0 × IsId id part.1)

-- at least one action, with semicolons between them
abbrev pub AreActions : List ℕ → List (Action × Tasks) → Type 0
AreActions text [] = ⊥
AreActions text (part ∷ []) = IsActionFor text part
AreActions text (part ∷ next ∷ parts) =
    (first : List ℕ) × (rest : List ℕ) × (text ≡ first ++ byte ";" ∷ rest) × IsActionFor first part × AreActions rest (next ∷ parts)

-- two hexadecimal digits for each byte
abbrev pub IsHexLine : List ℕ → List ℕ → Type 0
IsHexLine text [] = text ≡ []
IsHexLine text (b ∷ bs) =
    (high : ℕ) × (low : ℕ) × (rest : List ℕ) × (text ≡ high ∷ low ∷ rest) × (is_digit high 16 ≡ true) × (is_digit low 16 ≡ true)
    × (digit_value high * 16 + digit_value low ≡ b) × IsHexLine rest bs

-- features with semicolons between them
abbrev pub IsFeatures : List ℕ → Bool → Type 0
IsFeatures text has_processes =
    (feature : List ℕ) × (others : List (List ℕ)) × (text ≡ join_with_byte (byte ";") (feature ∷ others))
    × AllByRecursion (Lacks (byte ";")) (feature ∷ others)
    × (list_any (λ f. bytes_eq f (codes "multiprocess+")) (feature ∷ others) ≡ has_processes)

-- the digit of a kind of point
abbrev pub kind_digit : PointKind → ℕ
kind_digit (Break Software) = byte "0"
kind_digit (Break Hardware) = byte "1"
kind_digit (Watch watches.Write) = byte "2"
kind_digit (Watch watches.Read) = byte "3"
kind_digit (Watch watches.Access) = byte "4"

-- a point, behind 'Z' or 'z'
abbrev pub IsPoint : ℕ → List ℕ → Spot → Type 0
IsPoint letter payload spot =
    (numbers : List ℕ) × (payload ≡ letter ∷ kind_digit spot.kind ∷ byte "," ∷ numbers) × IsTwo numbers spot.address spot.length
