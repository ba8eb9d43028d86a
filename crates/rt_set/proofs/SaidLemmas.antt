-- Lines of a set file that are passed.
use Rattle.std.proofs.Common.{◌≡◌, ℕ, ◌+◌, ◌-◌, ◌≤◌, ◌<◌, Bool, false, true, nat_lt, List, [], ◌∷◌, Some, refl, ap, ◌∙◌, arith}
use Rattle.std.specs.Prelude.{◌&&◌, if◌then◌else◌}
use Rattle.rt_set.specs.SaidLines.{said_of, said_before, task_line_from}
use Rattle.rt_set.specs.SetFile.{says_something}

-- a line before the one of this number
pub said_step : (left said : ℕ) (lines : List (List ℕ)) (line : List ℕ) (rest : List (List ℕ)) → 1 < left → lines ≡ line ∷ rest
    → said + said_before left lines ≡ said + said_of line + said_before (left - 1) rest
said_step left said lines line rest h first = ap (λ (ls : List (List ℕ)). said + said_before left ls) first ∙ here (nat_lt 1 left) (grind arith)
  where
    here : (b : Bool) → b ≡ true → said + (if b then said_of line + said_before (left - 1) rest else 0) ≡ said + said_of line + said_before (left - 1) rest
    here true e = omega arith
    here false e = cc

-- no line is before it
pub said_done : (left : ℕ) (lines : List (List ℕ)) → left ≤ 1 → said_before left lines ≡ 0
said_done left [] h = refl
said_done left (line ∷ lines) h = here (nat_lt 1 left) (grind arith)
  where
    here : (b : Bool) → b ≡ false → (if b then said_of line + said_before (left - 1) lines else 0) ≡ 0
    here true e = cc
    here false e = refl

-- a line that isn't the one of the task
pub task_step : (task n said : ℕ) (lines : List (List ℕ)) (line : List ℕ) (rest : List (List ℕ)) → lines ≡ line ∷ rest → (says_something line && nat_lt task said) ≡ false
    → task_line_from task n said lines ≡ task_line_from task (n + 1) (said + said_of line) rest
task_step task n said lines line rest first h =
    ap (task_line_from task n said) first
    ∙ ap (λ (b : Bool). if b then Some n else task_line_from task (n + 1) (said + said_of line) rest) h
