-- All faults of a text.
use Rattle.std.specs.Prelude.{ℕ, ◌+◌, List, [], ◌∷◌, ◌++◌, Option, Some, None}
use Rattle.std.specs.Result.{result_err}
use Rattle.rt_token.specs.SourceLines.{source_lines}
use Rattle.rt_text.specs.Statement.{line_at}
use Rattle.rt_text.specs.Text.{fault_at}
use Rattle.rt_text.specs.declared.fault.TextFault.{TextFault}

-- what is told of line n: its fault, where it has one
abbrev pub told : {K F : Type 0} → (ℕ → K → F) → ℕ → Option K → List F
told at n None = []
told at n (Some kind) = at n kind ∷ []

-- the faults of lines of which the first is line n
abbrev pub faults_from : ℕ → List (ℕ × List ℕ) → List TextFault
faults_from n [] = []
faults_from n (l ∷ ls) = told fault_at n (result_err (line_at l.0 l.1)) ++ faults_from (n + 1) ls

-- the faults of a text: of each line that has one, its first; lines count from 1
abbrev pub text_faults : List ℕ → List TextFault
text_faults text = faults_from 1 (source_lines 0 text)
