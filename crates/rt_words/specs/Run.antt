-- Steps over a list, and the first that fails.
use Rattle.std.specs.Prelude.{ℕ, ◌+◌, List, [], ◌∷◌, Result, Ok, Err}

abbrev pub next : {S K F : Type 0} → (ℕ → K → F) → ℕ → Result S K → (S → Result S F) → Result S F
next at n (Ok s) rest = rest s
next at n (Err k) rest = Err (at n k)

-- a step for each element in turn, from the state that the one before left; the first that fails is named by its place, counted from n
abbrev pub run : {S L K F : Type 0} → (ℕ → K → F) → (S → L → Result S K) → ℕ → S → List L → Result S F
run at step n s [] = Ok s
run at step n s (l ∷ ls) = next at n (step s l) (λ t. run at step (n + 1) t ls)
