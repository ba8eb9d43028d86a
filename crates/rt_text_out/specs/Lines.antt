-- The texts of the items of a list.
use Rattle.std.specs.Prelude.{ℕ, List}
use Rattle.std.specs.List.{flat_map, enumerate_from}

-- one behind the other, the first item having number i
abbrev pub lines : {T : Type 0} → (ℕ → T → List ℕ) → ℕ → List T → List ℕ
lines f i xs = flat_map (λ n. f n.0 n.1) (enumerate_from i xs)
