-- The line of a task's registers.
use Rattle.std.specs.Prelude.{ℕ, suc, List, [], ◌∷◌, ◌++◌, drop, codes, decimal, ◌==◌, if◌then◌else◌}
use Rattle.rt_words.specs.Hex.{hex}

-- a register whose value isn't 0, by its number
abbrev pub register_text : ℕ → ℕ → List ℕ
register_text r value = if value == 0 then [] else codes " x" ++ decimal r ++ codes "=" ++ hex 8 value

-- the registers from number r on
abbrev pub registers_text : ℕ → List ℕ → List ℕ
registers_text r [] = []
registers_text r (value ∷ values) = register_text r value ++ registers_text (suc r) values

-- all but register 0, which is always 0
abbrev pub regs_text : List ℕ → List ℕ
regs_text x = codes "regs" ++ registers_text 1 (drop 1 x) ++ codes "\n"
