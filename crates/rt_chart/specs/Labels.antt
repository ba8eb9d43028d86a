-- The labels of rows: what names each row's task.
use Rattle.std.specs.Prelude.{ℕ, max, List, ◌++◌, length, map, codes, decimal}
use Rattle.std.specs.List.{fold}
use Rattle.rt_drawing.specs.Drawing.{Drawing}

-- the number and the name of a task, with its budget and its period; a name is a word, and has no byte that stands for something else in a
-- file of SVG
unfoldable pub label_text : ℕ → List ℕ → ℕ → ℕ → List ℕ
label_text i name budget period = decimal i ++ codes " " ++ name ++ codes "  " ++ decimal budget ++ codes "/" ++ decimal period

abbrev pub label : Drawing → List ℕ
label d = label_text d.task d.name d.budget d.period

-- how long the longest of them is
abbrev pub longest : List Drawing → ℕ
longest ds = fold max 0 (map (λ d. length (label d)) ds)
