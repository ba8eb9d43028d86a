-- The room of rows, by what is kept of their tasks.
use Rattle.rt_chart.proofs.Common.{◌≡◌, ℕ, ◌+◌, Bool, List, [], ◌∷◌, map, refl, ap, list_all, enumerate_from, Window, TaskDrawing, finished, all_finished}
use Rattle.std.proofs.Common.{◌&&◌}
use Rattle.rt_chart.specs.Looks.{has_room}

-- whether the row of a task has room, whatever its number
abbrev pub row_has_room : Window → ℕ → TaskDrawing → Bool
row_has_room w width x = has_room width (finished w 0 x)

from-room : (w : Window) (width i : ℕ) (xs : List TaskDrawing)
    → list_all (has_room width) (map (λ n. finished w n.0 n.1) (enumerate_from i xs)) ≡ list_all (row_has_room w width) xs
from-room w width i [] = refl
from-room w width i (x ∷ xs) = ap (λ (b : Bool). row_has_room w width x && b) (from-room w width (i + 1) xs)

pub rows-room : (w : Window) (width : ℕ) (xs : List TaskDrawing) → list_all (has_room width) (all_finished w xs) ≡ list_all (row_has_room w width) xs
rows-room w width xs = from-room w width 0 xs
