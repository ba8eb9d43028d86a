-- The text of rows, one row more.
use Rattle.rt_profile.proofs.Common.{◌≡◌, ℕ, true, List, ◌∷◌, ◌++◌, map, Option, Some, refl, sym, ap, ◌∙◌, append_assoc, flat_map, flat_map-cons, part, begins, firsts, row_text, TaskCounts, kept_row, kept_lines, kept_costs, kept_need_lines}

abbrev pub lines_of : ℕ → TaskCounts → Option ℕ → List ℕ → List ℕ
lines_of i x before bs = flat_map row_text (map (kept_row i x) (firsts x.labels before bs))

-- an address that begins a part adds its row
pub lines-more : (i : ℕ) (x : TaskCounts) (before : Option ℕ) (a : ℕ) (bs done all : List ℕ) → begins before (part x.labels a) ≡ true
    → done ++ lines_of i x before (a ∷ bs) ≡ all → (done ++ row_text (kept_row i x a)) ++ lines_of i x (Some (part x.labels a)) bs ≡ all
lines-more i x before a bs done all first is =
    let one : firsts x.labels before (a ∷ bs) ≡ a ∷ firsts x.labels (Some (part x.labels a)) bs = rw first refl in
    let text : lines_of i x before (a ∷ bs) ≡ row_text (kept_row i x a) ++ lines_of i x (Some (part x.labels a)) bs =
    ap (λ (cs : List ℕ). flat_map row_text (map (kept_row i x) cs)) one ∙ flat_map-cons row_text (kept_row i x a) (map (kept_row i x) (firsts x.labels (Some (part x.labels a)) bs)) in
    append_assoc done (row_text (kept_row i x a)) (lines_of i x (Some (part x.labels a)) bs) ∙ ap (λ (t : List ℕ). done ++ t) (sym text) ∙ is

-- what is told of a task by its number, in each form
abbrev pub lines_by : ℕ × TaskCounts → List ℕ
lines_by m = kept_lines m.0 m.1

abbrev pub costs_by : ℕ × TaskCounts → List ℕ
costs_by m = kept_costs m.0 m.1

abbrev pub needs_by : ℕ × TaskCounts → List ℕ
needs_by m = kept_need_lines m.0 m.1.needs
