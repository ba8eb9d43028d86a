-- The longest label, one row more.
use Rattle.rt_chart.proofs.Common.{◌≡◌, ℕ, ◌+◌, ◌<◌, List, [], ◌∷◌, ◌++◌, length, map, take, get_or, ap, ◌∙◌, arith, Window, TaskDrawing, finished, all_finished}
use Rattle.std.proofs.Common.{max}
use Rattle.std.specs.List.{fold}
use Rattle.std.proofs.lemmas.List.{map-append}
use Rattle.std.proofs.lemmas.List.Sums.{fold-append}
use Rattle.rt_drawing.specs.Drawing.{Drawing}
use Rattle.rt_chart.specs.Labels.{label, longest}
use Rattle.rt_chart.proofs.PieceLemmas.{mapped-more}

pub longest-more : (w : Window) (n : ℕ) (xs : List TaskDrawing) (x : TaskDrawing) → n < length xs → x ≡ get_or xs n x
    → longest (all_finished w (take (n + 1) xs)) ≡ max (longest (all_finished w (take n xs))) (length (label (finished w n x)))
longest-more w n xs x below here =
    let place : 0 + n ≡ n = omega arith in
    let size : Drawing → ℕ = λ d. length (label d) in
    ap longest (mapped-more (finished w) 0 n xs x below here ∙ ap (λ (k : ℕ). all_finished w (take n xs) ++ finished w k x ∷ []) place)
    ∙ ap (fold max 0) (map-append size (all_finished w (take n xs)) (finished w n x ∷ []))
    ∙ fold-append max 0 (map size (all_finished w (take n xs))) (size (finished w n x) ∷ [])
