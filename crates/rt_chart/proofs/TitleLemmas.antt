-- Titles that begin with a kept text.
use Rattle.rt_chart.proofs.Common.{◌≡◌, ℕ, List, ◌++◌, append_assoc, refl, ap, Look, title_begin, titled_text}
use Rattle.rt_drawing.specs.declared.stretch.Stretch.{Stretch}
use Rattle.rt_chart.specs.declared.mark_text.Bar.{Bar}
use Rattle.rt_chart.specs.MarkText.{bar_begin, bar_place, bar_title, stretch_text}
use Rattle.rt_chart.specs.Working.Titled.{titled_end}

end-same : (i : ℕ) (name : List ℕ) (period : ℕ) (bar : Bar) (s : Stretch) → titled_end (title_begin i name) period bar s ≡ bar_title i name period bar s
unfolding title_begin titled_end bar_title
end-same i name period bar s = simp append_assoc refl

-- of a row's stretches
pub titled-same : (l : Look) (i : ℕ) (name : List ℕ) (period : ℕ) (bar : Bar) (s : Stretch)
    → titled_text l i (title_begin i name) period bar s ≡ stretch_text l i name period bar s
titled-same l i name period bar s = ap (λ (end : List ℕ). bar_begin i bar s ++ bar_place l bar s ++ end) (end-same i name period bar s)
