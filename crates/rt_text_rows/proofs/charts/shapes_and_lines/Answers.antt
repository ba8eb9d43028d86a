use Rattle.std.proofs.Common.{◌≡◌, [], ◌∷◌, refl}
use Rattle.rt_chart.specs.Looks.{look_of}
use Rattle.rt_chart.specs.ChartText.{row_text}
use Rattle.rt_text_rows.specs.Charts.{usual, compact, all_marks, crowd, marks_as_shapes, marks_as_lines, marks_as_low_lines}
use Rattle.rt_text_rows.proofs.Computing.{computing}
use Rattle.rt_text_rows.proofs.Windows.{HoldsAt, of_ends}
use Rattle.rt_text_rows.proofs.charts.shapes_and_lines.Goals as goal

as_shapes : HoldsAt (λ w. row_text (look_of w usual (all_marks ∷ [])) all_marks ≡ marks_as_shapes) 0 400
unfolding computing
as_shapes some few limit = refl

as_lines : HoldsAt (λ w. row_text (look_of w usual (all_marks ∷ crowd ∷ [])) all_marks ≡ marks_as_lines) 0 400
unfolding computing
as_lines some few limit = refl

as_low_lines : HoldsAt (λ w. row_text (look_of w compact (all_marks ∷ [])) all_marks ≡ marks_as_low_lines) 0 400
unfolding computing
as_low_lines some few limit = refl

pub returns-clause-shapes : goal.returns-clause-shapes
returns-clause-shapes c = of_ends (λ w. row_text (look_of w usual (all_marks ∷ [])) all_marks ≡ marks_as_shapes) 0 400 as_shapes

pub returns-clause-lines : goal.returns-clause-lines
returns-clause-lines c = of_ends (λ w. row_text (look_of w usual (all_marks ∷ crowd ∷ [])) all_marks ≡ marks_as_lines) 0 400 as_lines

pub returns-clause-low_lines : goal.returns-clause-low_lines
returns-clause-low_lines c = of_ends (λ w. row_text (look_of w compact (all_marks ∷ [])) all_marks ≡ marks_as_low_lines) 0 400 as_low_lines
