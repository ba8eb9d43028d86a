-- What is drawn of a task, one record more.
use Rattle.rt_drawing.proofs.Common.{◌≡◌, ℕ, ◌-◌, ◌≤◌, List, [], ◌∷◌, ◌++◌, length, refl, sym, ap, ◌∙◌, arith, flat_map, range_with_len, option_or, append-nil, SetTask, AttemptOutcome, Record, first_serving, due, after, first_job, job_after, own, serving_after, Mark, Window, Stretch, behind, Turn, turns, stretches, shown_ticks}
use Rattle.std.proofs.lemmas.List.Concat.{flat_map-append, flat_map-cons}
use Rattle.std.proofs.lemmas.List.Elements.{filter-append}
use Rattle.rt_history.specs.Working.Bounded.{IsTakeable}
use Rattle.rt_history.proofs.ServingLaws.{serving_after-append}
use Rattle.rt_report.specs.WideRows.{moments}
use Rattle.rt_report.proofs.TallyLaws.{moment, moments-more}
use Rattle.rt_history.proofs.TakenLaws.{taken-same}
use Rattle.rt_drawing.specs.Windows.{is_in}
use Rattle.rt_drawing.specs.Waits.{turn, turn_waits}
use Rattle.rt_drawing.specs.Marks.{moment_marks, record_marks, woken_marks, marks_by}
use Rattle.rt_drawing.specs.Budgets.{serving_at}
use Rattle.rt_drawing.specs.Misses.{first_of, first_miss, miss_by, told_miss}
use Rattle.rt_drawing.specs.Drawing.{in_window, drawing_of}
use Rattle.rt_drawing.specs.Standing.{task_drawing, finished}
use Rattle.rt_drawing.specs.Drawn.{drawn_as, drawn}
use Rattle.rt_drawing.proofs.StretchLaws.{shown-more}
use Rattle.rt_drawing.proofs.BudgetLaws.{told-more, told-is}
use Rattle.rt_drawing.proofs.WaitLaws.{behind-more, job-more, turns-more}
use Rattle.rt_drawing.proofs.ApartLaws.{own-rises, behind-within}
use Rattle.rt_drawing.proofs.MissLaws.{told_miss-more, told_miss-whole}

pub in_window-append : (w : Window) (xs ys : List Mark) → in_window w (xs ++ ys) ≡ in_window w xs ++ in_window w ys
in_window-append w xs ys = filter-append (λ (m : Mark). is_in w m.tick) xs ys

record_marks-more : (s : SetTask) (es : List (ℕ × AttemptOutcome)) (e : ℕ × AttemptOutcome)
    → record_marks s (es ++ e ∷ []) ≡ record_marks s es ++ moment_marks (moment e (serving_after (first_serving s) es))
record_marks-more s es e =
    let m = moment e (serving_after (first_serving s) es) in
    let ms = moments (first_serving s) es in
    ap (flat_map moment_marks) (moments-more (first_serving s) es e) ∙ flat_map-append moment_marks ms (m ∷ [])
    ∙ ap (λ (xs : List Mark). flat_map moment_marks ms ++ xs) (flat_map-cons moment_marks m [] ∙ append-nil (moment_marks m))

waits-more : (w : Window) (ts : List Turn) (t : Turn) → flat_map (turn_waits w) (ts ++ t ∷ []) ≡ flat_map (turn_waits w) ts ++ turn_waits w t
waits-more w ts t =
    flat_map-append (turn_waits w) ts (t ∷ [])
    ∙ ap (λ (xs : List Stretch). flat_map (turn_waits w) ts ++ xs) (flat_map-cons (turn_waits w) t [] ∙ append-nil (turn_waits w t))

pub drawing-more : (w : Window) (allowed i : ℕ) (s : SetTask) (es : List (ℕ × AttemptOutcome)) (u : ℕ) (o : AttemptOutcome)
    → IsTakeable o (due u (serving_after (first_serving s) es)).account → task_drawing w allowed i s (es ++ (u, o) ∷ []) ≡ drawn w u o (task_drawing w allowed i s es)
drawing-more w allowed i s es u o takes =
    let before = serving_after (first_serving s) es in
    let served : serving_after (first_serving s) (es ++ (u, o) ∷ []) ≡ after u o (due u before).account = serving_after-append (first_serving s) es ((u, o) ∷ []) in
    let marked : in_window w (record_marks s (es ++ (u, o) ∷ [])) ≡ in_window w (record_marks s es) ++ in_window w (moment_marks (moment (u, o) before)) =
    ap (in_window w) (record_marks-more s es (u, o)) ∙ in_window-append w (record_marks s es) (moment_marks (moment (u, o) before)) in
    let next = turn allowed (job_after (first_job s) es) (behind 0 es) u in
    let turned = turns-more allowed (first_job s) 0 es (u, o) in
    let waited : flat_map (turn_waits w) (turns allowed s (es ++ (u, o) ∷ [])) ≡ flat_map (turn_waits w) (turns allowed s es) ++ turn_waits w next =
    ap (flat_map (turn_waits w)) turned ∙ waits-more w (turns allowed s es) next in
    let ran = ap (λ (ts : List Turn). stretches (shown_ticks w ts)) turned ∙ shown-more w (turns allowed s es) next in
    let same : task_drawing w allowed i s (es ++ (u, o) ∷ []) ≡ drawn_as w u o o (task_drawing w allowed i s es) = rw (served, told-more w.from (first_serving s) es u o, job-more (first_job s) es (u, o), behind-more 0 es (u, o), waited, ran, marked, told_miss-more 0 (first_serving s) es u o) refl in
    same ∙ ap (λ (k : AttemptOutcome). drawn_as w u o k (task_drawing w allowed i s es)) (sym (taken-same o (due u before).account takes))

-- what is drawn of it in the end, after a history that ends with the window
pub finished-is : (w : Window) (allowed : ℕ) (h : List Record) (i : ℕ) (s : SetTask) → length h ≤ w.to
    → finished w i (task_drawing w allowed i s (own i h)) ≡ drawing_of w allowed h i s
finished-is w allowed h i s within =
    let es = own i h in
    let marks : in_window w (record_marks s es) ++ in_window w (woken_marks w.to (serving_after (first_serving s) es)) ≡ in_window w (marks_by w.to s es) =
    sym (in_window-append w (record_marks s es) (woken_marks w.to (serving_after (first_serving s) es))) in
    let budget = told-is w.from (first_serving s) es in
    let missed : option_or (told_miss 0 (first_serving s) es) (miss_by (behind 0 es) (w.to - 1) (serving_after (first_serving s) es)) ≡ first_miss w.to s es =
    told_miss-whole 0 w.to (first_serving s) es (omega (arith, w.some)) (own-rises 0 i h) (omega (arith, behind-within 0 i h, within))
    ∙ ap (λ (n : ℕ). first_of (λ t. serving_at t s es) (range_with_len 0 n)) (omega arith) in
    rw (marks, budget, missed) refl
