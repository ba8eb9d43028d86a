-- Plain ticks of a task of a picture, and along the legal history.
use Rattle.rt_chart.proofs.Common.{◌≡◌, ℕ, zero, suc, ◌+◌, ◌<◌, List, [], ◌∷◌, ◌++◌, length, get_or, slice_get, slice_set, Option, Some, None, refl, sym, ap, ◌∙◌, arith, add-zero, option_map_or, AttemptOutcome, legal, Style, Window, TaskDrawing, ChartState, drawn_at, added}
use Rattle.std.proofs.lemmas.List.{length-set, get_or-set_same, set-get_or, set-set}
use Rattle.std.proofs.lemmas.Option.{slice_get_within, slice_get_read, get_or_from_slice_get}
use Rattle.rt_image.specs.SystemFile.{TaskSet}
use Rattle.rt_history.specs.declared.record.Attempt.{Attempt}
use Rattle.rt_history.specs.declared.record.AttemptOutcome.TheVariants.{Next}
use Rattle.rt_history.specs.declared.record.Record.{Record}
use Rattle.rt_history.specs.declared.record.Entry.TheVariants as entries
use Rattle.rt_history.specs.Legal.{record_at, state_at}
use Rattle.rt_history.specs.Plain.{ArePlain}
use Rattle.rt_history.proofs.PlainLaws.{plain-attempt}
use Rattle.rt_history.proofs.Steps.{legal_next}
use Rattle.rt_chart.specs.Standing.{chart_at}
use Rattle.rt_drawing.specs.Drawn.{drawn, drawn_for}
use Rattle.rt_chart.specs.Working.Drawn.{plain_at, added_plain}
use Rattle.rt_chart.proofs.SoundLemmas.{drawn_at-is}
use Rattle.rt_chart.proofs.ChartLaws.{chart_next}

-- ---- all tasks

pub plain_at-is : (w : Window) (u n i : ℕ) (xs : List TaskDrawing) (x : TaskDrawing) → i < length xs → x ≡ get_or xs i x
    → plain_at w u n xs i ≡ slice_set xs i (drawn_for w u n x)
plain_at-is w u n i xs x below here = rw (slice_get_read xs (length xs) i x refl below here) refl

plain_at-none : (w : Window) (u i : ℕ) (xs : List TaskDrawing) → plain_at w u 0 xs i ≡ xs
unfolding drawn_for
plain_at-none w u i xs = none (slice_get xs i) refl
  where
    none : (r : Option TaskDrawing) → slice_get xs i ≡ r → option_map_or (λ x. slice_set xs i x) r xs ≡ xs
    none None is = refl
    none (Some x) is = ap (slice_set xs i) (sym (get_or_from_slice_get xs i x x is)) ∙ set-get_or xs i x

plain_at-more : (w : Window) (u n i : ℕ) (xs : List TaskDrawing) → plain_at w u (suc n) xs i ≡ drawn_at w (u + n) Next (plain_at w u n xs i) i
unfolding drawn_for
plain_at-more w u n i xs = more (slice_get xs i) refl
  where
    more : (r : Option TaskDrawing) → slice_get xs i ≡ r
        → option_map_or (λ x. slice_set xs i (drawn w (u + n) Next (drawn_for w u n x))) r xs
        ≡ drawn_at w (u + n) Next (option_map_or (λ x. slice_set xs i (drawn_for w u n x)) r xs) i
    more None is = rw is refl
    more (Some x) is =
        let y = drawn_for w u n x in
        let below : i < length xs = slice_get_within xs i x is in
        let there : i < length (slice_set xs i y) = omega (arith, below, length-set xs i y) in
        sym (drawn_at-is w (u + n) i Next (slice_set xs i y) y there (sym (get_or-set_same xs i y y below)) ∙ set-set xs i y (drawn w (u + n) Next y))

-- ---- the picture

added_plain-none : (i : ℕ) (c : ChartState) → c ≡ added_plain i 0 c
added_plain-none i c = rw (add-zero, plain_at-none c.window c.tick i c.tasks) refl

added_plain-more : (i n : ℕ) (a : Attempt) (c : ChartState) → a.task ≡ i → a.outcome ≡ Next
    → added (entries.Busy (c.tick + n) a) (added_plain i n c) ≡ added_plain i (suc n) c
added_plain-more i n a c task plain =
    let at : c.tick + n + 1 ≡ c.tick + suc n = omega arith in
    let u = c.tick + n in
    ap (λ (k : ℕ). record { window = c.window; style = c.style; tick = u + 1; tasks = drawn_at c.window u a.outcome (plain_at c.window c.tick n c.tasks i) k }) task
    ∙ ap (λ (o : AttemptOutcome). record { window = c.window; style = c.style; tick = u + 1; tasks = drawn_at c.window u o (plain_at c.window c.tick n c.tasks i) i }) plain
    ∙ ap (λ (xs : List TaskDrawing). record { window = c.window; style = c.style; tick = u + 1; tasks = xs }) (sym (plain_at-more c.window c.tick n i c.tasks))
    ∙ ap (λ (t : ℕ). record { window = c.window; style = c.style; tick = t; tasks = plain_at c.window c.tick (suc n) c.tasks i }) at

pub chart_plain : (w : Window) (style : Style) (except : List ℕ) (set : TaskSet) (t i n : ℕ) → ArePlain set t i n → chart_at w style except set (t + n) ≡ added_plain i n (chart_at w style except set t)
unfolding chart_at
chart_plain w style except set t i zero plain = ap (chart_at w style except set) (add-zero t) ∙ added_plain-none i (chart_at w style except set t)
chart_plain w style except set t i (suc n) plain =
    let before = chart_plain w style except set t i n (λ k below. plain k (omega (arith, below))) in
    let it = plain-attempt i (record_at (state_at set (t + n))) (plain n (omega arith)) in
    let a = it.0 in
    let next = chart_next w style except set (t + n) (entries.Busy (t + n) a) (legal_next set (t + n) ∙ ap (λ (r : Record). legal set (t + n) ++ r ∷ []) it.1.0) in
    let at : t + suc n ≡ t + n + 1 = omega arith in
    ap (chart_at w style except set) at ∙ next ∙ ap (added (entries.Busy (t + n) a)) before ∙ added_plain-more i n a (chart_at w style except set t) it.1.1.0 it.1.1.1
