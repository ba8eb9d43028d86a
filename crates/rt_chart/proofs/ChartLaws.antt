-- A picture over an entry stands where the legal history stands.
use Rattle.rt_chart.proofs.Common.{◌≡◌, ℕ, zero, suc, ◌+◌, ◌<◌, ◌≤◌, true, false, List, [], ◌∷◌, ◌++◌, length, map, take, get_or, slice_get, slice_set, Option, Some, None, refl, sym, ap, ◌∙◌, arith, flat_map, enumerate_from, option_map_or, nat_tests, length-map, AttemptOutcome, legal, Look, Style, Window, row_text, TaskDrawing, finished, all_finished, ChartState, drawn_at, added}
use Rattle.std.proofs.Common.{◌==◌, replicate}
use Rattle.std.proofs.lemmas.List.{append-nil}
use Rattle.std.proofs.lemmas.List.Concat.{flat_map-append, flat_map-cons}
use Rattle.std.proofs.lemmas.List.FromFn.{length-enumerate_from}
use Rattle.rt_image.specs.SystemFile.{SetTask, TaskSet}
use Rattle.rt_history.specs.declared.record.Attempt.{Attempt}
use Rattle.rt_history.specs.declared.record.Record.{Record}
use Rattle.rt_history.specs.declared.record.Record.TheVariants.{Idle, Busy}
use Rattle.rt_history.specs.declared.record.Entry.{Entry}
use Rattle.rt_history.specs.declared.record.Entry.TheVariants as entries
use Rattle.rt_history.specs.OwnPart.{own, TaskState, task_state}
use Rattle.rt_history.specs.Entries.{ticks_of, records_of, GoesOnBy}
use Rattle.rt_history.specs.Working.Bounded.{IsTakeable}
use Rattle.rt_history.proofs.OwnPartLaws.{own-idle, own-other, own-own}
use Rattle.rt_history.proofs.Steps.{length-legal}
use Rattle.rt_history.proofs.TakenLaws.{IsTaken, legal-taken}
use Rattle.rt_chart.specs.ChartText.{text_of, chart_text}
use Rattle.rt_drawing.specs.Drawing.{drawing_of, allowed_of}
use Rattle.rt_drawing.specs.Standing.{task_drawing}
use Rattle.rt_chart.specs.Standing.{chart_at}
use Rattle.rt_drawing.specs.Drawn.{drawn}
use Rattle.rt_drawing.proofs.MarkLaws.{drawing-more, finished-is}
use Rattle.rt_chart.proofs.PieceLemmas.{mapped-more}
use Rattle.rt_chart.proofs.SoundLemmas.{first_of, first_drawings}

-- ---- tasks

-- what is kept of task i, where these are excepted
abbrev kept_of : Window → List ℕ → ℕ → SetTask → List (ℕ × AttemptOutcome) → TaskDrawing
kept_of w except i s own = task_drawing w (allowed_of except i s) i s own

-- of tasks of which the first is task i
abbrev sketches : Window → List ℕ → List Record → ℕ → List SetTask → List TaskDrawing
sketches w except h i ss = map (λ n. kept_of w except n.0 n.1 (own n.0 h)) (enumerate_from i ss)

sketches-idle : (w : Window) (except : List ℕ) (t i n : ℕ) (h : List Record) (ss : List SetTask) → length h ≡ t → sketches w except (h ++ replicate n Idle) i ss ≡ sketches w except h i ss
sketches-idle w except t i n h [] len = refl
sketches-idle w except t i n h (s ∷ ss) len =
    let same : kept_of w except i s (own i (h ++ replicate n Idle)) ≡ kept_of w except i s (own i h) = ap (kept_of w except i s) (own-idle t i n h len) in
    let others = sketches-idle w except t (i + 1) n h ss len in
    rw (same, others) refl

sketches-behind : (w : Window) (except : List ℕ) (t i : ℕ) (h : List Record) (a : Attempt) (ss : List SetTask) → length h ≡ t → a.task < i → sketches w except (h ++ Busy a ∷ []) i ss ≡ sketches w except h i ss
sketches-behind w except t i h a [] len below = refl
sketches-behind w except t i h a (s ∷ ss) len below =
    let differs : (a.task == i) ≡ false = grind (arith, nat_tests) in
    let same : kept_of w except i s (own i (h ++ Busy a ∷ [])) ≡ kept_of w except i s (own i h) = ap (kept_of w except i s) (own-other t i h a len differs) in
    let others = sketches-behind w except t (i + 1) h a ss len (omega arith) in
    rw (same, others) refl

drawn-behind : (w : Window) (u : ℕ) (o : AttemptOutcome) (x : TaskDrawing) (xs : List TaskDrawing) (k : ℕ) (found : Option TaskDrawing)
    → option_map_or (λ y. slice_set (x ∷ xs) (suc k) (drawn w u o y)) found (x ∷ xs) ≡ x ∷ option_map_or (λ y. slice_set xs k (drawn w u o y)) found xs
drawn-behind w u o x xs k None = refl
drawn-behind w u o x xs k (Some y) = refl

-- the task of the record is k places behind the first of these, and its server can take it, or there is none
sketches-busy : (w : Window) (except : List ℕ) (t i k : ℕ) (h : List Record) (a : Attempt) (ss : List SetTask) → length h ≡ t → a.task ≡ i + k
    → ((x : TaskState) → slice_get (map (λ n. task_state t h n.0 n.1) (enumerate_from i ss)) k ≡ Some x → IsTakeable a.outcome x.serving.account)
    → sketches w except (h ++ Busy a ∷ []) i ss ≡ drawn_at w t a.outcome (sketches w except h i ss) k
sketches-busy w except t i zero h a [] len place takes = refl
sketches-busy w except t i (suc k) h a [] len place takes = refl
sketches-busy w except t i zero h a (s ∷ ss) len place takes =
    let hits : (a.task == i) ≡ true = grind (arith, nat_tests) in
    let first : kept_of w except i s (own i (h ++ Busy a ∷ [])) ≡ drawn w t a.outcome (kept_of w except i s (own i h)) =
    ap (kept_of w except i s) (own-own t i h a len hits) ∙ drawing-more w (allowed_of except i s) i s (own i h) t a.outcome (takes (task_state t h i s) refl) in
    let others = sketches-behind w except t (i + 1) h a ss len (omega arith) in
    rw (first, others) refl
sketches-busy w except t i (suc k) h a (s ∷ ss) len place takes =
    let differs : (a.task == i) ≡ false = grind (arith, nat_tests) in
    let same : kept_of w except i s (own i (h ++ Busy a ∷ [])) ≡ kept_of w except i s (own i h) = ap (kept_of w except i s) (own-other t i h a len differs) in
    let others = sketches-busy w except t (i + 1) k h a ss len (omega arith) takes in
    let xs = sketches w except h (i + 1) ss in
    ap (λ (x : TaskDrawing). x ∷ sketches w except (h ++ Busy a ∷ []) (i + 1) ss) same
    ∙ ap (λ (ys : List TaskDrawing). kept_of w except i s (own i h) ∷ ys) others
    ∙ sym (drawn-behind w t a.outcome (kept_of w except i s (own i h)) xs k (slice_get xs k))

-- ---- the picture

-- how a picture stands after any history of t ticks
abbrev standing : Window → Style → List ℕ → TaskSet → ℕ → List Record → ChartState
standing w style except set t h = record { window = w; style = style; tick = t; tasks = sketches w except h 0 set.tasks }

standing-more : (w : Window) (style : Style) (except : List ℕ) (set : TaskSet) (t : ℕ) (h : List Record) (e : Entry) → length h ≡ t → IsTaken set t h e
    → standing w style except set (t + ticks_of e) (h ++ records_of e) ≡ added e (standing w style except set t h)
standing-more w style except set t h (entries.Busy u a) len takes = rw (sketches-busy w except t 0 a.task h a set.tasks len (omega arith) takes) refl
standing-more w style except set t h (entries.Idle u n) len takes = rw (sketches-idle w except t 0 n h set.tasks len) refl

pub chart_next : (w : Window) (style : Style) (except : List ℕ) (set : TaskSet) (t : ℕ) (e : Entry) → GoesOnBy set t e → chart_at w style except set (t + ticks_of e) ≡ added e (chart_at w style except set t)
unfolding chart_at
chart_next w style except set t e goes = ap (standing w style except set (t + ticks_of e)) goes ∙ standing-more w style except set t (legal set t) e (length-legal set t) (legal-taken set t e goes)

-- ---- at first

sketches-first : (w : Window) (except : List ℕ) (i : ℕ) (ss : List SetTask) → sketches w except [] i ss ≡ first_drawings except i ss
sketches-first w except i [] = refl
sketches-first w except i (s ∷ ss) = ap (λ (xs : List TaskDrawing). first_of except i s ∷ xs) (sketches-first w except (i + 1) ss)

pub chart_first : (w : Window) (style : Style) (except : List ℕ) (set : TaskSet) (ss : List SetTask) → set.tasks ≡ ss
    → chart_at w style except set 0 ≡ record { window = w; style = style; tick = 0; tasks = first_drawings except 0 ss }
unfolding chart_at legal
chart_first w style except set ss same =
    ap (λ (xs : List TaskDrawing). record { window = w; style = style; tick = 0; tasks = xs })
    (sketches-first w except 0 set.tasks ∙ ap (first_drawings except 0) same)

-- ---- in the end

finished-of : (w : Window) (except : List ℕ) (h : List Record) (i : ℕ) (ss : List SetTask) → length h ≤ w.to
    → map (λ n. finished w n.0 n.1) (enumerate_from i (sketches w except h i ss)) ≡ map (λ n. drawing_of w (allowed_of except n.0 n.1) h n.0 n.1) (enumerate_from i ss)
finished-of w except h i [] within = refl
finished-of w except h i (s ∷ ss) within =
    let first = finished-is w (allowed_of except i s) h i s within in
    let others = finished-of w except h (i + 1) ss within in
    rw (first, others) refl

pub text_at : (w : Window) (style : Style) (except : List ℕ) (set : TaskSet)
    → text_of w style (all_finished w (chart_at w style except set w.to).tasks) ≡ chart_text w style except set (legal set w.to)
unfolding chart_at
text_at w style except set = ap (text_of w style) (finished-of w except (legal set w.to) 0 set.tasks (omega (arith, length-legal set w.to)))

-- ---- rows, one row more

pub rows_text-more : (l : Look) (w : Window) (n : ℕ) (xs : List TaskDrawing) (x : TaskDrawing) → n < length xs → x ≡ get_or xs n x
    → flat_map (row_text l) (all_finished w (take (n + 1) xs)) ≡ flat_map (row_text l) (all_finished w (take n xs)) ++ row_text l (finished w n x)
rows_text-more l w n xs x below here =
    let place : 0 + n ≡ n = omega arith in
    let one : flat_map (row_text l) (finished w n x ∷ []) ≡ row_text l (finished w n x) = flat_map-cons (row_text l) (finished w n x) [] ∙ append-nil (row_text l (finished w n x)) in
    ap (flat_map (row_text l)) (mapped-more (finished w) 0 n xs x below here ∙ ap (λ (k : ℕ). all_finished w (take n xs) ++ finished w k x ∷ []) place)
    ∙ flat_map-append (row_text l) (all_finished w (take n xs)) (finished w n x ∷ [])
    ∙ ap (λ (t : List ℕ). flat_map (row_text l) (all_finished w (take n xs)) ++ t) one

pub length-finished : (w : Window) (xs : List TaskDrawing) → length (all_finished w xs) ≡ length xs
length-finished w xs = length-map (enumerate_from 0 xs) (λ n. finished w n.0 n.1) ∙ length-enumerate_from 0 xs
