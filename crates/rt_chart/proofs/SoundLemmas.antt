-- What holds of what is kept of each task stays so over an entry.
use Rattle.rt_chart.proofs.Common.{◌≡◌, ℕ, zero, suc, ◌+◌, ◌<◌, ◌≤◌, List, [], ◌∷◌, ◌++◌, length, map, take, get_or, All, slice_get, slice_set, Option, Some, None, refl, sym, ap, subst, ◌∙◌, arith, enumerate_from, option_map_or, length-map, AttemptOutcome, Style, Window, TaskDrawing, drawn_at}
use Rattle.std.proofs.Common.{zero-add}
use Rattle.std.proofs.lemmas.List.{length-set}
use Rattle.std.proofs.lemmas.List.Elements.{All-cons, All-head, All-tail, All-set, All-get_or}
use Rattle.std.proofs.lemmas.List.FromFn.{length-enumerate_from}
use Rattle.std.proofs.lemmas.Option.{slice_get_read}
use Rattle.rt_words.specs.Limits.{tick_limit}
use Rattle.rt_admit.specs.Admission.{IsEligible, IsRunnable}
use Rattle.rt_admit.specs.Limits.{hyper_limit}
use Rattle.rt_image.specs.declared.system.Task.{Task}
use Rattle.rt_image.specs.SystemFile.{SetTask, set_task, set_tasks}
use Rattle.rt_history.specs.Admitted.{params_in, task_params}
use Rattle.rt_drawing.proofs.SoundLemmas.{IsSound-later, first_sound}
use Rattle.rt_chart.proofs.PieceLemmas.{mapped-more}
use Rattle.rt_drawing.specs.Drawing.{allowed_of}
use Rattle.rt_drawing.specs.Drawn.{drawn, first_drawing, IsSound}
use Rattle.rt_chart.specs.Working.Drawn.{IsSoundChart}

All-later : (t u : ℕ) (xs : List TaskDrawing) → t ≤ u → All (IsSound t) xs → All (IsSound u) xs
All-later t u xs le all = λ k d below. IsSound-later t u (get_or xs k d) le (all k d below)

pub sound_at : (t i : ℕ) (xs : List TaskDrawing) (x : TaskDrawing) → i < length xs → x ≡ get_or xs i x → All (IsSound t) xs → IsSound t x
sound_at t i xs x below here all = subst (IsSound t) (sym here) (All-get_or (IsSound t) xs i x below all)

pub sound_more : (w : Window) (style : Style) (t i : ℕ) (xs : List TaskDrawing) (y : TaskDrawing) → IsSoundChart (record { window = w; style = style; tick = t; tasks = xs }) → t < tick_limit → i < length xs
    → IsSound (t + 1) y → IsSoundChart (record { window = w; style = style; tick = t + 1; tasks = slice_set xs i y })
sound_more w style t i xs y sound early below new = record {
  limit = omega arith;
  count = omega (arith, length-set xs i y, sound.count);
  tasks = All-set (IsSound (t + 1)) xs i y new (All-later t (t + 1) xs (omega arith) sound.tasks);
}

pub sound_set : (w : Window) (style : Style) (t n i : ℕ) (xs : List TaskDrawing) (y : TaskDrawing) → IsSoundChart (record { window = w; style = style; tick = t; tasks = xs }) → t + n ≤ tick_limit
    → IsSound (t + n) y → IsSoundChart (record { window = w; style = style; tick = t + n; tasks = slice_set xs i y })
sound_set w style t n i xs y sound within new = record {
  limit = within;
  count = omega (arith, length-set xs i y, sound.count);
  tasks = All-set (IsSound (t + n)) xs i y new (All-later t (t + n) xs (omega arith) sound.tasks);
}

pub sound_later : (w : Window) (style : Style) (t n : ℕ) (xs : List TaskDrawing) → IsSoundChart (record { window = w; style = style; tick = t; tasks = xs }) → t + n ≤ tick_limit
    → IsSoundChart (record { window = w; style = style; tick = t + n; tasks = xs })
sound_later w style t n xs sound within = record { limit = within; count = sound.count; tasks = All-later t (t + n) xs (omega arith) sound.tasks }

-- ---- at first

-- a task of an admitted set is eligible
pub eligible-of : (h i : ℕ) (ts : List Task) (x : Task) → All (IsEligible h) (task_params (set_tasks ts)) → i < length ts → x ≡ get_or ts i x → IsEligible h (params_in (set_task x))
eligible-of h i [] x all below here = absurd (omega arith)
eligible-of h zero (t ∷ ts) x all below here =
    subst (λ (z : Task). IsEligible h (params_in (set_task z))) (sym here) (All-head (IsEligible h) (params_in (set_task t)) (task_params (set_tasks ts)) all)
eligible-of h (suc i) (t ∷ ts) x all below here =
    eligible-of h i ts x (All-tail (IsEligible h) (params_in (set_task t)) (task_params (set_tasks ts)) all) (omega arith) here

-- what is kept of task i before its first record, where these are excepted
abbrev pub first_of : List ℕ → ℕ → SetTask → TaskDrawing
first_of except i s = first_drawing (allowed_of except i s) i s

-- and of the tasks of which the first is task i
abbrev pub first_drawings : List ℕ → ℕ → List SetTask → List TaskDrawing
first_drawings except i ss = map (λ n. first_of except n.0 n.1) (enumerate_from i ss)

pub length-first : (except : List ℕ) (i : ℕ) (ss : List SetTask) → length (first_drawings except i ss) ≡ length ss
length-first except i ss = length-map (enumerate_from i ss) (λ n. first_of except n.0 n.1) ∙ length-enumerate_from i ss

-- the same by the tasks of a system, and one task more
drawings-of : (except : List ℕ) (i : ℕ) (ts : List Task) → first_drawings except i (set_tasks ts) ≡ map (λ m. first_of except m.0 (set_task m.1)) (enumerate_from i ts)
drawings-of except i [] = refl
drawings-of except i (t ∷ ts) = ap (λ (xs : List TaskDrawing). first_of except i (set_task t) ∷ xs) (drawings-of except (i + 1) ts)

pub first-more : (except : List ℕ) (ts : List Task) (n : ℕ) (x : Task) → n < length ts → x ≡ get_or ts n x
    → first_drawings except 0 (set_tasks (take (n + 1) ts)) ≡ first_drawings except 0 (set_tasks (take n ts)) ++ first_of except n (set_task x) ∷ []
first-more except ts n x below here =
    drawings-of except 0 (take (n + 1) ts) ∙ mapped-more (λ (i : ℕ) (t : Task). first_of except i (set_task t)) 0 n ts x below here
    ∙ ap (λ (xs : List TaskDrawing). xs ++ first_of except (0 + n) (set_task x) ∷ []) (sym (drawings-of except 0 (take n ts)))
    ∙ ap (λ (k : ℕ). first_drawings except 0 (set_tasks (take n ts)) ++ first_of except k (set_task x) ∷ []) (zero-add n)

first_all : (except : List ℕ) (i : ℕ) (ss : List SetTask) (hyper : ℕ) → 1 ≤ hyper → hyper ≤ hyper_limit → All (IsEligible hyper) (task_params ss) → All (IsSound 0) (first_drawings except i ss)
first_all except i [] hyper some few eligible = λ k d below. absurd (omega arith)
first_all except i (s ∷ ss) hyper some few eligible =
    All-cons (IsSound 0) (first_of except i s) (first_drawings except (i + 1) ss)
    (first_sound (allowed_of except i s) i s hyper some few (All-head (IsEligible hyper) (params_in s) (task_params ss) eligible))
    (first_all except (i + 1) ss hyper some few (All-tail (IsEligible hyper) (params_in s) (task_params ss) eligible))

pub sound_first : (w : Window) (style : Style) (except : List ℕ) (hyper : ℕ) (ss : List SetTask) → IsRunnable hyper (task_params ss)
    → IsSoundChart (record { window = w; style = style; tick = 0; tasks = first_drawings except 0 ss })
sound_first w style except hyper ss admitted = record {
  limit = omega arith;
  count = omega (arith, length-first except 0 ss, length-map ss params_in, admitted.few);
  tasks = first_all except 0 ss hyper admitted.hyper_positive admitted.hyper_bounded admitted.eligible;
}

-- ---- a task by its number

pub drawn_at-is : (w : Window) (u i : ℕ) (o : AttemptOutcome) (xs : List TaskDrawing) (x : TaskDrawing) → i < length xs → x ≡ get_or xs i x
    → drawn_at w u o xs i ≡ slice_set xs i (drawn w u o x)
drawn_at-is w u i o xs x below here = rw (slice_get_read xs (length xs) i x refl below here) refl

pub count_kept : (w : Window) (u i : ℕ) (o : AttemptOutcome) (xs : List TaskDrawing) → length (drawn_at w u o xs i) ≡ length xs
count_kept w u i o xs = count (slice_get xs i)
  where
    count : (r : Option TaskDrawing) → length (option_map_or (λ x. slice_set xs i (drawn w u o x)) r xs) ≡ length xs
    count None = refl
    count (Some x) = length-set xs i (drawn w u o x)
