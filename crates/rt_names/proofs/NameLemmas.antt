-- The names of tasks, one task more.
use Rattle.rt_names.proofs.Common.{◌≡◌, ℕ, ◌+◌, ◌<◌, ◌≤◌, List, [], ◌∷◌, ◌++◌, length, take, get_or, refl, sym, ap, ◌∙◌, arith, Task}
use Rattle.std.proofs.Common.{add-zero}
use Rattle.std.proofs.lemmas.List.{take_more, take_all, map-append, length-map, length-take}
use Rattle.rt_image.specs.SystemFile.{SetTask, set_task, set_tasks}
use Rattle.rt_names.specs.TaskName.{task_name}
use Rattle.rt_names.specs.TaskNames.{names_from}

names-behind : (i : ℕ) (ss : List SetTask) (s : SetTask) → names_from i (ss ++ s ∷ []) ≡ names_from i ss ++ task_name (i + length ss) s.object ∷ []
names-behind i [] s = rw add-zero refl
names-behind i (x ∷ ss) s =
    let at : (i + 1) + length ss ≡ i + length (x ∷ ss) = omega arith in
    ap (λ (ns : List (List ℕ)). task_name i x.object ∷ ns) (names-behind (i + 1) ss s)
    ∙ ap (λ (k : ℕ). task_name i x.object ∷ (names_from (i + 1) ss ++ task_name k s.object ∷ [])) at

-- of the first n of these tasks
abbrev pub first_names : ℕ → List Task → List (List ℕ)
first_names n ts = names_from 0 (set_tasks (take n ts))

pub names-more : (n : ℕ) (ts : List Task) (t : Task) → n < length ts → t ≡ get_or ts n t → first_names (n + 1) ts ≡ first_names n ts ++ task_name n (set_task t).object ∷ []
names-more n ts t less is =
    let more : set_tasks (take (n + 1) ts) ≡ set_tasks (take n ts) ++ set_task t ∷ [] =
    ap set_tasks (take_more ts n t less ∙ ap (λ (y : Task). take n ts ++ y ∷ []) (sym is)) ∙ map-append set_task (take n ts) (t ∷ [])
    in
    let count : 0 + length (set_tasks (take n ts)) ≡ n = omega (arith, length-map (take n ts) set_task, length-take n ts, less) in
    ap (names_from 0) more ∙ names-behind 0 (set_tasks (take n ts)) (set_task t)
    ∙ ap (λ (k : ℕ). first_names n ts ++ task_name k (set_task t).object ∷ []) count

pub names-all : (n : ℕ) (ts : List Task) → length ts ≤ n → first_names n ts ≡ names_from 0 (set_tasks ts)
names-all n ts late = ap (λ (xs : List Task). names_from 0 (set_tasks xs)) (take_all n ts late)
