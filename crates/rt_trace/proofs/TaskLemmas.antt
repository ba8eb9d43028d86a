-- The text of tasks, one after the other.
use Rattle.rt_trace.proofs.Common.{◌≡◌, ℕ, zero, suc, ◌+◌, ◌<◌, List, [], ◌∷◌, ◌++◌, length, take, append_assoc, refl, sym, ap, ◌∙◌, arith, append-nil, task_text}
use Rattle.std.proofs.Common.{slice_get, Option, Some, None, IsSome, add-zero}
use Rattle.std.specs.List.{flat_map, enumerate_from}
use Rattle.std.specs.Option.{option_map}
use Rattle.rt_history.specs.OwnPart.{TaskState}
use Rattle.rt_core.specs.View.{TaskView, shown}
use Rattle.rt_trace.specs.RunText.{tasks_text}
use Rattle.rt_trace.specs.declared.telling.Telling.{Telling}

-- tasks of which the first is task i
abbrev texts_from : Telling → ℕ → List TaskState → List ℕ
texts_from telling i xs = flat_map (λ n. task_text telling n.0 (shown n.1) n.1.program.output) (enumerate_from i xs)

texts_from-more : (telling : Telling) (i n : ℕ) (xs : List TaskState) (v : TaskView) (output : List ℕ)
    → Some v ≡ option_map shown (slice_get xs n) → Some output ≡ option_map (λ s. s.program.output) (slice_get xs n)
    → texts_from telling i (take (suc n) xs) ≡ texts_from telling i (take n xs) ++ task_text telling (i + n) v output
texts_from-more telling i zero [] v output view out = absurd cc
texts_from-more telling i (suc n) [] v output view out = absurd cc
texts_from-more telling i zero (s ∷ ss) v output view out =
    let shown_is : v ≡ shown s = cc in
    let output_is : output ≡ s.program.output = cc in
    rw (add-zero, shown_is, output_is) (append-nil (task_text telling i (shown s) s.program.output))
texts_from-more telling i (suc n) (s ∷ ss) v output view out =
    let at : (i + 1) + n ≡ i + suc n = omega arith in
    ap (λ (x : List ℕ). task_text telling i (shown s) s.program.output ++ x)
    (texts_from-more telling (i + 1) n ss v output view out ∙ ap (λ (j : ℕ). texts_from telling (i + 1) (take n ss) ++ task_text telling j v output) at)
    ∙ sym (append_assoc (task_text telling i (shown s) s.program.output) (texts_from telling (i + 1) (take n ss)) (task_text telling (i + suc n) v output))

-- one task more: its view and its output are those of task n
pub tasks_text-more : (telling : Telling) (n : ℕ) (xs : List TaskState) (v : TaskView) (output : List ℕ)
    → Some v ≡ option_map shown (slice_get xs n) → Some output ≡ option_map (λ s. s.program.output) (slice_get xs n)
    → tasks_text telling (take (n + 1) xs) ≡ tasks_text telling (take n xs) ++ task_text telling n v output
tasks_text-more telling n xs v output view out =
    let next : n + 1 ≡ suc n = omega arith in
    let index : 0 + n ≡ n = omega arith in
    ap (λ (k : ℕ). tasks_text telling (take k xs)) next ∙ texts_from-more telling 0 n xs v output view out
    ∙ ap (λ (k : ℕ). tasks_text telling (take n xs) ++ task_text telling k v output) index

-- what is shown of a task that is there
pub some_shown : {V W X : Type 0} (g : V → X) (f : W → X) (r : Option V) (xs : List W) (n : ℕ) → n < length xs → option_map g r ≡ option_map f (slice_get xs n) → IsSome r
some_shown g f r [] n below same = absurd (omega arith)
some_shown g f None (s ∷ ss) zero below same = absurd cc
some_shown g f (Some v) (s ∷ ss) zero below same = refl
some_shown g f r (s ∷ ss) (suc n) below same = some_shown g f r ss n (omega arith) same
