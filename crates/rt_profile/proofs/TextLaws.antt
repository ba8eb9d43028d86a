-- The text of what a profile keeps is the text of the history.
use Rattle.rt_profile.proofs.Common.{◌≡◌, cond, ◌-◌, ℕ, zero, suc, ◌+◌, ◌<◌, ◌≤◌, nat_le, List, [], ◌∷◌, ◌++◌, length, map, replicate, slice_index, slice_get, Option, Some, None, refl, sym, ap, subst, ◌∙◌, arith, flat_map, option_map_or, length-replicate, flat_map-cons, count_by-le-length, base, tick_limit, Label, SetTask, TaskSet, Attempt, Record, Idle, Busy, legal, is_idle, idle_ticks, attempts, part, namer, PartRow, placed_all, pcs, ticks_at, ticks_in, row_at, firsts, row_text, need_text, TaskCounts, no_ticks, word_at, word_count, kept_costs, executed_from, executed, kept_at, kept_row, kept_lines, kept_need_lines}
use Rattle.std.proofs.Common.{not, codes}
use Rattle.std.specs.List.{enumerate_from}
use Rattle.rt_report.specs.ReportText.{idle_text}
use Rattle.rt_profile.specs.RowsText.{header_text, task_lines, rows_text}
use Rattle.rt_profile.specs.CallgrindText.{callgrind_header, task_head, address_lines, cost_lines, is_empty, task_costs, task_text, busy_ticks, totals_line, callgrind_text}
use Rattle.rt_profile.specs.Needs.{brackets, need_row}
use Rattle.rt_profile.specs.NeedsText.{needs_header, need_lines, needs_text}
use Rattle.rt_profile.specs.ProfileText.{profile_text}
use Rattle.rt_profile.specs.declared.form.ProfileForm.{ProfileForm}
use Rattle.rt_profile.specs.declared.form.ProfileForm.TheVariants as forms
use Rattle.rt_profile.specs.Standing.{counts_from, profile_at}
use Rattle.rt_profile.specs.Counted.{most_of, counts_of}
use Rattle.rt_profile.specs.Working.Told.{kept_callgrind, kept_form, at_place, part_with, kept_text}
use Rattle.rt_profile.specs.Working.NeedsTold.{kept_needs_text}
use Rattle.rt_history.proofs.Steps.{length-legal}
use Rattle.rt_profile.proofs.PartLemmas.{count-cons}
use Rattle.rt_profile.proofs.StandingLaws.{first_of}
use Rattle.rt_profile.proofs.ShapeLaws.{IsShaped, shaped}
use Rattle.rt_profile.proofs.CountLaws.{all-labels, executed-all, kept-all}
use Rattle.rt_profile.proofs.MostLaws.{ticks-first, most-first}
use Rattle.rt_profile.proofs.NeedLaws.{needs_after, needs-are, AreSmall, small-needs, length-attempts, needs-all}
use Rattle.rt_profile.proofs.NeedRowLaws.{rows-are as need_rows-are}
use Rattle.rt_profile.proofs.TextLemmas.{lines_by, costs_by, needs_by}

-- ---- at first

none-executed : (a n : ℕ) → executed_from a (replicate n 0) ≡ []
none-executed a zero = refl
none-executed a (suc n) = none-executed (a + 4) n

zero-index : (n w : ℕ) → slice_index (replicate n 0) w ≡ 0
zero-index zero w = refl
zero-index (suc n) zero = refl
zero-index (suc n) (suc w) = zero-index n w

none-kept : (n a : ℕ) (place : Option ℕ) → at_place (replicate n 0) None place a ≡ 0
none-kept n a None = refl
none-kept n a (Some w) = zero-index n w

-- ---- one task

shape-of : (s : SetTask) (rs : List Attempt) → IsShaped (word_count s) rs → IsShaped (length (first_of s).words) rs
shape-of s rs shape = subst (λ (n : ℕ). IsShaped n rs) (sym (length-replicate (word_count s) 0)) shape

labels-are : (s : SetTask) (rs : List Attempt) → (counts_of s rs).labels ≡ s.object.labels
labels-are s rs = all-labels (first_of s) rs

executed-are : (s : SetTask) (rs : List Attempt) → IsShaped (word_count s) rs → executed (counts_of s rs) ≡ pcs rs
executed-are s rs shape =
    executed-all (first_of s) rs refl (shape-of s rs shape) ∙ ap (λ (bs : List ℕ). placed_all bs rs) (none-executed base (word_count s))

kept-are : (s : SetTask) (rs : List Attempt) (a : ℕ) → IsShaped (word_count s) rs → kept_at (counts_of s rs) a ≡ ticks_at rs a
kept-are s rs a shape =
    omega (arith, kept-all (first_of s) rs a refl (shape-of s rs shape), none-kept (word_count s) a (word_at (length (first_of s).words) a))

entered-are : (f g : ℕ → ℕ) (o : Option Label) → ((a : ℕ) → f a ≡ g a) → option_map_or (λ l. f l.address) o 0 ≡ option_map_or (λ l. g l.address) o 0
entered-are f g None same = refl
entered-are f g (Some l) same = same l.address

below-parts : (s : SetTask) (a : ℕ) → part s.object.labels a < length (first_of s).parts
below-parts s a =
    omega (arith, count_by-le-length (λ (l : Label). nat_le l.address a) s.object.labels, length-replicate (length s.object.labels + 1) no_ticks)

-- a row by its symbol, its ticks, and so on
abbrev made : ℕ → Option Label → ℕ → ℕ → ℕ → PartRow
made i symbol ticks entered most = record { task = i; symbol = symbol; ticks = ticks; entered = entered; most = most }

-- the row of an address, the parts being cut by these symbols
abbrev row_by : ℕ → TaskCounts → ℕ → List Label → PartRow
row_by i x a ls =
    made i (namer ls a) (part_with x.parts (part ls a)).ticks (option_map_or (λ l. kept_at x l.address) (namer ls a) 0) (most_of (part_with x.parts (part ls a)))

row-are : (i : ℕ) (s : SetTask) (rs : List Attempt) (a : ℕ) → IsShaped (word_count s) rs → kept_row i (counts_of s rs) a ≡ row_at i s.object.labels rs a
row-are i s rs a shape =
    let ls = s.object.labels in
    let x = counts_of s rs in
    let k = part ls a in
    let n = length ls + 1 in
    let entered = entered-are (kept_at x) (ticks_at rs) (namer ls a) (λ b. kept-are s rs b shape) in
    ap (row_by i x a) (labels-are s rs)
    ∙ ap (λ (t : ℕ). made i (namer ls a) t (option_map_or (λ l. kept_at x l.address) (namer ls a) 0) (most_of (part_with x.parts k))) (ticks-first (first_of s) n k rs refl (below-parts s a))
    ∙ ap (λ (t : ℕ). made i (namer ls a) (ticks_in ls k rs) t (most_of (part_with x.parts k))) entered
    ∙ ap (λ (t : ℕ). made i (namer ls a) (ticks_in ls k rs) (option_map_or (λ l. ticks_at rs l.address) (namer ls a) 0) t) (most-first (first_of s) n k rs refl refl (below-parts s a))

rows-are : (f g : ℕ → PartRow) (bs : List ℕ) → ((a : ℕ) → f a ≡ g a) → map f bs ≡ map g bs
rows-are f g [] same = refl
rows-are f g (b ∷ bs) same = ap (λ (r : PartRow). r ∷ map f bs) (same b) ∙ ap (λ (rs : List PartRow). g b ∷ rs) (rows-are f g bs same)

lines-are : (i : ℕ) (s : SetTask) (h : List Record) → IsShaped (word_count s) (attempts i h) → kept_lines i (counts_of s (attempts i h)) ≡ task_lines i s h
lines-are i s h shape =
    let rs = attempts i h in
    let x = counts_of s rs in
    let ls = s.object.labels in
    ap (λ (qs : List Label). flat_map row_text (map (kept_row i x) (firsts qs None (executed x)))) (labels-are s rs)
    ∙ ap (λ (bs : List ℕ). flat_map row_text (map (kept_row i x) (firsts ls None bs))) (executed-are s rs shape)
    ∙ ap (flat_map row_text) (rows-are (kept_row i x) (row_at i ls rs) (firsts ls None (pcs rs)) (λ a. row-are i s rs a shape))

-- lines of the same ticks
costs-same : (ls : List Label) (f g : ℕ → ℕ) (before : Option ℕ) (bs : List ℕ) → ((a : ℕ) → f a ≡ g a) → cost_lines ls f before bs ≡ cost_lines ls g before bs
costs-same ls f g before [] same = refl
costs-same ls f g before (a ∷ bs) same =
    ap (λ (n : ℕ). address_lines ls before a n ++ cost_lines ls f (Some (part ls a)) bs) (same a)
    ∙ ap (λ (t : List ℕ). address_lines ls before a (g a) ++ t) (costs-same ls f g (Some (part ls a)) bs same)

costs-are : (i : ℕ) (s : SetTask) (h : List Record) → IsShaped (word_count s) (attempts i h) → kept_costs i (counts_of s (attempts i h)) ≡ task_text i s h
costs-are i s h shape =
    let rs = attempts i h in
    let x = counts_of s rs in
    let ls = s.object.labels in
    ap (λ (qs : List Label). task_costs i qs (kept_at x) (executed x)) (labels-are s rs) ∙ ap (task_costs i ls (kept_at x)) (executed-are s rs shape)
    ∙ ap (λ (t : List ℕ). cond (is_empty (pcs rs)) [] (task_head i ++ t ++ codes "\n")) (costs-same ls (kept_at x) (ticks_at rs) None (pcs rs) (λ a. kept-are s rs a shape))

-- ---- all tasks

all-texts : (f : ℕ × TaskCounts → List ℕ) (g : ℕ × SetTask → List ℕ) (i : ℕ) (h : List Record) (ss : List SetTask)
    → ((j : ℕ) (s : SetTask) → IsShaped (word_count s) (attempts j h) → f (j, counts_of s (attempts j h)) ≡ g (j, s))
    → ((k : ℕ) (s : SetTask) → slice_get ss k ≡ Some s → IsShaped (word_count s) (attempts (i + k) h))
    → flat_map f (enumerate_from i (counts_from h i ss)) ≡ flat_map g (enumerate_from i ss)
all-texts f g i h [] same shape = refl
all-texts f g i h (s ∷ ss) same shape =
    let none : i + 0 ≡ i = omega arith in
    let mine : IsShaped (word_count s) (attempts i h) = subst (λ (k : ℕ). IsShaped (word_count s) (attempts k h)) none (shape 0 s refl) in
    let others = all-texts f g (i + 1) h ss same (λ k t there. subst (λ (j : ℕ). IsShaped (word_count t) (attempts j h)) (omega arith) (shape (suc k) t there)) in
    flat_map-cons f (i, counts_of s (attempts i h)) (enumerate_from (i + 1) (counts_from h (i + 1) ss))
    ∙ ap (λ (t : List ℕ). t ++ flat_map f (enumerate_from (i + 1) (counts_from h (i + 1) ss))) (same i s mine)
    ∙ ap (λ (t : List ℕ). g (i, s) ++ t) others
    ∙ sym (flat_map-cons g (i, s) (enumerate_from (i + 1) ss))

abbrev rows_by : List Record → ℕ × SetTask → List ℕ
rows_by h n = task_lines n.0 n.1 h

abbrev texts_by : List Record → ℕ × SetTask → List ℕ
texts_by h n = task_text n.0 n.1 h

shapes : (set : TaskSet) (t k : ℕ) (s : SetTask) → slice_get set.tasks k ≡ Some s → IsShaped (word_count s) (attempts (0 + k) (legal set t))
shapes set t k s there = subst (λ (j : ℕ). IsShaped (word_count s) (attempts j (legal set t))) (omega arith) (shaped set t k s there)

busy-cons : (r : Record) (h : List Record) → busy_ticks h + idle_ticks h ≡ length h → busy_ticks (r ∷ h) + idle_ticks (r ∷ h) ≡ suc (length h)
busy-cons Idle h is = omega (arith, is, count-cons (λ r. not (is_idle r)) Idle h, count-cons is_idle Idle h)
busy-cons (Busy a) h is = omega (arith, is, count-cons (λ r. not (is_idle r)) (Busy a) h, count-cons is_idle (Busy a) h)

busy-all : (h : List Record) → busy_ticks h + idle_ticks h ≡ length h
busy-all [] = refl
busy-all (r ∷ h) = busy-cons r h (busy-all h)

busy-is : (set : TaskSet) (t : ℕ) → t - idle_ticks (legal set t) ≡ busy_ticks (legal set t)
busy-is set t = omega (arith, busy-all (legal set t), length-legal set t)

rows-told : (set : TaskSet) (t : ℕ) → kept_text (profile_at set t).idle (profile_at set t).tasks ≡ rows_text set (legal set t)
unfolding profile_at
rows-told set t =
    let h = legal set t in
    ap (λ (lines : List ℕ). header_text ++ lines ++ idle_text (idle_ticks h)) (all-texts lines_by (rows_by h) 0 h set.tasks (λ j s shape. lines-are j s h shape) (shapes set t))

costs-told : (set : TaskSet) (t : ℕ) → kept_callgrind ((profile_at set t).tick - (profile_at set t).idle) (profile_at set t).tasks ≡ callgrind_text set (legal set t)
unfolding profile_at
costs-told set t =
    let h = legal set t in
    ap (λ (n : ℕ). kept_callgrind n (counts_from h 0 set.tasks)) (busy-is set t)
    ∙ ap (λ (lines : List ℕ). callgrind_header ++ lines ++ totals_line (busy_ticks h)) (all-texts costs_by (texts_by h) 0 h set.tasks (λ j s shape. costs-are j s h shape) (shapes set t))

pub tick-at : (set : TaskSet) (t : ℕ) → (profile_at set t).tick ≡ t
unfolding profile_at
tick-at set t = refl

-- the needs of a task
needs-same : (i : ℕ) (s : SetTask) (h : List Record) → length h ≤ tick_limit → kept_need_lines i (counts_of s (attempts i h)).needs ≡ need_lines i s h
needs-same i s h few =
    let rs = attempts i h in
    let vs = needs_after 0 rs in
    let small : AreSmall vs = small-needs 0 rs (omega (arith, length-attempts i h, few)) in
    ap (flat_map need_text) (need_rows-are i (counts_of s rs).needs.counts vs (needs-all (first_of s) rs) small)
    ∙ ap (λ (us : List ℕ). flat_map need_text (map (need_row i us) (brackets us))) (sym (needs-are i s h))

all-needs : (i : ℕ) (h : List Record) (ss : List SetTask) → length h ≤ tick_limit
    → flat_map needs_by (enumerate_from i (counts_from h i ss)) ≡ flat_map (λ n. need_lines n.0 n.1 h) (enumerate_from i ss)
all-needs i h [] few = refl
all-needs i h (s ∷ ss) few =
    let told : ℕ × SetTask → List ℕ = λ n. need_lines n.0 n.1 h in
    flat_map-cons needs_by (i, counts_of s (attempts i h)) (enumerate_from (i + 1) (counts_from h (i + 1) ss))
    ∙ ap (λ (t : List ℕ). t ++ flat_map needs_by (enumerate_from (i + 1) (counts_from h (i + 1) ss))) (needs-same i s h few)
    ∙ ap (λ (t : List ℕ). need_lines i s h ++ t) (all-needs (i + 1) h ss few)
    ∙ sym (flat_map-cons told (i, s) (enumerate_from (i + 1) ss))

needs-told : (set : TaskSet) (t : ℕ) → t ≤ tick_limit → kept_needs_text (profile_at set t).tasks ≡ needs_text set (legal set t)
unfolding profile_at
needs-told set t limit =
    let h = legal set t in
    ap (λ (lines : List ℕ). needs_header ++ lines) (all-needs 0 h set.tasks (omega (arith, limit, length-legal set t)))

-- a profile that stands so tells the text of the history
pub text-is : (form : ProfileForm) (set : TaskSet) (t : ℕ) → t ≤ tick_limit → kept_form form (profile_at set t) ≡ profile_text form set (legal set t)
text-is forms.Rows set t limit = rows-told set t
text-is forms.Needs set t limit = needs-told set t limit
text-is forms.Callgrind set t limit = costs-told set t
