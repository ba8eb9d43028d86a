-- Symbols that are put in order, and what a file's system and object give.
use Rattle.std.proofs.Common.{◌≡◌, inl, inr, ℕ, zero, suc, ◌+◌, ◌<◌, ◌≤◌, ◌==◌, nat_lt, Bool, true, false, cond, List, [], ◌∷◌, length, get_or, All, refl, sym, ap, ◌∙◌, subst, arith}
use Rattle.std.specs.Cmp.Lexicographic.{slice_cmp}
use Rattle.std.specs.List.Sorted.{IsSortedBy}
use Rattle.std.specs.Ordering.{nat_cmp, is_lt, ordering_then}
use Rattle.std.specs.declared.cmp.Ordering.{Ordering}
use Rattle.std.proofs.lemmas.Bool.{cases_lt}
use Rattle.std.proofs.lemmas.Bool.Decides.{nat_tests}
use Rattle.std.proofs.lemmas.List.Elements.{All-cons, All-head, All-tail}
use Rattle.rt_words.specs.Limits.{line_limit}
use Rattle.rt_image.specs.declared.object.Symbol.{Symbol}
use Rattle.rt_image.specs.declared.system.Task.{Task}
use Rattle.rt_image.specs.declared.system.Version.{Version}
use Rattle.rt_image.specs.ObjectFile.{Label, IsObject, object_value, label, labels}
use Rattle.rt_image.specs.SystemFile.{set_task, set_tasks, AreTasks}
use Rattle.rt_names.proofs.ShortLemmas.{IsShort}
use Rattle.rt_show.specs.ObjectShown.{stands_before}

-- ---- symbols that are put in order

-- a lower address stands before, and at one address the name decides
key_order : (a b : ℕ) (names : Ordering) → is_lt (ordering_then (nat_cmp a b) names) ≡ cond (a == b) (is_lt names) (nat_lt a b)
key_order a b names =
    elim (cases_lt a b) [
      | inl less ↦
          let below : nat_lt a b ≡ true = grind (arith, nat_tests, less) in
          let apart : (a == b) ≡ false = grind (arith, nat_tests, less) in
          rw (below, apart) refl
      | inr above ↦
          elim (cases_lt b a) [
            | inl less ↦
                let below : nat_lt a b ≡ false = grind (arith, nat_tests, less) in
                let apart : (a == b) ≡ false = grind (arith, nat_tests, less) in
                rw (below, apart) refl
            | inr other ↦
                let is : a ≡ b = omega (arith, above, other) in
                let below : nat_lt a b ≡ false = grind (arith, nat_tests, is) in
                let same : (a == b) ≡ true = grind (arith, nat_tests, is) in
                rw (below, same) refl
          ]
    ]

abbrev by_key : Symbol → Symbol → Bool
by_key x y = is_lt (ordering_then (nat_cmp x.address y.address) (slice_cmp nat_cmp x.name.now y.name.now))

abbrev Rises : List Symbol → Type 0
Rises ss = (k : ℕ) (d : Symbol) → suc k < length ss → by_key (get_or ss (suc k) d) (get_or ss k d) ≡ false

rising_labels : (ss : List Symbol) → Rises ss → (k : ℕ) (d : Label) → suc k < length (labels ss) → stands_before (get_or (labels ss) (suc k) d) (get_or (labels ss) k d) ≡ false
rising_labels [] rises k d below = absurd (omega (arith, below))
rising_labels (s ∷ []) rises k d below = absurd (omega (arith, below))
rising_labels (s ∷ t ∷ ss) rises zero d below =
    sym (key_order t.address s.address (slice_cmp nat_cmp t.name.now s.name.now)) ∙ rises zero s (omega arith)
rising_labels (s ∷ t ∷ ss) rises (suc k) d below = rising_labels (t ∷ ss) (λ j e low. rises (suc j) e (omega (arith, low))) k d (omega (arith, below))

pub sorted-labels : (ss : List Symbol) → IsSortedBy by_key ss → IsSortedBy stands_before (labels ss)
sorted-labels ss sorted k d low below =
    let next : k + 1 ≡ suc k = omega arith in
    let rises : Rises ss = λ j e less.
    let step : j + 1 ≡ suc j = omega arith in
    subst (λ (m : ℕ). by_key (get_or ss m e) (get_or ss j e) ≡ false) step (sorted j e (omega arith) (omega (arith, less))) in
    subst (λ (m : ℕ). stands_before (get_or (labels ss) m d) (get_or (labels ss) k d) ≡ false) (sym next) (rising_labels ss rises k d (omega (arith, below)))

-- ---- what a file's system and object give

-- each task's object has a spelling
image_fits : (version : Version) (ts : List Task) → AreTasks version (set_tasks ts) → (k : ℕ) (d : Task) → k < length ts → IsObject (object_value (get_or ts k d).object)
image_fits version [] fit k d below = absurd (omega (arith, below))
image_fits version (t ∷ ts) fit zero d below = fit.0.object_fits
image_fits version (t ∷ ts) fit (suc k) d below = image_fits version ts fit.1 k d (omega (arith, below))

pub images-fit : (version : Version) (ts : List Task) → AreTasks version (set_tasks ts) → All (λ (t : Task). IsObject (object_value t.object)) ts
images-fit version ts fit = λ k d below. image_fits version ts fit k d below

-- each symbol has a short name
pub short-symbols : (ss : List Symbol) → All IsShort (labels ss) → All (λ (s : Symbol). length s.name.now ≤ line_limit) ss
short-symbols [] short = λ k d below. absurd (omega (arith, below))
short-symbols (s ∷ ss) short =
    All-cons (λ (t : Symbol). length t.name.now ≤ line_limit) s ss (All-head IsShort (label s) (labels ss) short) (short-symbols ss (All-tail IsShort (label s) (labels ss) short))
