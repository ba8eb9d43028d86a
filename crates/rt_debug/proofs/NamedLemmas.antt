-- The one task that has a name, task by task.
use Rattle.std.proofs.Common.{◌≡◌, ◌↔◌, ℕ, ◌+◌, Bool, true, false, cond, ◌==◌, List, [], ◌∷◌, Option, Some, None, Result, Ok, Err, refl, sym, ap, ◌∙◌, arith}
use Rattle.std.specs.List.{count_by, position, position_from}
use Rattle.std.specs.Option.{option_map_or, is_some}
use Rattle.std.specs.Borrow.{Bor}
use Rattle.std.specs.Str.{bytes_eq}
use Rattle.std.proofs.lemmas.Bool.Decides.{nat_tests}
use Rattle.std.proofs.lemmas.List.Sums.{sum_by-cons}
use Rattle.std.proofs.lemmas.Iterator.Adapters.{position_from-zero}
use Rattle.rt_names.specs.declared.task_word.TaskFault.{TaskFault}
use Rattle.rt_names.specs.declared.task_word.TaskFault.TheVariants.{NoName, Several}
use Rattle.rt_names.specs.declared.task_word.TaskWord.TheVariants.{Name}
use Rattle.rt_names.specs.TaskWords.{having, task_of}
use Rattle.rt_debug.specs.Whose.{named}

more-than-none : (n : ℕ) → (1 + n == 0) ≡ false
more-than-none n = grind (arith, nat_tests)

one-more : (n : ℕ) → (1 + n == 1) ≡ (n == 0)
one-more n = grind (arith, nat_tests)

module _ {X : Type 0} (p : X → Bool) where
  -- of the elements from element i on, behind this one or none that passes
  abbrev pub lone : Option ℕ → ℕ → List X → Option ℕ
  lone found i [] = found
  lone None i (x ∷ xs) = cond (p x) (lone (Some i) (i + 1) xs) (lone None (i + 1) xs)
  lone (Some k) i (x ∷ xs) = cond (p x) None (lone (Some k) (i + 1) xs)

  pub lone-end : (found : Option ℕ) (i : ℕ) → lone found i [] ≡ found
  lone-end None i = refl
  lone-end (Some k) i = refl

  -- a second one passes
  pub lone-second : (found : Option ℕ) (i : ℕ) (x : X) (xs : List X) → is_some found ≡ true → p x ≡ true → lone found i (x ∷ xs) ≡ None
  lone-second None i x xs is passes = absurd cc
  lone-second (Some k) i x xs is passes = rw passes refl

  counts : (x : X) (xs : List X) → count_by p (x ∷ xs) ≡ cond (p x) (1 + count_by p xs) (count_by p xs)
  counts x xs = sum_by-cons (λ y. cond (p y) 1 0) x xs ∙ each (p x) (count_by p xs)
    where
      each : (b : Bool) (n : ℕ) → cond b 1 0 + n ≡ cond b (1 + n) n
      each true n = refl
      each false n = omega arith

  -- no other passes
  lone-behind : (k i : ℕ) (xs : List X) → lone (Some k) i xs ≡ cond (count_by p xs == 0) (Some k) None
  lone-behind k i [] = refl
  lone-behind k i (x ∷ xs) = rw (counts x xs) (by (p x) (lone-behind k (i + 1) xs))
    where
      by : (b : Bool) → lone (Some k) (i + 1) xs ≡ cond (count_by p xs == 0) (Some k) None → cond b None (lone (Some k) (i + 1) xs) ≡ cond (cond b (1 + count_by p xs) (count_by p xs) == 0) (Some k) None
      by true rest = ap (λ (b : Bool). cond b (Some k) None) (sym (more-than-none (count_by p xs)))
      by false rest = rest

  -- one alone passes
  pub lone-from : (i : ℕ) (xs : List X) → lone None i xs ≡ cond (count_by p xs == 1) (position_from p i xs) None
  lone-from i [] = refl
  lone-from i (x ∷ xs) = rw (counts x xs) (by (p x) (lone-from (i + 1) xs))
    where
      by : (b : Bool) → lone None (i + 1) xs ≡ cond (count_by p xs == 1) (position_from p (i + 1) xs) None
          → cond b (lone (Some i) (i + 1) xs) (lone None (i + 1) xs) ≡ cond (cond b (1 + count_by p xs) (count_by p xs) == 1) (cond b (Some i) (position_from p (i + 1) xs)) None
      by true rest = lone-behind i (i + 1) xs ∙ ap (λ (b : Bool). cond b (Some i) None) (sym (one-more (count_by p xs)))
      by false rest = rest

  pub lone-is : (xs : List X) → lone None 0 xs ≡ cond (count_by p xs == 1) (position p xs) None
  lone-is xs = lone-from 0 xs ∙ ap (λ (r : Option ℕ). cond (count_by p xs == 1) r None) (sym (position_from-zero p xs))

-- a name that means a task here is a word that means it
same_task : (one : Bool) (found : Option ℕ) (none several : TaskFault) (i : ℕ)
    → (cond one found None ≡ Some i) ↔ (option_map_or {U = Result ℕ TaskFault} (λ j. cond one (Ok j) (Err several)) found (Err none) ≡ Ok i)
same_task true (Some j) none several i = (λ e. cc, λ e. cc)
same_task true None none several i = (λ e. absurd cc, λ e. absurd cc)
same_task false (Some j) none several i = (λ e. absurd cc, λ e. absurd cc)
same_task false None none several i = (λ e. absurd cc, λ e. absurd cc)

pub same_word : (names : List (List ℕ)) (name : Bor (List ℕ)) (i : ℕ) → (named names name.now ≡ Some i) ↔ (task_of names (Name name) ≡ Ok i)
same_word names name i =
    same_task (having name.now names == 1) (position (λ n. bytes_eq n name.now) names) (NoName name) (Several name (having name.now names)) i
