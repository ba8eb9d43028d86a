-- The task that is named: it is there, active, and of the least deadline, then number.
use Rattle.rt_history.proofs.Common.{◌≡◌, ℕ, zero, suc, List, [], ◌∷◌, map, slice_get, Option, Some, None, refl, sym, ap, ◌∙◌, TaskState}
use Rattle.std.proofs.Common.{IsSome}
use Rattle.std.specs.Option.{option_and_then, option_map}
use Rattle.rt_queue.specs.Keys.{key_at}
use Rattle.rt_queue.specs.Least.{IsLeast}
use Rattle.rt_queue.proofs.LeastLemmas.{IsLeast-of_least_from, least_from-is_least}
use Rattle.rt_history.specs.declared.mode.Mode.{Mode}
use Rattle.rt_history.specs.declared.mode.Mode.TheVariants.{Active, Asleep, Ended, Faulted}
use Rattle.rt_history.specs.Named.{deadline_in, deadline, named, named_task}

-- a mode that has a deadline is active
pub deadline_in-some : (m : Mode) (d e : ℕ) → deadline_in m d ≡ Some e → (m ≡ Active) × (d ≡ e)
deadline_in-some Active d e h = (refl, cc)
deadline_in-some (Asleep w) d e h = absurd cc
deadline_in-some Ended d e h = absurd cc
deadline_in-some (Faulted fault) d e h = absurd cc

pub key-found : (f : TaskState → Option ℕ) (tasks : List TaskState) (i : ℕ) (x : TaskState) → slice_get tasks i ≡ Some x → key_at (map f tasks) i ≡ f x
key-found f [] i x there = absurd cc
key-found f (s ∷ tasks) zero x there = let same : s ≡ x = cc in ap f same
key-found f (s ∷ tasks) (suc i) x there = key-found f tasks i x there

pub key-none : (tasks : List TaskState) (i : ℕ) → slice_get tasks i ≡ None → key_at (map deadline tasks) i ≡ None
key-none [] i there = refl
key-none (s ∷ tasks) zero there = absurd cc
key-none (s ∷ tasks) (suc i) there = key-none tasks i there

-- x is task i, and the one that is named
pub record IsNamed (tasks : List TaskState) (i : ℕ) (x : TaskState) : Type 0 where
  pub there : slice_get tasks i ≡ Some x
  pub active : x.serving.mode ≡ Active
  pub name : named tasks ≡ Some (x.serving.account.d, i)
  pub task : named_task tasks ≡ Some (i, x)

-- the least deadline with its number is that of the named task
pub named_by : (tasks : List TaskState) (least : ℕ × ℕ) (x : TaskState) → named tasks ≡ Some least → slice_get tasks least.1 ≡ Some x → IsNamed tasks least.1 x
named_by tasks least x is there =
    let first : IsLeast (map deadline tasks) (Some least) = IsLeast-of_least_from (map deadline tasks) (Some least) (sym is) in
    let key = deadline_in-some x.serving.mode x.serving.account.d least.0 (sym (key-found deadline tasks least.1 x there) ∙ first.0) in
    record {
      there = there;
      active = key.0;
      name = is ∙ rw (← key.1) refl;
      task = rw (is, there) refl;
    }

named_there : (tasks : List TaskState) (least : ℕ × ℕ) → named tasks ≡ Some least → slice_get tasks least.1 ≡ None → ⊥
named_there tasks least is there =
    let first : IsLeast (map deadline tasks) (Some least) = IsLeast-of_least_from (map deadline tasks) (Some least) (sym is) in
    let none = key-none tasks least.1 there in
    cc (first.0)

-- none is named, or one is
pub named_cases : (P : Option (ℕ × TaskState) → Type 0) (tasks : List TaskState) → (named tasks ≡ None → P None)
    → ((i : ℕ) (x : TaskState) → IsNamed tasks i x → P (Some (i, x))) → P (named_task tasks)
named_cases P tasks none some = by_name (named tasks) refl
  where
    by_task : (least : ℕ × ℕ) (found : Option TaskState) → named tasks ≡ Some least → slice_get tasks least.1 ≡ found
        → P (option_map (λ s. (least.1, s)) found)
    by_task least None is there = absurd (named_there tasks least is there)
    by_task least (Some x) is there = some least.1 x (named_by tasks least x is there)

    by_name : (r : Option (ℕ × ℕ)) → named tasks ≡ r → P (option_and_then (λ least. option_map (λ s. (least.1, s)) (slice_get tasks least.1)) r)
    by_name None is = none is
    by_name (Some least) is = by_task least (slice_get tasks least.1) is refl

pub none_named : (tasks : List TaskState) → named tasks ≡ None → named_task tasks ≡ None
none_named tasks is = ap (option_and_then (λ least. option_map (λ s. (least.1, s)) (slice_get tasks least.1))) is

-- by what a queue answers
pub named_is_least : (tasks : List TaskState) (least : ℕ × ℕ) (x : TaskState) → IsLeast (map deadline tasks) (Some least) → slice_get tasks least.1 ≡ Some x
    → IsNamed tasks least.1 x
named_is_least tasks least x first there = named_by tasks least x (sym (least_from-is_least (map deadline tasks) (Some least) first)) there

pub none_is_least : (tasks : List TaskState) → IsLeast (map deadline tasks) None → named tasks ≡ None
none_is_least tasks none = sym (least_from-is_least (map deadline tasks) None none)

pub none_some : (r : Option (ℕ × ℕ)) → r ≡ None → IsSome r → ⊥
none_some None is some = cc
none_some (Some e) is some = cc
