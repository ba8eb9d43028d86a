-- What holds of each profile, at first and over a record.
use Rattle.rt_profile.proofs.Common.{◌≡◌, ℕ, zero, suc, ◌+◌, ◌<◌, ◌≤◌, Bool, true, false, cond, List, [], ◌∷◌, length, map, replicate, get_or, slice_get, slice_set, slice_index, Option, Some, None, refl, sym, subst, arith, option_map_or, length-map, tick_limit, SetTask, Attempt, ends_job, part, TaskCounts, no_ticks, word_at, with_place, with_pc, finished, counted, counted_at, bracket_count, bracket_number}
use Rattle.std.proofs.Common.{All}
use Rattle.std.proofs.lemmas.List.{length-set}
use Rattle.std.proofs.lemmas.List.Elements.{All-cons, All-head, All-tail, All-set, All-get_or}
use Rattle.std.proofs.lemmas.Option.{slice_get_read}
use Rattle.rt_profile.specs.declared.part_count.PartCount.{PartCount}
use Rattle.rt_profile.specs.Counted.{passed, passed_at, IsPartWithin, IsSound, IsSoundProfile}
use Rattle.rt_profile.proofs.StandingLaws.{first_of}

abbrev pub IsCount : ℕ → ℕ → Type 0
IsCount t n = n ≤ t

part-later : (t u : ℕ) (p : PartCount) → t ≤ u → IsPartWithin t p → IsPartWithin u p
part-later t u p le it = record { ticks = omega (arith, it.ticks) }

pub sound-later : (t u : ℕ) (x : TaskCounts) → t ≤ u → IsSound t x → IsSound u x
sound-later t u x le sound = record {
  words = λ k d below. omega (arith, sound.words k d below);
  parts = λ k d below. part-later t u (get_or x.parts k d) le (sound.parts k d below);
  jobs = omega (arith, sound.jobs);
  needs = record { current = omega (arith, sound.needs.current); counts = λ k d below. omega (arith, sound.needs.counts k d below) };
}

-- ---- one record more

part-passed : (job t : ℕ) (p : PartCount) → IsPartWithin t p → IsPartWithin (t + 1) (passed job p)
part-passed job t p it = record { ticks = omega (arith, it.ticks) }

found_in : (t : ℕ) (qs : List PartCount) (j : ℕ) (q : PartCount) → slice_get qs j ≡ Some q → All (IsPartWithin t) qs → IsPartWithin t q
found_in t [] j q is every = absurd cc
found_in t (p ∷ qs) zero q is every = let same : p ≡ q = cc in subst (IsPartWithin t) same (All-head (IsPartWithin t) p qs every)
found_in t (p ∷ qs) (suc j) q is every = found_in t qs j q is (All-tail (IsPartWithin t) p qs every)

parts-passed : (job t k : ℕ) (ps : List PartCount) → All (IsPartWithin t) ps → All (IsPartWithin (t + 1)) (passed_at job ps k)
parts-passed job t k ps all = by_part (slice_get ps k) refl
  where
    later : All (IsPartWithin (t + 1)) ps
    later = λ j d below. part-later t (t + 1) (get_or ps j d) (omega arith) (all j d below)

    by_part : (found : Option PartCount) → slice_get ps k ≡ found → All (IsPartWithin (t + 1)) (option_map_or (λ p. slice_set ps k (passed job p)) found ps)
    by_part None is = later
    by_part (Some p) is = All-set (IsPartWithin (t + 1)) ps k (passed job p) (part-passed job t p (found_in t ps k p is all)) later

index-within : (t : ℕ) (ns : List ℕ) (w : ℕ) → All (IsCount t) ns → slice_index ns w + 1 ≤ t + 1
index-within t [] w every = omega arith
index-within t (n ∷ ns) zero every = omega (arith, All-head (IsCount t) n ns every)
index-within t (n ∷ ns) (suc w) every = index-within t ns w (All-tail (IsCount t) n ns every)

count-more : (t w : ℕ) (ns : List ℕ) → All (IsCount t) ns → All (IsCount (t + 1)) (slice_set ns w (slice_index ns w + 1))
count-more t w ns all = All-set (IsCount (t + 1)) ns w (slice_index ns w + 1) (index-within t ns w all) (λ k d below. omega (arith, all k d below))

words-placed : (t pc : ℕ) (place : Option ℕ) (x : TaskCounts) → All (IsCount t) x.words → All (IsCount (t + 1)) (with_place pc place x).words
words-placed t pc None x all = λ k d below. omega (arith, all k d below)
words-placed t pc (Some w) x all = count-more t w x.words all

jobs-placed : (pc : ℕ) (place : Option ℕ) (x : TaskCounts) → (with_place pc place x).jobs ≡ x.jobs
jobs-placed pc None x = refl
jobs-placed pc (Some w) x = refl

-- the open job has a tick more, and is finished or not
finished_sound : (t : ℕ) (b : Bool) (x : TaskCounts) → All (IsCount (t + 1)) x.words → All (IsPartWithin (t + 1)) x.parts → x.jobs ≤ t → x.needs.current ≤ t + 1
    → All (IsCount t) x.needs.counts → IsSound (t + 1) (cond b (finished x) x)
finished_sound t true x words parts jobs current counts = record {
  words = words;
  parts = parts;
  jobs = omega (arith, jobs);
  needs = record { current = omega arith; counts = count-more t (bracket_number x.needs.current) x.needs.counts counts };
}
finished_sound t false x words parts jobs current counts = record {
  words = words;
  parts = parts;
  jobs = omega (arith, jobs);
  needs = record { current = current; counts = λ k d below. omega (arith, counts k d below) };
}

pub sound-counted : (t : ℕ) (r : Attempt) (x : TaskCounts) → IsSound t x → IsSound (t + 1) (counted r x)
sound-counted t r x sound =
    let place = word_at (length x.words) r.pc in
    finished_sound t (ends_job r.outcome) (with_pc r.pc x) (words-placed t r.pc place x sound.words) (parts-passed x.jobs t (part x.labels r.pc) x.parts sound.parts)
    (omega (arith, jobs-placed r.pc place x, sound.jobs)) (omega (arith, sound.needs.current)) sound.needs.counts

-- ---- all tasks

all-later : (t u : ℕ) (xs : List TaskCounts) → t ≤ u → All (IsSound t) xs → All (IsSound u) xs
all-later t u xs le all = λ k d below. sound-later t u (get_or xs k d) le (all k d below)

pub sound_at : (t i : ℕ) (xs : List TaskCounts) (x : TaskCounts) → i < length xs → x ≡ get_or xs i x → All (IsSound t) xs → IsSound t x
sound_at t i xs x below here all = subst (IsSound t) (sym here) (All-get_or (IsSound t) xs i x below all)

pub sound_more : (t idle i : ℕ) (r : Attempt) (xs : List TaskCounts) (x : TaskCounts) → IsSoundProfile t idle xs → t < tick_limit → i < length xs → x ≡ get_or xs i x
    → IsSoundProfile (t + 1) idle (slice_set xs i (counted r x))
sound_more t idle i r xs x sound early below here = record {
  limit = omega arith;
  idle_ticks = omega (arith, sound.idle_ticks);
  count = omega (arith, length-set xs i (counted r x), sound.count);
  tasks = All-set (IsSound (t + 1)) xs i (counted r x) (sound-counted t r x (sound_at t i xs x below here sound.tasks)) (all-later t (t + 1) xs (omega arith) sound.tasks);
}

pub sound_idle : (t idle n : ℕ) (xs : List TaskCounts) → IsSoundProfile t idle xs → t + n ≤ tick_limit → IsSoundProfile (t + n) (idle + n) xs
sound_idle t idle n xs sound within = record {
  limit = within;
  idle_ticks = omega (arith, sound.idle_ticks);
  count = sound.count;
  tasks = all-later t (t + n) xs (omega arith) sound.tasks;
}

pub counted_at-is : (i : ℕ) (r : Attempt) (xs : List TaskCounts) (x : TaskCounts) → i < length xs → x ≡ get_or xs i x → counted_at r xs i ≡ slice_set xs i (counted r x)
counted_at-is i r xs x below here = rw (slice_get_read xs (length xs) i x refl below here) refl

-- ---- at first

no_counts : (k : ℕ) → All (IsCount 0) (replicate k 0)
no_counts zero = λ j d below. absurd (omega arith)
no_counts (suc k) = All-cons (IsCount 0) 0 (replicate k 0) (omega arith) (no_counts k)

no_parts : (k : ℕ) → All (IsPartWithin 0) (replicate k no_ticks)
no_parts zero = λ j d below. absurd (omega arith)
no_parts (suc k) = All-cons (IsPartWithin 0) no_ticks (replicate k no_ticks) (record { ticks = omega arith }) (no_parts k)

first_all : (ss : List SetTask) → All (IsSound 0) (map first_of ss)
first_all [] = λ k d below. absurd (omega arith)
first_all (s ∷ ss) = All-cons (IsSound 0) (first_of s) (map first_of ss) (record { words = no_counts _; parts = no_parts _; jobs = omega arith; needs = record { current = omega arith; counts = no_counts bracket_count } }) (first_all ss)

pub sound_first : (ss : List SetTask) → length ss ≤ 256 → IsSoundProfile 0 0 (map first_of ss)
sound_first ss few = record {
  limit = omega arith;
  idle_ticks = omega arith;
  count = omega (arith, length-map ss first_of);
  tasks = first_all ss;
}
