-- A task of a set that can be run can be run alone, and what the tasks come to that are certified one after the other.
use Rattle.rt_programs.proofs.Common.{◌≡◌, ℕ, ◌+◌, ◌<◌, ◌≤◌, min, true, false, Bool, List, [], ◌∷◌, ◌++◌, length, Option, Some, None, Result, Err, refl, sym, ap, subst, ◌∙◌, arith, option_map, is_ram_size, load_fault, sim_load_fault, Task, TaskSet, task_set, set_task, set_tasks, task_params, Seen, EndsTelling, SpellsSet, SimFault, Admit, Load, Memory}
use Rattle.std.proofs.Common.{zero, suc, cond, get_or, ◌⊎◌, inl, inr, IfErr, length-append}
use Rattle.std.specs.Prelude.{slice_get, Contains, nat_lt}
use Rattle.std.specs.List.{fold}
use Rattle.std.specs.Option.{option_map_or}
use Rattle.std.proofs.lemmas.Option.{slice_get-map, slice_get_read, slice_get_within}
use Rattle.rt_admit.specs.declared.fault.AdmitFault.{AdmitFault}
use Rattle.rt_admit.specs.Refusal.{refusal}
use Rattle.rt_image.specs.SystemFile.{SetTask, IsTask, AreTasks, IsSystem}
use Rattle.rt_image.specs.declared.system.Version.{Version}
use Rattle.rt_core.specs.Loading.{is_entry, task_fault, first_of, first_task_fault, unless_refused}
use Rattle.rt_core.specs.declared.fault.LoadFault.{LoadFault}
use Rattle.rt_core.specs.declared.fault.LoadFault.TheVariants as core
use Rattle.rt_programs.specs.Certify.{lone_set, lone_task, lone_fault}
use Rattle.rt_words.specs.declared.or_memory.OrMemory.TheVariants as read
use Rattle.rt_history.specs.Admitted.{IsAdmittedSet}
use Rattle.rt_image.specs.ReadFaults.{ReadFault}
use Rattle.rt_image.specs.ObjectReading.{Gives}
use Rattle.rt_image.specs.SystemReading.{system_of}
use Rattle.rt_names.specs.declared.task_word.TaskWord.{TaskWord}
use Rattle.rt_opening.specs.Faults.{sim_fault}
use Rattle.rt_certify.specs.CertifiedSet.{HasCertificate, Counts, AreInTime}
use Rattle.rt_certify.specs.declared.certificate.Certificate.{Certificate}
use Rattle.rt_programs.specs.CertifySet.{own_question, IsOutcome, AreOutcomes, fewer, promised_by, promised, ArePromised, SetCertifies}
use Rattle.rt_programs.specs.declared.certify_set.CertifiableSet.{CertifiableSet}
use Rattle.rt_programs.specs.declared.outcome.Outcome.{Outcome}
use Rattle.rt_programs.specs.declared.outcome.Outcome.TheVariants.{Excepted, Certified, Refused}
use Rattle.rt_programs.proofs.ReasonLemmas.{told-nothing}
use Rattle.rt_programs.specs.Working.LoneCertified.{Certifies}

-- ---- a task alone

first_none : (a b : Option LoadFault) → first_of a b ≡ None → (a ≡ None) × (b ≡ None)
first_none None b none = (refl, none)
first_none (Some x) b none = absurd cc

refused_none : (r : Option AdmitFault) (x : Option LoadFault) → unless_refused r x ≡ None → x ≡ None
refused_none None x none = none
refused_none (Some r) x none = absurd cc

none_at : (i : ℕ) (ts : List SetTask) → first_task_fault i ts ≡ None → (k : ℕ) (t : SetTask) → slice_get ts k ≡ Some t → (j : ℕ) × (task_fault j t ≡ None)
none_at i [] none k t there = absurd cc
none_at i (u ∷ ts) none zero t there =
    let same : u ≡ t = cc in
    (i, subst (λ (s : SetTask). task_fault i s ≡ None) same (first_none (task_fault i u) (first_task_fault (i + 1) ts) none).0)
none_at i (u ∷ ts) none (suc k) t there = none_at (i + 1) ts (first_none (task_fault i u) (first_task_fault (i + 1) ts) none).1 k t there

no_fault : (large enters : Bool) (x y z w : LoadFault) → cond large (Some x) (cond enters None (Some y)) ≡ None → cond large (Some z) (cond enters None (Some w)) ≡ None
no_fault true enters x y z w none = absurd cc
no_fault false true x y z w none = refl
no_fault false false x y z w none = absurd cc

task-at : (version : Version) (ts : List SetTask) → AreTasks version ts → (k : ℕ) (t : SetTask) → slice_get ts k ≡ Some t → IsTask version t
task-at version [] fit k t there = absurd cc
task-at version (u ∷ ts) fit zero t there = let same : u ≡ t = cc in subst (IsTask version) same fit.0
task-at version (u ∷ ts) fit (suc k) t there = task-at version ts fit.1 k t there

lone-loads : (s : TaskSet) (n k : ℕ) (t : SetTask) → IsSystem s → load_fault s ≡ None → slice_get s.tasks k ≡ Some t → lone_fault t.object (own_question n t) ≡ None
lone-loads s n k t valid loads there =
    let one = none_at 0 s.tasks (refused_none _ (first_task_fault 0 s.tasks) loads) k t there in
    let size : is_ram_size t.ram ≡ true = (task-at s.version s.tasks valid.tasks_fit k t there).ram_fits in
    let alone : task_fault 0 (lone_task t.object (own_question n t)) ≡ None = no_fault (nat_lt t.ram (length t.object.bytes)) (is_entry t.ram t.object.entry) _ _ _ _ one.1 in
    let fits : load_fault (lone_set t.object (own_question n t)) ≡ None = rw alone refl in
    rw size (ap (option_map sim_load_fault) fits)

-- so only memory can be wanting
pub wants-memory : (s : TaskSet) (n k : ℕ) (t : SetTask) (fault : SimFault) → IsSystem s → load_fault s ≡ None → slice_get s.tasks k ≡ Some t → Certifies t.object (own_question n t) (Err fault) → fault ≡ Memory
wants-memory s n k t Memory valid loads there is = refl
wants-memory s n k t (Admit f) valid loads there is = let none = lone-loads s n k t valid loads there in absurd cc
wants-memory s n k t (Load f) valid loads there is = let none = lone-loads s n k t valid loads there in absurd cc
wants-memory s n k t fault valid loads there is = absurd is

-- ---- a set that can't be run

no_admit : (large enters : Bool) (i : ℕ) (rest : Option LoadFault) (f : AdmitFault) → first_of (cond large (Some (core.ImageTooBig i)) (cond enters None (Some (core.BadEntry i)))) rest ≡ Some (core.Admit f)
    → rest ≡ Some (core.Admit f)
no_admit true enters i rest f is = absurd cc
no_admit false true i rest f is = is
no_admit false false i rest f is = absurd cc

never_admit : (i : ℕ) (ts : List SetTask) (f : AdmitFault) → first_task_fault i ts ≡ Some (core.Admit f) → ⊥
never_admit i [] f is = absurd cc
never_admit i (t ∷ ts) f is = never_admit (i + 1) ts f (no_admit (nat_lt t.ram (length t.object.bytes)) (is_entry t.ram t.object.entry) i (first_task_fault (i + 1) ts) f is)

module _ {S : Type 0} (seen : S → Seen) (file : List ℕ) (old : S) (opened : (seen old).failed ≡ false) where
  abbrev pub EndsRefused : Result CertifiableSet SimFault → Type 0
  EndsRefused result = IfErr result (λ fault. (n : ℕ) (words : List TaskWord) → EndsTelling seen (SetCertifies file n words) old (Err fault) old)

  pub set-unread : (fault : ReadFault) (result : Result CertifiableSet SimFault) → result ≡ Err (sim_fault fault) → Gives task_set (Err fault) (system_of file) → EndsRefused result
  set-unread read.Memory result is refused = subst EndsRefused (sym is) (λ n words. refl)
  set-unread (read.Fault fault) result is refused = subst EndsRefused (sym is) (λ n words. ([], (refused, refl), told-nothing seen old opened))

  pub set-unloaded : (s : TaskSet) (fault : LoadFault) (result : Result CertifiableSet SimFault) → result ≡ Err (sim_load_fault fault) → SpellsSet file s → IsAdmittedSet s
      → refusal s.hyper (task_params s.tasks) ≡ None → (fault ≡ core.Memory) ⊎ (load_fault s ≡ Some fault) → EndsRefused result
  set-unloaded s core.Memory result is spells admitted none why = subst EndsRefused (sym is) (λ n words. refl)
  set-unloaded s fault result is spells admitted none (inl memory) = subst EndsRefused (sym (is ∙ ap (λ (f : LoadFault). Err (sim_load_fault f)) memory)) (λ n words. refl)
  set-unloaded s (core.Admit f) result is spells admitted none (inr why) = absurd (never_admit 0 s.tasks f (rw none at why))
  set-unloaded s (core.ImageTooBig i) result is spells admitted none (inr why) =
      subst EndsRefused (sym is) (λ n words. ([], (s, spells, admitted, ap (option_map sim_load_fault) why, refl), told-nothing seen old opened))
  set-unloaded s (core.BadEntry i) result is spells admitted none (inr why) =
      subst EndsRefused (sym is) (λ n words. ([], (s, spells, admitted, ap (option_map sim_load_fault) why, refl), told-nothing seen old opened))

-- ---- one task after the other

nat_cases : (i k : ℕ) → (i < k) ⊎ (k ≤ i)
nat_cases zero zero = inr (omega arith)
nat_cases zero (suc k) = inl (omega arith)
nat_cases (suc i) zero = inr (omega arith)
nat_cases (suc i) (suc k) =
    elim (nat_cases i k) [
      | inl below ↦ inl (omega (arith, below))
      | inr above ↦ inr (omega (arith, above))
    ]

some-is : {x y : SetTask} → Some x ≡ Some y → x ≡ y
some-is is = cc

pub task-there : (items : List Task) (k : ℕ) (t : Task) → k < length items → t ≡ get_or items k t → slice_get (set_tasks items) k ≡ Some (set_task t)
task-there items k t below at = slice_get-map set_task items k ∙ ap (option_map set_task) (slice_get_read items (length items) k t refl below at)

before : (os : List Outcome) (o : Outcome) (i : ℕ) → i < length os → slice_get (os ++ o ∷ []) i ≡ slice_get os i
before [] o i below = absurd (omega arith)
before (p ∷ os) o zero below = refl
before (p ∷ os) o (suc i) below = before os o i (omega arith)

last : (os : List Outcome) (o : Outcome) → slice_get (os ++ o ∷ []) (length os) ≡ Some o
last [] o = refl
last (p ∷ os) o = last os o

-- what the first k tasks come to
pub record AreFirst (n : ℕ) (except : List ℕ) (ts : List SetTask) (k : ℕ) (os : List Outcome) : Type 0 where
  pub count : length os ≡ k
  pub each : (i : ℕ) (t : SetTask) → i < k → slice_get ts i ≡ Some t → (o : Outcome) × (slice_get os i ≡ Some o) × IsOutcome n except i t o

pub none-first : (n : ℕ) (except : List ℕ) (ts : List SetTask) → AreFirst n except ts 0 []
none-first n except ts = record { count = refl; each = λ i t below there. absurd (omega (arith, below)) }

pub one-more : (n : ℕ) (except : List ℕ) (ts : List SetTask) (k : ℕ) (os : List Outcome) (s : SetTask) (o : Outcome) → AreFirst n except ts k os → slice_get ts k ≡ Some s → IsOutcome n except k s o
    → AreFirst n except ts (k + 1) (os ++ o ∷ [])
one-more n except ts k os s o first at is = record {
  count = length-append os (o ∷ []) ∙ ap (λ (m : ℕ). m + 1) first.count;
  each = λ i t below there.
      elim (nat_cases i k) [
        | inl fewer ↦
            let e = first.each i t fewer there in
            (e.0, before os o i (subst (λ (m : ℕ). i < m) (sym first.count) fewer) ∙ e.1, e.2)
        | inr same ↦
            let same' : i ≡ k = omega (arith, same, below) in
            let task : s ≡ t = some-is (sym at ∙ ap (slice_get ts) (sym same') ∙ there) in
            (o, ap (slice_get (os ++ o ∷ [])) (same' ∙ sym first.count) ∙ last os o, subst (λ (u : SetTask). IsOutcome n except i u o) task (subst (λ (j : ℕ). IsOutcome n except j s o) (sym same') is))
      ];
}

pub all-first : (n : ℕ) (except : List ℕ) (ts : List SetTask) (k : ℕ) (os : List Outcome) → AreFirst n except ts k os → k ≡ length ts → AreOutcomes n except ts os
all-first n except ts k os first all = record {
  count = first.count ∙ all;
  each = λ i t there. first.each i t (subst (λ (m : ℕ). i < m) (sym all) (slice_get_within ts i t there)) there;
}

-- ---- the jobs that are promised of all of them

none-promised : (os : List Outcome) → fold promised_by None os ≡ None
none-promised [] = refl
none-promised (Excepted ∷ os) = none-promised os
none-promised (Certified c ∷ os) = none-promised os
none-promised (Refused e ∷ os) = none-promised os

fewer-counts : (c : Certificate) (n m : ℕ) → m ≤ fewer c n → (m ≤ n) × Counts c m
fewer-counts c n m below = by c.next below
  where
    by : (next : Option ℕ) → m ≤ option_map_or (λ _. min n c.jobs) next n → (m ≤ n) × ((m ≤ c.jobs) ⊎ (next ≡ None))
    by None below = (below, inr refl)
    by (Some w) below = (omega (arith, below), inl (omega (arith, below)))

up-to : (os : List Outcome) (n m : ℕ) → fold promised_by (Some n) os ≡ Some m → m ≤ n
up-to [] n m is = let same : n ≡ m = cc in omega (arith, same)
up-to (Excepted ∷ os) n m is = up-to os n m is
up-to (Certified c ∷ os) n m is = (fewer-counts c n m (up-to os (fewer c n) m is)).0
up-to (Refused e ∷ os) n m is = let none = none-promised os in absurd cc

-- what one of them is where so many are promised
abbrev IsPromised : ℕ → Outcome → Type 0
IsPromised m Excepted = Unit {0}
IsPromised m (Certified c) = Counts c m
IsPromised m (Refused e) = ⊥

is-promised : (os : List Outcome) (n m : ℕ) → fold promised_by (Some n) os ≡ Some m → (i : ℕ) (o : Outcome) → slice_get os i ≡ Some o → IsPromised m o
is-promised [] n m is i o at = absurd cc
is-promised (Excepted ∷ os) n m is zero o at = let same : Excepted ≡ o = cc in subst (IsPromised m) same tt
is-promised (Excepted ∷ os) n m is (suc i) o at = is-promised os n m is i o at
is-promised (Certified c ∷ os) n m is zero o at = let same : Certified c ≡ o = cc in subst (IsPromised m) same (fewer-counts c n m (up-to os (fewer c n) m is)).1
is-promised (Certified c ∷ os) n m is (suc i) o at = is-promised os (fewer c n) m is i o at
is-promised (Refused e ∷ os) n m is i o at = let none = none-promised os in absurd cc

-- the law of certified sets
abbrev pub Law : Type 0
Law = (set : TaskSet) (i : ℕ) (s : SetTask) (c : Certificate) (n : ℕ) → IsAdmittedSet set → slice_get set.tasks i ≡ Some s → HasCertificate s c → Counts c n → AreInTime set i s n

pub are-promised : (s : TaskSet) (n : ℕ) (except : List ℕ) (os : List Outcome) → Law → IsAdmittedSet s → AreOutcomes n except s.tasks os → ArePromised s except (promised n os)
are-promised s n except os law admitted outcomes = at (promised n os) refl
  where
    one : (m i : ℕ) (t : SetTask) (o : Outcome) → slice_get s.tasks i ≡ Some t → (Contains except i → ⊥) → IsPromised m o → IsOutcome n except i t o → AreInTime s i t m
    one m i t Excepted there others counts is = absurd (others is)
    one m i t (Certified c) there others counts is = law s i t c m admitted there (is.1.attempts, is.1.is) counts
    one m i t (Refused e) there others counts is = absurd counts

    at : (promise : Option ℕ) → promised n os ≡ promise → ArePromised s except promise
    at None is = tt
    at (Some m) is = λ i t there others. let e = outcomes.each i t there in one m i t e.0 there others (is-promised os n m is i e.0 e.1) e.2
