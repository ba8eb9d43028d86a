-- A system file that is refused, and not for its end, is refused so whatever follows.
use Rattle.rt_desk.proofs.Common.{◌≡◌, ◌⊎◌, ℕ, zero, suc, ◌≤◌, ◌==◌, true, false, nat_lt, nat_le, List, [], ◌∷◌, ◌++◌, length, Result, Ok, Err, refl, sym, ap, subst, ◌∙◌, arith, inl, inr, cases_Bool, ne_eqb, length-append, number_at, bytes_at, spelled_object}
use Rattle.std.proofs.Common.{◌≢◌}
use Rattle.std.specs.Prelude.{⊤}
use Rattle.std.proofs.lemmas.Bool.{ltb-false}
use Rattle.rt_words.specs.Chain.{◌>>=◌, when}
use Rattle.rt_words.specs.Limits.{is_ram_size}
use Rattle.rt_image.specs.declared.fault.ImageFault.{ImageFault}
use Rattle.rt_image.specs.declared.fault.ImageFault.TheVariants.{Truncated, Trailing, BadField}
use Rattle.rt_image.specs.declared.system.Version.{Version}
use Rattle.rt_image.specs.declared.system.Version.TheVariants.{One, Two}
use Rattle.rt_image.specs.SystemFile.{TaskSet, task_limit}
use Rattle.rt_image.specs.SystemReading.{file_limit, version_at, flags_at, front_at, task_at, tasks_at, system_of}
use Rattle.rt_desk.specs.reading.Extent.{IsNoSystem}
use Rattle.rt_desk.proofs.reading_laws.Local.{Local, then_when, then_same, ends_when, number_local, bytes_local}
use Rattle.rt_desk.proofs.reading_laws.Systems.{version_local, system_law}

-- a value and the bytes behind it, and the same with more behind them; a refusal that isn't for the end stays
abbrev Stays : {A : Type 0} → List ℕ → Result (A × List ℕ) ImageFault → Result (A × List ℕ) ImageFault → Type 0
Stays more (Ok x) longer = longer ≡ Ok (x.0, x.1 ++ more)
Stays more (Err e) longer = e ≢ Truncated → longer ≡ Err e

-- the same of refusals alone
abbrev Settles : {A : Type 0} → Result A ImageFault → Result A ImageFault → Type 0
Settles (Ok x) longer = ⊤
Settles (Err e) longer = e ≢ Truncated → longer ≡ Err e

module _ {B : Type 0} (Q : Result B ImageFault → Result B ImageFault → Type 0) (refused : (e : ImageFault) (v : Result B ImageFault) → (e ≢ Truncated → v ≡ Err e) → Q (Err e) v) where
  then_stays : {A : Type 0} (more : List ℕ) (u v : Result (A × List ℕ) ImageFault) (f : A × List ℕ → Result B ImageFault) → Stays more u v
      → ((x : A × List ℕ) → Q (f x) (f (x.0, x.1 ++ more))) → Q (u >>= f) (v >>= f)
  then_stays {A = A} more (Ok x) v f is step = subst (λ (r : Result (A × List ℕ) ImageFault). Q (f x) (r >>= f)) (sym is) (step x)
  then_stays {A = A} more (Err e) v f is step = refused e (v >>= f) (λ other. ap (λ (r : Result (A × List ℕ) ImageFault). r >>= f) (is other))

of_local : {A : Type 0} (n : ℕ) (more : List ℕ) (u v : Result (A × List ℕ) ImageFault) → Local n more u v → Stays more u v
of_local n more (Ok x) v same = same.0
of_local n more (Err e) v same = λ _. same

number_stays : (k : ℕ) (bytes more : List ℕ) → Stays more (number_at k bytes) (number_at k (bytes ++ more))
number_stays k bytes more =
    elim (cases_Bool (nat_lt (length bytes) k)) [
      | inl short ↦ rw short (λ other. absurd (other refl))
      | inr whole ↦ let fits = ltb-false (length bytes) k whole in of_local 0 more (number_at k bytes) (number_at k (bytes ++ more)) (number_local k 0 bytes more (omega (arith, fits)))
    ]

bytes_stay : (k : ℕ) (bytes more : List ℕ) → Stays more (bytes_at k bytes) (bytes_at k (bytes ++ more))
bytes_stay k bytes more =
    elim (cases_Bool (nat_lt (length bytes) k)) [
      | inl short ↦ rw short (λ other. absurd (other refl))
      | inr whole ↦ let fits = ltb-false (length bytes) k whole in of_local 0 more (bytes_at k bytes) (bytes_at k (bytes ++ more)) (bytes_local k 0 bytes more (omega (arith, fits)))
    ]

flags_stay : (version : Version) (bytes more : List ℕ) → Stays more (flags_at version bytes) (flags_at version (bytes ++ more))
unfolding flags_at
flags_stay One bytes more = refl
flags_stay Two bytes more =
    then_stays (Stays more) (λ e v same. same) more (number_at 4 bytes) (number_at 4 (bytes ++ more)) _ (number_stays 4 bytes more)
    (λ flags. ends_when (Stays more) (λ e _. refl) (nat_le flags.0 1) BadField (flags.0 == 1, flags.1) (flags.0 == 1, flags.1 ++ more) refl)

front_stays : (version : Version) (bytes more : List ℕ) → Stays more (front_at version bytes) (front_at version (bytes ++ more))
unfolding front_at
front_stays version bytes more =
    then_stays (Stays more) (λ e v same. same) more (number_at 4 bytes) (number_at 4 (bytes ++ more)) _ (number_stays 4 bytes more) (λ budget.
    then_stays (Stays more) (λ e v same. same) more (number_at 4 budget.1) (number_at 4 (budget.1 ++ more)) _ (number_stays 4 budget.1 more) (λ period.
    then_stays (Stays more) (λ e v same. same) more (number_at 4 period.1) (number_at 4 (period.1 ++ more)) _ (number_stays 4 period.1 more) (λ start.
    then_stays (Stays more) (λ e v same. same) more (flags_at version start.1) (flags_at version (start.1 ++ more)) _ (flags_stay version start.1 more) (λ split.
    then_stays (Stays more) (λ e v same. same) more (number_at 4 split.1) (number_at 4 (split.1 ++ more)) _ (number_stays 4 split.1 more) (λ ram.
    then_when (Stays more) (λ e _. refl) (is_ram_size ram.0) BadField ram.1 (ram.1 ++ more) _ (λ _.
    then_stays (Stays more) (λ e v same. same) more (number_at 4 ram.1) (number_at 4 (ram.1 ++ more)) _ (number_stays 4 ram.1 more) (λ size.
    then_when (Stays more) (λ e _. refl) (nat_le size.0 file_limit) BadField size.1 (size.1 ++ more) _ (λ _. refl))))))))

task_stays : (version : Version) (bytes more : List ℕ) → Stays more (task_at version bytes) (task_at version (bytes ++ more))
unfolding task_at
task_stays version bytes more =
    then_stays (Stays more) (λ e v same. same) more (front_at version bytes) (front_at version (bytes ++ more)) _ (front_stays version bytes more) (λ front.
    then_stays (Stays more) (λ e v same. same) more (bytes_at front.0.size front.1) (bytes_at front.0.size (front.1 ++ more)) _ (bytes_stay front.0.size front.1 more)
    (λ file. then_same (Stays more) (λ e _. refl) (spelled_object file.0) _ _ (λ object. refl)))

tasks_stay : (version : Version) (count : ℕ) (bytes more : List ℕ) → Stays more (tasks_at version count bytes) (tasks_at version count (bytes ++ more))
unfolding tasks_at
tasks_stay version zero bytes more = refl
tasks_stay version (suc count) bytes more =
    then_stays (Stays more) (λ e v same. same) more (task_at version bytes) (task_at version (bytes ++ more)) _ (task_stays version bytes more) (λ first.
    then_stays (Stays more) (λ e v same. same) more (tasks_at version count first.1) (tasks_at version count (first.1 ++ more)) _ (tasks_stay version count first.1 more) (λ others. refl))

end_settles : {X : Type 0} (n m : ℕ) (x y : X) → n ≤ m → Settles (when (n == 0) Trailing x) (when (m == 0) Trailing y)
end_settles zero m x y le = tt
end_settles (suc n) m x y le =
    let first : (suc n == 0) ≡ false = ne_eqb (suc n) 0 (λ none. omega (arith, none)) in
    let longer : (m == 0) ≡ false = ne_eqb m 0 (λ none. omega (arith, none, le)) in rw (first, longer) (λ _. refl)

settles : (bytes more : List ℕ) → 12 ≤ length bytes → Settles (system_of bytes) (system_of (bytes ++ more))
unfolding system_of
settles bytes more big =
    then_stays Settles (λ e v same. same) more (version_at bytes) (version_at (bytes ++ more)) _ (of_local 8 more (version_at bytes) (version_at (bytes ++ more)) (version_local 8 bytes more big)) (λ version.
    then_stays Settles (λ e v same. same) more (number_at 4 version.1) (number_at 4 (version.1 ++ more)) _ (number_stays 4 version.1 more) (λ hyper.
    then_stays Settles (λ e v same. same) more (number_at 4 hyper.1) (number_at 4 (hyper.1 ++ more)) _ (number_stays 4 hyper.1 more) (λ count.
    then_when Settles (λ e _. refl) (nat_le count.0 task_limit) BadField count.1 (count.1 ++ more) _ (λ _.
    then_stays Settles (λ e v same. same) more (tasks_at version.0 count.0 count.1) (tasks_at version.0 count.0 (count.1 ++ more)) _ (tasks_stay version.0 count.0 count.1 more)
    (λ tasks. end_settles (length tasks.1) (length (tasks.1 ++ more)) _ _ (omega (arith, length-append tasks.1 more)))))))

pub no_system_law : (bytes more : List ℕ) → 12 ≤ length bytes → IsNoSystem bytes → system_of (bytes ++ more) ≡ system_of bytes
no_system_law bytes more big (inl over) = system_law bytes more big over
no_system_law bytes more big (inr (fault, is, other)) =
    subst (λ (r : Result TaskSet ImageFault). Settles r (system_of (bytes ++ more))) is (settles bytes more big) other ∙ sym is
