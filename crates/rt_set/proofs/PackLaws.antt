-- The system of the task lines of one set file has a spelling.
use Rattle.std.proofs.Common.{◌≡◌, ℕ, suc, ◌<◌, Bool, true, false, cond, List, [], ◌∷◌, length, map, All, Ok, refl, sym, ap, subst, ◌∙◌, arith}
use Rattle.std.proofs.lemmas.List.{length-map}
use Rattle.rt_image.specs.declared.system.Version.{Version}
use Rattle.rt_image.specs.declared.system.Version.TheVariants.{One, Two}
use Rattle.rt_image.specs.ObjectReading.{spelled_object}
use Rattle.rt_image.specs.SystemFile.{SetTask, may_split, IsTask, AreTasks, IsSystem}
use Rattle.rt_words.proofs.Chains.{bind_ok}
use Rattle.rt_image.proofs.Fields.{ok_is, IsBytes-all}
use Rattle.rt_image.proofs.Objects.{image_takes}
use Rattle.rt_set.specs.SetFile.{SetEntries, IsTaskEntry, AreTaskEntries, IsSetFile}
use Rattle.rt_set.specs.Packing.{PackEntry, packed_task, packed_tasks, version_for, packed_set}

-- the flags of the tasks are such that the version has a place for them
Allows : Version → List SetTask → Type 0
Allows version [] = Unit {0}
Allows version (t ∷ ts) = (may_split version t.split ≡ true) × Allows version ts

two_allows : (ts : List SetTask) → Allows Two ts
unfolding Allows
two_allows [] = tt
two_allows (t ∷ ts) = (refl, two_allows ts)

any_unsplit : (version : Version) → may_split version false ≡ true
any_unsplit One = refl
any_unsplit Two = refl

allows_with : (split : Bool) (version : Version) (ts : List SetTask) → Allows version ts
    → (may_split (cond split Two version) split ≡ true) × Allows (cond split Two version) ts
allows_with true version ts others = (refl, two_allows ts)
allows_with false version ts others = (any_unsplit version, others)

allows : (ts : List SetTask) → Allows (version_for ts) ts
unfolding Allows
allows [] = tt
allows (t ∷ ts) = allows_with t.split (version_for ts) ts (allows ts)

task_fits : (version : Version) (p : PackEntry) (t : SetTask) → IsTaskEntry p.line → All (λ b. b < 256) p.file → packed_task p ≡ Ok t → may_split version t.split ≡ true → IsTask version t
unfolding packed_task
task_fits version p t line file e allowed =
    let object = bind_ok (spelled_object p.file) _ t e in
    let made : SetTask = record { budget = p.line.budget; period = p.line.period; start = p.line.start; split = p.line.split; ram = p.line.ram; object = object.0 } in
    let is : made ≡ t = ok_is made t object.2 in
    subst (IsTask version) is (record {
      budget_fits = line.budget_fits;
      period_fits = line.period_fits;
      start_fits = line.start_fits;
      flag_fits = subst (λ (u : SetTask). may_split version u.split ≡ true) (sym is) allowed;
      ram_fits = line.ram_fits;
      object_fits = (image_takes p.file object.0 (IsBytes-all p.file file) object.1).0;
    })

tasks_fit : (version : Version) (ps : List PackEntry) (ts : List SetTask) → AreTaskEntries (map (λ (p : PackEntry). p.line) ps) → All (λ (p : PackEntry). All (λ b. b < 256) p.file) ps
    → packed_tasks ps ≡ Ok ts → Allows version ts → AreTasks version ts × (length ts ≡ length ps)
unfolding packed_tasks Allows
tasks_fit version [] ts lines files e allowed = subst (λ (us : List SetTask). AreTasks version us × (length us ≡ 0)) (ok_is [] ts e) (tt, refl)
tasks_fit version (p ∷ ps) ts lines files e allowed =
    let first = bind_ok (packed_task p) _ ts e in
    let others = bind_ok (packed_tasks ps) _ ts first.2 in
    let is : first.0 ∷ others.0 ≡ ts = ok_is (first.0 ∷ others.0) ts others.2 in
    let flags : Allows version (first.0 ∷ others.0) = subst (Allows version) (sym is) allowed in
    let below = tasks_fit version ps others.0 lines.1 (λ k d inside. files (suc k) d (omega arith)) others.1 flags.1 in
    subst (λ (us : List SetTask). AreTasks version us × (length us ≡ length (p ∷ ps))) is
    ((task_fits version p first.0 lines.0 (files 0 p (omega arith)) first.1 flags.0, below.0), omega (arith, below.1))

pub set_fits : (text : List ℕ) (s : SetEntries) (ps : List PackEntry) (ts : List SetTask) → IsSetFile text s → map (λ (p : PackEntry). p.line) ps ≡ s.tasks
    → All (λ (p : PackEntry). All (λ b. b < 256) p.file) ps → packed_tasks ps ≡ Ok ts → IsSystem (packed_set s.hyper ts)
set_fits text s ps ts h lines files e =
    let fit = tasks_fit (version_for ts) ps ts (subst AreTaskEntries (sym lines) h.tasks_fit) files e (allows ts) in
    let count : length ps ≡ length s.tasks = sym (length-map ps (λ (p : PackEntry). p.line)) ∙ ap length lines in
    record { hyper_fits = h.hyper_fits; count = omega (arith, fit.1, h.count); tasks_fit = fit.0 }
