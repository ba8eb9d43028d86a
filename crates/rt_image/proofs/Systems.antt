-- The two laws of system files: what is read is spelled so, and what is spelled so is read.
use Rattle.rt_image.proofs.Common.{◌≡◌, ℕ, suc, ◌+◌, ◌^◌, ◌<◌, ◌≤◌, true, leb, eqb, List, [], ◌∷◌, ◌++◌, length, Result, Ok, Err, refl, sym, ap, subst, ◌∙◌, append_assoc, arith, flat_map, and_parts, leb-true, le-leb, eqb-true, append-nil, little_bytes, ReadFault, Version, Label, ObjectValue, is_label, are_labels, IsObject, label_spelling, spelling, Gives, number_at, bytes_at, magic_at, spelled_object, SetTask, task_spelling, tasks_at}
use Rattle.std.proofs.Common.{zero, ◌*◌, Bool, false, cond, codes, Some, None, length-append}
use Rattle.std.specs.Prelude.{IfOk}
use Rattle.std.specs.Option.{option_map_or}
use Rattle.std.proofs.lemmas.List.{nil_from_length}
use Rattle.std.proofs.lemmas.List.Concat.{flat_map-cons}
use Rattle.rt_words.specs.Limits.{is_ram_size}
use Rattle.rt_words.proofs.Chains.{bind_ok, bind_when, when_ok, bind_is, when_is}
use Rattle.rt_words.proofs.RamSizes.{ram_size_below}
use Rattle.rt_image.specs.declared.fault.ImageFault.TheVariants.{Trailing, BadField, BadMagic}
use Rattle.rt_image.specs.declared.system.System.{System}
use Rattle.rt_image.specs.declared.system.Version.TheVariants.{One, Two}
use Rattle.rt_image.specs.SystemFile.{TaskSet, may_split, IsTask, AreTasks, IsSystem, task_set, magic, times_spelling, flags, flags_spelling, front_spelling, set_front_spelling, system_spelling}
use Rattle.rt_image.specs.SystemReading.{digit_at, version_at, flags_at, Front, front_at, task_at, system_of}
use Rattle.rt_image.proofs.Fields.{IsBytes, ok_is, Takes, Takes-then, wide4, number_takes, number_again, bytes_takes, bytes_again, magic_takes}
use Rattle.rt_image.proofs.LabelTests.{label_facts}
use Rattle.rt_image.proofs.Objects.{image_takes, image_again}

-- ---- the magic

-- its last byte
abbrev digit : Version → ℕ
digit One = 49
digit Two = 50

magic_is : (version : Version) → magic version ≡ codes "RTS" ++ digit version ∷ []
magic_is One = refl
magic_is Two = refl

digit_with : (one two : Bool) (d : ℕ) (rest : List ℕ) (x : Version × List ℕ) → eqb d 49 ≡ one → eqb d 50 ≡ two
    → option_map_or (λ version. Ok (version, rest)) (cond one (Some One) (cond two (Some Two) None)) (Err BadMagic) ≡ Ok x → (d ≡ digit x.0) × (rest ≡ x.1)
digit_with true two d rest x is_one is_two e = subst (λ (y : Version × List ℕ). (d ≡ digit y.0) × (rest ≡ y.1)) (ok_is (One, rest) x e) (eqb-true d 49 is_one, refl)
digit_with false true d rest x is_one is_two e = subst (λ (y : Version × List ℕ). (d ≡ digit y.0) × (rest ≡ y.1)) (ok_is (Two, rest) x e) (eqb-true d 50 is_two, refl)
digit_with false false d rest x is_one is_two e = absurd cc

digit_takes : (bytes : List ℕ) (x : Version × List ℕ) → IsBytes bytes → digit_at bytes ≡ Ok x → Takes bytes (digit x.0 ∷ []) x.1
digit_takes [] x fits e = absurd cc
digit_takes (d ∷ rest) x fits e =
    let is = digit_with (eqb d 49) (eqb d 50) d rest x refl refl e in
    record { parts = λ i. is.0 i ∷ is.1 i; rest_fits = subst IsBytes is.1 (λ i. fits (suc i)) }

version_takes : (file : List ℕ) (x : Version × List ℕ) → IsBytes file → version_at file ≡ Ok x → Takes file (magic x.0) x.1
unfolding version_at
version_takes file x fits e =
    let letters = bind_ok (magic_at (codes "RTS") file) _ x e in
    let first = magic_takes (codes "RTS") file letters.0 fits letters.1 in
    let last = digit_takes letters.0 x first.rest_fits letters.2 in
    subst (λ (text : List ℕ). Takes file text x.1) (sym (magic_is x.0)) (Takes-then file (codes "RTS") letters.0 (digit x.0 ∷ []) x.1 first last)

version_again : (version : Version) (rest : List ℕ) → version_at (magic version ++ rest) ≡ Ok (version, rest)
unfolding version_at
version_again One rest = refl
version_again Two rest = refl

-- ---- the flag

flag_is : (n : ℕ) → leb n 1 ≡ true → flags (eqb n 1) ≡ n
flag_is zero small = refl
flag_is (suc zero) small = refl
flag_is (suc (suc n)) small = absurd (omega (arith, leb-true (suc (suc n)) 1 small))

flags_takes : (version : Version) (bytes : List ℕ) (x : Bool × List ℕ) → IsBytes bytes → flags_at version bytes ≡ Ok x → Takes bytes (flags_spelling version x.0) x.1 × (may_split version x.0 ≡ true)
unfolding flags_at
flags_takes One bytes x fits e =
    subst (λ (y : Bool × List ℕ). Takes bytes (flags_spelling One y.0) y.1 × (may_split One y.0 ≡ true)) (ok_is (false, bytes) x e) (record { parts = refl; rest_fits = fits }, refl)
flags_takes Two bytes x fits e =
    let number = bind_ok (number_at 4 bytes) _ x e in
    let small = when_ok (leb number.0.0 1) BadField (eqb number.0.0 1, number.0.1) x number.2 in
    let taken = (number_takes 4 (2 ^ 32) wide4 bytes number.0 fits number.1).0 in
    let spelled : Takes bytes (little_bytes 4 (flags (eqb number.0.0 1))) number.0.1 =
    subst (λ (n : ℕ). Takes bytes (little_bytes 4 n) number.0.1) (sym (flag_is number.0.0 small.0)) taken in
    subst (λ (y : Bool × List ℕ). Takes bytes (flags_spelling Two y.0) y.1 × (may_split Two y.0 ≡ true)) small.1 (spelled, refl)

flags_again : (version : Version) (split : Bool) (rest : List ℕ) → may_split version split ≡ true → flags_at version (flags_spelling version split ++ rest) ≡ Ok (split, rest)
unfolding flags_at
flags_again One false rest fits = refl
flags_again One true rest fits = absurd cc
flags_again Two false rest fits = bind_is (number_at 4 (little_bytes 4 0 ++ rest)) _ (0, rest) (number_again 4 (2 ^ 32) wide4 0 rest (omega arith))
flags_again Two true rest fits = bind_is (number_at 4 (little_bytes 4 1 ++ rest)) _ (1, rest) (number_again 4 (2 ^ 32) wide4 1 rest (omega arith))

-- ---- what stands before an object

abbrev front_of : Version → Front → List ℕ
front_of version f = front_spelling version f.budget f.period f.start f.split f.ram f.size

record IsFront (version : Version) (f : Front) : Type 0 where
  budget_fits : f.budget < 2 ^ 32
  period_fits : f.period < 2 ^ 32
  start_fits : f.start < 2 ^ 32
  flag_fits : may_split version f.split ≡ true
  ram_fits : is_ram_size f.ram ≡ true
  size_fits : f.size ≤ 67108864

front_takes : (version : Version) (bytes : List ℕ) (x : Front × List ℕ) → IsBytes bytes → front_at version bytes ≡ Ok x → Takes bytes (front_of version x.0) x.1 × IsFront version x.0
unfolding front_at
front_takes version bytes x fits e =
    let budget = bind_ok (number_at 4 bytes) _ x e in
    let period = bind_ok (number_at 4 budget.0.1) _ x budget.2 in
    let start = bind_ok (number_at 4 period.0.1) _ x period.2 in
    let split = bind_ok (flags_at version start.0.1) _ x start.2 in
    let ram = bind_ok (number_at 4 split.0.1) _ x split.2 in
    let is_size = bind_when (is_ram_size ram.0.0) BadField ram.0.1 _ x ram.2 in
    let size = bind_ok (number_at 4 ram.0.1) _ x is_size.1 in
    let small = bind_when (leb size.0.0 67108864) BadField size.0.1 _ x size.2 in
    let t0 = number_takes 4 (2 ^ 32) wide4 bytes budget.0 fits budget.1 in
    let t1 = number_takes 4 (2 ^ 32) wide4 budget.0.1 period.0 t0.0.rest_fits period.1 in
    let t2 = number_takes 4 (2 ^ 32) wide4 period.0.1 start.0 t1.0.rest_fits start.1 in
    let flag = flags_takes version start.0.1 split.0 t2.0.rest_fits split.1 in
    let t3 = number_takes 4 (2 ^ 32) wide4 split.0.1 ram.0 flag.0.rest_fits ram.1 in
    let t4 = number_takes 4 (2 ^ 32) wide4 ram.0.1 size.0 t3.0.rest_fits size.1 in
    let b : List ℕ = little_bytes 4 budget.0.0 in
    let p : List ℕ = little_bytes 4 period.0.0 in
    let s : List ℕ = little_bytes 4 start.0.0 in
    let f : List ℕ = flags_spelling version split.0.0 in
    let r : List ℕ = little_bytes 4 ram.0.0 in
    let one = Takes-then bytes b budget.0.1 p period.0.1 t0.0 t1.0 in
    let two = Takes-then bytes (b ++ p) period.0.1 s start.0.1 one t2.0 in
    let three = Takes-then bytes (b ++ p ++ s) start.0.1 f split.0.1 two flag.0 in
    let four = Takes-then bytes (b ++ p ++ s ++ f) split.0.1 r ram.0.1 three t3.0 in
    let five = Takes-then bytes (b ++ p ++ s ++ f ++ r) ram.0.1 (little_bytes 4 size.0.0) size.0.1 four t4.0 in
    let made : Front × List ℕ = (record { budget = budget.0.0; period = period.0.0; start = start.0.0; split = split.0.0; ram = ram.0.0; size = size.0.0 }, size.0.1) in
    subst (λ (y : Front × List ℕ). Takes bytes (front_of version y.0) y.1 × IsFront version y.0) (ok_is made x small.1)
    (five, record { budget_fits = t0.1; period_fits = t1.1; start_fits = t2.1; flag_fits = flag.1; ram_fits = is_size.0; size_fits = leb-true size.0.0 67108864 small.0 })

front_again : (version : Version) (f : Front) (rest : List ℕ) → IsFront version f → front_at version (front_of version f ++ rest) ≡ Ok (f, rest)
unfolding front_at
front_again version f rest fits =
    let flag = flags_spelling version f.split in
    let times = times_spelling f.budget f.period f.start in
    let after_ram = little_bytes 4 f.size ++ rest in
    let after_flag = little_bytes 4 f.ram ++ after_ram in
    let after_start = flag ++ after_flag in
    let after_period = little_bytes 4 f.start ++ after_start in
    let after_budget = little_bytes 4 f.period ++ after_period in
    let regrouped : front_of version f ++ rest ≡ times ++ after_start = ap (λ (l : List ℕ). times ++ l) (append_assoc (flag ++ little_bytes 4 f.ram) (little_bytes 4 f.size) rest ∙ append_assoc flag (little_bytes 4 f.ram) after_ram) in
    ap (front_at version) regrouped
    ∙ bind_is (number_at 4 (little_bytes 4 f.budget ++ after_budget)) _ (f.budget, after_budget) (number_again 4 (2 ^ 32) wide4 f.budget after_budget fits.budget_fits)
    ∙ bind_is (number_at 4 after_budget) _ (f.period, after_period) (number_again 4 (2 ^ 32) wide4 f.period after_period fits.period_fits)
    ∙ bind_is (number_at 4 after_period) _ (f.start, after_start) (number_again 4 (2 ^ 32) wide4 f.start after_start fits.start_fits)
    ∙ bind_is (flags_at version after_start) _ (f.split, after_flag) (flags_again version f.split after_flag fits.flag_fits)
    ∙ bind_is (number_at 4 after_flag) _ (f.ram, after_ram) (number_again 4 (2 ^ 32) wide4 f.ram after_ram (ram_size_below f.ram fits.ram_fits))
    ∙ when_is (is_ram_size f.ram) BadField after_ram _ fits.ram_fits
    ∙ bind_is (number_at 4 after_ram) _ (f.size, rest) (number_again 4 (2 ^ 32) wide4 f.size rest (omega (arith, fits.size_fits)))
    ∙ when_is (leb f.size 67108864) BadField rest _ (le-leb f.size 67108864 fits.size_fits)

-- ---- an object's spelling is short enough

labels_short : (n : ℕ) (before : List ℕ) (ls : List Label) → are_labels n before ls ≡ true → length (flat_map label_spelling ls) ≤ 518 * length ls
labels_short n before [] h = omega arith
labels_short n before (l ∷ ls) h =
    let parts = and_parts (is_label n before l) (are_labels n l.name ls) h in
    let ih = labels_short n l.name ls parts.1 in
    let one : length (label_spelling l) ≡ 2 + length l.name + 4 = length-append (little_bytes 2 (length l.name) ++ l.name) (little_bytes 4 l.address) ∙ ap (λ (k : ℕ). k + 4) (length-append (little_bytes 2 (length l.name)) l.name) in
    let all : length (flat_map label_spelling (l ∷ ls)) ≡ length (label_spelling l) + length (flat_map label_spelling ls) =
    ap (λ (x : List ℕ). length x) (flat_map-cons label_spelling l ls) ∙ length-append (label_spelling l) (flat_map label_spelling ls) in
    let short : length l.name ≤ 512 = (label_facts n before l parts.0).short in
    rw all (rw one (omega (arith, ih, short)))

-- a header, the bytes and the symbols
file_short : (header bytes text : List ℕ) (count : ℕ) → length header ≤ 16 → length bytes ≤ 1048576 → length text ≤ 518 * count → count ≤ 65536 → length (header ++ bytes ++ text) ≤ 67108864
file_short header bytes text count h b t c = omega (arith, length-append (header ++ bytes) text, length-append header bytes)

pub spelling_short : (o : ObjectValue) → IsObject o → length (spelling o) ≤ 67108864
spelling_short o h =
    file_short (codes "RTI1" ++ little_bytes 4 o.entry ++ little_bytes 4 (length o.bytes) ++ little_bytes 4 (length o.labels)) o.bytes (flat_map label_spelling o.labels) (length o.labels)
    (omega arith) h.size (labels_short (length o.bytes) [] o.labels h.labels_fit) h.count

-- ---- a task

task_takes : (version : Version) (bytes : List ℕ) (x : SetTask × List ℕ) → IsBytes bytes → task_at version bytes ≡ Ok x → Takes bytes (task_spelling version x.0) x.1 × IsTask version x.0
unfolding task_at task_spelling
task_takes version bytes x fits e =
    let front = bind_ok (front_at version bytes) _ x e in
    let file = bind_ok (bytes_at front.0.0.size front.0.1) _ x front.2 in
    let object = bind_ok (spelled_object file.0.0) _ x file.2 in
    let t0 = front_takes version bytes front.0 fits front.1 in
    let t1 = bytes_takes front.0.0.size front.0.1 file.0 t0.0.rest_fits file.1 in
    let is = image_takes file.0.0 object.0 t1.2 object.1 in
    let parts = Takes-then bytes (front_of version front.0.0) front.0.1 file.0.0 file.0.1 t0.0 t1.0 in
    let sized : Takes bytes (front_spelling version front.0.0.budget front.0.0.period front.0.0.start front.0.0.split front.0.0.ram (length file.0.0) ++ file.0.0) file.0.1 =
    subst (λ (n : ℕ). Takes bytes (front_spelling version front.0.0.budget front.0.0.period front.0.0.start front.0.0.split front.0.0.ram n ++ file.0.0) file.0.1) (sym t1.1) parts in
    let whole : Takes bytes (front_spelling version front.0.0.budget front.0.0.period front.0.0.start front.0.0.split front.0.0.ram (length (spelling object.0)) ++ spelling object.0) file.0.1 =
    subst (λ (f : List ℕ). Takes bytes (front_spelling version front.0.0.budget front.0.0.period front.0.0.start front.0.0.split front.0.0.ram (length f) ++ f) file.0.1) is.1 sized in
    let made : SetTask × List ℕ = (record { budget = front.0.0.budget; period = front.0.0.period; start = front.0.0.start; split = front.0.0.split; ram = front.0.0.ram; object = object.0 }, file.0.1) in
    subst (λ (y : SetTask × List ℕ). Takes bytes (task_spelling version y.0) y.1 × IsTask version y.0) (ok_is made x object.2) (
      whole,
      record {
        budget_fits = t0.1.budget_fits;
        period_fits = t0.1.period_fits;
        start_fits = t0.1.start_fits;
        flag_fits = t0.1.flag_fits;
        ram_fits = t0.1.ram_fits;
        object_fits = is.0;
      },
    )

task_again : (version : Version) (t : SetTask) (rest : List ℕ) → IsTask version t → task_at version (task_spelling version t ++ rest) ≡ Ok (t, rest)
unfolding task_at task_spelling
task_again version t rest fits =
    let file : List ℕ = spelling t.object in
    let front : Front = record { budget = t.budget; period = t.period; start = t.start; split = t.split; ram = t.ram; size = length (spelling t.object) } in
    let is : IsFront version front = record {
      budget_fits = fits.budget_fits;
      period_fits = fits.period_fits;
      start_fits = fits.start_fits;
      flag_fits = fits.flag_fits;
      ram_fits = fits.ram_fits;
      size_fits = spelling_short t.object fits.object_fits;
    } in
    ap (task_at version) (append_assoc (front_of version front) (spelling t.object) rest)
    ∙ bind_is (front_at version (front_of version front ++ (spelling t.object ++ rest))) _ (front, spelling t.object ++ rest) (front_again version front (spelling t.object ++ rest) is)
    ∙ bind_is (bytes_at (length (spelling t.object)) (spelling t.object ++ rest)) _ (spelling t.object, rest) (bytes_again (length (spelling t.object)) (spelling t.object) rest refl)
    ∙ bind_is (spelled_object (spelling t.object)) _ t.object (image_again t.object fits.object_fits)

-- ---- tasks

tasks_take : (version : Version) (count : ℕ) (bytes : List ℕ) (x : List SetTask × List ℕ) → IsBytes bytes → tasks_at version count bytes ≡ Ok x → Takes bytes (flat_map (task_spelling version) x.0) x.1 × (length x.0 ≡ count) × AreTasks version x.0
unfolding tasks_at
tasks_take version zero bytes x fits e =
    subst (λ (y : List SetTask × List ℕ). Takes bytes (flat_map (task_spelling version) y.0) y.1 × (length y.0 ≡ 0) × AreTasks version y.0) (ok_is ([], bytes) x e) (record { parts = refl; rest_fits = fits }, refl, tt)
tasks_take version (suc count) bytes x fits e =
    let a = bind_ok (task_at version bytes) _ x e in
    let b = bind_ok (tasks_at version count a.0.1) _ x a.2 in
    let first = task_takes version bytes a.0 fits a.1 in
    let second = tasks_take version count a.0.1 b.0 first.0.rest_fits b.1 in
    let parts = Takes-then bytes (task_spelling version a.0.0) a.0.1 (flat_map (task_spelling version) b.0.0) b.0.1 first.0 second.0 in
    let made : List SetTask × List ℕ = (a.0.0 ∷ b.0.0, b.0.1) in
    subst (λ (y : List SetTask × List ℕ). Takes bytes (flat_map (task_spelling version) y.0) y.1 × (length y.0 ≡ suc count) × AreTasks version y.0) (ok_is made x b.2)
    (rw flat_map-cons parts, ap suc second.1, (first.1, second.2))

tasks_again : (version : Version) (ts : List SetTask) (rest : List ℕ) → AreTasks version ts → tasks_at version (length ts) (flat_map (task_spelling version) ts ++ rest) ≡ Ok (ts, rest)
unfolding tasks_at
tasks_again version [] rest fits = refl
tasks_again version (t ∷ ts) rest fits =
    let regrouped : flat_map (task_spelling version) (t ∷ ts) ++ rest ≡ task_spelling version t ++ (flat_map (task_spelling version) ts ++ rest) =
    ap (λ (x : List ℕ). x ++ rest) (flat_map-cons (task_spelling version) t ts) ∙ append_assoc (task_spelling version t) (flat_map (task_spelling version) ts) rest in
    ap (tasks_at version (suc (length ts))) regrouped
    ∙ bind_is (task_at version (task_spelling version t ++ (flat_map (task_spelling version) ts ++ rest))) _ (t, flat_map (task_spelling version) ts ++ rest) (task_again version t (flat_map (task_spelling version) ts ++ rest) fits.0)
    ∙ bind_is (tasks_at version (length ts) (flat_map (task_spelling version) ts ++ rest)) _ (ts, rest) (tasks_again version ts rest fits.1)

-- ---- the whole file

pub system_takes : (file : List ℕ) (s : TaskSet) → IsBytes file → system_of file ≡ Ok s → IsSystem s × (file ≡ system_spelling s)
unfolding system_of
system_takes file s fits e =
    let version = bind_ok (version_at file) _ s e in
    let v : Version = version.0.0 in
    let hyper = bind_ok (number_at 4 version.0.1) _ s version.2 in
    let count = bind_ok (number_at 4 hyper.0.1) _ s hyper.2 in
    let few = bind_when (leb count.0.0 256) BadField count.0.1 _ s count.2 in
    let tasks = bind_ok (tasks_at v count.0.0 count.0.1) _ s few.1 in
    let ended = when_ok (eqb (length tasks.0.1) 0) Trailing (record { version = v; hyper = hyper.0.0; tasks = tasks.0.0 }) s tasks.2 in
    let t0 = version_takes file version.0 fits version.1 in
    let t1 = number_takes 4 (2 ^ 32) wide4 version.0.1 hyper.0 t0.rest_fits hyper.1 in
    let t2 = number_takes 4 (2 ^ 32) wide4 hyper.0.1 count.0 t1.0.rest_fits count.1 in
    let t3 = tasks_take v count.0.0 count.0.1 tasks.0 t2.0.rest_fits tasks.1 in
    let nothing : tasks.0.1 ≡ [] = nil_from_length tasks.0.1 (eqb-true _ _ ended.0) in
    let made : TaskSet = record { version = v; hyper = hyper.0.0; tasks = tasks.0.0 } in
    let text : List ℕ = flat_map (task_spelling v) tasks.0.0 in
    let one = Takes-then file (magic v) version.0.1 (little_bytes 4 hyper.0.0) hyper.0.1 t0 t1.0 in
    let two = Takes-then file (magic v ++ little_bytes 4 hyper.0.0) hyper.0.1 (little_bytes 4 count.0.0) count.0.1 one t2.0 in
    let three = (Takes-then file (set_front_spelling v hyper.0.0 count.0.0) count.0.1 text tasks.0.1 two t3.0).parts in
    let all : List ℕ = set_front_spelling v hyper.0.0 count.0.0 ++ text in
    let parts : file ≡ system_spelling made = three ∙ ap (λ (r : List ℕ). all ++ r) nothing ∙ append-nil all
    ∙ ap (λ (n : ℕ). set_front_spelling v hyper.0.0 n ++ text) (sym t3.1) in
    subst (λ (y : TaskSet). IsSystem y × (file ≡ system_spelling y)) ended.1
    (record { hyper_fits = t1.1; count = omega (arith, t3.1, leb-true count.0.0 256 few.0); tasks_fit = t3.2 }, parts)

pub system_again : (s : TaskSet) → IsSystem s → system_of (system_spelling s) ≡ Ok s
unfolding system_of
system_again s fits =
    let text : List ℕ = flat_map (task_spelling s.version) s.tasks in
    let after_hyper = little_bytes 4 (length s.tasks) ++ text in
    let after_magic = little_bytes 4 s.hyper ++ after_hyper in
    let tasks : tasks_at s.version (length s.tasks) text ≡ Ok (s.tasks, []) =
    ap (tasks_at s.version (length s.tasks)) (sym (append-nil text)) ∙ tasks_again s.version s.tasks [] fits.tasks_fit in
    let regrouped : system_spelling s ≡ magic s.version ++ after_magic = append_assoc (magic s.version ++ little_bytes 4 s.hyper) (little_bytes 4 (length s.tasks)) text ∙ append_assoc (magic s.version) (little_bytes 4 s.hyper) after_hyper in
    ap system_of regrouped
    ∙ bind_is (version_at (magic s.version ++ after_magic)) _ (s.version, after_magic) (version_again s.version after_magic)
    ∙ bind_is (number_at 4 after_magic) _ (s.hyper, after_hyper) (number_again 4 (2 ^ 32) wide4 s.hyper after_hyper fits.hyper_fits)
    ∙ bind_is (number_at 4 after_hyper) _ (length s.tasks, text) (number_again 4 (2 ^ 32) wide4 (length s.tasks) text (omega (arith, fits.count)))
    ∙ when_is (leb (length s.tasks) 256) BadField text _ (le-leb (length s.tasks) 256 fits.count)
    ∙ bind_is (tasks_at s.version (length s.tasks) text) _ (s.tasks, []) tasks

pub one_set : (s t : TaskSet) → IsSystem s → IsSystem t → system_spelling s ≡ system_spelling t → s ≡ t
one_set s t first second e = ok_is s t (sym (system_again s first) ∙ ap system_of e ∙ system_again t second)

pub is_found : (file : List ℕ) (r : Result System ReadFault) → IsBytes file → Gives task_set r (system_of file) → IfOk r (λ s. IsSystem (task_set s) × (file ≡ system_spelling (task_set s)))
is_found file (Ok s) fits given = system_takes file (task_set s) fits given
is_found file (Err e) fits given = tt
