-- The name of a task: it is ASCII, and so UTF-8.
use Rattle.rt_programs.proofs.Common.{◌≡◌, ℕ, ◌+◌, ◌<◌, true, false, Bool, List, [], ◌∷◌, length, Option, Some, ap, subst, ◌∙◌, arith}
use Rattle.std.proofs.Common.{zero, suc, ◌&&◌, cond, get_or, All, IfSome, IsUtf8}
use Rattle.std.specs.Prelude.{slice_get, IsAscii}
use Rattle.std.specs.List.{fold, filter, reduce, list_all}
use Rattle.std.proofs.lemmas.Bool.{and_parts}
use Rattle.std.proofs.lemmas.Bool.Decides.{nat_tests}
use Rattle.std.proofs.lemmas.List.Elements.{All-cons, All-head, All-tail, All-filter, All-nil}
use Rattle.std.proofs.lemmas.Str.{IsUtf8-from_ascii}
use Rattle.std.proofs.lemmas.Str.Ascii.{IsAscii-nil, IsAscii-cons}
use Rattle.rt_token.specs.Word.{is_word, is_word_start, is_word_part}
use Rattle.rt_image.specs.ObjectFile.{Label, ObjectValue, IsObject, is_name_size, is_before, is_placed, is_label, are_labels}
use Rattle.rt_image.specs.SystemFile.{SetTask}
use Rattle.rt_names.specs.Parts.{is_nearer, nearer}
use Rattle.rt_names.specs.TaskName.{can_name, own_namer, task_name}
use Rattle.rt_names.specs.TaskNames.{names_from}

abbrev IsNamed : Label → Type 0
IsNamed l = is_word l.name ≡ true

named : (n : ℕ) (before : List ℕ) (ls : List Label) → are_labels n before ls ≡ true → All IsNamed ls
named n before [] are = All-nil IsNamed
named n before (l ∷ ls) are =
    let fits = and_parts (is_label n before l) (are_labels n l.name ls) are in
    let placed = and_parts (is_name_size (length l.name) && is_word l.name && is_before before l.name) (is_placed n l.address) fits.0 in
    let rising = and_parts (is_name_size (length l.name) && is_word l.name) (is_before before l.name) placed.0 in
    All-cons IsNamed l ls (and_parts (is_name_size (length l.name)) (is_word l.name) rising.0).1 (named n l.name ls fits.1)

either : (b : Bool) (l m : Label) → IsNamed l → IsNamed m → IsNamed (cond b m l)
either true l m first second = second
either false l m first second = first

folded : (l : Label) (ls : List Label) → IsNamed l → All IsNamed ls → IsNamed (fold nearer l ls)
folded l [] one all = one
folded l (m ∷ ls) one all = folded (nearer l m) ls (either (is_nearer m l) l m one (All-head IsNamed m ls all)) (All-tail IsNamed m ls all)

reduced : (ls : List Label) → All IsNamed ls → IfSome (reduce nearer ls) IsNamed
reduced [] all = tt
reduced (l ∷ ls) all = folded l ls (All-head IsNamed l ls all) (All-tail IsNamed l ls all)

ascii_part : (b : ℕ) → is_word_part b ≡ true → b < 128
ascii_part b part = grind (arith, nat_tests)

ascii_start : (b : ℕ) → is_word_start b ≡ true → b < 128
ascii_start b start = grind (arith, nat_tests)

ascii_parts : (bs : List ℕ) → list_all is_word_part bs ≡ true → IsAscii bs
ascii_parts [] all = IsAscii-nil
ascii_parts (b ∷ bs) all =
    let parts = and_parts (is_word_part b) (list_all is_word_part bs) all in
    IsAscii-cons b bs (ascii_part b parts.0) (ascii_parts bs parts.1)

ascii : (bs : List ℕ) → is_word bs ≡ true → IsAscii bs
ascii [] word = IsAscii-nil
ascii (b ∷ bs) word =
    let parts = and_parts (is_word_start b) (list_all is_word_part bs) word in
    IsAscii-cons b bs (ascii_start b parts.0) (ascii_parts bs parts.1)

pub name-is-text : (o : ObjectValue) (l : Label) → IsObject o → own_namer o ≡ Some l → IsUtf8 l.name
name-is-text o l valid is =
    let found = reduced (filter (can_name o.entry) o.labels) (All-filter (can_name o.entry) IsNamed o.labels (named (length o.bytes) [] o.labels valid.labels_fit)) in
    IsUtf8-from_ascii l.name (ascii l.name (subst (λ (r : Option Label). IfSome r IsNamed) is found))

-- the name of a task among those of all, the first of which is task i
name-there : (i : ℕ) (ts : List SetTask) (k : ℕ) (t : SetTask) → slice_get ts k ≡ Some t → get_or (names_from i ts) k [] ≡ task_name (i + k) t.object
name-there i [] k t there = absurd cc
name-there i (u ∷ ts) zero t there = let same : u ≡ t = cc in
    let at : i ≡ i + 0 = omega arith in
    ap (λ (s : SetTask). task_name i s.object) same ∙ ap (λ (n : ℕ). task_name n t.object) at
name-there i (u ∷ ts) (suc k) t there =
    let at : i + 1 + k ≡ i + suc k = omega arith in
    subst (λ (n : ℕ). get_or (names_from (i + 1) ts) k [] ≡ task_name n t.object) at (name-there (i + 1) ts k t there)

pub name-is : (ts : List SetTask) (k : ℕ) (t : SetTask) → slice_get ts k ≡ Some t → get_or (names_from 0 ts) k [] ≡ task_name k t.object
name-is ts k t there =
    let at : 0 + k ≡ k = omega arith in
    subst (λ (n : ℕ). get_or (names_from 0 ts) k [] ≡ task_name n t.object) at (name-there 0 ts k t there)
