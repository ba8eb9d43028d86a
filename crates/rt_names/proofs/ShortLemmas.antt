-- Names are short.
use Rattle.rt_names.proofs.Common.{◌≡◌, ℕ, ◌<◌, ◌≤◌, get_or, nat_le, Bool, true, false, cond, List, [], ◌∷◌, length, Some, IfSome, sym, subst, arith, filter, reduce, option_map, Symbol, Task, Label, label, is_nearer, nearer, namer}
use Rattle.std.proofs.Common.{zero, suc, ◌&&◌, All, Option, None}
use Rattle.std.specs.List.{fold}
use Rattle.std.proofs.lemmas.Bool.{and_parts, leb-true}
use Rattle.std.proofs.lemmas.List.Elements.{All-cons, All-head, All-tail, All-filter}
use Rattle.rt_words.specs.Limits.{line_limit}
use Rattle.rt_token.specs.Word.{is_word}
use Rattle.rt_image.specs.declared.system.Version.{Version}
use Rattle.rt_image.specs.SystemFile.{set_task, set_tasks, IsTask, AreTasks}
use Rattle.rt_image.specs.ObjectFile.{is_name_size, is_before, is_placed, is_label, are_labels}

abbrev pub IsShort : Label → Type 0
IsShort l = length l.name ≤ line_limit

-- ---- names of a file

short_one : (n : ℕ) (before : List ℕ) (l : Label) → is_label n before l ≡ true → IsShort l
short_one n before l is =
    let placed = and_parts (is_name_size (length l.name) && is_word l.name && is_before before l.name) (is_placed n l.address) is in
    let rising = and_parts (is_name_size (length l.name) && is_word l.name) (is_before before l.name) placed.0 in
    let word = and_parts (is_name_size (length l.name)) (is_word l.name) rising.0 in
    leb-true (length l.name) line_limit (and_parts (nat_le 1 (length l.name)) (nat_le (length l.name) line_limit) word.0).1

pub short-labels : (n : ℕ) (before : List ℕ) (ls : List Label) → are_labels n before ls ≡ true → All IsShort ls
short-labels n before [] are = λ k d below. absurd (omega arith)
short-labels n before (l ∷ ls) are =
    let fits = and_parts (is_label n before l) (are_labels n l.name ls) are in
    All-cons IsShort l ls (short_one n before l fits.0) (short-labels n l.name ls fits.1)

-- each task of a file has a spelling
pub task-fits : (version : Version) (ts : List Task) → AreTasks version (set_tasks ts) → (k : ℕ) (d : Task) → k < length ts → IsTask version (set_task (get_or ts k d))
task-fits version [] fit k d below = absurd (omega arith)
task-fits version (t ∷ ts) fit zero d below = fit.0
task-fits version (t ∷ ts) fit (suc k) d below = task-fits version ts fit.1 k d (omega arith)

-- ---- the name of a part

either : (b : Bool) (l m : Label) → IsShort l → IsShort m → IsShort (cond b m l)
either true l m first second = second
either false l m first second = first

folded : (l : Label) (ls : List Label) → IsShort l → All IsShort ls → IsShort (fold nearer l ls)
folded l [] one all = one
folded l (m ∷ ls) one all =
    folded (nearer l m) ls (either (is_nearer m l) l m one (All-head IsShort m ls all)) (All-tail IsShort m ls all)

reduced : (ls : List Label) → All IsShort ls → IfSome (reduce nearer ls) IsShort
reduced [] all = tt
reduced (l ∷ ls) all = folded l ls (All-head IsShort l ls all) (All-tail IsShort l ls all)

-- of the labels that pass a test, the nearest is short
pub found-short : (p : Label → Bool) (ls : List Label) (found : Option Symbol) → All IsShort ls → option_map label found ≡ reduce nearer (filter p ls) → IfSome found (λ s. length s.name.now ≤ line_limit)
found-short p ls None all is = tt
found-short p ls (Some s) all is = subst (λ (r : Option Label). IfSome r IsShort) (sym is) (reduced (filter p ls) (All-filter p IsShort ls all))

pub namer-short : (ls : List Label) (a : ℕ) (found : Option Symbol) → All IsShort ls → option_map label found ≡ namer ls a → IfSome found (λ s. length s.name.now ≤ line_limit)
namer-short ls a found all is = found-short (λ l. nat_le l.address a) ls found all is
