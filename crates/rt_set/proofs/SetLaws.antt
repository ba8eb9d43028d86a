-- What is read of a set file is what its lines spell, and what is spelled is read.
use Rattle.std.proofs.Common.{◌≡◌, ℕ, ◌+◌, ◌^◌, ◌<◌, ◌≤◌, Bool, true, false, ◌&&◌, cond, ltb, List, [], ◌∷◌, ◌++◌, length, map, codes, Option, Some, None, Result, Ok, Err, refl, sym, ap, subst, ◌∙◌, append_assoc, arith, decimal, lt-ltb, length-append}
use Rattle.std.specs.Prelude.{filter, IsUtf8, IfOk}
use Rattle.std.specs.Option.{option_map}
use Rattle.std.specs.Str.{is_utf8}
use Rattle.std.proofs.lemmas.Bool.{and_parts, ltb-true}
use Rattle.std.proofs.lemmas.List.{append-nil}
use Rattle.rt_words.specs.Run.{next}
use Rattle.rt_words.specs.Found.{when}
use Rattle.rt_words.specs.Limits.{is_ram_size}
use Rattle.rt_words.proofs.Founds.{bind_some, when_some, some_is}
use Rattle.rt_words.proofs.RamSizes.{ram_size_below}
use Rattle.rt_set.specs.declared.set.SetFile.{SetFile}
use Rattle.rt_set.specs.declared.fault.SetFault.{SetFault}
use Rattle.rt_token.specs.SpacedWords.{after_keyword, decimal_up_to, number_at}
use Rattle.rt_set.specs.SetFile.{TaskEntry, SetEntries, set_entries, set_lines, says_something, hyper_line, task_word, task_line, IsTaskEntry, AreTaskEntries, AreSetLines, IsSetFile}
use Rattle.rt_set.specs.SetLines.{number_limit, hyper_of, path_of, which_word, task_word_of, task_of, Draft, after_entry, after_line, or_faulty, read_from, whole, finished, set_of, Reads}
use Rattle.rt_set.proofs.Texts.{is_text, text_is}
use Rattle.rt_token.proofs.SpacedWordLaws.{decimal_takes, decimal_again, number_takes, number_again, keyword_takes, keyword_again, word_again}

abbrev pub done : {A : Type 0} → A → Result A ℕ
done x = Ok x

pub ok_is : {A : Type 0} (x y : A) → done x ≡ done y → x ≡ y
ok_is x y e = cc

-- ---- the numbers

small_takes : (ds : List ℕ) (n : ℕ) → decimal_up_to number_limit ds ≡ Some n → (ds ≡ decimal n) × (n < 2 ^ 32)
small_takes ds n e = let read = decimal_takes number_limit ds n (omega arith) e in (read.0, omega (arith, read.1))

small_again : (n : ℕ) → n < 2 ^ 32 → decimal_up_to number_limit (decimal n) ≡ Some n
small_again n fits = decimal_again number_limit n (omega arith) (omega arith)

first_takes : (line : List ℕ) (x : ℕ × List ℕ) → number_at number_limit line ≡ Some x → (line ≡ decimal x.0 ++ 32 ∷ x.1) × (x.0 < 2 ^ 32)
first_takes line x e = let read = number_takes number_limit line x (omega arith) e in (read.0, omega (arith, read.1))

first_again : (n : ℕ) (rest : List ℕ) → n < 2 ^ 32 → number_at number_limit (decimal n ++ 32 ∷ rest) ≡ Some (n, rest)
first_again n rest fits = number_again number_limit n rest (omega arith) (omega arith)

-- ---- the hyper line

pub hyper_takes : (line : List ℕ) (n : ℕ) → hyper_of line ≡ Some n → (line ≡ hyper_line n) × (n < 2 ^ 32)
unfolding hyper_of
hyper_takes line n e =
    let rest = bind_some (after_keyword (codes "hyper") line) _ n e in
    let is = small_takes rest.0 n rest.2 in
    (keyword_takes (codes "hyper") line rest.0 rest.1 ∙ ap (λ (ds : List ℕ). codes "hyper " ++ ds) is.0, is.1)

pub hyper_again : (n : ℕ) → n < 2 ^ 32 → hyper_of (hyper_line n) ≡ Some n
unfolding hyper_of
hyper_again n fits = rw (keyword_again (codes "hyper") (decimal n) refl) (small_again n fits)

-- ---- a task line

path_takes : (bytes path : List ℕ) → path_of bytes ≡ Some path → (bytes ≡ path) × (0 < length path) × IsUtf8 path
path_takes bytes path e =
    let found = when_some (ltb 0 (length bytes) && is_utf8 bytes) bytes path e in
    let tests = and_parts (ltb 0 (length bytes)) (is_utf8 bytes) found.0 in
    subst (λ (p : List ℕ). (bytes ≡ p) × (0 < length p) × IsUtf8 p) found.1 (refl, ltb-true _ _ tests.0, text_is bytes tests.1)

path_again : (path : List ℕ) → 0 < length path → IsUtf8 path → path_of path ≡ Some path
path_again path some text = rw (lt-ltb _ _ some, is_text path text) refl

which_takes : (whole split : Option (List ℕ)) (x : Bool × List ℕ) (line : List ℕ) → after_keyword (task_word false) line ≡ whole → after_keyword (task_word true) line ≡ split
    → which_word whole split ≡ Some x → line ≡ task_word x.0 ++ 32 ∷ x.1
which_takes (Some rest) split x line a b e =
    subst (λ (y : Bool × List ℕ). line ≡ task_word y.0 ++ 32 ∷ y.1) (some_is (false, rest) x e) (keyword_takes (task_word false) line rest a)
which_takes None (Some rest) x line a b e =
    subst (λ (y : Bool × List ℕ). line ≡ task_word y.0 ++ 32 ∷ y.1) (some_is (true, rest) x e) (keyword_takes (task_word true) line rest b)
which_takes None None x line a b e = absurd cc

task_word_takes : (line : List ℕ) (x : Bool × List ℕ) → task_word_of line ≡ Some x → line ≡ task_word x.0 ++ 32 ∷ x.1
unfolding task_word_of
task_word_takes line x e = which_takes (after_keyword (task_word false) line) (after_keyword (task_word true) line) x line refl refl e

task_word_again : (split : Bool) (rest : List ℕ) → task_word_of (task_word split ++ 32 ∷ rest) ≡ Some (split, rest)
unfolding task_word_of
task_word_again false rest = rw (keyword_again (task_word false) rest refl) refl
task_word_again true rest =
    let other : after_keyword (task_word false) (task_word true ++ 32 ∷ rest) ≡ None = rw (word_again (task_word true) rest refl) refl in
    rw (other, keyword_again (task_word true) rest refl) refl

-- the numbers and the path, grouped as they are read
read_line : TaskEntry → List ℕ
read_line t = task_word t.split ++ 32 ∷ (decimal t.budget ++ 32 ∷ (decimal t.period ++ 32 ∷ (decimal t.start ++ 32 ∷ (decimal t.ram ++ 32 ∷ t.path))))

read_line-is : (t : TaskEntry) → read_line t ≡ task_line t
unfolding read_line
read_line-is t = sym (simp append_assoc)

-- a line whose parts are cut off one after the other
joined : (line r0 r1 r2 r3 r4 : List ℕ) (t : TaskEntry) → line ≡ task_word t.split ++ 32 ∷ r0 → r0 ≡ decimal t.budget ++ 32 ∷ r1 → r1 ≡ decimal t.period ++ 32 ∷ r2 → r2 ≡ decimal t.start ++ 32 ∷ r3
    → r3 ≡ decimal t.ram ++ 32 ∷ r4 → r4 ≡ t.path → line ≡ task_line t
unfolding read_line
joined line r0 r1 r2 r3 r4 t c0 c1 c2 c3 c4 c5 =
    let ram = c4 ∙ ap (λ (l : List ℕ). decimal t.ram ++ 32 ∷ l) c5 in
    let start = c3 ∙ ap (λ (l : List ℕ). decimal t.start ++ 32 ∷ l) ram in
    let period = c2 ∙ ap (λ (l : List ℕ). decimal t.period ++ 32 ∷ l) start in
    let budget = c1 ∙ ap (λ (l : List ℕ). decimal t.budget ++ 32 ∷ l) period in
    c0 ∙ ap (λ (l : List ℕ). task_word t.split ++ 32 ∷ l) budget ∙ read_line-is t

pub task_takes : (line : List ℕ) (t : TaskEntry) → task_of line ≡ Some t → (line ≡ task_line t) × IsTaskEntry t
unfolding task_of
task_takes line t e =
    let word = bind_some (task_word_of line) _ t e in
    let budget = bind_some (number_at number_limit word.0.1) _ t word.2 in
    let period = bind_some (number_at number_limit budget.0.1) _ t budget.2 in
    let start = bind_some (number_at number_limit period.0.1) _ t period.2 in
    let ram = bind_some (number_at number_limit start.0.1) _ t start.2 in
    let size = bind_some (when (is_ram_size ram.0.0) ram.0.1) _ t ram.2 in
    let path = bind_some (path_of size.0) _ t size.2 in
    let fits = when_some (is_ram_size ram.0.0) ram.0.1 size.0 size.1 in
    let t1 = first_takes word.0.1 budget.0 budget.1 in
    let t2 = first_takes budget.0.1 period.0 period.1 in
    let t3 = first_takes period.0.1 start.0 start.1 in
    let t4 = first_takes start.0.1 ram.0 ram.1 in
    let t5 = path_takes size.0 path.0 path.1 in
    let made : TaskEntry = record { budget = budget.0.0; period = period.0.0; start = start.0.0; split = word.0.0; ram = ram.0.0; path = path.0 } in
    let is_path : ram.0.1 ≡ path.0 = fits.1 ∙ t5.0 in
    let first = task_word_takes line word.0 word.1 in
    let spelled : line ≡ task_line made = joined line word.0.1 budget.0.1 period.0.1 start.0.1 ram.0.1 made first t1.0 t2.0 t3.0 t4.0 is_path in
    subst (λ (x : TaskEntry). (line ≡ task_line x) × IsTaskEntry x) (some_is made t path.2)
    (spelled, record { budget_fits = t1.1; period_fits = t2.1; start_fits = t3.1; ram_fits = fits.0; some_path = t5.1; is_text = t5.2 })

pub task_again : (t : TaskEntry) → IsTaskEntry t → task_of (task_line t) ≡ Some t
unfolding task_of read_line
task_again t h =
    ap task_of (sym (read_line-is t))
    ∙ rw (
      task_word_again t.split (decimal t.budget ++ 32 ∷ (decimal t.period ++ 32 ∷ (decimal t.start ++ 32 ∷ (decimal t.ram ++ 32 ∷ t.path)))),
      first_again t.budget (decimal t.period ++ 32 ∷ (decimal t.start ++ 32 ∷ (decimal t.ram ++ 32 ∷ t.path))) h.budget_fits,
      first_again t.period (decimal t.start ++ 32 ∷ (decimal t.ram ++ 32 ∷ t.path)) h.period_fits,
      first_again t.start (decimal t.ram ++ 32 ∷ t.path) h.start_fits,
      first_again t.ram t.path (ram_size_below t.ram h.ram_fits),
      h.ram_fits,
      path_again t.path h.some_path h.is_text,
    ) refl

-- ---- the lines

-- a line that was taken, and the reading of the others
pub step_ok : (read : Option Draft) (n : ℕ) (others : Draft → Result Draft ℕ) (end : Draft) → next (λ line _. line) n (or_faulty read) others ≡ Ok end → (d : Draft) × (read ≡ Some d) × (others d ≡ Ok end)
step_ok None n others end e = absurd cc
step_ok (Some d) n others end e = (d, refl, e)

pub mapped_some : {A B : Type 0} (f : A → B) (read : Option A) (y : B) → option_map f read ≡ Some y → (x : A) × (read ≡ Some x) × (f x ≡ y)
mapped_some f (Some x) y e = (x, refl, some_is (f x) y e)
mapped_some f None y e = absurd cc

if_some : {A : Type 0} (b : Bool) (read : Option A) (y : A) → cond b read None ≡ Some y → (b ≡ true) × (read ≡ Some y)
if_some true read y e = (refl, e)
if_some false read y e = absurd cc

abbrev pub drafted : ℕ → List TaskEntry → Draft
drafted h ts = record { hyper = Some h; tasks = ts }

-- what the lines after the hyper line are where they are read
pub record TasksRead (h : ℕ) (lines : List (List ℕ)) (ts : List TaskEntry) (end : Draft) : Type 0 where
  pub more : List TaskEntry
  pub said : filter says_something lines ≡ map task_line more
  pub fits : AreTaskEntries more
  pub is_end : drafted h (ts ++ more) ≡ end
  pub count : length ts + length more ≤ 256

-- what a line is that is read after the hyper line
pub task_line_taken : (h : ℕ) (ts : List TaskEntry) (line : List ℕ) (d : Draft) → after_entry (Some h) ts line ≡ Some d
    → (t : TaskEntry) × (length ts < 256) × (task_of line ≡ Some t) × (drafted h (ts ++ t ∷ []) ≡ d)
task_line_taken h ts line d e =
    let few = if_some (ltb (length ts) 256) (option_map (λ t. drafted h (ts ++ t ∷ [])) (task_of line)) d e in
    let task = mapped_some (λ t. drafted h (ts ++ t ∷ [])) (task_of line) d few.1 in
    (task.0, ltb-true _ _ few.0, task.1, task.2)

with_line : (b : Bool) (h n : ℕ) (line : List ℕ) (lines : List (List ℕ)) (ts : List TaskEntry) (d end : Draft) → says_something line ≡ b → length ts ≤ 256
    → cond b (after_entry (Some h) ts line) (Some (drafted h ts)) ≡ Some d → read_from (n + 1) d lines ≡ Ok end
    → ((us : List TaskEntry) → length us ≤ 256 → read_from (n + 1) (drafted h us) lines ≡ Ok end → TasksRead h lines us end)
    → TasksRead h (line ∷ lines) ts end
with_line false h n line lines ts d end says few taken others again =
    let below = again ts few (rw (some_is (drafted h ts) d taken) others) in
    record { more = below.more; said = rw says below.said; fits = below.fits; is_end = below.is_end; count = below.count }
with_line true h n line lines ts d end says few taken others again =
    let task = task_line_taken h ts line d taken in
    let grown : length (ts ++ task.0 ∷ []) ≡ length ts + 1 = length-append ts (task.0 ∷ []) in
    let below = again (ts ++ task.0 ∷ []) (omega (arith, task.1)) (rw task.3 others) in
    let spelled = task_takes line task.0 task.2 in
    record {
      more = task.0 ∷ below.more;
      said = rw says (λ i. spelled.0 i ∷ below.said i);
      fits = (spelled.1, below.fits);
      is_end = ap (drafted h) (sym (append_assoc ts (task.0 ∷ []) below.more)) ∙ below.is_end;
      count = omega (arith, below.count, grown);
    }

pub tasks_take : (lines : List (List ℕ)) (h n : ℕ) (ts : List TaskEntry) (end : Draft) → length ts ≤ 256 → read_from n (drafted h ts) lines ≡ Ok end → TasksRead h lines ts end
tasks_take [] h n ts end few e = record { more = []; said = refl; fits = tt; is_end = ap (drafted h) (append-nil ts) ∙ ok_is (drafted h ts) end e; count = omega arith }
tasks_take (line ∷ lines) h n ts end few e =
    let step = step_ok (after_line (drafted h ts) line) n (λ d. read_from (n + 1) d lines) end e in
    with_line (says_something line) h n line lines ts step.0 end refl few step.1 step.2 (λ us small f. tasks_take lines h (n + 1) us end small f)

pub not_both : (o : Option ℕ) (n : ℕ) → o ≡ None → o ≡ Some n → ⊥
not_both o n none some = cc

abbrev pub empty : Draft
empty = record { hyper = None; tasks = [] }

abbrev pub full : SetEntries → Draft
full s = drafted s.hyper s.tasks

with_first : (b : Bool) (n : ℕ) (line : List ℕ) (lines : List (List ℕ)) (d : Draft) (s : SetEntries) → says_something line ≡ b
    → cond b (after_entry None [] line) (Some empty) ≡ Some d → read_from (n + 1) d lines ≡ Ok (full s)
    → (read_from (n + 1) empty lines ≡ Ok (full s) → AreSetLines lines s)
    → AreSetLines (line ∷ lines) s
with_first false n line lines d s says taken others again =
    let below = again (rw (some_is empty d taken) others) in
    record { said = rw says below.said; hyper_fits = below.hyper_fits; count = below.count; tasks_fit = below.tasks_fit }
with_first true n line lines d s says taken others again =
    let hyper = mapped_some (λ k. drafted k []) (hyper_of line) d taken in
    let first = hyper_takes line hyper.0 hyper.1 in
    let below = tasks_take lines hyper.0 (n + 1) [] (full s) (omega arith) (rw hyper.2 others) in
    let same : hyper.0 ≡ s.hyper = some_is hyper.0 s.hyper (ap (λ (x : Draft). x.hyper) below.is_end) in
    let tasks : below.more ≡ s.tasks = ap (λ (x : Draft). x.tasks) below.is_end in
    record {
      said = rw says (λ i. (first.0 ∙ ap hyper_line same) i ∷ (below.said ∙ ap (map task_line) tasks) i);
      hyper_fits = subst (λ k. k < 2 ^ 32) same first.1;
      count = omega (arith, below.count, ap length tasks);
      tasks_fit = subst AreTaskEntries tasks below.fits;
    }

pub lines_take : (lines : List (List ℕ)) (n : ℕ) (s : SetEntries) → read_from n empty lines ≡ Ok (full s) → AreSetLines lines s
lines_take [] n s e = absurd (not_both empty.hyper s.hyper refl (ap (λ (x : Draft). x.hyper) (ok_is empty (full s) e)))
lines_take (line ∷ lines) n s e =
    let step = step_ok (after_line empty line) n (λ d. read_from (n + 1) d lines) (full s) e in
    with_first (says_something line) n line lines step.0 s refl step.1 step.2 (λ f. lines_take lines (n + 1) s f)

whole_ok : (after : ℕ) (h : Option ℕ) (ts : List TaskEntry) (s : SetEntries) → whole after h ts ≡ Ok s → done (record { hyper = h; tasks = ts }) ≡ Ok (full s)
whole_ok after None ts s e = absurd cc
whole_ok after (Some h) ts s e = ap (λ (x : SetEntries). done (full x)) (ok_is (record { hyper = h; tasks = ts }) s e)

finished_ok : (after : ℕ) (read : Result Draft ℕ) (s : SetEntries) → finished after read ≡ Ok s → read ≡ Ok (full s)
finished_ok after (Ok d) s e = whole_ok after d.hyper d.tasks s e
finished_ok after (Err line) s e = absurd cc

pub set_takes : (text : List ℕ) (s : SetEntries) → set_of text ≡ Ok s → IsSetFile text s
set_takes text s e = lines_take (set_lines text) 1 s (finished_ok (1 + length (set_lines text)) (read_from 1 empty (set_lines text)) s e)

-- ---- and back

with_line_again : (b : Bool) (h n : ℕ) (line : List ℕ) (lines : List (List ℕ)) (ts more : List TaskEntry) → says_something line ≡ b
    → cond b (line ∷ filter says_something lines) (filter says_something lines) ≡ map task_line more → AreTaskEntries more → length ts + length more ≤ 256
    → ((us rest : List TaskEntry) → filter says_something lines ≡ map task_line rest → AreTaskEntries rest → length us + length rest ≤ 256 → read_from (n + 1) (drafted h us) lines ≡ Ok (drafted h (us ++ rest)))
    → read_from n (drafted h ts) (line ∷ lines) ≡ Ok (drafted h (ts ++ more))
with_line_again false h n line lines ts more says said fits count again = rw says (again ts more said fits count)
with_line_again true h n line lines ts [] says said fits count again = absurd cc
with_line_again true h n line lines ts (t ∷ more) says said fits count again =
    let is_line : line ≡ task_line t = cc in
    let others : filter says_something lines ≡ map task_line more = cc in
    let taken : task_of line ≡ Some t = ap task_of is_line ∙ task_again t fits.0 in
    let few : length ts < 256 = omega arith in
    let grown : length (ts ++ t ∷ []) ≡ length ts + 1 = length-append ts (t ∷ []) in
    let read = again (ts ++ t ∷ []) more others fits.1 (omega arith) in
    rw (says, lt-ltb _ _ few, taken) (read ∙ ap (λ us. done (drafted h us)) (append_assoc ts (t ∷ []) more))

tasks_again : (lines : List (List ℕ)) (h n : ℕ) (ts more : List TaskEntry) → filter says_something lines ≡ map task_line more → AreTaskEntries more → length ts + length more ≤ 256
    → read_from n (drafted h ts) lines ≡ Ok (drafted h (ts ++ more))
tasks_again [] h n ts [] said fits count = ap (λ us. done (drafted h us)) (sym (append-nil ts))
tasks_again [] h n ts (t ∷ more) said fits count = absurd cc
tasks_again (line ∷ lines) h n ts more said fits count =
    with_line_again (says_something line) h n line lines ts more refl said fits count (λ us rest e f c. tasks_again lines h (n + 1) us rest e f c)

with_first_again : (b : Bool) (n : ℕ) (line : List ℕ) (lines : List (List ℕ)) (s : SetEntries) → says_something line ≡ b
    → cond b (line ∷ filter says_something lines) (filter says_something lines) ≡ hyper_line s.hyper ∷ map task_line s.tasks
    → s.hyper < 2 ^ 32 → length s.tasks ≤ 256 → AreTaskEntries s.tasks
    → (filter says_something lines ≡ hyper_line s.hyper ∷ map task_line s.tasks → read_from (n + 1) empty lines ≡ Ok (full s))
    → read_from n empty (line ∷ lines) ≡ Ok (full s)
with_first_again false n line lines s says said small few fits again = rw says (again said)
with_first_again true n line lines s says said small few fits again =
    let is_line : line ≡ hyper_line s.hyper = cc in
    let others : filter says_something lines ≡ map task_line s.tasks = cc in
    let taken : hyper_of line ≡ Some s.hyper = ap hyper_of is_line ∙ hyper_again s.hyper small in
    rw (says, taken) (tasks_again lines s.hyper (n + 1) [] s.tasks others fits (omega arith))

pub lines_again : (lines : List (List ℕ)) (n : ℕ) (s : SetEntries) → filter says_something lines ≡ hyper_line s.hyper ∷ map task_line s.tasks
    → s.hyper < 2 ^ 32 → length s.tasks ≤ 256 → AreTaskEntries s.tasks → read_from n empty lines ≡ Ok (full s)
lines_again [] n s said small few fits = absurd cc
lines_again (line ∷ lines) n s said small few fits =
    with_first_again (says_something line) n line lines s refl said small few fits (λ e. lines_again lines (n + 1) s e small few fits)

pub set_again : (text : List ℕ) (s : SetEntries) → IsSetFile text s → set_of text ≡ Ok s
set_again text s h = ap (finished (1 + length (set_lines text))) (lines_again (set_lines text) 1 s h.said h.hyper_fits h.count h.tasks_fit)

-- ---- the program

pub is_found : (text : List ℕ) (r : Result SetFile SetFault) → Reads r (set_of text) → IfOk r (λ s. IsSetFile text (set_entries s))
is_found text (Ok s) read = set_takes text (set_entries s) read
is_found text (Err f) read = tt
