-- A line has a misfit exactly where it is refused.
use Rattle.std.proofs.Common.{◌≡◌, ℕ, ◌+◌, ◌-◌, Bool, true, false, ◌&&◌, cond, eqb, leb, ltb, List, [], ◌∷◌, ◌++◌, length, map, codes, Option, Some, None, refl, sym, ap, ◌∙◌, arith, ne_eqb}
use Rattle.std.specs.Prelude.{not, filter, if◌then◌else◌, ◌||◌}
use Rattle.std.specs.Option.{option_map}
use Rattle.std.specs.List.{list_all}
use Rattle.std.specs.Char.{is_digit}
use Rattle.std.specs.Str.{bytes_eq}
use Rattle.std.specs.Str.Parse.{digits_value}
use Rattle.std.proofs.lemmas.Bool.{and_parts}
use Rattle.std.proofs.lemmas.List.{length-map}
use Rattle.rt_words.specs.Found.{◌>>=◌, when}
use Rattle.rt_words.specs.Limits.{is_ram_size}
use Rattle.rt_words.proofs.Founds.{when_some, unless_some}
use Rattle.rt_token.specs.Number.{are_digits, value_up_to}
use Rattle.rt_token.specs.SpacedWords.{word_at, has_leading_zero, decimal_up_to}
use Rattle.rt_token.proofs.SpacedWordLaws.{word_takes}
use Rattle.rt_set.specs.SetFile.{TaskEntry, SetEntries, says_something, set_lines, task_word, task_line}
use Rattle.rt_set.specs.SetLines.{number_limit, hyper_of, path_of, which_word, task_word_of, task_of, after_entry}
use Rattle.rt_set.specs.FirstFault.{Say, MayNotFollow, IsFaultyLine}
use Rattle.rt_set.specs.SaidLines.{said_before}
use Rattle.rt_set.specs.Misfit.{is_found, is_ram, cut_by, or_here, misfit_in, misfit_of, form_after, said_by}
use Rattle.rt_set.specs.declared.misfits.WordKind.{WordKind}
use Rattle.rt_set.specs.declared.misfits.WordKind.TheVariants.{Hyper, Ticks, End, Task, Budget, Period, Start, Ram, Path, Nothing}
use Rattle.rt_set.proofs.SaidLemmas.{said_step, said_done}
use Rattle.rt_set.proofs.SetLaws.{drafted}
use Rattle.rt_set.proofs.FaultLaws.{draft_of, may_not_follow, no_hyper, few_or_not}

abbrev Left : Type 0
Left = Option (WordKind × Option (List ℕ))

-- ---- the number of a hyper line

no_digits : (front back : List ℕ) → list_all (λ d. is_digit d 10) (front ++ 32 ∷ back) ≡ true → ⊥
no_digits [] back e = absurd cc
no_digits (d ∷ ds) back e = no_digits ds back (and_parts (is_digit d 10) (list_all (λ d. is_digit d 10) (ds ++ 32 ∷ back)) e).1

digits_of : (ds : List ℕ) (n : ℕ) → decimal_up_to number_limit ds ≡ Some n → list_all (λ d. is_digit d 10) ds ≡ true
digits_of ds n e =
    let kept = unless_some (has_leading_zero ds) (value_up_to number_limit 10 ds) n e in
    let found = when_some (are_digits 10 ds && leb (digits_value 10 ds) number_limit) (digits_value 10 ds) n kept.1 in
    let tests = and_parts (are_digits 10 ds) (leb (digits_value 10 ds) number_limit) found.0 in
    (and_parts (ltb 0 (length ds)) (list_all (λ d. is_digit d 10) ds) tests.0).1

spaced_by : (o : Option ℕ) (rest front back : List ℕ) → decimal_up_to number_limit rest ≡ o → rest ≡ front ++ 32 ∷ back → is_found o ≡ false
spaced_by None rest front back read is = refl
spaced_by (Some n) rest front back read is =
    absurd (no_digits front back (ap (λ (ds : List ℕ). list_all (λ d. is_digit d 10) ds) (sym is) ∙ digits_of rest n read))

ticks_by : (o : Option (List ℕ × List ℕ)) (rest : List ℕ) → word_at rest ≡ o
    → is_found (or_here Ticks (Some rest) (when (is_found (decimal_up_to number_limit (cut_by rest o).0)) (cut_by rest o).1) (λ next. misfit_in (End ∷ []) next)) ≡ not (is_found (decimal_up_to number_limit rest))
ticks_by None rest is = here (is_found (decimal_up_to number_limit rest))
  where
    here : (b : Bool) → is_found (or_here Ticks (Some rest) (when b None) (λ next. misfit_in (End ∷ []) next)) ≡ not b
    here true = refl
    here false = refl
ticks_by (Some x) rest is = here (is_found (decimal_up_to number_limit x.0)) ∙ sym (ap not (spaced_by (decimal_up_to number_limit rest) rest x.0 x.1 refl (word_takes rest x is)))
  where
    here : (b : Bool) → is_found (or_here Ticks (Some rest) (when b (Some x.1)) (λ next. misfit_in (End ∷ []) next)) ≡ true
    here true = refl
    here false = refl

hyper_by : (o : Option (List ℕ × List ℕ)) (line : List ℕ)
    → is_found (or_here Hyper (Some line) (when (bytes_eq (cut_by line o).0 (codes "hyper")) (cut_by line o).1) (λ next. misfit_in (Ticks ∷ End ∷ []) next))
    ≡ not (is_found ((o >>= λ word. when (bytes_eq word.0 (codes "hyper")) word.1) >>= λ rest. decimal_up_to number_limit rest))
hyper_by None line = here (bytes_eq line (codes "hyper"))
  where
    here : (b : Bool) → is_found (or_here Hyper (Some line) (when b None) (λ next. misfit_in (Ticks ∷ End ∷ []) next)) ≡ true
    here true = refl
    here false = refl
hyper_by (Some x) line = here (bytes_eq x.0 (codes "hyper"))
  where
    here : (b : Bool) → is_found (or_here Hyper (Some line) (when b (Some x.1)) (λ next. misfit_in (Ticks ∷ End ∷ []) next)) ≡ not (is_found (when b x.1 >>= λ rest. decimal_up_to number_limit rest))
    here true = ticks_by (word_at x.1) x.1 refl
    here false = refl

hyper_misfit : (line : List ℕ) → is_found (misfit_in (form_after 0) (Some line)) ≡ not (is_found (hyper_of line))
unfolding hyper_of
hyper_misfit line = hyper_by (word_at line) line

-- ---- a task line

-- a number, and what follows it
number_by : (o : Option (List ℕ × List ℕ)) (rest : List ℕ) (kind : WordKind) (later : Option (List ℕ) → Left) (f : ℕ × List ℕ → Option TaskEntry)
    → is_found (later None) ≡ true → ((x : ℕ × List ℕ) → is_found (later (Some x.1)) ≡ not (is_found (f x)))
    → is_found (or_here kind (Some rest) (when (is_found (decimal_up_to number_limit (cut_by rest o).0)) (cut_by rest o).1) later)
    ≡ not (is_found ((o >>= λ word. decimal_up_to number_limit word.0 >>= λ n. Some (n, word.1)) >>= f))
number_by None rest kind later f ends again = here (is_found (decimal_up_to number_limit rest))
  where
    here : (b : Bool) → is_found (or_here kind (Some rest) (when b None) later) ≡ true
    here true = ends
    here false = refl
number_by (Some x) rest kind later f ends again = here (decimal_up_to number_limit x.0)
  where
    here : (n : Option ℕ) → is_found (or_here kind (Some rest) (when (is_found n) (Some x.1)) later) ≡ not (is_found ((n >>= λ k. Some (k, x.1)) >>= f))
    here None = refl
    here (Some n) = again (n, x.1)

-- the size of RAM, and what follows it
ram_by : (o : Option (List ℕ × List ℕ)) (rest : List ℕ) (later : Option (List ℕ) → Left) (f : ℕ × List ℕ → List ℕ → Option TaskEntry)
    → is_found (later None) ≡ true → ((x : ℕ × List ℕ) → is_found (later (Some x.1)) ≡ not (is_found (f x x.1)))
    → is_found (or_here Ram (Some rest) (when (is_ram (decimal_up_to number_limit (cut_by rest o).0)) (cut_by rest o).1) later)
    ≡ not (is_found ((o >>= λ word. decimal_up_to number_limit word.0 >>= λ n. Some (n, word.1)) >>= λ ram. when (is_ram_size ram.0) ram.1 >>= f ram))
ram_by None rest later f ends again = here (is_ram (decimal_up_to number_limit rest))
  where
    here : (b : Bool) → is_found (or_here Ram (Some rest) (when b None) later) ≡ true
    here true = ends
    here false = refl
ram_by (Some x) rest later f ends again = here (decimal_up_to number_limit x.0)
  where
    size : (n : ℕ) (b : Bool) → is_found (or_here Ram (Some rest) (when b (Some x.1)) later) ≡ not (is_found (when b x.1 >>= f (n, x.1)))
    size n true = again (n, x.1)
    size n false = refl

    here : (n : Option ℕ) → is_found (or_here Ram (Some rest) (when (is_ram n) (Some x.1)) later) ≡ not (is_found ((n >>= λ k. Some (k, x.1)) >>= λ ram. when (is_ram_size ram.0) ram.1 >>= f ram))
    here None = refl
    here (Some n) = size n (is_ram_size n)

path_by : (o : Option (List ℕ)) (rest : List ℕ) (f : List ℕ → TaskEntry)
    → is_found (or_here Path (Some rest) (when (is_found o) None) (λ next. misfit_in [] next)) ≡ not (is_found (o >>= λ path. Some (f path)))
path_by None rest f = refl
path_by (Some path) rest f = refl

abbrev task_forms : List WordKind
task_forms = Budget ∷ Period ∷ Start ∷ Ram ∷ Path ∷ []

-- the first word of a task line, and what follows it
word_by : (o : Option (List ℕ × List ℕ)) (line : List ℕ) (f : Bool × List ℕ → Option TaskEntry)
    → ((x : Bool × List ℕ) → is_found (misfit_in task_forms (Some x.1)) ≡ not (is_found (f x)))
    → is_found (or_here Task (Some line) (when (bytes_eq (cut_by line o).0 (task_word false) || bytes_eq (cut_by line o).0 (task_word true)) (cut_by line o).1) (λ next. misfit_in task_forms next))
    ≡ not (is_found (which_word (o >>= λ word. when (bytes_eq word.0 (task_word false)) word.1) (o >>= λ word. when (bytes_eq word.0 (task_word true)) word.1) >>= f))
word_by None line f again = here (bytes_eq line (task_word false) || bytes_eq line (task_word true))
  where
    here : (b : Bool) → is_found (or_here Task (Some line) (when b None) (λ next. misfit_in task_forms next)) ≡ true
    here true = refl
    here false = refl
word_by (Some x) line f again = here (bytes_eq x.0 (task_word false)) (bytes_eq x.0 (task_word true))
  where
    here : (b c : Bool) → is_found (or_here Task (Some line) (when (b || c) (Some x.1)) (λ next. misfit_in task_forms next)) ≡ not (is_found (which_word (when b x.1) (when c x.1) >>= f))
    here true c = again (false, x.1)
    here false true = again (true, x.1)
    here false false = refl

task_misfit : (line : List ℕ) → is_found (misfit_in (Task ∷ task_forms) (Some line)) ≡ not (is_found (task_of line))
unfolding task_of task_word_of
task_misfit line =
    word_by (word_at line) line _ (λ word. number_by (word_at word.1) word.1 Budget (λ next. misfit_in (Period ∷ Start ∷ Ram ∷ Path ∷ []) next) _ refl
    (λ budget. number_by (word_at budget.1) budget.1 Period (λ next. misfit_in (Start ∷ Ram ∷ Path ∷ []) next) _ refl
    (λ period. number_by (word_at period.1) period.1 Start (λ next. misfit_in (Ram ∷ Path ∷ []) next) _ refl
    (λ start. ram_by (word_at start.1) start.1 (λ next. misfit_in (Path ∷ []) next) _ refl
    (λ ram. path_by (path_of ram.1) ram.1 _)))))

-- ---- a line behind others

mapped : {A B : Type 0} (f : A → B) (o : Option A) → is_found (option_map f o) ≡ is_found o
mapped f None = refl
mapped f (Some x) = refl

many_by : (b : Bool) (s : SetEntries) (line : List ℕ) → ltb (length s.tasks) 256 ≡ b
    → is_found (misfit_in (cond b (Task ∷ task_forms) (Nothing ∷ [])) (Some line)) ≡ not (is_found (cond b (option_map (λ t. drafted s.hyper (s.tasks ++ t ∷ [])) (task_of line)) None))
many_by true s line e = task_misfit line ∙ sym (ap not (mapped (λ t. drafted s.hyper (s.tasks ++ t ∷ [])) (task_of line)))
many_by false s line e = refl

few_is : (n : ℕ) → leb (1 + n) 256 ≡ ltb n 256
few_is n = grind arith

form_is : (s : SetEntries) → form_after (said_by (Some s)) ≡ cond (ltb (length s.tasks) 256) (Task ∷ task_forms) (Nothing ∷ [])
form_is s =
    let more : eqb (1 + length s.tasks) 0 ≡ false = ne_eqb _ _ (omega arith) in
    rw (more, few_is (length s.tasks)) refl

misfit_is : (before : Option SetEntries) (line : List ℕ) → is_found (misfit_of (said_by before) line) ≡ not (is_found (after_entry (draft_of before).hyper (draft_of before).tasks line))
unfolding draft_of
misfit_is None line = mapped _ (misfit_in (form_after 0) (Some line)) ∙ hyper_misfit line ∙ sym (ap not (mapped (λ n. drafted n []) (hyper_of line)))
misfit_is (Some s) line =
    mapped _ (misfit_in (form_after (said_by (Some s))) (Some line))
    ∙ ap (λ (form : List WordKind). is_found (misfit_in form (Some line))) (form_is s)
    ∙ many_by (ltb (length s.tasks) 256) s line refl

refused_entry : (before : Option SetEntries) (line : List ℕ) → MayNotFollow before line → after_entry (draft_of before).hyper (draft_of before).tasks line ≡ None
unfolding draft_of
refused_entry None line not = let none = no_hyper (hyper_of line) line refl not in rw none refl
refused_entry (Some s) line not = few_or_not (ltb (length s.tasks) 256) s line refl not

pub misfit_refused : (before : Option SetEntries) (line : List ℕ) → MayNotFollow before line → is_found (misfit_of (said_by before) line) ≡ true
misfit_refused before line refused = misfit_is before line ∙ ap (λ o. not (is_found o)) (refused_entry before line refused)

none_is : {A : Type 0} (o : Option A) → not (is_found o) ≡ true → o ≡ None
none_is None e = refl
none_is (Some x) e = absurd cc

pub refused_misfit : (before : Option SetEntries) (line : List ℕ) → is_found (misfit_of (said_by before) line) ≡ true → MayNotFollow before line
refused_misfit before line e = may_not_follow before (draft_of before) line refl (none_is (after_entry (draft_of before).hyper (draft_of before).tasks line) (sym (misfit_is before line) ∙ e))

-- ---- the first faulty line of a text

counted : (b : Bool) (line : List ℕ) (rest : List (List ℕ)) → (if b then 1 else 0) + length rest ≡ length (if b then line ∷ rest else rest)
counted true line rest = omega arith
counted false line rest = omega arith

-- how many lines say something before the one behind others
said_front : (front rest : List (List ℕ)) (n : ℕ) → n ≡ length front + 1 → said_before n (front ++ rest) ≡ length (filter says_something front)
said_front [] rest n is = said_done n rest (omega arith)
said_front (line ∷ front) rest n is =
    let step = said_step n 0 (line ∷ (front ++ rest)) line (front ++ rest) (omega arith) refl in
    let later = said_front front rest (n - 1) (omega arith) in
    let count = counted (says_something line) line (filter says_something front) in
    omega (arith, step, later, count)

said_is : (before : Option SetEntries) (front : List (List ℕ)) → Say front before → length (filter says_something front) ≡ said_by before
said_is None front said = ap length said
said_is (Some s) front said =
    let mapped : length (map task_line s.tasks) ≡ length s.tasks = length-map s.tasks task_line in
    omega (arith, ap length said.said, mapped)

pub faulty_misfit : (text : List ℕ) (n : ℕ) (h : IsFaultyLine (set_lines text) n) → is_found (misfit_of (said_before n (set_lines text)) h.line) ≡ true
faulty_misfit text n h =
    let count = ap (said_before n) h.parts ∙ said_front h.front (h.line ∷ h.back) n h.number ∙ said_is h.before h.front h.said in
    ap (λ (said : ℕ). is_found (misfit_of said h.line)) count ∙ misfit_refused h.before h.line h.refused
