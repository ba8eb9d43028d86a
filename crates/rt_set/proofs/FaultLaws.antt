-- The line that is refused is the first faulty one, and that one is refused.
use Rattle.std.proofs.Common.{◌≡◌, ◌≢◌, ℕ, ◌+◌, ◌^◌, ◌<◌, ◌⊎◌, inl, inr, Bool, true, false, cond, ltb, List, [], ◌∷◌, ◌++◌, length, Option, Some, None, Result, Ok, Err, refl, sym, ap, subst, ◌∙◌, arith, lt-ltb}
use Rattle.std.specs.Prelude.{filter, IfErr}
use Rattle.std.specs.Option.{option_map}
use Rattle.std.proofs.lemmas.Bool.{ltb-true}
use Rattle.rt_words.specs.Run.{next}
use Rattle.rt_set.specs.declared.set.SetFile.{SetFile}
use Rattle.rt_set.specs.declared.fault.SetFault.{SetFault}
use Rattle.rt_set.specs.declared.fault.SetFault.TheVariants as faults
use Rattle.rt_set.specs.SetFile.{TaskEntry, SetEntries, set_lines, says_something, hyper_line, task_line, IsTaskEntry}
use Rattle.rt_set.specs.SetLines.{hyper_of, task_of, Draft, after_entry, after_line, or_faulty, read_from, whole, finished, set_of, Reads}
use Rattle.rt_set.specs.FirstFault.{Say, MayNotFollow, IsFaultyLine, HasNoHyperLine, IsFirstFault, IsRefusal}
use Rattle.rt_set.proofs.SetLaws.{done, ok_is, hyper_takes, hyper_again, task_takes, task_again, step_ok, mapped_some, drafted, tasks_take, not_both, empty, full, lines_take, lines_again}

abbrev failed : ℕ → Result Draft ℕ
failed n = Err n

abbrev refused_set : ℕ → Result SetEntries ℕ
refused_set n = Err n

err_is : (n m : ℕ) → failed n ≡ failed m → n ≡ m
err_is n m e = cc

set_err_is : (n m : ℕ) → refused_set n ≡ refused_set m → n ≡ m
set_err_is n m e = cc

some_same : (d e : Draft) → Some d ≡ Some e → d ≡ e
some_same d e h = cc

never : (o : Option Draft) (d : Draft) → o ≡ None → o ≡ Some d → ⊥
never o d none some = cc

-- ---- from a refusal to the line

-- where reading stops
record Stops (n : ℕ) (d : Draft) (lines : List (List ℕ)) (m : ℕ) : Type 0 where
  front : List (List ℕ)
  line : List ℕ
  back : List (List ℕ)
  end : Draft
  parts : lines ≡ front ++ line ∷ back
  number : m ≡ n + length front
  read : read_from n d front ≡ Ok end
  refused : after_line end line ≡ None

stops_later : (n : ℕ) (d e : Draft) (line : List ℕ) (lines : List (List ℕ)) (m : ℕ) → after_line d line ≡ Some e → Stops (n + 1) e lines m → Stops n d (line ∷ lines) m
stops_later n d e line lines m taken later = record {
  front = line ∷ later.front;
  line = later.line;
  back = later.back;
  end = later.end;
  parts = ap (λ (ls : List (List ℕ)). line ∷ ls) later.parts;
  number = omega (arith, later.number);
  read = rw taken later.read;
  refused = later.refused;
}

stops_by : (o : Option Draft) (n : ℕ) (d : Draft) (line : List ℕ) (lines : List (List ℕ)) (m : ℕ) → after_line d line ≡ o
    → next (λ l _. l) n (or_faulty o) (λ e. read_from (n + 1) e lines) ≡ Err m
    → ((e : Draft) → read_from (n + 1) e lines ≡ Err m → Stops (n + 1) e lines m)
    → Stops n d (line ∷ lines) m
stops_by None n d line lines m taken e again = record { front = []; line = line; back = lines; end = d; parts = refl; number = omega (arith, err_is n m e); read = refl; refused = taken }
stops_by (Some f) n d line lines m taken e again = stops_later n d f line lines m taken (again f e)

stops : (lines : List (List ℕ)) (n : ℕ) (d : Draft) (m : ℕ) → read_from n d lines ≡ Err m → Stops n d lines m
stops [] n d m e = absurd cc
stops (line ∷ lines) n d m e = stops_by (after_line d line) n d line lines m refl e (λ f h. stops lines (n + 1) f m h)

-- lines that are read before a hyper line say nothing
silent_by : (b : Bool) (n : ℕ) (line : List ℕ) (lines : List (List ℕ)) (d end : Draft) → says_something line ≡ b
    → cond b (after_entry None [] line) (Some empty) ≡ Some d → read_from (n + 1) d lines ≡ Ok end → end.hyper ≡ None
    → (read_from (n + 1) empty lines ≡ Ok end → (filter says_something lines ≡ []) × (empty ≡ end))
    → (filter says_something (line ∷ lines) ≡ []) × (empty ≡ end)
silent_by false n line lines d end says taken others none again = rw says (again (rw (some_same empty d taken) others))
silent_by true n line lines d end says taken others none again =
    let hyper = mapped_some (λ k. drafted k []) (hyper_of line) d taken in
    let read = tasks_take lines hyper.0 (n + 1) [] end (omega arith) (rw hyper.2 others) in
    absurd (not_both end.hyper hyper.0 none (sym (ap (λ (x : Draft). x.hyper) read.is_end)))

silent : (lines : List (List ℕ)) (n : ℕ) (end : Draft) → read_from n empty lines ≡ Ok end → end.hyper ≡ None → (filter says_something lines ≡ []) × (empty ≡ end)
silent [] n end e none = (refl, ok_is empty end e)
silent (line ∷ lines) n end e none =
    let step = step_ok (after_line empty line) n (λ d. read_from (n + 1) d lines) end e in
    silent_by (says_something line) n line lines step.0 end refl step.1 step.2 none (λ h. silent lines (n + 1) end h none)

-- what lines that are read say
unfoldable pub draft_of : Option SetEntries → Draft
draft_of None = empty
draft_of (Some s) = full s

record Said (lines : List (List ℕ)) (end : Draft) : Type 0 where
  what : Option SetEntries
  said : Say lines what
  is_end : end ≡ draft_of what

said_by : (h : Option ℕ) (lines : List (List ℕ)) (n : ℕ) (end : Draft) → end.hyper ≡ h → read_from n empty lines ≡ Ok end → Said lines end
unfolding draft_of
said_by None lines n end is e = let none = silent lines n end e is in record { what = None; said = none.0; is_end = sym none.1 }
said_by (Some k) lines n end is e =
    let s : SetEntries = record { hyper = k; tasks = end.tasks } in
    let same : end ≡ full s = λ i. record { hyper = is i; tasks = end.tasks } in
    record { what = Some s; said = lines_take lines n s (e ∙ ap done same); is_end = same }

-- a line that is refused may not follow
not_skipped : (b : Bool) (read : Option Draft) (d : Draft) → cond b read (Some d) ≡ None → (b ≡ true) × (read ≡ None)
not_skipped true read d e = (refl, e)
not_skipped false read d e = absurd cc

pub may_not_follow : (what : Option SetEntries) (end : Draft) (line : List ℕ) → end ≡ draft_of what → after_entry end.hyper end.tasks line ≡ None → MayNotFollow what line
unfolding draft_of
may_not_follow None end line is e = λ n fits spelled.
    let taken : hyper_of line ≡ Some n = ap hyper_of spelled ∙ hyper_again n fits in
    let read : after_entry None [] line ≡ Some (drafted n []) = rw taken refl in
    let none : after_entry None [] line ≡ None = subst (λ (d : Draft). after_entry d.hyper d.tasks line ≡ None) is e in
    never (after_entry None [] line) (drafted n []) none read
may_not_follow (Some s) end line is e = λ t fits few spelled.
    let taken : task_of line ≡ Some t = ap task_of spelled ∙ task_again t fits in
    let read : after_entry (Some s.hyper) s.tasks line ≡ Some (drafted s.hyper (s.tasks ++ t ∷ [])) = rw (lt-ltb _ _ few, taken) refl in
    let none : after_entry (Some s.hyper) s.tasks line ≡ None = subst (λ (d : Draft). after_entry d.hyper d.tasks line ≡ None) is e in
    never (after_entry (Some s.hyper) s.tasks line) (drafted s.hyper (s.tasks ++ t ∷ [])) none read

faulty_line : (lines : List (List ℕ)) (m : ℕ) → read_from 1 empty lines ≡ Err m → IsFaultyLine lines m
faulty_line lines m e =
    let s = stops lines 1 empty m e in
    let before = said_by s.end.hyper s.front 1 s.end refl s.read in
    let entry = not_skipped (says_something s.line) (after_entry s.end.hyper s.end.tasks s.line) s.end s.refused in
    record {
      front = s.front;
      line = s.line;
      back = s.back;
      parts = s.parts;
      number = omega (arith, s.number);
      before = before.what;
      said = before.said;
      says = entry.0;
      refused = may_not_follow before.what s.end s.line before.is_end entry.1;
    }

whole_err : (after : ℕ) (h : Option ℕ) (ts : List TaskEntry) (m : ℕ) → whole after h ts ≡ Err m → (h ≡ None) × (m ≡ after)
whole_err after None ts m e = (refl, sym (set_err_is after m e))
whole_err after (Some k) ts m e = absurd cc

fault_by : (read : Result Draft ℕ) (lines : List (List ℕ)) (m : ℕ) → read_from 1 empty lines ≡ read → finished (1 + length lines) read ≡ Err m
    → IsFaultyLine lines m ⊎ HasNoHyperLine lines m
fault_by (Ok d) lines m is e =
    let h = whole_err (1 + length lines) d.hyper d.tasks m e in
    inr (record { said = (silent lines 1 d is h.0).0; number = omega (arith, h.1) })
fault_by (Err k) lines m is e = inl (faulty_line lines m (is ∙ ap failed (set_err_is k m e)))

pub fault_takes : (text : List ℕ) (m : ℕ) → set_of text ≡ Err m → IsFirstFault text m
fault_takes text m e = fault_by (read_from 1 empty (set_lines text)) (set_lines text) m refl e

-- ---- and back

silent_again_by : (b : Bool) (n : ℕ) (line : List ℕ) (lines : List (List ℕ)) → says_something line ≡ b
    → cond b (line ∷ filter says_something lines) (filter says_something lines) ≡ []
    → (filter says_something lines ≡ [] → read_from (n + 1) empty lines ≡ Ok empty)
    → read_from n empty (line ∷ lines) ≡ Ok empty
silent_again_by true n line lines says said again = absurd cc
silent_again_by false n line lines says said again = rw says (again said)

silent_again : (lines : List (List ℕ)) (n : ℕ) → filter says_something lines ≡ [] → read_from n empty lines ≡ Ok empty
silent_again [] n said = refl
silent_again (line ∷ lines) n said = silent_again_by (says_something line) n line lines refl said (λ e. silent_again lines (n + 1) e)

said_again : (what : Option SetEntries) (lines : List (List ℕ)) → Say lines what → read_from 1 empty lines ≡ Ok (draft_of what)
unfolding draft_of
said_again None lines said = silent_again lines 1 said
said_again (Some s) lines said = lines_again lines 1 s said.said said.hyper_fits said.count said.tasks_fit

behind_by : (o : Option Draft) (n : ℕ) (line : List ℕ) (d end : Draft) (front rest : List (List ℕ)) → after_line d line ≡ o
    → next (λ l _. l) n (or_faulty o) (λ e. read_from (n + 1) e front) ≡ Ok end
    → ((e : Draft) → read_from (n + 1) e front ≡ Ok end → read_from (n + 1) e (front ++ rest) ≡ read_from (n + 1 + length front) end rest)
    → read_from n d (line ∷ (front ++ rest)) ≡ read_from (n + 1 + length front) end rest
behind_by None n line d end front rest taken e again = absurd cc
behind_by (Some f) n line d end front rest taken e again = rw taken (again f e)

-- lines behind lines that were read
behind : (front rest : List (List ℕ)) (n : ℕ) (d end : Draft) → read_from n d front ≡ Ok end → read_from n d (front ++ rest) ≡ read_from (n + length front) end rest
behind [] rest n d end e =
    let here : n ≡ n + 0 = omega arith in
    λ i. read_from (here i) (ok_is d end e i) rest
behind (line ∷ front) rest n d end e =
    let place : n + 1 + length front ≡ n + length (line ∷ front) = omega arith in
    behind_by (after_line d line) n line d end front rest refl e (λ f h. behind front rest (n + 1) f end h)
    ∙ ap (λ k. read_from k end rest) place

pub no_hyper : (o : Option ℕ) (line : List ℕ) → hyper_of line ≡ o → ((n : ℕ) → n < 2 ^ 32 → line ≢ hyper_line n) → o ≡ None
no_hyper None line is not = refl
no_hyper (Some n) line is not = let taken = hyper_takes line n is in absurd (not n taken.1 taken.0)

no_task : (o : Option TaskEntry) (line : List ℕ) → task_of line ≡ o → ((t : TaskEntry) → IsTaskEntry t → line ≢ task_line t) → o ≡ None
no_task None line is not = refl
no_task (Some t) line is not = let taken = task_takes line t is in absurd (not t taken.1 taken.0)

pub few_or_not : (b : Bool) (s : SetEntries) (line : List ℕ) → ltb (length s.tasks) 256 ≡ b → MayNotFollow (Some s) line
    → cond b (option_map (λ t. drafted s.hyper (s.tasks ++ t ∷ [])) (task_of line)) None ≡ None
few_or_not false s line few not = refl
few_or_not true s line few not =
    let none = no_task (task_of line) line refl (λ t fits spelled. not t fits (ltb-true _ _ few) spelled) in
    rw none refl

not_taken : (what : Option SetEntries) (line : List ℕ) → says_something line ≡ true → MayNotFollow what line → after_line (draft_of what) line ≡ None
unfolding draft_of
not_taken None line says not = let none = no_hyper (hyper_of line) line refl not in rw (says, none) refl
not_taken (Some s) line says not = rw says (few_or_not (ltb (length s.tasks) 256) s line refl not)

pub fault_again : (text : List ℕ) (m : ℕ) → IsFirstFault text m → set_of text ≡ Err m
fault_again text m (inl h) =
    let front = behind h.front (h.line ∷ h.back) 1 empty (draft_of h.before) (said_again h.before h.front h.said) in
    let none = not_taken h.before h.line h.says h.refused in
    let stop : read_from (1 + length h.front) (draft_of h.before) (h.line ∷ h.back) ≡ Err (1 + length h.front) = rw none refl in
    let number : 1 + length h.front ≡ m = omega (arith, h.number) in
    ap (finished (1 + length (set_lines text))) (ap (read_from 1 empty) h.parts ∙ front ∙ stop) ∙ ap refused_set number
fault_again text m (inr h) =
    let number : 1 + length (set_lines text) ≡ m = omega (arith, h.number) in
    ap (finished (1 + length (set_lines text))) (silent_again (set_lines text) 1 h.said) ∙ ap refused_set number

-- ---- the program

pub is_refused : (text : List ℕ) (r : Result SetFile SetFault) → Reads r (set_of text) → IfErr r (λ fault. IsRefusal fault text)
is_refused text (Ok s) read = tt
is_refused text (Err faults.Memory) read = tt
is_refused text (Err (faults.Line n)) read = fault_takes text n read
