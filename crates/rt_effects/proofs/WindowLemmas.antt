-- The text of a window of ticks that goes on by an entry.
use Rattle.rt_effects.proofs.Common.{◌≡◌, ℕ, zero, suc, ◌+◌, ◌-◌, ◌<◌, ◌≤◌, inl, inr, List, [], ◌∷◌, ◌++◌, length, drop, slice_get, Option, Some, None, append_assoc, refl, sym, ap, subst, ◌∙◌, arith, TaskSet, state_at, state_before}
use Rattle.std.proofs.Common.{min, replicate, IsSome, add-zero}
use Rattle.std.specs.List.{flat_map}
use Rattle.std.proofs.lemmas.Bool.{cases_lt}
use Rattle.std.proofs.lemmas.List.{append-nil, drop-append-le, length-drop, drop_all}
use Rattle.std.proofs.lemmas.List.Concat.{flat_map-append, flat_map-cons}
use Rattle.rt_words.specs.Limits.{tick_limit}
use Rattle.rt_image.specs.SystemFile.{SetTask}
use Rattle.rt_history.specs.declared.record.Attempt.{Attempt}
use Rattle.rt_history.specs.declared.record.Record.{Record}
use Rattle.rt_history.specs.declared.record.Record.TheVariants.{Idle, Busy}
use Rattle.rt_history.specs.declared.record.Entry.{Entry}
use Rattle.rt_history.specs.declared.record.Entry.TheVariants as entry
use Rattle.rt_history.specs.Named.{named}
use Rattle.rt_history.specs.MachineState.{MachineState}
use Rattle.rt_history.specs.Legal.{record_at, legal}
use Rattle.rt_history.specs.OwnPart.{TaskState, task_state}
use Rattle.rt_history.specs.Entries.{IsEntryOf, entries_from}
use Rattle.rt_history.specs.Working.EndsBusy.{EndsBusy}
use Rattle.rt_history.proofs.EntryLaws.{EndsBusy-push, entries_from-busy, entries_from-ends, entries_from-idle}
use Rattle.rt_history.proofs.NamedLaws.{none_some}
use Rattle.rt_history.proofs.Steps.{length-legal, legal-then, busy-named, tick_is, state-of, tasks-count}
use Rattle.rt_core.specs.Advance.{Goes, IsDue, Follows}
use Rattle.rt_effects.specs.TraceText.{entry_line, trace_text}
use Rattle.rt_effects.specs.Working.Window.{text_to, IsCut, IsTold, Ends}

-- ---- records of the window

-- the records of the window so far
abbrev so_far : TaskSet → ℕ → ℕ → List Record
so_far set from t = drop from (legal set t)

-- they go on as the history does
goes-on-by : (set : TaskSet) (from t u : ℕ) (more : List Record) → from ≤ t → legal set u ≡ legal set t ++ more → so_far set from u ≡ so_far set from t ++ more
goes-on-by set from t u more le is =
    ap (λ (h : List Record). drop from h) is ∙ drop-append-le from (legal set t) more (omega (arith, le, length-legal set t))

place : (set : TaskSet) (from t : ℕ) → from ≤ t → from + length (so_far set from t) ≡ t
place set from t le = omega (arith, le, length-drop from (legal set t), length-legal set t)

module _ (set : TaskSet) (task : Option ℕ) where
  abbrev line : Entry → List ℕ
  line e = entry_line set task e

  one_line : (e : Entry) → flat_map line (e ∷ []) ≡ line e
  one_line e = flat_map-cons line e [] ∙ append-nil (line e)

  text-busy : (from : ℕ) (h : List Record) (a : Attempt) (more : List Record)
      → flat_map line (entries_from from (h ++ Busy a ∷ more)) ≡ flat_map line (entries_from from h) ++ flat_map line (entries_from (from + length h) (Busy a ∷ more))
  text-busy from h a more =
      ap (flat_map line) (entries_from-busy from h a more) ∙ flat_map-append line (entries_from from h) (entries_from (from + length h) (Busy a ∷ more))

  text-ends : (from : ℕ) (h more : List Record) → EndsBusy h
      → flat_map line (entries_from from (h ++ more)) ≡ flat_map line (entries_from from h) ++ flat_map line (entries_from (from + length h) more)
  text-ends from h more ends =
      ap (flat_map line) (entries_from-ends from h more ends) ∙ flat_map-append line (entries_from from h) (entries_from (from + length h) more)

  -- the text of a beginning begins the text
  pub text-begins : (from t n : ℕ) → from ≤ t → t ≤ n → (t < n → IsCut set from t) → (rest : List ℕ) × (text_to set task from n ≡ text_to set task from t ++ rest)
  text-begins from t n begun le cut =
      elim (cases_lt t n) [
        | inr last ↦ let same : t ≡ n = omega arith in ([], rw same (sym (append-nil (text_to set task from n))))
        | inl less ↦
            let k : ℕ = n - (t + 1) in
            let at : t + 1 + k ≡ n = omega arith in
            let m = state_at set t in
            let h = so_far set from t in
            let later = legal-then set t k in
            let whole : legal set n ≡ legal set t ++ record_at m ∷ later.0 = ap (legal set) (sym at) ∙ later.1 in
            let grown : so_far set from n ≡ h ++ record_at m ∷ later.0 = goes-on-by set from t n (record_at m ∷ later.0) begun whole in
            elim (cut less) [
              | inl ends ↦ (
                flat_map line (entries_from (from + length h) (record_at m ∷ later.0)),
                ap (λ (x : List Record). flat_map line (entries_from from x)) grown ∙ text-ends from h (record_at m ∷ later.0) ends,
              )
              | inr some ↦
                  let busy = busy-named m some in
                  let grown_busy : so_far set from n ≡ h ++ Busy busy.0 ∷ later.0 = grown ∙ ap (λ (r : Record). h ++ r ∷ later.0) busy.1 in (
                    flat_map line (entries_from (from + length h) (Busy busy.0 ∷ later.0)),
                    ap (λ (x : List Record). flat_map line (entries_from from x)) grown_busy ∙ text-busy from h busy.0 later.0,
                  )
            ]
      ]

  -- ---- one entry

  busy_more : (from t u : ℕ) (a : Attempt) → from ≤ t → u ≡ t → legal set (t + 1) ≡ legal set t ++ Busy a ∷ []
      → text_to set task from (t + 1) ≡ text_to set task from t ++ line (entry.Busy u a)
  busy_more from t u a begun at is =
      let h = so_far set from t in
      ap (λ (x : List Record). flat_map line (entries_from from x)) (goes-on-by set from t (t + 1) (Busy a ∷ []) begun is) ∙ text-busy from h a []
      ∙ ap (λ (x : List ℕ). flat_map line (entries_from from h) ++ x) (one_line (entry.Busy (from + length h) a))
      ∙ ap (λ (v : ℕ). flat_map line (entries_from from h) ++ line (entry.Busy v a)) (place set from t begun ∙ sym at)

  idle_more : (from t u k : ℕ) → from ≤ t → u ≡ t → EndsBusy (so_far set from t) → legal set (t + suc k) ≡ legal set t ++ replicate (suc k) Idle
      → text_to set task from (t + suc k) ≡ text_to set task from t ++ line (entry.Idle u (suc k))
  idle_more from t u k begun at ends is =
      let h = so_far set from t in
      ap (λ (x : List Record). flat_map line (entries_from from x)) (goes-on-by set from t (t + suc k) (replicate (suc k) Idle) begun is)
      ∙ text-ends from h (replicate (suc k) Idle) ends
      ∙ ap (λ (x : List ℕ). flat_map line (entries_from from h) ++ x) (ap (flat_map line) (entries_from-idle (from + length h) k) ∙ one_line (entry.Idle (from + length h) (suc k)))
      ∙ ap (λ (v : ℕ). flat_map line (entries_from from h) ++ line (entry.Idle v (suc k))) (place set from t begun ∙ sym at)

  ends_busy : (from t : ℕ) (a : Attempt) → from ≤ t → legal set (t + 1) ≡ legal set t ++ Busy a ∷ [] → EndsBusy (so_far set from (t + 1))
  ends_busy from t a begun is =
      subst EndsBusy (sym (goes-on-by set from t (t + 1) (Busy a ∷ []) begun is)) (EndsBusy-push (so_far set from t) a)

  -- how the text goes on by an entry
  pub record Grows (from t n : ℕ) (e : Entry) (after : MachineState) : Type 0 where
    pub stands : after ≡ state_at set after.tick
    pub cut : after.tick < n → IsCut set from after.tick
    pub grown : text_to set task from after.tick ≡ text_to set task from t ++ line e

  grows_at : (from t n u : ℕ) (e : Entry) (after : MachineState) → after ≡ state_at set u
      → text_to set task from u ≡ text_to set task from t ++ line e → (u < n → IsCut set from u) → Grows from t n e after
  grows_at from t n u e after stands grown cut =
      let tick : u ≡ after.tick = sym (ap (λ (m : MachineState). m.tick) stands ∙ tick_is set u) in
      record {
        stands = subst (λ (v : ℕ). after ≡ state_at set v) tick stands;
        cut = subst (λ (v : ℕ). v < n → IsCut set from v) tick cut;
        grown = subst (λ (v : ℕ). text_to set task from v ≡ text_to set task from t ++ line e) tick grown;
      }

  idle_grows : (from t n u k : ℕ) (after : MachineState) → from ≤ t → u ≡ t → 1 ≤ k → EndsBusy (so_far set from t)
      → (t + k < n → IsSome (named after.tasks)) → Follows set t (entry.Idle u k) after → Grows from t n (entry.Idle u k) after
  idle_grows from t n u zero after begun at some ends next follows = absurd (omega (arith, some))
  idle_grows from t n u (suc k) after begun at some ends next follows =
      grows_at from t n (t + suc k) (entry.Idle u (suc k)) after follows.stands (idle_more from t u k begun at ends follows.history)
      (λ more. inr (subst (λ (m : MachineState). IsSome (named m.tasks)) follows.stands (next more)))

  ends_of : (from t : ℕ) → named (state_at set t).tasks ≡ None → IsCut set from t → EndsBusy (so_far set from t)
  ends_of from t idle cut = elim cut [ inl ends ↦ ends | inr some ↦ absurd (none_some (named (state_at set t).tasks) idle some) ]

  pub grows : (from t n : ℕ) (e : Entry) (old after : MachineState) → from ≤ t → old ≡ state_at set t → t < n → n ≤ tick_limit → IsCut set from t
      → Goes (min (n - t) (tick_limit - t)) old e after → IsDue (min (n - t) (tick_limit - t)) old e after → Follows set t e after → Grows from t n e after
  grows from t n (entry.Busy u a) old after begun is less limit cut goes due follows =
      let at : u ≡ t = goes.start ∙ ap (λ (m : MachineState). m.tick) is ∙ tick_is set t in
      grows_at from t n (t + 1) (entry.Busy u a) after follows.stands (busy_more from t u a begun at follows.history) (λ more. inl (ends_busy from t a begun follows.history))
  grows from t n (entry.Idle u k) old after begun is less limit cut goes due follows =
      let at : u ≡ t = goes.start ∙ ap (λ (m : MachineState). m.tick) is ∙ tick_is set t in
      let idle : named (state_at set t).tasks ≡ None = sym (ap (λ (m : MachineState). named m.tasks) is) ∙ due.0 in
      idle_grows from t n u k after begun at goes.some (ends_of from t idle cut)
      (λ more. elim due.1 [ inl all ↦ absurd (omega (arith, all, more, less, limit)) | inr some ↦ some ]) follows

  -- a page that goes on by the line of an entry
  pub told-more : (from u n t : ℕ) (e : Entry) (lines more : List ℕ) (old after : MachineState) → IsTold set task from n t lines old → Grows from old.tick n e after
      → more ≡ lines ++ line e → IsTold set task from n t more after
  told-more from u n t e lines more old after told on put = record {
    stands = on.stands;
    text =
        on.grown ∙ ap (λ (x : List ℕ). x ++ line e) told.text ∙ append_assoc (text_to set task from t) lines (line e)
        ∙ ap (λ (x : List ℕ). text_to set task from t ++ x) (sym put);
    cut = on.cut;
  }

  pub told-nothing : (from n t : ℕ) (m : MachineState) → m.tick ≡ t → m ≡ state_at set t → (t < n → IsCut set from t) → IsTold set task from n t [] m
  told-nothing from n t m at stands cut = record {
    stands = subst (λ (v : ℕ). m ≡ state_at set v) (sym at) stands;
    text = ap (λ (v : ℕ). text_to set task from v) at ∙ sym (append-nil (text_to set task from t));
    cut = subst (λ (v : ℕ). v < n → IsCut set from v) (sym at) cut;
  }

-- ---- the first tick of the window

pub starts : (set : TaskSet) (from : ℕ) → so_far set from from ≡ []
starts set from = drop_all from (legal set from) (omega (arith, length-legal set from))

pub cut-first : (set : TaskSet) (from : ℕ) → IsCut set from from
cut-first set from = inl (subst EndsBusy (sym (starts set from)) tt)

pub text-first : (set : TaskSet) (task : Option ℕ) (from : ℕ) → text_to set task from from ≡ []
text-first set task from = ap (λ (h : List Record). flat_map (entry_line set task) (entries_from from h)) (starts set from)

-- ---- a busy entry, by the registers before it and the machine after it

some-at : (ss : List SetTask) (i : ℕ) → i < length ss → (s : SetTask) × (slice_get ss i ≡ Some s)
some-at [] i less = absurd (omega (arith, less))
some-at (s ∷ ss) zero less = (s, refl)
some-at (s ∷ ss) (suc i) less = some-at ss i (omega (arith, less))

pub ends-here : (set : TaskSet) (t most : ℕ) (e : Entry) (old after : MachineState) (x : List ℕ) → old ≡ state_at set t → old.tick < tick_limit
    → Goes most old e after → IsDue most old e after → IsEntryOf (length old.tasks) e → Follows set t e after
    → ((a : Attempt) (s : TaskState) → old.tick < tick_limit → Busy a ≡ record_at old → slice_get old.tasks a.task ≡ Some s → x ≡ s.program.state.x)
    → Ends set e after x
ends-here set t most (entry.Busy u a) old after x is less goes due within follows shows =
    let at : u ≡ t = goes.start ∙ ap (λ (m : MachineState). m.tick) is ∙ tick_is set t in
    let count : length old.tasks ≡ length set.tasks = ap (λ (m : MachineState). length m.tasks) is ∙ tasks-count set t in
    let s = some-at set.tasks a.task (omega (arith, within, count)) in
    let there : slice_get old.tasks a.task ≡ Some (task_state t (legal set t) a.task s.0) = ap (λ (m : MachineState). slice_get m.tasks a.task) is ∙ state-of set t a.task s.0 s.1 in (
      s.0,
      s.1,
      follows.stands ∙ ap (λ (v : ℕ). state_at set (v + 1)) (sym at),
      shows a (task_state t (legal set t) a.task s.0) less due there ∙ ap (λ (v : ℕ). (state_before set v a.task s.0).x) (sym at),
    )
ends-here set t most (entry.Idle u n) old after x is less goes due within follows shows = tt

-- no ticks have no text
pub text-none : (set : TaskSet) (task : Option ℕ) (from : ℕ) → trace_text set from 0 task ≡ []
text-none set task from = ap (λ (t : ℕ). text_to set task from t) (add-zero from) ∙ text-first set task from
