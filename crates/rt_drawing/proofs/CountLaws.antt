-- A wide report counts the marks of a task.
use Rattle.rt_drawing.proofs.Common.{◌≡◌, ℕ, ◌+◌, nat_le, nat_lt, Bool, true, false, ◌&&◌, cond, Option, List, [], ◌∷◌, ◌++◌, refl, ap, ◌∙◌, arith, zero-add, flat_map, Account, SetTask, Mode, Active, Asleep, Ended, Faulted, AttemptOutcome, Serving, first_serving, due, serving_after, Mark}
use Rattle.std.proofs.Common.{not, count_by}
use Rattle.std.proofs.lemmas.List.Sums.{sum_by-append, sum_by-cons}
use Rattle.rt_server.specs.Arrival.{wakes_fresh}
use Rattle.rt_history.specs.declared.record.AttemptOutcome.TheVariants as outcomes
use Rattle.rt_history.specs.Serving.{charged}
use Rattle.rt_report.specs.WideRows.{Moment, moments, fresh_in, kept_in, wakes_afresh, wakes_kept, postpones, is_yield, is_grant, is_refusal}
use Rattle.rt_drawing.specs.declared.mark.Event.{Event}
use Rattle.rt_drawing.specs.declared.mark.Event.TheVariants.{FreshWake, KeptWake, Deadline}
use Rattle.rt_drawing.specs.Counted.{is_fresh_wake, is_kept_wake, is_postponement, is_yield_mark, is_grant_mark, is_refusal_mark, counts_by}
use Rattle.rt_drawing.specs.Marks.{mark, new_budget, wake_of, wake_in, new_deadline, woken_marks, moved_by, moved_on, outcome_marks, moment_marks, record_marks, marks_by}

-- how many marks are of events that pass
abbrev count : (Event → Bool) → List Mark → ℕ
count p ms = count_by (λ m. p m.event) ms

abbrev one_if : Bool → ℕ
one_if b = cond b 1 0

count-append : (p : Event → Bool) (xs ys : List Mark) → count p (xs ++ ys) ≡ count p xs + count p ys
count-append p xs ys = sum_by-append (λ m. one_if (p m.event)) xs ys

count-one : (p : Event → Bool) (m : Mark) → count p (m ∷ []) ≡ one_if (p m.event)
count-one p m = zero-add (one_if (p m.event))

-- ---- what counts of a part of a record's marks

-- of the wake in an account: what the report says of it
abbrev CountsWakes : (Event → Bool) → (ℕ → Mode → Account → Bool) → Type 0
CountsWakes p says = (t : ℕ) (mode : Mode) (a : Account) → count p (wake_in t mode a) ≡ one_if (says t mode a)

-- of a deadline that moves on: all of them, or none
abbrev CountsMoves : (Event → Bool) → Bool → Type 0
CountsMoves p says = (o : AttemptOutcome) (old new : ℕ) → p (moved_by o old new) ≡ says

-- of what a record itself tells
abbrev CountsOutcomes : (Event → Bool) → (AttemptOutcome → Bool) → Type 0
CountsOutcomes p says = (u : ℕ) (o : AttemptOutcome) → count p (outcome_marks u o) ≡ one_if (says o)

deadlines-none : (p : Event → Bool) → p Deadline ≡ false → (old new : Account) → count p (new_deadline old new) ≡ 0
deadlines-none p none old new =
    elim (nat_lt old.d new.d) as (λ b. count p (cond b (mark new.d Deadline ∷ []) []) ≡ 0) [ true ↦ count-one p (mark new.d Deadline) ∙ ap one_if none | false ↦ refl ]

moves-are : (p : Event → Bool) (says : Bool) → CountsMoves p says → (u : ℕ) (o : AttemptOutcome) (old new : Account)
    → count p (moved_on u o old new) ≡ one_if (nat_lt old.d new.d && says)
moves-are p says moves u o old new =
    elim (nat_lt old.d new.d) as (λ b. count p (cond b (mark u (moved_by o old.d new.d) ∷ []) []) ≡ one_if (b && says)) [
      | true ↦ count-one p (mark u (moved_by o old.d new.d)) ∙ ap one_if (moves o old.d new.d)
      | false ↦ refl
    ]

-- ---- the marks of a record, and of all of them

abbrev in_moment : (ℕ → Mode → Account → Bool) → Bool → (AttemptOutcome → Bool) → Moment → ℕ
in_moment wakes moves tells m =
    one_if (wakes m.tick m.before.mode m.before.account) + one_if (postpones m.outcome (due m.tick m.before).account && moves) + one_if (tells m.outcome)

woken-are : (p : Event → Bool) (wakes : ℕ → Mode → Account → Bool) → p Deadline ≡ false → CountsWakes p wakes
    → (t : ℕ) (s : Serving) → count p (woken_marks t s) ≡ one_if (wakes t s.mode s.account)
woken-are p wakes none counts t s =
    let parts = count-append p (wake_in t s.mode s.account) (new_deadline s.account (due t s).account) in
    omega (arith, parts, counts t s.mode s.account, deadlines-none p none s.account (due t s).account)

parts-are : (p : Event → Bool) (woken moved deadlines told : List Mark) (a b c : ℕ) → count p woken ≡ a → count p moved ≡ b → count p deadlines ≡ 0
    → count p told ≡ c → count p (woken ++ (moved ++ deadlines) ++ told) ≡ a + b + c
parts-are p woken moved deadlines told a b c first second none third =
    let whole = count-append p (woken ++ (moved ++ deadlines)) told in
    let front = count-append p woken (moved ++ deadlines) in
    let charge = count-append p moved deadlines in
    omega (arith, whole, front, charge, first, second, none, third)

moment-are : (p : Event → Bool) (wakes : ℕ → Mode → Account → Bool) (moves : Bool) (tells : AttemptOutcome → Bool)
    → p Deadline ≡ false → CountsWakes p wakes → CountsMoves p moves → CountsOutcomes p tells
    → (m : Moment) → count p (moment_marks m) ≡ in_moment wakes moves tells m
moment-are p wakes moves tells none a b c m =
    let old = (due m.tick m.before).account in
    let new = charged m.outcome old in
    parts-are p (woken_marks m.tick m.before) (moved_on m.tick m.outcome old new) (new_deadline old new) (outcome_marks m.tick m.outcome)
    (one_if (wakes m.tick m.before.mode m.before.account)) (one_if (postpones m.outcome old && moves)) (one_if (tells m.outcome))
    (woken-are p wakes none a m.tick m.before) (moves-are p moves b m.tick m.outcome old new) (deadlines-none p none old new) (c m.tick m.outcome)

marks-are : (p : Event → Bool) (q : Moment → Bool) → ((m : Moment) → count p (moment_marks m) ≡ one_if (q m))
    → (ms : List Moment) → count p (flat_map moment_marks ms) ≡ count_by q ms
marks-are p q each [] = refl
marks-are p q each (m ∷ ms) =
    let parts = count-append p (moment_marks m) (flat_map moment_marks ms) in
    let first = sum_by-cons (λ x. one_if (q x)) m ms in
    omega (arith, parts, first, each m, marks-are p q each ms)

-- and with the wake since the last record
all-are : (p : Event → Bool) (wakes : ℕ → Mode → Account → Bool) (q : Moment → Bool) → p Deadline ≡ false → CountsWakes p wakes
    → ((m : Moment) → count p (moment_marks m) ≡ one_if (q m)) → (t : ℕ) (s : SetTask) (own : List (ℕ × AttemptOutcome))
    → count p (marks_by t s own)
    ≡ count_by q (moments (first_serving s) own) + one_if (wakes t (serving_after (first_serving s) own).mode (serving_after (first_serving s) own).account)
all-are p wakes q none counts each t s own =
    let last = serving_after (first_serving s) own in
    let parts = count-append p (record_marks s own) (woken_marks t last) in
    omega (arith, parts, marks-are p q each (moments (first_serving s) own), woken-are p wakes none counts t last)

-- ---- each of them

abbrev never_wakes : ℕ → Mode → Account → Bool
never_wakes t mode a = false

abbrev never_tells : AttemptOutcome → Bool
never_tells o = false

and_false : (b : Bool) → (b && false) ≡ false
and_false true = refl
and_false false = refl

and_true : (b : Bool) → (b && true) ≡ b
and_true true = refl
and_true false = refl

fresh-wakes : CountsWakes is_fresh_wake fresh_in
fresh-wakes t (Asleep w) a =
    elim (nat_le w t) as (λ b. count is_fresh_wake (cond b (mark w (wake_of w a) ∷ []) []) ≡ one_if (b && wakes_fresh w a)) [
      | true ↦ elim (wakes_fresh w a) as (λ f. count is_fresh_wake (mark w (cond f (FreshWake (new_budget a)) KeptWake) ∷ []) ≡ one_if f) [ true ↦ refl | false ↦ refl ]
      | false ↦ refl
    ]
fresh-wakes t Active a = refl
fresh-wakes t Ended a = refl
fresh-wakes t (Faulted fault) a = refl

kept-wakes : CountsWakes is_kept_wake kept_in
kept-wakes t (Asleep w) a =
    elim (nat_le w t) as (λ b. count is_kept_wake (cond b (mark w (wake_of w a) ∷ []) []) ≡ one_if (b && not (wakes_fresh w a))) [
      | true ↦ elim (wakes_fresh w a) as (λ f. count is_kept_wake (mark w (cond f (FreshWake (new_budget a)) KeptWake) ∷ []) ≡ one_if (not f)) [ true ↦ refl | false ↦ refl ]
      | false ↦ refl
    ]
kept-wakes t Active a = refl
kept-wakes t Ended a = refl
kept-wakes t (Faulted fault) a = refl

-- no wake is of an event that passes
no-wakes : (p : Event → Bool) → ((q : Option ℕ) → p (FreshWake q) ≡ false) → p KeptWake ≡ false → CountsWakes p never_wakes
no-wakes p fresh kept t (Asleep w) a =
    elim (nat_le w t) as (λ b. count p (cond b (mark w (wake_of w a) ∷ []) []) ≡ 0) [
      | true ↦ elim (wakes_fresh w a) as (λ f. count p (mark w (cond f (FreshWake (new_budget a)) KeptWake) ∷ []) ≡ 0) [ true ↦ count-one p (mark w (FreshWake (new_budget a))) ∙ ap one_if (fresh (new_budget a)) | false ↦ count-one p (mark w KeptWake) ∙ ap one_if kept ]
      | false ↦ refl
    ]
no-wakes p fresh kept t Active a = refl
no-wakes p fresh kept t Ended a = refl
no-wakes p fresh kept t (Faulted fault) a = refl

fresh-moves : CountsMoves is_fresh_wake false
fresh-moves outcomes.Yield old new = refl
fresh-moves _ old new = refl

kept-moves : CountsMoves is_kept_wake false
kept-moves outcomes.Yield old new = refl
kept-moves _ old new = refl

postponed-moves : CountsMoves is_postponement true
postponed-moves outcomes.Yield old new = refl
postponed-moves _ old new = refl

yield-moves : CountsMoves is_yield_mark false
yield-moves outcomes.Yield old new = refl
yield-moves _ old new = refl

grant-moves : CountsMoves is_grant_mark false
grant-moves outcomes.Yield old new = refl
grant-moves _ old new = refl

refusal-moves : CountsMoves is_refusal_mark false
refusal-moves outcomes.Yield old new = refl
refusal-moves _ old new = refl

fresh-outcomes : CountsOutcomes is_fresh_wake never_tells
fresh-outcomes u outcomes.End = refl
fresh-outcomes u _ = refl

kept-outcomes : CountsOutcomes is_kept_wake never_tells
kept-outcomes u outcomes.End = refl
kept-outcomes u _ = refl

postponed-outcomes : CountsOutcomes is_postponement never_tells
postponed-outcomes u outcomes.End = refl
postponed-outcomes u _ = refl

yield-outcomes : CountsOutcomes is_yield_mark is_yield
yield-outcomes u outcomes.End = refl
yield-outcomes u _ = refl

grant-outcomes : CountsOutcomes is_grant_mark is_grant
grant-outcomes u outcomes.End = refl
grant-outcomes u _ = refl

refusal-outcomes : CountsOutcomes is_refusal_mark is_refusal
refusal-outcomes u outcomes.End = refl
refusal-outcomes u _ = refl

fresh-each : (m : Moment) → count is_fresh_wake (moment_marks m) ≡ one_if (wakes_afresh m.tick m.before)
fresh-each m =
    let none = ap one_if (and_false (postpones m.outcome (due m.tick m.before).account)) in
    omega (arith, none, moment-are is_fresh_wake fresh_in false never_tells refl fresh-wakes fresh-moves fresh-outcomes m)

kept-each : (m : Moment) → count is_kept_wake (moment_marks m) ≡ one_if (wakes_kept m.tick m.before)
kept-each m =
    let none = ap one_if (and_false (postpones m.outcome (due m.tick m.before).account)) in
    omega (arith, none, moment-are is_kept_wake kept_in false never_tells refl kept-wakes kept-moves kept-outcomes m)

postponed-each : (m : Moment) → count is_postponement (moment_marks m) ≡ one_if (postpones m.outcome (due m.tick m.before).account)
postponed-each m =
    let same = ap one_if (and_true (postpones m.outcome (due m.tick m.before).account)) in
    omega (arith, same, moment-are is_postponement never_wakes true never_tells refl (no-wakes is_postponement (λ q. refl) refl) postponed-moves postponed-outcomes m)

yield-each : (m : Moment) → count is_yield_mark (moment_marks m) ≡ one_if (is_yield m.outcome)
yield-each m =
    let none = ap one_if (and_false (postpones m.outcome (due m.tick m.before).account)) in
    omega (arith, none, moment-are is_yield_mark never_wakes false is_yield refl (no-wakes is_yield_mark (λ q. refl) refl) yield-moves yield-outcomes m)

grant-each : (m : Moment) → count is_grant_mark (moment_marks m) ≡ one_if (is_grant m.outcome)
grant-each m =
    let none = ap one_if (and_false (postpones m.outcome (due m.tick m.before).account)) in
    omega (arith, none, moment-are is_grant_mark never_wakes false is_grant refl (no-wakes is_grant_mark (λ q. refl) refl) grant-moves grant-outcomes m)

refusal-each : (m : Moment) → count is_refusal_mark (moment_marks m) ≡ one_if (is_refusal m.outcome)
refusal-each m =
    let none = ap one_if (and_false (postpones m.outcome (due m.tick m.before).account)) in
    omega (arith, none, moment-are is_refusal_mark never_wakes false is_refusal refl (no-wakes is_refusal_mark (λ q. refl) refl) refusal-moves refusal-outcomes m)

pub fresh-counted : (t : ℕ) (s : SetTask) (own : List (ℕ × AttemptOutcome)) → count is_fresh_wake (marks_by t s own) ≡ (counts_by t s own).fresh_wakes
fresh-counted = all-are is_fresh_wake fresh_in (λ m. wakes_afresh m.tick m.before) refl fresh-wakes fresh-each

pub kept-counted : (t : ℕ) (s : SetTask) (own : List (ℕ × AttemptOutcome)) → count is_kept_wake (marks_by t s own) ≡ (counts_by t s own).kept_wakes
kept-counted = all-are is_kept_wake kept_in (λ m. wakes_kept m.tick m.before) refl kept-wakes kept-each

pub postponed-counted : (t : ℕ) (s : SetTask) (own : List (ℕ × AttemptOutcome))
    → count is_postponement (marks_by t s own) ≡ (counts_by t s own).postponements
postponed-counted t s own =
    all-are is_postponement never_wakes (λ m. postpones m.outcome (due m.tick m.before).account) refl (no-wakes is_postponement (λ q. refl) refl) postponed-each t s own
    ∙ omega arith

pub yields-counted : (t : ℕ) (s : SetTask) (own : List (ℕ × AttemptOutcome)) → count is_yield_mark (marks_by t s own) ≡ (counts_by t s own).yields
yields-counted t s own =
    all-are is_yield_mark never_wakes (λ m. is_yield m.outcome) refl (no-wakes is_yield_mark (λ q. refl) refl) yield-each t s own ∙ omega arith

pub grants-counted : (t : ℕ) (s : SetTask) (own : List (ℕ × AttemptOutcome)) → count is_grant_mark (marks_by t s own) ≡ (counts_by t s own).granted
grants-counted t s own =
    all-are is_grant_mark never_wakes (λ m. is_grant m.outcome) refl (no-wakes is_grant_mark (λ q. refl) refl) grant-each t s own ∙ omega arith

pub refusals-counted : (t : ℕ) (s : SetTask) (own : List (ℕ × AttemptOutcome)) → count is_refusal_mark (marks_by t s own) ≡ (counts_by t s own).refused
refusals-counted t s own =
    all-are is_refusal_mark never_wakes (λ m. is_refusal m.outcome) refl (no-wakes is_refusal_mark (λ q. refl) refl) refusal-each t s own ∙ omega arith
