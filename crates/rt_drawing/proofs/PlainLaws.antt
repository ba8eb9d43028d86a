-- Plain ticks at once: what they draw is what they draw one by one.
use Rattle.rt_drawing.proofs.Common.{◌≡◌, ℕ, zero, suc, ◌+◌, ◌-◌, ◌<◌, ◌≤◌, nat_le, nat_lt, max, ◌⊎◌, inl, inr, Bool, true, false, List, [], ◌∷◌, ◌++◌, Option, Some, None, refl, sym, ap, subst, ◌∙◌, arith, option_or, cases_lt, nat_tests, append-nil, Account, Mode, Active, Serving, Job, ticked, Mark, Stretch, Window, wait, TaskDrawing, noted}
use Rattle.std.proofs.Common.{if◌then◌else◌, add-zero}
use Rattle.rt_server.specs.Recharge.{spent, spent_for}
use Rattle.rt_server.proofs.SpendingLaws.{spends-within}
use Rattle.rt_history.specs.declared.record.AttemptOutcome.TheVariants.{Next}
use Rattle.rt_drawing.specs.declared.mark.Event.TheVariants.{Deadline, Postponed}
use Rattle.rt_drawing.specs.declared.miss.Miss.{Miss}
use Rattle.rt_drawing.specs.Drawing.{in_window}
use Rattle.rt_drawing.specs.Marks.{mark, charge_marks}
use Rattle.rt_drawing.specs.Misses.{miss_by}
use Rattle.rt_drawing.specs.Standing.{over_from, next_turn}
use Rattle.rt_drawing.specs.Waits.{turn_waits, is_over}
use Rattle.rt_drawing.specs.Working.Shown.{plain_miss}
use Rattle.rt_drawing.specs.Drawn.{shown_behind, drawn, drawn_for}
use Rattle.rt_drawing.proofs.StretchLaws.{shown-next}
use Rattle.rt_drawing.proofs.WaitLaws.{wait_none}
use Rattle.rt_drawing.proofs.MissLaws.{or-assoc, by_tick, miss-active}

-- ---- one task

-- what is kept of a task with this account, mode, budget that is noted, open job, tick behind its last record, waits, stretches, marks and miss
abbrev with : TaskDrawing → Account → Mode → Option ℕ → Job → ℕ → List Stretch → List Stretch → List Mark → Option Miss → TaskDrawing
with x a mode q j b ws ss ms e = record {
  name = x.name;
  params = x.params;
  allowed = x.allowed;
  serving = record { account = a; mode = mode };
  budget = q;
  job = j;
  behind = b;
  waits = ws;
  stretches = ss;
  marks = ms;
  miss = e;
}

-- the marks of a plain record of tick u that leaves this account
abbrev charged_marks : Window → ℕ → Account → Account → List Mark
charged_marks w u old new = in_window w (charge_marks u Next old new)

-- the wait of a job before tick u, and whether that is over the period
abbrev waited : Window → TaskDrawing → Job → ℕ → ℕ → List Stretch
waited w x j b u = wait w (j.release + x.allowed) j (max b j.release) u

abbrev late : TaskDrawing → Job → ℕ → Bool
late x j u = nat_le (j.release + x.allowed) u

-- a plain record, of a task in this mode
abbrev drawn_once : Window → ℕ → TaskDrawing → Account → Mode → Option ℕ → Job → ℕ → List Stretch → List Stretch → List Mark → Option Miss → TaskDrawing
drawn_once w u x a mode q j b ws ss ms e =
    with x (spent a) mode (noted w.from u q (record { account = a; mode = mode })) (ticked 1 j) (u + 1) (ws ++ waited w x j b u) (shown_behind w u (u + 1) (late x j u) (ticked 1 j) ss)
    (ms ++ charged_marks w u a (spent a)) (option_or e (miss_by b u (record { account = a; mode = mode })))

-- of an active task
plain-active : (w : Window) (u : ℕ) (x : TaskDrawing) (a : Account) (q : Option ℕ) (j : Job) (b : ℕ) (ws ss : List Stretch) (ms : List Mark) (e : Option Miss)
    → drawn w u Next (with x a Active q j b ws ss ms e) ≡ drawn_once w u x a Active q j b ws ss ms e
plain-active w u x a q j b ws ss ms e =
    let same : nat_lt a.d a.d ≡ false = grind (arith, nat_tests) in
    rw (same, append-nil (charge_marks u Next a (spent a))) refl

plain-drawn : (w : Window) (u : ℕ) (x : TaskDrawing) (a : Account) (q : Option ℕ) (j : Job) (b : ℕ) (ws ss : List Stretch) (ms : List Mark) (e : Option Miss) → x.serving.mode ≡ Active
    → drawn w u Next (with x a x.serving.mode q j b ws ss ms e) ≡ drawn_once w u x a x.serving.mode q j b ws ss ms e
plain-drawn w u x a q j b ws ss ms e active =
    ap (λ (m : Mode). drawn w u Next (with x a m q j b ws ss ms e)) active ∙ plain-active w u x a q j b ws ss ms e
    ∙ ap (λ (m : Mode). drawn_once w u x a m q j b ws ss ms e) (sym active)

-- those of a deadline that moves on, by the deadlines
abbrev moved_marks : ℕ → ℕ → ℕ → List Mark
moved_marks u old new =
    (if nat_lt old new then mark u (Postponed old new) ∷ [] else []) ++ (if nat_lt old new then mark new Deadline ∷ [] else [])

-- no marks where the deadline stays
no-marks : (w : Window) (u : ℕ) (old new : Account) (ms : List Mark) → new.d ≡ old.d → ms ++ charged_marks w u old new ≡ ms
no-marks w u old new ms same =
    let stays : nat_lt old.d new.d ≡ false = grind (arith, nat_tests) in
    rw stays (append-nil ms)

-- n of them at once, of which only the last uses the budget up, and all or none are over the period
abbrev pub at_once : Window → ℕ → ℕ → TaskDrawing → TaskDrawing
at_once w u n x = with x (spent_for n x.serving.account) x.serving.mode (noted w.from (u + n - 1) x.budget x.serving) (ticked n x.job) (u + n) (x.waits ++ turn_waits w (next_turn u x))
    (shown_behind w u (u + n) (is_over (next_turn u x)) (ticked n x.job) x.stretches)
    (x.marks ++ charged_marks w (u + n - 1) x.serving.account (spent_for n x.serving.account)) (option_or x.miss (plain_miss x.behind u n x.serving.account))

-- each of n ticks from u on is over the period, or none is
abbrev AreAlike : ℕ → ℕ → TaskDrawing → Type 0
AreAlike u n x = (over_from x ≤ u) ⊎ (u + n ≤ over_from x)

fewer : (u n : ℕ) (x : TaskDrawing) → AreAlike u (suc n) x → AreAlike u n x
fewer u n x (inl over) = inl over
fewer u n x (inr before) = inr (omega (arith, before))

last-alike : (u n : ℕ) (x : TaskDrawing) → AreAlike u (suc n) x → nat_le (over_from x) (u + n) ≡ nat_le (over_from x) u
last-alike u n x (inl over) =
    let yes : nat_le (over_from x) u ≡ true = grind (arith, nat_tests) in
    let last : nat_le (over_from x) (u + n) ≡ true = grind (arith, nat_tests) in
    rw (yes, last) refl
last-alike u n x (inr before) =
    let no : nat_le (over_from x) u ≡ false = grind (arith, nat_tests) in
    let last : nat_le (over_from x) (u + n) ≡ false = grind (arith, nat_tests) in
    rw (no, last) refl

-- a budget that is noted stays so, and an active task that has spent some of it has the same
noted-later : (from v u : ℕ) (q : Option ℕ) (a b : Account) → b.q ≡ a.q → v ≤ u
    → noted from u (noted from v q (record { account = a; mode = Active })) (record { account = b; mode = Active })
    ≡ noted from u q (record { account = a; mode = Active })
noted-later from v u (Some q) a b same before = refl
noted-later from v u None a b same before =
    elim (cases_lt v from) [
      | inl early ↦
          let no : nat_le from v ≡ false = grind (arith, nat_tests) in
          rw (no, same) refl
      | inr here ↦
          let yes : nat_le from v ≡ true = grind (arith, nat_tests) in
          let later : nat_le from u ≡ true = grind (arith, nat_tests, before) in
          rw (yes, later) refl
    ]

-- ---- deadlines that are missed

-- of the first of them
miss-first : (b u : ℕ) (s : Serving) → s.mode ≡ Active → b ≤ u → miss_by b u s ≡ plain_miss b u 1 s.account
miss-first b u s active before =
    ap (λ (m : Mode). miss_by b u (record { account = s.account; mode = m })) active ∙ miss-active b u s.account ∙ at (cases_lt u (max b s.account.d))
  where
    a : Account
    a = s.account

    at : (u < max b a.d) ⊎ (max b a.d ≤ u) → by_tick b u a.d a ≡ plain_miss b u 1 a
    at (inl later) =
        let le : nat_le (max b a.d) u ≡ false = grind (arith, nat_tests) in
        let lt : nat_lt (max b a.d) (u + 1) ≡ false = grind (arith, nat_tests) in
        rw (le, lt) refl
    at (inr here) =
        let le : nat_le (max b a.d) u ≡ true = grind (arith, nat_tests) in
        let lt : nat_lt (max b a.d) (u + 1) ≡ true = grind (arith, nat_tests) in
        let none : a.c - (max b a.d - u) ≡ a.c = omega (arith, here) in
        rw (le, lt, none) refl

-- of n of them and of one more
miss-more : (b u n : ℕ) (a : Account) → b ≤ u → option_or (plain_miss b u n a) (by_tick (u + n) (u + n) a.d (record a { c = a.c - n })) ≡ plain_miss b u (suc n) a
miss-more b u n a before = at (cases_lt (max b a.d) (u + n))
  where
    last : (a.d ≤ u + n) ⊎ (u + n < a.d) → u + n ≤ max b a.d → by_tick (u + n) (u + n) a.d (record a { c = a.c - n }) ≡ plain_miss b u (suc n) a
    last (inl here) out =
        let le : nat_le (max (u + n) a.d) (u + n) ≡ true = grind (arith, nat_tests, here) in
        let lt : nat_lt (max b a.d) (u + suc n) ≡ true = grind (arith, nat_tests, here, before) in
        let tick : max (u + n) a.d ≡ max b a.d = omega (arith, here, out, before) in
        let left : a.c - n ≡ a.c - (max b a.d - u) = omega (arith, here, out, before) in
        rw (le, lt, tick, left) refl
    last (inr later) out =
        let le : nat_le (max (u + n) a.d) (u + n) ≡ false = grind (arith, nat_tests, later) in
        let lt : nat_lt (max b a.d) (u + suc n) ≡ false = grind (arith, nat_tests, later) in
        rw (le, lt) refl

    at : (max b a.d < u + n) ⊎ (u + n ≤ max b a.d) → option_or (plain_miss b u n a) (by_tick (u + n) (u + n) a.d (record a { c = a.c - n })) ≡ plain_miss b u (suc n) a
    at (inl early) =
        let lt : nat_lt (max b a.d) (u + n) ≡ true = grind (arith, nat_tests) in
        let more : nat_lt (max b a.d) (u + suc n) ≡ true = grind (arith, nat_tests) in
        rw (lt, more) refl
    at (inr out) =
        let lt : nat_lt (max b a.d) (u + n) ≡ false = grind (arith, nat_tests) in
        rw lt (first (cases_lt (u + n) a.d) out)
      where
        first : (u + n < a.d) ⊎ (a.d ≤ u + n) → u + n ≤ max b a.d → by_tick (u + n) (u + n) a.d (record a { c = a.c - n }) ≡ plain_miss b u (suc n) a
        first (inl later) out = last (inr later) out
        first (inr here) out = last (inl here) out

-- of the next one, behind n of them
miss-next : (b u n : ℕ) (a r : Account) (mode : Mode) (e : Option Miss) → mode ≡ Active → r ≡ record a { c = a.c - n } → b ≤ u
    → option_or (option_or e (plain_miss b u n a)) (miss_by (u + n) (u + n) (record { account = r; mode = mode })) ≡ option_or e (plain_miss b u (suc n) a)
miss-next b u n a r mode e active left before =
    let s = record a { c = a.c - n } in
    let next : miss_by (u + n) (u + n) (record { account = r; mode = mode }) ≡ by_tick (u + n) (u + n) a.d s =
    ap (λ (m : Mode). miss_by (u + n) (u + n) (record { account = r; mode = m })) active
    ∙ ap (λ (x : Account). miss_by (u + n) (u + n) (record { account = x; mode = Active })) left ∙ miss-active (u + n) (u + n) s in
    ap (option_or (option_or e (plain_miss b u n a))) next ∙ or-assoc e (plain_miss b u n a) (by_tick (u + n) (u + n) a.d s) ∙ ap (option_or e) (miss-more b u n a before)

-- ---- one by one, and at once

-- part by part
parts : (x : TaskDrawing) (a : Account) (mode : Mode) {q r : Option ℕ} {i j : Job} {u to : ℕ} {ws ys ss zs : List Stretch} {ms ns : List Mark} {e f : Option Miss}
    → q ≡ r → i ≡ j → u ≡ to → ws ≡ ys → ss ≡ zs → ms ≡ ns → e ≡ f
    → with x a mode q i u ws ss ms e ≡ with x a mode r j to ys zs ns f
parts x a mode {q = q} {r = r} {i = i} {j = j} {u = u} {to = to} {ws = ws} {ys = ys} {ss = ss} {zs = zs} {ms = ms} {ns = ns} {e = e} {f = f} budget job next waits runs marks missed =
    ap (λ (k : Option ℕ). with x a mode k i u ws ss ms e) budget
    ∙ ap (λ (k : Job). with x a mode r k u ws ss ms e) job
    ∙ ap (λ (k : ℕ). with x a mode r j k ws ss ms e) next
    ∙ ap (λ (k : List Stretch). with x a mode r j to k ss ms e) waits
    ∙ ap (λ (k : List Stretch). with x a mode r j to ys k ms e) runs
    ∙ ap (λ (k : List Mark). with x a mode r j to ys zs k e) marks
    ∙ ap (λ (k : Option Miss). with x a mode r j to ys zs ns k) missed

one-more : (w : Window) (u n : ℕ) (x : TaskDrawing) → suc n ≤ max x.serving.account.c 1 → x.serving.mode ≡ Active → AreAlike u (suc n) x → x.behind ≤ u
    → drawn_for w u (suc n) x ≡ at_once w u (suc n) x
unfolding drawn_for spent_for
one-more w u zero x within active alike before =
    let at : u + zero ≡ u = omega arith in
    let next : u + 1 ≡ u + suc zero = omega arith in
    let last : u ≡ u + suc zero - 1 = omega arith in
    let a = x.serving.account in
    let ws = x.waits ++ turn_waits w (next_turn u x) in
    let over = is_over (next_turn u x) in
    let j = ticked 1 x.job in
    let first : noted w.from u x.budget x.serving ≡ noted w.from (u + suc zero - 1) x.budget x.serving = ap (λ (v : ℕ). noted w.from v x.budget x.serving) last in
    let missed : option_or x.miss (miss_by x.behind u x.serving) ≡ option_or x.miss (plain_miss x.behind u 1 a) = ap (option_or x.miss) (miss-first x.behind u x.serving active before) in
    let runs : shown_behind w u (u + 1) over j x.stretches ≡ shown_behind w u (u + suc zero) over j x.stretches = ap (λ (to : ℕ). shown_behind w u to over j x.stretches) next in
    let marks : x.marks ++ charged_marks w u a (spent a) ≡ x.marks ++ charged_marks w (u + suc zero - 1) a (spent a) = ap (λ (v : ℕ). x.marks ++ charged_marks w v a (spent a)) last in
    ap (λ (v : ℕ). drawn w v Next x) at ∙ plain-drawn w u x a x.budget x.job x.behind x.waits x.stretches x.marks x.miss active
    ∙ parts x (spent a) x.serving.mode first refl next refl runs marks missed
one-more w u (suc k) x within active alike behind =
    let n = suc k in
    let a = x.serving.account in
    let b = spent_for n a in
    let before = one-more w u k x (omega (arith, within)) active (fewer u n x alike) behind in
    let account : b ≡ record a { c = a.c - n } = (spends-within n a (omega (arith, within))).0 in
    let same : b.d ≡ a.d = ap (λ (s : Account). s.d) account in
    let none = no-marks w (u + n - 1) a b x.marks same in
    let next : u + n + 1 ≡ u + suc n = omega arith in
    let last : u + n ≡ u + suc n - 1 = omega arith in
    let over = is_over (next_turn u x) in
    let ws = x.waits ++ turn_waits w (next_turn u x) in
    let j = ticked n x.job in
    let ss = shown_behind w u (u + n) over j x.stretches in
    let mode = x.serving.mode in
    let count : x.job.ticks + n + 1 ≡ x.job.ticks + suc n = omega arith in
    let job : ticked 1 j ≡ ticked (suc n) x.job = ap (λ (m : ℕ). record x.job { ticks = m }) count in
    let plus : ticked (n + 1) x.job ≡ ticked (suc n) x.job = ap (λ (m : ℕ). ticked m x.job) (omega arith) in
    let again : waited w x j (u + n) (u + n) ≡ [] = wait_none w (over_from x) j (max (u + n) x.job.release) (u + n) (inl (omega arith)) in
    let waits : ws ++ waited w x j (u + n) (u + n) ≡ ws = ap (λ (xs : List Stretch). ws ++ xs) again ∙ append-nil ws in
    let runs : shown_behind w (u + n) (u + n + 1) (late x j (u + n)) (ticked 1 j) ss ≡ shown_behind w u (u + suc n) over (ticked (suc n) x.job) x.stretches =
    ap (λ (o : Bool). shown_behind w (u + n) (u + n + 1) o (ticked 1 j) ss) (last-alike u n x alike)
    ∙ ap (λ (i : Job). shown_behind w (u + n) (u + n + 1) over i ss) (job ∙ sym plus)
    ∙ shown-next w u (u + n) n over x.job x.stretches (omega arith)
    ∙ ap (λ (i : Job). shown_behind w u (u + n + 1) over i x.stretches) plus
    ∙ ap (λ (to : ℕ). shown_behind w u to over (ticked (suc n) x.job) x.stretches) next in
    let marks : charged_marks w (u + n) b (spent b) ≡ charged_marks w (u + suc n - 1) a (spent b) =
    ap (λ (d : ℕ). in_window w (moved_marks (u + n) d (spent b).d)) same ∙ ap (λ (v : ℕ). charged_marks w v a (spent b)) last in
    let q = noted w.from (u + n - 1) x.budget x.serving in
    let kept : b.q ≡ a.q = ap (λ (s : Account). s.q) account in
    let stands : x.serving ≡ record { account = a; mode = Active } = ap (λ (m : Mode). record { account = a; mode = m }) active in
    let told = noted-later w.from (u + n - 1) (u + n) x.budget a b kept (omega arith) in
    let budget : noted w.from (u + n) q (record { account = b; mode = mode }) ≡ noted w.from (u + suc n - 1) x.budget x.serving =
    ap (λ (m : Mode). noted w.from (u + n) (noted w.from (u + n - 1) x.budget (record { account = a; mode = m })) (record { account = b; mode = m })) active
    ∙ told ∙ ap (noted w.from (u + n) x.budget) (sym stands) ∙ ap (λ (v : ℕ). noted w.from v x.budget x.serving) last in
    let e = option_or x.miss (plain_miss x.behind u n a) in
    let f = option_or x.miss (plain_miss x.behind u (suc n) a) in
    let missed : option_or e (miss_by (u + n) (u + n) (record { account = b; mode = mode })) ≡ f = miss-next x.behind u n a b mode x.miss active account behind in
    ap (drawn w (u + n) Next) (before ∙ ap (λ (ms : List Mark). with x b mode q j (u + n) ws ss ms e) none)
    ∙ plain-drawn w (u + n) x b q j (u + n) ws ss x.marks e active
    ∙ parts x (spent b) mode budget job next waits runs (ap (λ (ms : List Mark). x.marks ++ ms) marks) missed

pub drawn-at-once : (w : Window) (u n : ℕ) (x : TaskDrawing) → 1 ≤ n → n ≤ max x.serving.account.c 1 → x.serving.mode ≡ Active → AreAlike u n x → x.behind ≤ u
    → drawn_for w u n x ≡ at_once w u n x
drawn-at-once w u n x some within active alike behind =
    let is : suc (n - 1) ≡ n = omega (arith, some) in
    let all : AreAlike u (suc (n - 1)) x = subst (λ (k : ℕ). AreAlike u k x) (sym is) alike in
    subst (λ (k : ℕ). drawn_for w u k x ≡ at_once w u k x) is (one-more w u (n - 1) x (omega (arith, some, within)) active all behind)

-- one of them
pub drawn-once : (w : Window) (u : ℕ) (x : TaskDrawing) → drawn_for w u 1 x ≡ drawn w u Next x
unfolding drawn_for
drawn-once w u x = ap (λ (v : ℕ). drawn w v Next x) (add-zero u)
