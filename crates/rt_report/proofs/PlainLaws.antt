-- Plain ticks at once: what they leave is what they leave one by one.
use Rattle.rt_report.proofs.Common.{◌≡◌, ℕ, zero, suc, ◌+◌, ◌-◌, ◌<◌, ◌≤◌, ◌==◌, Bool, true, false, cond, List, [], ◌∷◌, ◌++◌, length, get_or, slice_get, slice_set, Option, Some, None, refl, sym, ap, subst, ◌∙◌, arith, add-zero, option_map_or, nat_tests, tick_limit, Account, TaskSet, Active, Attempt, AttemptOutcome, Record, record_at, legal, state_at, has_room_for, legal_next, OpenJob, Row, OpenSpan, TaskReport, ReportState, report_at, with_tick, spanned, gone, tallied, tallied_at, added, IsSound, plain_for, plainly, added_plain, HasRoom}
use Rattle.std.proofs.Common.{◌&&◌}
use Rattle.std.proofs.lemmas.List.{length-set, get_or-set_same, set-get_or, set-set}
use Rattle.std.proofs.lemmas.Option.{slice_get_within, slice_get_read, get_or_from_slice_get}
use Rattle.rt_server.specs.Recharge.{spent, uses_up, spent_for, used_up_for}
use Rattle.rt_server.proofs.AccountLaws.{spend_keeps_grants}
use Rattle.rt_history.specs.declared.mode.Mode.{Mode}
use Rattle.rt_history.specs.declared.record.AttemptOutcome.TheVariants.{Next}
use Rattle.rt_history.specs.declared.record.Entry.TheVariants as entries
use Rattle.rt_history.specs.Plain.{ArePlain}
use Rattle.rt_history.proofs.PlainLaws.{plain-attempt}
use Rattle.rt_report.specs.declared.wide_row.WideCounts.{WideCounts}
use Rattle.rt_report.specs.WideRows.{postpones}
use Rattle.rt_report.specs.Working.Plainly.{spanned_for, plain_at}
use Rattle.rt_report.proofs.SoundLemmas.{IsSound-tallied, tallied_at-is}
use Rattle.rt_report.proofs.ReportLaws.{report_next}

-- ---- one task

-- the deadline moves on where the budget is used up
postpones-used : (a : Account) → 1 ≤ a.p → postpones Next a ≡ uses_up a
postpones-used a positive = grind (arith, nat_tests)

calm-stays : (calm : Bool) → (calm && true) ≡ calm
calm-stays true = refl
calm-stays false = refl

-- one of them of a task that is active
gone-active : (u : ℕ) (a : Account) (j : OpenJob) (p : OpenSpan) (r : Row) (k : WideCounts) (start : ℕ) → 1 ≤ a.p
    → gone u Next (record { serving = record { account = a; mode = Active }; open_job = j; span = p; row = r; counts = k; start = start }) ≡ record {
      serving = record { account = spent a; mode = Active };
      open_job = record j { ticks = j.ticks + 1 };
      span = spanned u j.ticks p;
      row = with_tick r;
      counts = record k { postponements = k.postponements + cond (uses_up a) 1 0 };
      start = start;
    }
gone-active u a j p r k start positive =
    rw (postpones-used a positive, calm-stays j.calm, add-zero k.fresh_wakes, add-zero k.kept_wakes, add-zero k.yields, add-zero k.granted, add-zero k.refused) refl

-- the span, one record more
suc-is-some : (n : ℕ) → (suc n == 0) ≡ false
suc-is-some n = grind (arith, nat_tests)

sum-is-some : (k n : ℕ) → (k + suc n == 0) ≡ false
sum-is-some k n = grind (arith, nat_tests)

span-more : (u n k : ℕ) (p : OpenSpan) → spanned (u + n) (k + n) (spanned_for u n k p) ≡ spanned_for u (suc n) k p
span-more u zero k p = rw (add-zero u, add-zero k) refl
span-more u (suc n) k p =
    let at : u + suc n + 1 ≡ u + suc (suc n) = omega arith in
    rw (sum-is-some k n, suc-is-some n, suc-is-some (suc n), at) refl

-- what is kept of a task with this account and mode, so many ticks of its job and of its row, so many postponements, and this span
abbrev with : TaskReport → Account → Mode → ℕ → ℕ → ℕ → OpenSpan → TaskReport
with x a mode job row times p = record x {
  serving = record { account = a; mode = mode };
  open_job = record x.open_job { ticks = job };
  span = p;
  row = record x.row { ticks = row };
  counts = record x.counts { postponements = times };
}

-- and one more
plainly-more : (u n : ℕ) (x : TaskReport) → x.serving.mode ≡ Active → 1 ≤ (spent_for n x.serving.account).p → tallied (u + n) Next (plainly u n x) ≡ plainly u (suc n) x
unfolding spent_for used_up_for
plainly-more u n x active positive =
    let a = spent_for n x.serving.account in
    let times = x.counts.postponements + used_up_for n x.serving.account in
    let up : ℕ = cond (uses_up a) 1 0 in
    let p = spanned_for u n x.open_job.ticks x.span in
    let q = spanned (u + n) (x.open_job.ticks + n) p in
    let before = with x a Active (x.open_job.ticks + n) (x.row.ticks + n) times p in
    let job : x.open_job.ticks + n + 1 ≡ x.open_job.ticks + suc n = omega arith in
    let row : x.row.ticks + n + 1 ≡ x.row.ticks + suc n = omega arith in
    let sum : times + up ≡ x.counts.postponements + (used_up_for n x.serving.account + up) = omega arith in
    ap (λ (m : Mode). gone (u + n) Next (with x a m (x.open_job.ticks + n) (x.row.ticks + n) times p)) active
    ∙ gone-active (u + n) a before.open_job before.span before.row before.counts x.start positive
    ∙ ap (λ k. with x (spent a) Active k (x.row.ticks + n + 1) (times + up) q) job
    ∙ ap (λ k. with x (spent a) Active (x.open_job.ticks + suc n) k (times + up) q) row
    ∙ ap (λ k. with x (spent a) Active (x.open_job.ticks + suc n) (x.row.ticks + suc n) k q) sum
    ∙ ap (with x (spent a) Active (x.open_job.ticks + suc n) (x.row.ticks + suc n) (x.counts.postponements + used_up_for (suc n) x.serving.account)) (span-more u n x.open_job.ticks x.span)
    ∙ ap (λ (m : Mode). with x (spent a) m (x.open_job.ticks + suc n) (x.row.ticks + suc n) (x.counts.postponements + used_up_for (suc n) x.serving.account)
    (spanned_for u (suc n) x.open_job.ticks x.span)) (sym active)

-- each number stays within its bound
pub sound_for : (u n : ℕ) (x : TaskReport) → IsSound u x → IsSound (u + n) (plain_for u n x)
unfolding plain_for
sound_for u zero x sound = rw add-zero sound
sound_for u (suc n) x sound =
    let at : u + n + 1 ≡ u + suc n = omega arith in
    subst (λ v. IsSound v (tallied (u + n) Next (plain_for u n x))) at (IsSound-tallied (u + n) Next (plain_for u n x) (sound_for u n x sound))

-- the period stays
pub period-kept : (n : ℕ) (a : Account) → (spent_for n a).p ≡ a.p
unfolding spent_for
period-kept zero a = refl
period-kept (suc n) a = (spend_keeps_grants (spent_for n a)).1 ∙ period-kept n a

-- n of them of a task that is active
pub plain-running : (u n : ℕ) (x : TaskReport) → x.serving.mode ≡ Active → 1 ≤ x.serving.account.p → plain_for u n x ≡ plainly u n x
unfolding plain_for spent_for used_up_for
plain-running u zero x active positive = rw (add-zero x.open_job.ticks, add-zero x.row.ticks, add-zero x.counts.postponements) refl
plain-running u (suc n) x active positive =
    ap (tallied (u + n) Next) (plain-running u n x active positive) ∙ plainly-more u n x active (omega (arith, positive, period-kept n x.serving.account))

pub plain-active : (u n : ℕ) (x : TaskReport) → x.serving.mode ≡ Active → IsSound u x → plain_for u n x ≡ plainly u n x
plain-active u n x active sound = plain-running u n x active (omega (arith, sound.account.positive, sound.account.within))

-- the first of them, and then the others
plain-first : (u n : ℕ) (x : TaskReport) → plain_for u (suc n) x ≡ plain_for (u + 1) n (tallied u Next x)
unfolding plain_for
plain-first u zero x = ap (λ v. tallied v Next x) (add-zero u)
plain-first u (suc n) x =
    let at : u + suc n ≡ u + 1 + n = omega arith in
    ap (tallied (u + suc n) Next) (plain-first u n x) ∙ ap (λ v. tallied v Next (plain_for (u + 1) n (tallied u Next x))) at

pub plain-begun : (u n : ℕ) (x : TaskReport) → 1 ≤ n → IsSound u x → plain_for u n x ≡ plainly (u + 1) (n - 1) (gone u Next x)
plain-begun u n x some sound =
    let at : n ≡ suc (n - 1) = omega (arith, some) in
    ap (λ k. plain_for u k x) at ∙ plain-first u (n - 1) x ∙ plain-active (u + 1) (n - 1) (gone u Next x) refl (IsSound-tallied u Next x sound)

pub room_for : (u n : ℕ) (x : TaskReport) → x.serving.mode ≡ Active → u + n ≤ tick_limit → IsSound u x → HasRoom n x
room_for u n x active within sound =
    let later : IsSound (u + n) (plainly u n x) = subst (IsSound (u + n)) (plain-active u n x active sound) (sound_for u n x sound) in
    record {
      deadline = has_room_for u n x.serving.account (omega (arith, within)) sound.account;
      postponements = omega (arith, within, later.postponements);
      job = omega (arith, within, sound.open_ticks);
      ticks = omega (arith, within, sound.ticks);
    }

pub room-begun : (u n : ℕ) (x : TaskReport) → 1 ≤ n → u + n ≤ tick_limit → IsSound u x → HasRoom (n - 1) (gone u Next x)
room-begun u n x some within sound = room_for (u + 1) (n - 1) (gone u Next x) refl (omega (arith, some, within)) (IsSound-tallied u Next x sound)

-- ---- all tasks

pub plain_at-is : (u n i : ℕ) (xs : List TaskReport) (x : TaskReport) → i < length xs → x ≡ get_or xs i x → plain_at u n xs i ≡ slice_set xs i (plain_for u n x)
plain_at-is u n i xs x below here = rw (slice_get_read xs (length xs) i x refl below here) refl

pub plain_at-none : (u i : ℕ) (xs : List TaskReport) → plain_at u 0 xs i ≡ xs
unfolding plain_for
plain_at-none u i xs = none (slice_get xs i) refl
  where
    none : (r : Option TaskReport) → slice_get xs i ≡ r → option_map_or (λ x. slice_set xs i x) r xs ≡ xs
    none None is = refl
    none (Some x) is = ap (slice_set xs i) (sym (get_or_from_slice_get xs i x x is)) ∙ set-get_or xs i x

plain_at-more : (u n i : ℕ) (xs : List TaskReport) → plain_at u (suc n) xs i ≡ tallied_at (u + n) Next (plain_at u n xs i) i
unfolding plain_for
plain_at-more u n i xs = more (slice_get xs i) refl
  where
    more : (r : Option TaskReport) → slice_get xs i ≡ r
        → option_map_or (λ x. slice_set xs i (tallied (u + n) Next (plain_for u n x))) r xs
        ≡ tallied_at (u + n) Next (option_map_or (λ x. slice_set xs i (plain_for u n x)) r xs) i
    more None is = rw is refl
    more (Some x) is =
        let y = plain_for u n x in
        let below : i < length xs = slice_get_within xs i x is in
        let there : i < length (slice_set xs i y) = omega (arith, below, length-set xs i y) in
        sym (tallied_at-is (u + n) i Next (slice_set xs i y) y there (sym (get_or-set_same xs i y y below)) ∙ set-set xs i y (tallied (u + n) Next y))

-- ---- the report

pub added_plain-none : (i : ℕ) (r : ReportState) → r ≡ added_plain i 0 r
added_plain-none i r = rw (add-zero, plain_at-none r.tick i r.tasks) refl

added_plain-more : (i n : ℕ) (a : Attempt) (r : ReportState) → a.task ≡ i → a.outcome ≡ Next
    → added (entries.Busy (r.tick + n) a) (added_plain i n r) ≡ added_plain i (suc n) r
added_plain-more i n a r task plain =
    let at : r.tick + n + 1 ≡ r.tick + suc n = omega arith in
    ap (λ (k : ℕ). record { tick = r.tick + n + 1; idle = r.idle; tasks = tallied_at (r.tick + n) a.outcome (plain_at r.tick n r.tasks i) k }) task
    ∙ ap (λ (o : AttemptOutcome). record { tick = r.tick + n + 1; idle = r.idle; tasks = tallied_at (r.tick + n) o (plain_at r.tick n r.tasks i) i }) plain
    ∙ ap (λ (xs : List TaskReport). record { tick = r.tick + n + 1; idle = r.idle; tasks = xs }) (sym (plain_at-more r.tick n i r.tasks))
    ∙ ap (λ (t : ℕ). record { tick = t; idle = r.idle; tasks = plain_at r.tick (suc n) r.tasks i }) at

pub report_plain : (set : TaskSet) (t i n : ℕ) → ArePlain set t i n → report_at set (t + n) ≡ added_plain i n (report_at set t)
unfolding report_at
report_plain set t i zero plain = ap (report_at set) (add-zero t) ∙ added_plain-none i (report_at set t)
report_plain set t i (suc n) plain =
    let before = report_plain set t i n (λ k below. plain k (omega (arith, below))) in
    let it = plain-attempt i (record_at (state_at set (t + n))) (plain n (omega arith)) in
    let a = it.0 in
    let next = report_next set (t + n) (entries.Busy (t + n) a) (legal_next set (t + n) ∙ ap (λ (r : Record). legal set (t + n) ++ r ∷ []) it.1.0) in
    let at : t + suc n ≡ t + n + 1 = omega arith in
    ap (report_at set) at ∙ next ∙ ap (added (entries.Busy (t + n) a)) before ∙ added_plain-more i n a (report_at set t) it.1.1.0 it.1.1.1
