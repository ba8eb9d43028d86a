-- Plain ticks of a task that wakes before them.
use Rattle.rt_report.proofs.Common.{◌≡◌, ℕ, zero, suc, ◌+◌, ◌-◌, ◌≤◌, true, refl, sym, ap, subst, ◌∙◌, arith, add-zero, nat_tests, tick_limit, Account, Active, Serving, due, after, has_room_for, gone_on, TaskReport, taken, with_tick, spanned, gone, tallied, IsSound, plain_for, plainly, HasRoom}
use Rattle.std.proofs.Common.{nat_le}
use Rattle.rt_history.specs.declared.mode.Mode.{Mode}
use Rattle.rt_history.specs.declared.mode.Mode.TheVariants.{Asleep}
use Rattle.rt_history.specs.declared.record.AttemptOutcome.TheVariants.{Next}
use Rattle.rt_history.specs.Serving.{due_in}
use Rattle.rt_history.proofs.ServingLaws.{IsBounded-due}
use Rattle.rt_report.specs.declared.wide_row.WideCounts.{WideCounts}
use Rattle.rt_report.specs.WideRows.{with_wake}
use Rattle.rt_report.specs.Working.Tallied.{with_charge, with_outcome, awoken}
use Rattle.rt_report.proofs.PlainLaws.{sound_for, plain-running}

-- what is kept of a task in this mode
abbrev in_mode : Mode → TaskReport → TaskReport
in_mode m x = record x { serving = record { account = x.serving.account; mode = m } }

-- a wake that was applied isn't applied again
due-once : (u w : ℕ) (a : Account) → nat_le w u ≡ true → due u (due_in u (Asleep w) a) ≡ due_in u (Asleep w) a
due-once u w a is = rw is refl

wake-once : (u w : ℕ) (a : Account) (c : WideCounts) → nat_le w u ≡ true → with_wake u (due_in u (Asleep w) a) c ≡ c
wake-once u w a c is = rw (is, add-zero c.fresh_wakes, add-zero c.kept_wakes) refl

-- a plain record of a task that stands so with the wakes applied, which are in these counts
abbrev gone_with : ℕ → TaskReport → Serving → WideCounts → TaskReport
gone_with u x v c = record x {
  serving = after u (taken Next v.account) v.account;
  open_job = gone_on (u, Next) x.open_job;
  span = spanned u x.open_job.ticks x.span;
  row = with_tick x.row;
  counts = with_outcome (taken Next v.account) (with_charge (taken Next v.account) v.account c);
}

-- the first record wakes the task, whether the wake was applied before it or not
gone-asleep : (u w : ℕ) (x : TaskReport) → nat_le w u ≡ true → gone u Next (in_mode (Asleep w) x) ≡ gone u Next (awoken u (in_mode (Asleep w) x))
gone-asleep u w x is =
    let s = (in_mode (Asleep w) x).serving in
    let c = with_wake u s x.counts in
    let d = due_in u (Asleep w) x.serving.account in
    ap (λ (v : Serving). gone_with u x v c) (sym (due-once u w x.serving.account is))
    ∙ ap (gone_with u x (due u d)) (sym (wake-once u w x.serving.account c is))

gone-woken : (u w : ℕ) (x : TaskReport) → x.serving.mode ≡ Asleep w → nat_le w u ≡ true → gone u Next x ≡ gone u Next (awoken u x)
gone-woken u w x asleep is = subst (λ (m : Mode). gone u Next (in_mode m x) ≡ gone u Next (awoken u (in_mode m x))) (sym asleep) (gone-asleep u w x is)

plain-later : (u n w : ℕ) (x : TaskReport) → x.serving.mode ≡ Asleep w → nat_le w u ≡ true → plain_for u (suc n) x ≡ plain_for u (suc n) (awoken u x)
unfolding plain_for
plain-later u zero w x asleep is = rw (add-zero u) (gone-woken u w x asleep is)
plain-later u (suc n) w x asleep is = ap (tallied (u + suc n) Next) (plain-later u n w x asleep is)

awoken-active : (u w : ℕ) (x : TaskReport) → x.serving.mode ≡ Asleep w → nat_le w u ≡ true → (awoken u x).serving.mode ≡ Active
awoken-active u w x asleep is = rw (asleep, is) refl

pub plain-woken : (u n w : ℕ) (x : TaskReport) → x.serving.mode ≡ Asleep w → w ≤ u → 1 ≤ n → IsSound u x → plain_for u n x ≡ plainly u n (awoken u x)
plain-woken u n w x asleep before some sound =
    let is : nat_le w u ≡ true = grind (arith, nat_tests, before) in
    let at : n ≡ suc (n - 1) = omega (arith, some) in
    let account = IsBounded-due u x.serving.mode x.serving.account sound.account in
    subst (λ (k : ℕ). plain_for u k x ≡ plain_for u k (awoken u x)) (sym at) (plain-later u (n - 1) w x asleep is)
    ∙ plain-running u n (awoken u x) (awoken-active u w x asleep is) (omega (arith, account.positive, account.within))

pub room-woken : (u n w : ℕ) (x : TaskReport) → x.serving.mode ≡ Asleep w → w ≤ u → 1 ≤ n → u + n ≤ tick_limit → IsSound u x → HasRoom n (awoken u x)
room-woken u n w x asleep before some limit sound =
    let later : IsSound (u + n) (plainly u n (awoken u x)) = subst (IsSound (u + n)) (plain-woken u n w x asleep before some sound) (sound_for u n x sound) in
    record {
      deadline = has_room_for u n (due u x.serving).account (omega (arith, limit)) (IsBounded-due u x.serving.mode x.serving.account sound.account);
      postponements = omega (arith, limit, later.postponements);
      job = omega (arith, limit, sound.open_ticks);
      ticks = omega (arith, limit, sound.ticks);
    }
