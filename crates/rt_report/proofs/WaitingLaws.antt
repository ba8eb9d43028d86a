-- Plain records that wait: counted together, they leave what they leave one by one.
use Rattle.rt_report.proofs.Common.{◌≡◌, ℕ, zero, suc, ◌+◌, ◌≤◌, ◌==◌, false, cond, refl, sym, ap, subst, ◌∙◌, arith, add-zero, nat_tests, tick_limit, Account, Active, has_room_for, OpenSpan, TaskReport, IsSound, plain_for, plainly}
use Rattle.std.proofs.Common.{◌*◌}
use Rattle.std.proofs.lemmas.Nat.{mul-le}
use Rattle.rt_admit.specs.Limits.{hyper_limit}
use Rattle.rt_server.specs.Recharge.{spent, uses_up, spent_for, used_up_for}
use Rattle.rt_report.specs.Working.Plainly.{spanned_for}
use Rattle.rt_report.specs.Working.Waiting.{counted, MayWait}
use Rattle.rt_report.proofs.PlainLaws.{period-kept, sound_for, plain-active}

-- ---- an account over ticks that follow each other

spent_for-sum : (m n : ℕ) (a : Account) → spent_for n (spent_for m a) ≡ spent_for (m + n) a
unfolding spent_for
spent_for-sum m zero a = rw (add-zero m) refl
spent_for-sum m (suc n) a =
    let at : m + suc n ≡ suc (m + n) = omega arith in
    rw at (ap spent (spent_for-sum m n a))

used_up_for-sum : (m n : ℕ) (a : Account) → used_up_for m a + used_up_for n (spent_for m a) ≡ used_up_for (m + n) a
unfolding spent_for used_up_for
used_up_for-sum m zero a = rw (add-zero m) (add-zero (used_up_for m a))
used_up_for-sum m (suc n) a =
    let at : m + suc n ≡ suc (m + n) = omega arith in
    let up : Account → ℕ = λ b. cond (uses_up b) 1 0 in
    let same : up (spent_for n (spent_for m a)) ≡ up (spent_for (m + n) a) = ap up (spent_for-sum m n a) in
    let before = used_up_for-sum m n a in
    let sum : used_up_for m a + (used_up_for n (spent_for m a) + up (spent_for n (spent_for m a))) ≡ used_up_for (m + n) a + up (spent_for (m + n) a) = omega (arith, before, same) in
    rw at sum

-- ---- those that wait, and more

-- none
pub counted-none : (x : TaskReport) → counted 0 x ≡ x
unfolding spent_for used_up_for
counted-none x = rw (add-zero x.open_job.ticks, add-zero x.row.ticks, add-zero x.counts.postponements) refl

-- the last of them ends at this tick
abbrev pub ended_at : ℕ → TaskReport → TaskReport
ended_at end x = record x { span = record x.span { end = end } }

-- what is kept of a task with this account, so many ticks of its job and of its row, so many postponements, and this span
abbrev with : TaskReport → Account → ℕ → ℕ → ℕ → OpenSpan → TaskReport
with x a job row times p = record x {
  serving = record { account = a; mode = x.serving.mode };
  open_job = record x.open_job { ticks = job };
  span = p;
  row = record x.row { ticks = row };
  counts = record x.counts { postponements = times };
}

span-on : (u n k : ℕ) (p : OpenSpan) → 1 ≤ n → 1 ≤ k → spanned_for u n k p ≡ record p { end = u + n }
span-on u n k p some begun =
    let more : (n == 0) ≡ false = grind (arith, nat_tests, some) in
    let has : (k == 0) ≡ false = grind (arith, nat_tests, begun) in
    rw (more, has) refl

counted-on : (u m n : ℕ) (x : TaskReport) → 1 ≤ n → 1 ≤ x.open_job.ticks → plainly u n (counted m x) ≡ counted (m + n) (ended_at (u + n) x)
counted-on u m n x some begun =
    let a = x.serving.account in
    let account = spent_for-sum m n a in
    let job : x.open_job.ticks + m + n ≡ x.open_job.ticks + (m + n) = omega arith in
    let row : x.row.ticks + m + n ≡ x.row.ticks + (m + n) = omega arith in
    let times : x.counts.postponements + used_up_for m a + used_up_for n (spent_for m a) ≡ x.counts.postponements + used_up_for (m + n) a = omega (arith, used_up_for-sum m n a) in
    let span = span-on u n (x.open_job.ticks + m) x.span some (omega (arith, begun)) in
    ap (λ (b : Account). with x b (x.open_job.ticks + m + n) (x.row.ticks + m + n) (x.counts.postponements + used_up_for m a + used_up_for n (spent_for m a)) (spanned_for u n (x.open_job.ticks + m) x.span)) account
    ∙ ap (λ (k : ℕ). with x (spent_for (m + n) a) k (x.row.ticks + m + n) (x.counts.postponements + used_up_for m a + used_up_for n (spent_for m a)) (spanned_for u n (x.open_job.ticks + m) x.span)) job
    ∙ ap (λ (k : ℕ). with x (spent_for (m + n) a) (x.open_job.ticks + (m + n)) k (x.counts.postponements + used_up_for m a + used_up_for n (spent_for m a)) (spanned_for u n (x.open_job.ticks + m) x.span)) row
    ∙ ap (λ (k : ℕ). with x (spent_for (m + n) a) (x.open_job.ticks + (m + n)) (x.row.ticks + (m + n)) k (spanned_for u n (x.open_job.ticks + m) x.span)) times
    ∙ ap (with x (spent_for (m + n) a) (x.open_job.ticks + (m + n)) (x.row.ticks + (m + n)) (x.counts.postponements + used_up_for (m + n) a)) span

-- n more at tick u of a task of which m wait
module _ (u m n : ℕ) (x : TaskReport) (some : 1 ≤ n) (waits : MayWait m x) (sound : IsSound u (counted m x)) where
  pub waits-plain : plain_for u n (counted m x) ≡ counted (m + n) (ended_at (u + n) x)
  waits-plain = plain-active u n (counted m x) waits.active sound ∙ counted-on u m n x some waits.begun

  pub waits-on : u + n ≤ tick_limit → MayWait (m + n) (ended_at (u + n) x)
  waits-on limit =
      let a = x.serving.account in
      let later : IsSound (u + n) (counted (m + n) (ended_at (u + n) x)) = subst (IsSound (u + n)) waits-plain (sound_for u n (counted m x) sound) in
      let period : a.p ≤ hyper_limit = omega (arith, period-kept m a, sound.account.period) in
      let more : a.p * (m + n) ≡ a.p * m + a.p * n = grind arith in
      let before : a.p * (x.span.end + 1) ≤ a.p * (u + 1) = mul-le a.p (x.span.end + 1) a.p (u + 1) (omega arith) (omega (arith, sound.end)) in
      let sum : a.p * (u + n + 1) ≡ a.p * (u + 1) + a.p * n = grind arith in
      let all : a.p * (u + n + 1) ≤ hyper_limit * (tick_limit + 1) = mul-le a.p (u + n + 1) hyper_limit (tick_limit + 1) period (omega (arith, limit)) in
      let within : a.d + a.p * (m + n) ≤ a.p * (u + n + 1) = omega (arith, waits.within, more, before, sum) in
      record {
        active = waits.active;
        begun = waits.begun;
        within = within;
        room = record {
          deadline = omega (arith, within, all);
          postponements = omega (arith, limit, later.postponements);
          job = omega (arith, limit, later.open_ticks);
          ticks = omega (arith, limit, later.ticks);
        };
      }

-- the first that wait, of a task whose open job has begun
module _ (u n : ℕ) (x : TaskReport) (active : x.serving.mode ≡ Active) (begun : 1 ≤ x.open_job.ticks) (some : 1 ≤ n) (sound : IsSound u x) where
  pub waits-plain-first : plain_for u n x ≡ counted n (ended_at (u + n) x)
  waits-plain-first =
      plain-active u n x active sound ∙ ap (plainly u n) (sym (counted-none x)) ∙ counted-on u 0 n x some begun
      ∙ ap (λ (k : ℕ). counted k (ended_at (u + n) x)) (omega arith)

  pub waits-first : u + n ≤ tick_limit → MayWait n (ended_at (u + n) x)
  waits-first limit =
      let a = x.serving.account in
      let later : IsSound (u + n) (counted n (ended_at (u + n) x)) = subst (IsSound (u + n)) waits-plain-first (sound_for u n x sound) in
      let sum : a.p * (u + n + 1) ≡ a.p * (u + 1) + a.p * n = grind arith in
      record {
        active = active;
        begun = begun;
        within = omega (arith, sum, sound.account.deadline);
        room = record {
          deadline = has_room_for u n a (omega (arith, limit)) sound.account;
          postponements = omega (arith, limit, later.postponements);
          job = omega (arith, limit, later.open_ticks);
          ticks = omega (arith, limit, later.ticks);
        };
      }

-- n more of a task of which m may wait
pub waits-more : (u m n : ℕ) (x : TaskReport) → (1 ≤ m → MayWait m x) → x.serving.mode ≡ Active → 1 ≤ x.open_job.ticks → 1 ≤ n → IsSound u (counted m x)
    → plain_for u n (counted m x) ≡ counted (m + n) (ended_at (u + n) x)
waits-more u m n x may active begun some sound = plain-active u n (counted m x) active sound ∙ counted-on u m n x some begun

pub may-wait-more : (u m n : ℕ) (x : TaskReport) → (1 ≤ m → MayWait m x) → x.serving.mode ≡ Active → 1 ≤ x.open_job.ticks → 1 ≤ n → u + n ≤ tick_limit → IsSound u (counted m x)
    → MayWait (m + n) (ended_at (u + n) x)
may-wait-more u zero n x may active begun some limit sound =
    subst (λ (k : ℕ). MayWait k (ended_at (u + n) x)) (omega arith) (waits-first u n x active begun some (subst (IsSound u) (counted-none x) sound) limit)
may-wait-more u (suc m) n x may active begun some limit sound = waits-on u (suc m) n x some (may (omega arith)) sound limit
