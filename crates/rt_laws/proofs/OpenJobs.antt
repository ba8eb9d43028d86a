-- The open job of a task: as long as it may be a hard one, its ticks and the current budget make the budget, and the deadline is a period
-- after its release.
use Rattle.rt_laws.proofs.Common.{◌≡◌, ℕ, ◌+◌, ◌<◌, ◌≤◌, nat_le, nat_lt, true, false, List, [], ◌∷◌, ◌++◌, length, length-append, refl, sym, ap, ◌∙◌, append_assoc, append-nil, arith, cond_both, cond-true, leb-true, Account, coming, wakes_fresh, refreshed, woken, spent, reserved, Fits, SetTask, Mode, Active, Asleep, Ended, Faulted, AttemptOutcome, Next, End, Write, WriteRefused, Sleep, Yield, Now, Reserve, ReserveRefused, Fault, Serving, first_serving, due_in, due, mode_after, charged, after, serving_after, ends_job, Release, release_of, account_after, is_fresh, release-slept}
use Rattle.std.specs.List.{list_all}
use Rattle.std.proofs.lemmas.Bool.{ltb-true, and_parts}
use Rattle.rt_history.specs.Job.{is_calm, budget_of}
use Rattle.rt_history.proofs.ServingLaws.{period-stays}
use Rattle.rt_history.proofs.JobLaws.{calm-parts, release-kept, release-last, after-same}
use Rattle.rt_laws.proofs.Accounts.{spent_cases}

-- ---- the open job

-- the budget from its release on
abbrev pub its_budget : SetTask → List (ℕ × AttemptOutcome) → ℕ
its_budget s before = budget_of s (release_of s before) before

-- its release was a fresh wake, it has no yield, and less records than its budget has ticks
pub record MayBeHard (s : SetTask) (before piece : List (ℕ × AttemptOutcome)) : Type 0 where
  pub fresh : is_fresh s (release_of s before) before ≡ true
  pub calm : list_all is_calm piece ≡ true
  pub few : length piece < its_budget s before

pub record IsServed (s : SetTask) (before piece : List (ℕ × AttemptOutcome)) (a : Account) : Type 0 where
  pub left : a.c + length piece ≡ its_budget s before
  pub deadline : a.d ≡ (release_of s before).tick + s.period

-- how a task stands after the records of finished jobs and those of the open one
abbrev pub IsOpen : SetTask → List (ℕ × AttemptOutcome) → List (ℕ × AttemptOutcome) → Mode → Account → Type 0
IsOpen s before piece Active a = MayBeHard s before piece → IsServed s before piece a
IsOpen s before piece (Asleep w) a = (piece ≡ []) × ((release_of s before).tick ≡ w)
IsOpen s before piece Ended a = Unit {0}
IsOpen s before piece (Faulted fault) a = Unit {0}

pub record Opened (s : SetTask) (before piece : List (ℕ × AttemptOutcome)) (v : Serving) : Type 0 where
  pub same : v ≡ serving_after (first_serving s) (before ++ piece)
  pub release : release_of s (before ++ piece) ≡ release_of s before
  pub open_job : IsOpen s before piece v.mode v.account

-- before any record
pub opened-first : (s : SetTask) → Opened s [] [] (first_serving s)
opened-first s = record { same = refl; release = refl; open_job = (refl, refl) }

-- ---- a wake

served-woken : (s : SetTask) (before piece : List (ℕ × AttemptOutcome)) (w : ℕ) (v : Serving) → v.account ≡ account_after s (before ++ piece)
    → (piece ≡ []) × ((release_of s before).tick ≡ w) → MayBeHard s before piece → IsServed s before piece (woken w v.account)
served-woken s before piece w v same waits hard =
    let none : before ++ piece ≡ before = ap (λ es. before ++ es) waits.0 ∙ append-nil before in
    let account : v.account ≡ account_after s before = same ∙ ap (account_after s) none in
    let r = release_of s before in
    let test : wakes_fresh r.tick (account_after s before) ≡ true = (and_parts r.awaited _ hard.fresh).1 in
    let late : wakes_fresh w v.account ≡ true = ap (wakes_fresh w) account ∙ ap (λ u. wakes_fresh u (account_after s before)) (sym waits.1) ∙ test in
    let taken : its_budget s before ≡ coming (account_after s before) =
    cond-true (is_fresh s r before) (coming (account_after s before)) (account_after s before).q hard.fresh in
    let q : coming v.account ≡ its_budget s before = ap coming account ∙ sym taken in
    let p : v.account.p ≡ s.period = ap (λ (a : Account). a.p) account ∙ period-stays (first_serving s) before in
    let is : woken w v.account ≡ refreshed (coming v.account) w v.account =
    cond-true (wakes_fresh w v.account) (refreshed (coming v.account) w v.account) v.account late in
    rw is (record {
      left = rw waits.0 (omega (arith, q));
      deadline = omega (arith, waits.1, p);
    })

-- at a record of tick u
served-in : (s : SetTask) (before piece : List (ℕ × AttemptOutcome)) (u : ℕ) (m : Mode) (a : Account) → a ≡ account_after s (before ++ piece)
    → IsOpen s before piece m a → (due_in u m a).mode ≡ Active → MayBeHard s before piece → IsServed s before piece (due_in u m a).account
served-in s before piece u Active a same is active hard = is hard
served-in s before piece u (Asleep w) a same is active hard =
    cond_both (nat_le w u) (record { account = woken w a; mode = Active }) (record { account = a; mode = Asleep w })
    (λ (x : Serving). x.mode ≡ Active → IsServed s before piece x.account)
    (λ past awake. served-woken s before piece w (record { account = a; mode = Asleep w }) same is hard) (λ later asleep. absurd cc) active
served-in s before piece u Ended a same is active hard = absurd cc
served-in s before piece u (Faulted fault) a same is active hard = absurd cc

pub served : (s : SetTask) (before piece : List (ℕ × AttemptOutcome)) (u : ℕ) (v : Serving) → Opened s before piece v → (due u v).mode ≡ Active
    → MayBeHard s before piece → IsServed s before piece (due u v).account
served s before piece u v now active hard = served-in s before piece u v.mode v.account (ap (λ (w : Serving). w.account) now.same) now.open_job active hard

-- ---- a record that doesn't end the job

hard-front : (s : SetTask) (before piece : List (ℕ × AttemptOutcome)) (e : ℕ × AttemptOutcome) → MayBeHard s before (piece ++ e ∷ []) → MayBeHard s before piece
hard-front s before piece e hard =
    record { fresh = hard.fresh; calm = (calm-parts piece e hard.calm).0; few = omega (arith, hard.few, length-append piece (e ∷ [])) }

served-spent : (s : SetTask) (before piece : List (ℕ × AttemptOutcome)) (e : ℕ × AttemptOutcome) (a : Account) → (MayBeHard s before piece → IsServed s before piece a)
    → MayBeHard s before (piece ++ e ∷ []) → IsServed s before (piece ++ e ∷ []) (spent a)
served-spent s before piece e a serves hard =
    let now = serves (hard-front s before piece e hard) in
    let count : length (piece ++ e ∷ []) ≡ length piece + 1 = length-append piece (e ∷ []) in
    let more : 2 ≤ a.c = omega (arith, now.left, count, hard.few) in
    spent_cases (IsServed s before (piece ++ e ∷ [])) a
    (λ some. record { left = omega (arith, now.left, count, more); deadline = now.deadline })
    (λ last. absurd (omega (arith, last, more)))

served-reserved : (s : SetTask) (before piece : List (ℕ × AttemptOutcome)) (x : ℕ) (a : Account) → IsServed s before piece a → IsServed s before piece (reserved x a)
served-reserved s before piece x a now = record { left = now.left; deadline = now.deadline }

open-on : (s : SetTask) (before piece : List (ℕ × AttemptOutcome)) (u : ℕ) (outcome : AttemptOutcome) (a : Account) → ends_job outcome ≡ false
    → (MayBeHard s before piece → IsServed s before piece a) → IsOpen s before (piece ++ (u, outcome) ∷ []) (mode_after u outcome) (charged outcome a)
open-on s before piece u Next a on serves = served-spent s before piece (u, Next) a serves
open-on s before piece u End a on serves = absurd cc
open-on s before piece u (Write n) a on serves = served-spent s before piece (u, Write n) a serves
open-on s before piece u WriteRefused a on serves = served-spent s before piece (u, WriteRefused) a serves
open-on s before piece u (Sleep w) a on serves = absurd cc
open-on s before piece u Yield a on serves = λ hard. let calm = (calm-parts piece (u, Yield) hard.calm).1 in absurd cc
open-on s before piece u (Now n) a on serves = served-spent s before piece (u, Now n) a serves
open-on s before piece u (Reserve x) a on serves =
    λ hard. served-reserved s before (piece ++ (u, Reserve x) ∷ []) x (spent a) (served-spent s before piece (u, Reserve x) a serves hard)
open-on s before piece u ReserveRefused a on serves = served-spent s before piece (u, ReserveRefused) a serves
open-on s before piece u (Fault fault) a on serves = tt

pub opened-on : (s : SetTask) (before piece : List (ℕ × AttemptOutcome)) (e : ℕ × AttemptOutcome) (v : Serving) → Opened s before piece v → (due e.0 v).mode ≡ Active
    → ends_job e.1 ≡ false → Opened s before (piece ++ e ∷ []) (after e.0 e.1 (due e.0 v).account)
opened-on s before piece e v now active on = record {
  same = after-same s (before ++ piece) e v now.same ∙ ap (serving_after (first_serving s)) (append_assoc before piece (e ∷ []));
  release = release-last s before piece e ∙ release-kept _ e.0 e.1 on ∙ now.release;
  open_job = open-on s before piece e.0 e.1 (due e.0 v).account on (served s before piece e.0 v now active);
}

-- ---- a record that ends it

open-slept : (s : SetTask) (done : List (ℕ × AttemptOutcome)) (u w : ℕ) (a : Account) → release_of s done ≡ record { tick = w; awaited = nat_lt u w }
    → IsOpen s done [] (mode_after u (Sleep w)) a
open-slept s done u w a is =
    cond_both (nat_le w u) Active (Asleep w) (λ m. IsOpen s done [] m a)
    (λ past hard.
    let awaited : (release_of s done).awaited ≡ true = (and_parts (release_of s done).awaited _ hard.fresh).0 in
    let later : nat_lt u w ≡ true = sym (ap (λ (r : Release). r.awaited) is) ∙ awaited in
    let low = leb-true w u past in
    let high = ltb-true u w later in
    absurd (omega (arith, low, high)))
    (λ later. (refl, ap (λ (r : Release). r.tick) is))

open-done : (s : SetTask) (before piece : List (ℕ × AttemptOutcome)) (u : ℕ) (outcome : AttemptOutcome) (a : Account) → ends_job outcome ≡ true
    → IsOpen s (before ++ (piece ++ (u, outcome) ∷ [])) [] (mode_after u outcome) a
open-done s before piece u Next a ends = absurd cc
open-done s before piece u End a ends = tt
open-done s before piece u (Write n) a ends = absurd cc
open-done s before piece u WriteRefused a ends = absurd cc
open-done s before piece u (Sleep w) a ends = open-slept s (before ++ (piece ++ (u, Sleep w) ∷ [])) u w a (release-slept s before piece u w)
open-done s before piece u Yield a ends = absurd cc
open-done s before piece u (Now n) a ends = absurd cc
open-done s before piece u (Reserve x) a ends = absurd cc
open-done s before piece u ReserveRefused a ends = absurd cc
open-done s before piece u (Fault fault) a ends = absurd cc

pub done-same : (s : SetTask) (before piece : List (ℕ × AttemptOutcome)) (e : ℕ × AttemptOutcome) (v : Serving) → Opened s before piece v
    → after e.0 e.1 (due e.0 v).account ≡ serving_after (first_serving s) (before ++ (piece ++ e ∷ []))
done-same s before piece e v now = after-same s (before ++ piece) e v now.same ∙ ap (serving_after (first_serving s)) (append_assoc before piece (e ∷ []))

pub opened-done : (s : SetTask) (before piece : List (ℕ × AttemptOutcome)) (e : ℕ × AttemptOutcome) (v : Serving) → Opened s before piece v
    → ends_job e.1 ≡ true → Opened s (before ++ (piece ++ e ∷ [])) [] (after e.0 e.1 (due e.0 v).account)
opened-done s before piece e v now ends = record {
  same = done-same s before piece e v now ∙ ap (serving_after (first_serving s)) (sym (append-nil (before ++ (piece ++ e ∷ []))));
  release = ap (release_of s) (append-nil (before ++ (piece ++ e ∷ [])));
  open_job = open-done s before piece e.0 e.1 (charged e.1 (due e.0 v).account) ends;
}

-- ---- a job that has ended

-- where it is hard, the open job may have been
pub hard-open : (s : SetTask) (before piece : List (ℕ × AttemptOutcome)) (e : ℕ × AttemptOutcome) → is_fresh s (release_of s before) before ≡ true
    → list_all is_calm (piece ++ e ∷ []) ≡ true → length (piece ++ e ∷ []) ≤ its_budget s before → MayBeHard s before piece
hard-open s before piece e fresh calm few =
    record { fresh = fresh; calm = (calm-parts piece e calm).0; few = omega (arith, few, length-append piece (e ∷ [])) }

-- it has ended within a period
pub served-ends : (s : SetTask) (before piece : List (ℕ × AttemptOutcome)) (u : ℕ) (a : Account) → MayBeHard s before piece → IsServed s before piece a → Fits u a
    → u + 1 ≤ (release_of s before).tick + s.period
served-ends s before piece u a hard now fit = omega (arith, hard.few, now.left, now.deadline, fit)
