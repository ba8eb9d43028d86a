-- The way back by one instruction: what is met behind the last tick of a task.
use Rattle.rt_remote.proofs.Common.{◌≡◌, inl, inr, ℕ, ◌+◌, ◌-◌, ◌<◌, ◌≤◌, Bool, true, false, true≢false, cond, Option, Some, None, refl, sym, ap, subst, ◌∙◌, arith, cases_lt, lt-ltb, le-ltb, TaskSet, MachineState, state_at, ahead_of, first_of, Plain, Begin, told, Watched}
use Rattle.std.proofs.Common.{◌⊎◌}
use Rattle.std.specs.Prelude.{nat_lt, min, max}
use Rattle.rt_history.specs.declared.record.Record.{Record}
use Rattle.rt_history.specs.declared.record.Record.TheVariants as records
use Rattle.rt_history.specs.Legal.{record_at}
use Rattle.rt_core.specs.declared.view.Next.{Next}
use Rattle.rt_core.specs.declared.view.Next.TheVariants.{Idle, Run}
use Rattle.rt_core.specs.Next.{next_of}
use Rattle.rt_walk.specs.Jobs.{Stand, stand_at}
use Rattle.rt_walk.specs.Met.{ahead_at, behind_of}
use Rattle.rt_walk.specs.declared.back.Last.{Last}
use Rattle.rt_walk.specs.declared.back.Last.TheVariants.{Met, Unmet, Paused}
use Rattle.rt_walk.specs.LastMet.{back_at, IsLastMet, AreNone, LooksBack}
use Rattle.rt_packet.specs.declared.answer.stops.Stop.TheVariants.{Watch}
use Rattle.rt_remote.specs.declared.stops.one_back.OneBack.{OneBack}
use Rattle.rt_remote.specs.stops.OneBack.{own_tick, IsLastTick, tells_watched, tells_tick, StepsBack}

nothing-at : (m : MachineState) (next : Next) → ahead_at {A = Option Watched} (λ _ _ _. None) m next ≡ None
nothing-at m Idle = refl
nothing-at m (Run task pc) = refl

either : (b : Bool) → ◌≡◌ {A = Option (Option Watched)} (cond b None None) None
either true = refl
either false = refl

nothing-behind : (before : MachineState) (r : Record) (after : Stand) → behind_of {A = Option Watched} (λ _ _ _. None) before r after ≡ None
nothing-behind before records.Idle after = nothing-at after.machine (next_of after.machine)
nothing-behind before (records.Busy attempt) after = refl

alone : (x : Option (Option Watched)) (b : Bool) → first_of x (cond b None None) ≡ x
alone None true = refl
alone None false = refl
alone (Some found) b = refl

module _ (way : OneBack) (begin : Stand) (set : TaskSet) (first now : ℕ) where
  abbrev met : ℕ → Option (Option Watched)
  met u = back_at (λ _ _ _. None) (own_tick way) (λ _ _ _. None) false begin set first now u

  abbrev shape : ℕ → Bool → Option (Option Watched)
  shape m b = cond b (ahead_of (own_tick way) (state_at set (m - 1))) None

  only-left : (m : ℕ) → met m ≡ shape m (nat_lt first m)
  only-left m =
      ap (λ (o : Option (Option Watched)). first_of (cond (nat_lt m now) (ahead_of (λ _ _ _. None) (state_at set m)) None)
      (cond (nat_lt first m) (first_of (ahead_of (own_tick way) (state_at set (m - 1))) (cond (nat_lt m now) o None)) None))
      (nothing-behind (state_at set (m - 1)) (record_at (state_at set (m - 1))) (stand_at begin set m))
      ∙ ap (λ (o : Option (Option Watched)). first_of (cond (nat_lt m now) (ahead_of (λ _ _ _. None) (state_at set m)) None) (cond (nat_lt first m) o None))
      (alone (ahead_of (own_tick way) (state_at set (m - 1))) (nat_lt m now))
      ∙ ap (λ (o : Option (Option Watched)). first_of (cond (nat_lt m now) o None) (shape m (nat_lt first m))) (nothing-at (state_at set m) (next_of (state_at set m)))
      ∙ ap (λ (o : Option (Option Watched)). first_of o (shape m (nat_lt first m))) (either (nat_lt m now))

  later-met : (m : ℕ) → first < m → met m ≡ ahead_of (own_tick way) (state_at set (m - 1))
  later-met m later = only-left m ∙ ap (λ (b : Bool). shape m b) (lt-ltb first m later)

  first-met : (m : ℕ) → m ≤ first → met m ≡ None
  first-met m early = only-left m ∙ ap (λ (b : Bool). shape m b) (le-ltb first m early)

  behind-met : (u : ℕ) → first ≤ u → met (u + 1) ≡ None → ahead_of (own_tick way) (state_at set u) ≡ None
  behind-met u from none =
      let same : u + 1 - 1 ≡ u = omega arith in
      sym (later-met (u + 1) (omega (arith, from)) ∙ ap (λ (k : ℕ). ahead_of (own_tick way) (state_at set k)) same) ∙ none

  is-later : (m : ℕ) (found : Option Watched) → met m ≡ Some found → first < m
  is-later m found is = elim (cases_lt first m) [
    | inl later ↦ later
    | inr early ↦ (let none = first-met m early in absurd (cc (is, none)))
  ]

  pub last-tick : (m : ℕ) (found : Option Watched) → IsLastMet met (min (max 0 first) now) now found m → (first < m) × IsLastTick way set first now (m - 1) found
  last-tick m found last =
      let later = is-later m found last.here in (
        later,
        record {
          from = omega (arith, later);
          before = omega (arith, later, last.within);
          here = sym (later-met m later) ∙ last.here;
          none_after = λ u after before. behind-met u (omega (arith, later, after)) (last.none_after (u + 1) (omega (arith, after, later)) (omega (arith, before)));
        },
      )

  pub no-tick : first ≤ now → AreNone met (min (max 0 first) now) now → (u : ℕ) → first ≤ u → u < now → ahead_of (own_tick way) (state_at set u) ≡ None
  no-tick begun none u from before = behind-met u from (none (u + 1) (omega (arith, from, begun)) (omega (arith, before)))

  -- ---- what is told

  told-some : (passes : Bool) (watched : Option Watched) (w : Watched) → cond passes None watched ≡ Some w → (passes ≡ false) × (watched ≡ Some w)
  told-some true watched w is = absurd cc
  told-some false watched w is = (refl, is)

  pub stays-watched : (last : Last (Option Watched)) (p : Bool) (m now0 : ℕ) (watched : Option Watched) (w : Watched) → last ≡ Met m watched → cond way.passes None watched ≡ Some w → now0 ≡ now
      → LooksBack p met (min (max 0 first) now) now last → (x : Option (ℕ × Option Watched)) × StepsBack way set first now x (told way.task (Watch w)) now0
  stays-watched last p m now0 watched w is told_is stays looks =
      let parts = told-some way.passes watched w told_is in
      let met_is : last ≡ Met m (Some w) = is ∙ ap (λ (o : Option Watched). Met m o) parts.1 in
      let found = last-tick m (Some w) (subst (λ (l : Last (Option Watched)). LooksBack p met (min (max 0 first) now) now l) met_is looks) in
      (Some (m - 1, Some w), (found.1, subst (λ (b : Bool). tells_watched b way now (m - 1) w (told way.task (Watch w)) now0) (sym parts.0) (refl, stays)))

  plain-tells : (t : ℕ) (watched : Option Watched) → cond way.passes None watched ≡ None → tells_tick way now t watched (told way.task Plain) t
  plain-tells t None none = (refl, refl)
  plain-tells t (Some w) none = by-passes way.passes none
    where
      by-passes : (b : Bool) → cond b None (Some w) ≡ None → tells_watched b way now t w (told way.task Plain) t
      by-passes true none = (refl, refl)
      by-passes false none = absurd cc

  pub goes-plain : (last : Last (Option Watched)) (p : Bool) (m m1 at : ℕ) (watched : Option Watched) → last ≡ Met m watched → cond way.passes None watched ≡ None → m1 ≡ m - 1 → at ≡ min (max m1 first) now
      → LooksBack p met (min (max 0 first) now) now last → (x : Option (ℕ × Option Watched)) × StepsBack way set first now x (told way.task Plain) at
  goes-plain last p m m1 at watched is none m1-is at-is looks =
      let found = last-tick m watched (subst (λ (l : Last (Option Watched)). LooksBack p met (min (max 0 first) now) now l) is looks) in
      let from = found.1.from in
      let before = found.1.before in
      let at-last : at ≡ m - 1 = omega (arith, at-is, m1-is, from, before) in
      subst (λ (k : ℕ). (x : Option (ℕ × Option Watched)) × StepsBack way set first now x (told way.task Plain) k) (sym at-last)
      (Some (m - 1, watched), (found.1, plain-tells (m - 1) watched none))

  -- it has no tick, since it can't have paused
  pub stays-begun : (last : Last (Option Watched)) (p : Bool) (now0 : ℕ) → first ≤ now → ((last ≡ Unmet) ⊎ ((m : ℕ) × (last ≡ Paused m))) → p ≡ false → now0 ≡ now
      → LooksBack p met (min (max 0 first) now) now last → (x : Option (ℕ × Option Watched)) × StepsBack way set first now x (told way.task Begin) now0
  stays-begun last p now0 begun (inl is) unpaused stays looks =
      let unmet = subst (λ (l : Last (Option Watched)). LooksBack p met (min (max 0 first) now) now l) is looks in (None, (no-tick begun unmet, refl, stays))
  stays-begun last p now0 begun (inr is) unpaused stays looks =
      let paused = subst (λ (l : Last (Option Watched)). LooksBack p met (min (max 0 first) now) now l) is.1 looks in absurd (true≢false (sym paused.0 ∙ unpaused))
