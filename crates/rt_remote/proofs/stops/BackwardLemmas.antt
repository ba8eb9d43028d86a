-- The way back: what is told where it ends is the last that is.
use Rattle.rt_remote.proofs.Common.{◌≡◌, inl, inr, ℕ, ◌-◌, ◌<◌, ◌≤◌, Bool, true, false, true≢false, cond, eqb, Option, Some, None, refl, sym, ap, subst, ◌∙◌, arith, cases_lt, lt-ltb, le-ltb, TaskSet, MachineState, state_at, ahead_of, first_of, Stop, AtTick, Begin, Interrupted, Told, Backward, told}
use Rattle.std.specs.Prelude.{nat_lt, min, max, not, ◌&&◌}
use Rattle.std.specs.Prelude.{Result, IfOk}
use Rattle.std.specs.Option.{unwrap_or}
use Rattle.rt_walk.specs.Jobs.{Stand, stand_at}
use Rattle.rt_walk.specs.declared.back.WayBack.{WayBack}
use Rattle.rt_walk.specs.Position.{WalkState, stand_of}
use Rattle.rt_walk.specs.Walking.{lowest}
use Rattle.std.proofs.lemmas.Bool.{ltb-true, ltb-false, eq-eqb, ne_eqb, and_left, and_right}
use Rattle.rt_history.specs.Legal.{record_at}
use Rattle.rt_walk.specs.declared.back.Last.{Last}
use Rattle.rt_walk.specs.declared.back.Last.TheVariants.{Met, Unmet, Paused}
use Rattle.rt_walk.specs.LastMet.{back_at, left_at, LooksBack}
use Rattle.rt_remote.specs.stops.Looked.{teller}
use Rattle.rt_remote.specs.stops.Onward.{is_stop, is_interrupted}
use Rattle.rt_remote.specs.stops.Backward.{here_back, left_back, behind_back, general_back, stop_back, GoesBack}
use Rattle.rt_remote.specs.stops.Working.Ended.{is_own}
use Rattle.rt_remote.specs.stops.Working.Left.{low_tick, last_tick, low_stop, left_told}
use Rattle.rt_remote.proofs.stops.OwnLemmas.{Own, back-own, own-goes}

-- ---- the lowest tick

-- the lowest tick of a look back
abbrev pub lowest_of : Option ℕ → ℕ → ℕ → ℕ
lowest_of tick_stop first now = min (max (low_tick tick_stop now) first) now

-- above it is neither the tick stop, unless the way begins there, nor the walk's first tick
apart : (stop first now u : ℕ) (b : Bool) → nat_lt stop now ≡ b → min (max (cond b stop 0) first) now < u → u < now → stop ≡ u → ⊥
apart stop first now u true is later early same = omega (arith, later, early, same)
apart stop first now u false is later early same = let late = ltb-false stop now is in omega (arith, late, early, same)

no-stop-some : (stop first now u : ℕ) (b : Bool) → nat_lt stop now ≡ b → min (max (cond b stop 0) first) now < u → (nat_lt u now && eqb stop u) ≡ false
no-stop-some stop first now u b is later = elim (cases_lt u now) [
  | inr late ↦ and_left (nat_lt u now) (eqb stop u) (le-ltb u now late)
  | inl early ↦ and_right (nat_lt u now) (eqb stop u) (ne_eqb stop u (apart stop first now u b is later early))
]

no-stop : (tick_stop : Option ℕ) (first now u : ℕ) → lowest_of tick_stop first now < u → (nat_lt u now && is_stop tick_stop u) ≡ false
no-stop None first now u later = and_right (nat_lt u now) false refl
no-stop (Some stop) first now u later = no-stop-some stop first now u (nat_lt stop now) refl later

no-first : (low first now u : ℕ) → first ≤ now → min (max low first) now < u → eqb u first ≡ false
no-first low first now u begun later = ne_eqb u first (λ same. omega (arith, begun, later, same))

-- at it is the tick stop, or the walk's first tick
at-low-some : (stop first now : ℕ) (b : Bool) → nat_lt stop now ≡ b → first ≤ now
    → (nat_lt (min (max (cond b stop 0) first) now) now && eqb stop (min (max (cond b stop 0) first) now)) ≡ false → min (max (cond b stop 0) first) now ≡ first
at-low-some stop first now false is begun none = omega (arith, begun)
at-low-some stop first now true is begun none = let early = ltb-true stop now is in elim (cases_lt stop first) [
  | inl before ↦ omega (arith, begun, early, before)
  | inr from ↦ (
      let same : stop ≡ min (max stop first) now = omega (arith, early, from) in
      let within : min (max stop first) now < now = omega (arith, early, from) in
      absurd (true≢false (sym (both (nat_lt (min (max stop first) now) now) (eqb stop (min (max stop first) now)) (lt-ltb (min (max stop first) now) now within) (eq-eqb stop (min (max stop first) now) same)) ∙ none))
      )
]
  where
    both : (a b : Bool) → a ≡ true → b ≡ true → (a && b) ≡ true
    both a b x y = ap (λ (z : Bool). z && b) x ∙ y

at-low : (tick_stop : Option ℕ) (first now : ℕ) → first ≤ now → (nat_lt (lowest_of tick_stop first now) now && is_stop tick_stop (lowest_of tick_stop first now)) ≡ false → lowest_of tick_stop first now ≡ first
at-low None first now begun none = omega (arith, begun)
at-low (Some stop) first now begun none = at-low-some stop first now (nat_lt stop now) refl begun none

-- ---- one tick

assoc : (x y z : Option Told) → first_of x (first_of y z) ≡ first_of (first_of x y) z
assoc None y z = refl
assoc (Some a) y z = refl

none-here : (met : Option Told) (z w : Bool) (general : Stop → Told) → met ≡ None → z ≡ false → w ≡ false → first_of met (first_of (cond z (Some (general AtTick)) None) (cond w (Some (general Begin)) None)) ≡ None
none-here met z w general none stop begin =
    ap (λ (o : Option Told). first_of o (first_of (cond z (Some (general AtTick)) None) (cond w (Some (general Begin)) None))) none
    ∙ ap (λ (b : Bool). first_of (cond b (Some (general AtTick)) None) (cond w (Some (general Begin)) None)) stop
    ∙ ap (λ (b : Bool). cond b (Some (general Begin)) None) begin

low-here : (met : Option Told) (z w : Bool) (general : Stop → Told) (paused : Told) → met ≡ None → (z ≡ false → w ≡ true)
    → general (cond z AtTick Begin) ≡ unwrap_or (first_of met (first_of (cond z (Some (general AtTick)) None) (cond w (Some (general Begin)) None))) paused
low-here met true w general paused none begin = ap (λ (o : Option Told). unwrap_or (first_of o (Some (general AtTick))) paused) (sym none)
low-here met false w general paused none begin =
    ap (λ (b : Bool). unwrap_or (cond b (Some (general Begin)) None) paused) (sym (begin refl))
    ∙ ap (λ (o : Option Told). unwrap_or (first_of o (cond w (Some (general Begin)) None)) paused) (sym none)

-- ---- the whole way

module _ (way : Backward) (begin : Stand) (set : TaskSet) (first now : ℕ) where
  abbrev met : ℕ → Option Told
  met u = back_at (here_back way) (left_back way) (behind_back way) way.passes begin set first now u

  abbrev low : ℕ
  low = lowest_of way.tick_stop first now

  parted : (m : ℕ)
      → stop_back way begin set first now m
      ≡ first_of (met m) (first_of (cond (nat_lt m now && is_stop way.tick_stop m) (Some (general_back way set m AtTick)) None) (cond (eqb m first) (Some (general_back way set m Begin)) None))
  parted m =
      assoc (cond (nat_lt m now) (ahead_of (here_back way) (state_at set m)) None)
      (cond (nat_lt first m) (left_at (left_back way) (behind_back way) way.passes begin set now m) None)
      (first_of (cond (nat_lt m now && is_stop way.tick_stop m) (Some (general_back way set m AtTick)) None) (cond (eqb m first) (Some (general_back way set m Begin)) None))

  none-above : (u : ℕ) → first ≤ now → low < u → met u ≡ None → stop_back way begin set first now u ≡ None
  none-above u begun after none =
      parted u
      ∙ none-here (met u) (nat_lt u now && is_stop way.tick_stop u) (eqb u first) (general_back way set u) none (no-stop way.tick_stop first now u after) (no-first (low_tick way.tick_stop now) first now u begun after)

  owned : (met : Option Told) (found : Told) → Own met → met ≡ Some found → is_own found.stop ≡ true
  owned None found own is = absurd cc
  owned (Some a) found own is = let e : found ≡ a = cc in ap (λ (f : Told). is_own f.stop) e ∙ own

  own-met : (m : ℕ) → Own (met m)
  own-met m = back-own way (stand_at begin set m) (state_at set (m - 1)) (record_at (state_at set (m - 1))) (nat_lt m now) (nat_lt first m) (not (way.passes && (eqb m now))) (nat_lt m now)

  pub goes-back : (new : MachineState) (last : Last Told) (p : Bool) → first ≤ now → new ≡ state_at set new.tick → new.tick ≡ min (max (last_tick (low_tick way.tick_stop now) last) first) now
      → LooksBack p met low now last → GoesBack way begin set first now (left_told way now new last) new.tick
  goes-back new (Met t found) p begun stands at looks =
      let m = new.tick in
      let is : m ≡ t = omega (arith, at, looks.from, looks.within, begun) in
      let met_is : met m ≡ Some found = ap met is ∙ looks.here in
      let own = owned (met m) found (own-met m) met_is in
      record {
        from = omega (arith, at, begun);
        within = omega (arith, at);
        here = ap (λ (b : Bool). cond b found (told (teller way.actions.now way.shown new) (low_stop way.tick_stop now m))) own
            ∙ sym (ap (λ (o : Option Told). unwrap_or o (general_back way set m Interrupted)) (parted m ∙ ap (λ (o : Option Told). first_of o (first_of (cond (nat_lt m now && is_stop way.tick_stop m) (Some (general_back way set m AtTick)) None) (cond (eqb m first) (Some (general_back way set m Begin)) None))) met_is));
        none_after = λ u after within. none-above u begun (omega (arith, is, after, looks.from)) (looks.none_after u (omega (arith, is, after)) within);
        moved = λ interrupted. absurd (true≢false (sym interrupted ∙ ap (λ (b : Bool). is_interrupted (cond b found (told (teller way.actions.now way.shown new) (low_stop way.tick_stop now m))).stop) own ∙ own-goes found.stop own));
      }
  goes-back new Unmet p begun stands at looks =
      let m = new.tick in
      let is : m ≡ low = at in
      record {
        from = omega (arith, at, begun);
        within = omega (arith, at);
        here = ap (λ (at : MachineState). told (teller way.actions.now way.shown at) (low_stop way.tick_stop now m)) stands
            ∙ low-here (met m) (nat_lt m now && is_stop way.tick_stop m) (eqb m first) (general_back way set m) (general_back way set m Interrupted) (looks m (omega (arith, is)) (omega (arith, is)))
            (λ none. ap (λ (k : ℕ). eqb k first) is ∙ eq-eqb low first (at-low way.tick_stop first now begun (ap (λ (k : ℕ). nat_lt k now && is_stop way.tick_stop k) (sym is) ∙ none)))
            ∙ sym (ap (λ (o : Option Told). unwrap_or o (general_back way set m Interrupted)) (parted m));
        none_after = λ u after within. none-above u begun (omega (arith, is, after)) (looks u (omega (arith, is, after)) within);
        moved = λ interrupted. absurd (true≢false (sym interrupted ∙ low-goes (nat_lt m now && is_stop way.tick_stop m)));
      }
    where
      low-goes : (b : Bool) → is_interrupted (cond b AtTick Begin) ≡ false
      low-goes true = refl
      low-goes false = refl
  goes-back new (Paused t) p begun stands at looks =
      let m = new.tick in
      let after : low < t = looks.1 in
      let before : t < now = looks.2 in
      let is : m ≡ t = omega (arith, at, after, before, begun) in
      record {
        from = omega (arith, at, begun);
        within = omega (arith, at);
        here = ap (λ (at : MachineState). told (teller way.actions.now way.shown at) Interrupted) stands
            ∙ sym (ap (λ (o : Option Told). unwrap_or o (general_back way set m Interrupted)) (none-above m begun (omega (arith, is, after)) (looks.3 m (omega (arith, is)) (omega (arith, at)))));
        none_after = λ u later within. none-above u begun (omega (arith, is, after, later)) (looks.3 u (omega (arith, is, later)) within);
        moved = λ _. omega (arith, is, before);
      }

  -- the same, by what calls answered
  pub goes-back-by : (halt : Backward) (now0 low0 at : ℕ) (new : MachineState) (last : Last Told) (p : Bool) (found : Told) → first ≤ now → halt ≡ way → now0 ≡ now → low0 ≡ low_tick way.tick_stop now0
      → at ≡ last_tick low0 last → new ≡ state_at set new.tick → new.tick ≡ min (max at first) now → found ≡ left_told way now0 new last
      → LooksBack p (back_at (here_back halt) (left_back halt) (behind_back halt) way.passes begin set first now) (min (max low0 first) now) now last → GoesBack way begin set first now found new.tick
  goes-back-by halt now0 low0 at new last p found begun halt-is now-is low-is at-is stands new-is found-is looks =
      let lowest-is : low0 ≡ low_tick way.tick_stop now = low-is ∙ ap (λ (n : ℕ). low_tick way.tick_stop n) now-is in
      let of-way = subst (λ (h : Backward). LooksBack p (back_at (here_back h) (left_back h) (behind_back h) way.passes begin set first now) (min (max low0 first) now) now last) halt-is looks in
      let of-low = subst (λ (n : ℕ). LooksBack p met (min (max n first) now) now last) lowest-is of-way in
      let at-low : at ≡ last_tick (low_tick way.tick_stop now) last = at-is ∙ ap (λ (n : ℕ). last_tick n last) lowest-is in
      subst (λ (f : Told). GoesBack way begin set first now f new.tick) (sym (found-is ∙ ap (λ (n : ℕ). left_told way n new last) now-is))
      (goes-back new last p begun stands (new-is ∙ ap (λ (n : ℕ). min (max n first) now) at-low) of-low)

-- what a look back finds of the same way
abbrev pub Finds : {E : Type 0} → Backward → Bool → WayBack → WalkState → Result (Last Told) E → Type 0
Finds way p back walk result =
    IfOk result (λ last. (set : TaskSet) → walk.first.machine ≡ state_at set walk.first.machine.tick
    → LooksBack p (back_at (here_back way) (left_back way) (behind_back way) back.passes (stand_of walk.first) set walk.first.machine.tick walk.shown.machine.tick) (lowest back.low walk) walk.shown.machine.tick last)

pub finds-of : {E : Type 0} (halt way : Backward) (p : Bool) (back : WayBack) (walk : WalkState) (result : Result (Last Told) E) → halt ≡ way → Finds halt p back walk result → Finds way p back walk result
finds-of halt way p back walk result is finds = subst (λ (w : Backward). Finds w p back walk result) is finds
