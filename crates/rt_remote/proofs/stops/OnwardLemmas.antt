-- The way on: what is told where it ends is the first that is.
use Rattle.rt_remote.proofs.Common.{◌≡◌, inl, inr, ℕ, ◌-◌, ◌<◌, ◌≤◌, Bool, true, false, true≢false, cond, eqb, Option, Some, None, refl, sym, ap, subst, ◌∙◌, arith, cases_lt, lt-ltb, le-ltb, TaskSet, MachineState, state_at, ahead_of, first_of, Stop, AtTick, Interrupted, Plain, Told, told, Onward}
use Rattle.std.specs.Prelude.{nat_lt, min, not, ◌&&◌}
use Rattle.std.specs.Prelude.{slice_get}
use Rattle.std.specs.Option.{unwrap_or, option_map_or}
use Rattle.std.proofs.lemmas.Bool.{cases_eq, ltb-true, ltb-false, eq-eqb, ne_eqb, eqb-false}
use Rattle.rt_words.specs.Limits.{tick_limit}
use Rattle.rt_history.specs.Legal.{record_at}
use Rattle.rt_history.specs.OwnPart.{TaskState}
use Rattle.rt_history.specs.declared.mode.Mode.{Mode}
use Rattle.rt_history.specs.declared.mode.Mode.TheVariants.{Active, Asleep, Ended, Faulted}
use Rattle.rt_walk.specs.Jobs.{Stand, stand_at}
use Rattle.rt_walk.specs.declared.halt.Sought.{Sought}
use Rattle.rt_walk.specs.declared.halt.Sought.TheVariants.{Met, Unmet, Paused}
use Rattle.rt_walk.specs.Met.{behind_at, met_at}
use Rattle.rt_walk.specs.FirstMet.{SeeksOrPauses}
use Rattle.rt_packet.specs.declared.answer.stops.Stop.TheVariants.{End}
use Rattle.rt_remote.specs.stops.Ahead.{behind_on}
use Rattle.rt_remote.specs.stops.Looked.{are_over, steps_are_over, step_teller, standing, task_stop, is_at_end, stop_of}
use Rattle.rt_remote.specs.stops.Onward.{is_stop, met_on, over_told, general_on, stop_on, is_interrupted, IsOn, GoesOn}
use Rattle.rt_remote.specs.stops.Working.Ended.{general_at, start_told, end_tick, is_ahead, is_own, tells, end_stop, end_told}
use Rattle.rt_remote.proofs.stops.OwnLemmas.{Behind, Ahead, behind-own, ahead-own, own-goes}

-- ---- one tick

-- what is told at a tick after the start, by what is met behind and ahead
abbrev pub form : Option Told → Bool → Option Told → Bool → (Stop → Told) → Option Told
form behind at_stop ahead at_end general = first_of behind (first_of (cond at_stop (Some (general AtTick)) None) (first_of ahead (cond at_end (Some (general End)) None)))

tells-behind : (b : Bool) (stop : Stop) → is_own stop ≡ true → is_ahead stop ≡ false → tells b stop ≡ true
tells-behind true stop own ahead = ap (λ (o : Bool). o && not (is_ahead stop)) own ∙ ap (λ (a : Bool). not a) ahead
tells-behind false stop own ahead = ap (λ (o : Bool). o && true) own

tells-ahead : (b : Bool) (stop : Stop) → is_own stop ≡ true → is_ahead stop ≡ true → tells b stop ≡ not b
tells-ahead true stop own ahead = ap (λ (o : Bool). o && not (is_ahead stop)) own ∙ ap (λ (a : Bool). not a) ahead
tells-ahead false stop own ahead = ap (λ (o : Bool). o && true) own

-- what is met there
met-here : (behind : Option Told) (at_stop : Bool) (ahead : Option Told) (at_end : Bool) (general : Stop → Told) (found paused : Told) → Behind behind → Ahead ahead
    → first_of behind ahead ≡ Some found → cond (tells at_stop found.stop) found (general (end_stop at_stop)) ≡ unwrap_or (form behind at_stop ahead at_end general) paused
met-here (Some b) at_stop ahead at_end general found paused own own_ahead is =
    let e : found ≡ b = cc in
    ap (λ (f : Told). cond (tells at_stop f.stop) f (general (end_stop at_stop))) e ∙ ap (λ (t : Bool). cond t b (general (end_stop at_stop))) (tells-behind at_stop b.stop own.0 own.1)
met-here None true (Some a) at_end general found paused own own_ahead is =
    let e : found ≡ a = cc in
    ap (λ (f : Told). cond (tells true f.stop) f (general AtTick)) e ∙ ap (λ (t : Bool). cond t a (general AtTick)) (tells-ahead true a.stop own_ahead.0 own_ahead.1)
met-here None false (Some a) at_end general found paused own own_ahead is =
    let e : found ≡ a = cc in
    ap (λ (f : Told). cond (tells false f.stop) f (general End)) e ∙ ap (λ (t : Bool). cond t a (general End)) (tells-ahead false a.stop own_ahead.0 own_ahead.1)
met-here None at_stop None at_end general found paused own own_ahead is = absurd cc

-- nothing is met, and it is the last tick
end-here : (behind : Option Told) (at_stop : Bool) (ahead : Option Told) (at_end : Bool) (general : Stop → Told) (paused : Told)
    → first_of behind ahead ≡ None → (at_stop ≡ false → at_end ≡ true) → general (end_stop at_stop) ≡ unwrap_or (form behind at_stop ahead at_end general) paused
end-here (Some b) at_stop ahead at_end general paused none end = absurd cc
end-here None true None at_end general paused none end = refl
end-here None false None at_end general paused none end = ap (λ (e : Bool). unwrap_or (cond e (Some (general End)) None) paused) (sym (end refl))
end-here None at_stop (Some a) at_end general paused none end = absurd cc

-- nothing is met, and it is not
none-here : (behind : Option Told) (at_stop : Bool) (ahead : Option Told) (at_end : Bool) (general : Stop → Told)
    → first_of behind ahead ≡ None → at_stop ≡ false → at_end ≡ false → form behind at_stop ahead at_end general ≡ None
none-here (Some b) at_stop ahead at_end general none stop end = absurd cc
none-here None at_stop (Some a) at_end general none stop end = absurd cc
none-here None at_stop None at_end general none stop end =
    ap (λ (b : Bool). first_of (cond b (Some (general AtTick)) None) (cond at_end (Some (general End)) None)) stop ∙ ap (λ (b : Bool). cond b (Some (general End)) None) end

-- ---- the last tick

between-some : (stop start u : ℕ) (b : Bool) → nat_lt start stop ≡ b → start < u → u < cond b (min stop tick_limit) tick_limit → (eqb stop u ≡ false) × (eqb u tick_limit ≡ false)
between-some stop start u true is later before = (
  ne_eqb stop u (λ same. omega (arith, same, before)),
  ne_eqb u tick_limit (λ same. omega (arith, same, before)),
)
between-some stop start u false is later before = (
  (let low = ltb-false start stop is in ne_eqb stop u (λ same. omega (arith, same, later, low))),
  ne_eqb u tick_limit (λ same. omega (arith, same, before)),
)

between : (tick_stop : Option ℕ) (start u : ℕ) → start < u → u < end_tick tick_stop start → (is_stop tick_stop u ≡ false) × (eqb u tick_limit ≡ false)
between None start u later before = (refl, ne_eqb u tick_limit (λ same. omega (arith, same, before)))
between (Some stop) start u later before = between-some stop start u (nat_lt start stop) refl later before

end-some : (stop : ℕ) (b : Bool) → eqb stop (cond b (min stop tick_limit) tick_limit) ≡ false → eqb (cond b (min stop tick_limit) tick_limit) tick_limit ≡ true
end-some stop true apart = let other = eqb-false stop (min stop tick_limit) apart in eq-eqb (min stop tick_limit) tick_limit (elim (cases_lt stop tick_limit) [
  | inl early ↦ absurd (other (omega (arith, early)))
  | inr late ↦ omega (arith, late)
])
end-some stop false apart = eq-eqb tick_limit tick_limit refl

end-is : (tick_stop : Option ℕ) (start : ℕ) → is_stop tick_stop (end_tick tick_stop start) ≡ false → eqb (end_tick tick_stop start) tick_limit ≡ true
end-is None start apart = eq-eqb tick_limit tick_limit refl
end-is (Some stop) start apart = end-some stop (nat_lt start stop) apart

bounds-some : (stop start : ℕ) (b : Bool) → nat_lt start stop ≡ b → start < tick_limit → (start < cond b (min stop tick_limit) tick_limit) × (cond b (min stop tick_limit) tick_limit ≤ tick_limit)
bounds-some stop start true is early = let low = ltb-true start stop is in (omega (arith, low, early), omega arith)
bounds-some stop start false is early = (early, omega arith)

pub end-bounds : (tick_stop : Option ℕ) (start : ℕ) → start < tick_limit → (start < end_tick tick_stop start) × (end_tick tick_stop start ≤ tick_limit)
end-bounds None start early = (early, omega arith)
end-bounds (Some stop) start early = bounds-some stop start (nat_lt start stop) refl early

-- ---- it isn't interrupted where it begins

stop-goes : (mode : Mode) → is_interrupted (stop_of mode) ≡ false
stop-goes Active = refl
stop-goes (Asleep t) = refl
stop-goes Ended = refl
stop-goes (Faulted fault) = refl

task-goes : (task : Option TaskState) → is_interrupted (option_map_or (λ s. stop_of s.serving.mode) task Plain) ≡ false
task-goes None = refl
task-goes (Some s) = stop-goes s.serving.mode

end-goes : (at_end : Bool) (stop : Stop) → is_interrupted stop ≡ false → is_interrupted (cond at_end End stop) ≡ false
end-goes true stop goes = refl
end-goes false stop goes = goes

over-goes : (steps over : Bool) (x y found : Told) → is_interrupted x.stop ≡ false → is_interrupted y.stop ≡ false → cond steps (Some x) (cond over (Some y) None) ≡ Some found → is_interrupted found.stop ≡ false
over-goes true over x y found goes other is = let e : x ≡ found = cc in ap (λ (f : Told). is_interrupted f.stop) (sym e) ∙ goes
over-goes false true x y found goes other is = let e : y ≡ found = cc in ap (λ (f : Told). is_interrupted f.stop) (sym e) ∙ other
over-goes false false x y found goes other is = absurd cc

either-goes : (over y : Option Told) (found : Told) → (over ≡ Some found → is_interrupted found.stop ≡ false) → (y ≡ Some found → is_interrupted found.stop ≡ false)
    → first_of over y ≡ Some found → is_interrupted found.stop ≡ false
either-goes (Some x) y found goes other is = goes is
either-goes None y found goes other is = other is

over-told-goes : (way : Onward) (old : MachineState) (found : Told) → over_told way old ≡ Some found → is_interrupted found.stop ≡ false
unfolding over_told
over-told-goes way old found is =
    let i = step_teller way.actions.now way.shown in
    over-goes (steps_are_over way.actions.now old) (are_over way.actions.now old) (told i (standing old i)) (general_at way old End) found
    (end-goes (is_at_end old) (task_stop old i) (task-goes (slice_get old.tasks i))) refl is

module _ (way : Onward) where
  met-goes : (ahead : Option Told) (at_end : Bool) (general found : Told) → Ahead ahead → is_interrupted general.stop ≡ false → first_of ahead (cond at_end (Some general) None) ≡ Some found
      → is_interrupted found.stop ≡ false
  met-goes (Some a) at_end general found own goes is = let e : a ≡ found = cc in ap (λ (f : Told). is_interrupted f.stop) (sym e) ∙ own-goes a.stop own.0
  met-goes None true general found own goes is = let e : general ≡ found = cc in ap (λ (f : Told). is_interrupted f.stop) (sym e) ∙ goes
  met-goes None false general found own goes is = absurd cc

  -- it isn't interrupted where it begins
  pub start-goes : (old : MachineState) (found : Told) → start_told way old ≡ Some found → is_interrupted found.stop ≡ false
  start-goes old found is =
      either-goes (over_told way old) _ found (over-told-goes way old found)
      (met-goes (ahead_of (met_on way true) old) (eqb old.tick tick_limit) (general_at way old End) found (ahead-own way true old) refl) is

-- ---- the whole way

module _ (way : Onward) (begin : Stand) (set : TaskSet) where
  abbrev met : ℕ → Option Told
  met u = met_at (behind_on way.actions.now way.events.now) (met_on way false) begin set u

  abbrev shape : ℕ → Bool → Bool → Option Told
  shape m later is_start =
      first_of (cond later (behind_at (behind_on way.actions.now way.events.now) begin set m) None)
      (first_of (cond (later && is_stop way.tick_stop m) (Some (general_on way set m AtTick)) None)
      (first_of (ahead_of (met_on way is_start) (state_at set m))
      (cond (eqb m tick_limit) (Some (general_on way set m End)) None)))

  after-start : (start m : ℕ) → start < m
      → stop_on way begin set start m ≡ form (behind_at (behind_on way.actions.now way.events.now) begin set m) (is_stop way.tick_stop m) (ahead_of (met_on way false) (state_at set m)) (eqb m tick_limit) (general_on way set m)
  after-start start m later =
      ap (λ (b : Bool). shape m b (eqb m start)) (lt-ltb start m later) ∙ ap (λ (b : Bool). shape m true b) (ne_eqb m start (λ same. omega (arith, same, later)))

  at-start : (start : ℕ) → stop_on way begin set start start ≡ first_of (ahead_of (met_on way true) (state_at set start)) (cond (eqb start tick_limit) (Some (general_on way set start End)) None)
  at-start start = ap (λ (b : Bool). shape start b (eqb start start)) (le-ltb start start (omega arith)) ∙ ap (λ (b : Bool). shape start false b) (eq-eqb start start refl)

  none-between : (start u : ℕ) → start < u → u < end_tick way.tick_stop start → met u ≡ None → stop_on way begin set start u ≡ None
  none-between start u later before none =
      let here = between way.tick_stop start u later before in
      after-start start u later
      ∙ none-here (behind_at (behind_on way.actions.now way.events.now) begin set u) (is_stop way.tick_stop u) (ahead_of (met_on way false) (state_at set u)) (eqb u tick_limit) (general_on way set u) none here.0 here.1

  none-before-all : (start m : ℕ) → start < m → m ≤ end_tick way.tick_stop start → stop_on way begin set start start ≡ None → ((u : ℕ) → start < u → u < m → met u ≡ None)
      → (u : ℕ) → start ≤ u → u < m → stop_on way begin set start u ≡ None
  none-before-all start m later within first none u from before = elim (cases_eq start u) [
    | inl same ↦ ap (λ (k : ℕ). stop_on way begin set start k) (sym same) ∙ first
    | inr apart ↦ (let after : start < u = omega (arith, from, apart) in none-between start u after (omega (arith, before, within)) (none u after before))
  ]

  comes-on : (start : ℕ) (new : MachineState) (sought : Sought Told) (p : Bool) → new ≡ state_at set new.tick → start < tick_limit → stop_on way begin set start start ≡ None
      → SeeksOrPauses p met start (end_tick way.tick_stop start - start) sought new.tick → IsOn way begin set start (end_told way new sought) new.tick
  comes-on start new (Met found) p stands early first seeks =
      let bounds = end-bounds way.tick_stop start early in
      let m = new.tick in
      let at_stop = is_stop way.tick_stop m in
      let later : start < m = seeks.later in
      let within : m ≤ end_tick way.tick_stop start = omega (arith, seeks.within, bounds.0) in
      record {
        from = omega (arith, later);
        here = ap (λ (at : MachineState). cond (tells at_stop found.stop) found (general_at way at (end_stop at_stop))) stands
            ∙ met-here (behind_at (behind_on way.actions.now way.events.now) begin set m) at_stop (ahead_of (met_on way false) (state_at set m)) (eqb m tick_limit) (general_on way set m) found (general_on way set m Interrupted)
            (behind-own way.actions.now way.events.now (state_at set (m - 1)) (record_at (state_at set (m - 1))) (stand_at begin set m)) (ahead-own way false (state_at set m)) seeks.here
            ∙ sym (ap (λ (o : Option Told). unwrap_or o (general_on way set m Interrupted)) (after-start start m later));
        none_before = none-before-all start m later within first seeks.none_before;
        moved = λ _. later;
      }
  comes-on start new Unmet p stands early first seeks =
      let bounds = end-bounds way.tick_stop start early in
      let m = new.tick in
      let end : m ≡ end_tick way.tick_stop start = omega (arith, seeks.end, bounds.0, bounds.1) in
      let later : start < m = omega (arith, end, bounds.0) in
      let within : m ≤ end_tick way.tick_stop start = omega (arith, end) in
      record {
        from = omega (arith, later);
        here = ap (λ (at : MachineState). general_at way at (end_stop (is_stop way.tick_stop m))) stands
            ∙ end-here (behind_at (behind_on way.actions.now way.events.now) begin set m) (is_stop way.tick_stop m) (ahead_of (met_on way false) (state_at set m)) (eqb m tick_limit) (general_on way set m) (general_on way set m Interrupted)
            (seeks.none m later (omega arith)) (λ apart. ap (λ (k : ℕ). eqb k tick_limit) end ∙ end-is way.tick_stop start (ap (λ (k : ℕ). is_stop way.tick_stop k) (sym end) ∙ apart))
            ∙ sym (ap (λ (o : Option Told). unwrap_or o (general_on way set m Interrupted)) (after-start start m later));
        none_before = none-before-all start m later within first (λ u after before. seeks.none u after (omega (arith, before)));
        moved = λ _. later;
      }
  comes-on start new Paused p stands early first seeks =
      let bounds = end-bounds way.tick_stop start early in
      let m = new.tick in
      let later : start < m = seeks.1.later in
      let before : m < end_tick way.tick_stop start = omega (arith, seeks.1.before, bounds.0, bounds.1) in
      record {
        from = omega (arith, later);
        here = ap (λ (at : MachineState). general_at way at Interrupted) stands
            ∙ sym (ap (λ (o : Option Told). unwrap_or o (general_on way set m Interrupted)) (none-between start m later before (seeks.1.none m later (omega arith))));
        none_before = none-before-all start m later (omega (arith, before)) first (λ u after before. seeks.1.none u after (omega (arith, before)));
        moved = λ _. later;
      }

  -- ---- where it begins

  start-none : (over y : Option Told) → first_of over y ≡ None → (over ≡ None) × (y ≡ None)
  start-none (Some x) y none = absurd cc
  start-none None y none = (refl, none)

  end-none : (ahead : Option Told) (at_end : Bool) (x : Told) → first_of ahead (cond at_end (Some x) None) ≡ None → at_end ≡ false
  end-none (Some a) at_end x none = absurd cc
  end-none None true x none = absurd cc
  end-none None false x none = refl

  -- the start, by the machine that stands there
  at-machine : (old : MachineState) → old ≡ state_at set old.tick
      → stop_on way begin set old.tick old.tick ≡ first_of (ahead_of (met_on way true) old) (cond (eqb old.tick tick_limit) (Some (general_at way old End)) None)
  at-machine old stands =
      at-start old.tick
      ∙ ap (λ (at : MachineState). first_of (ahead_of (met_on way true) at) (cond (eqb old.tick tick_limit) (Some (general_at way at End)) None)) (sym stands)

  pub goes-on : (old new : MachineState) (sought : Sought Told) (p : Bool) → old ≡ state_at set old.tick → new ≡ state_at set new.tick → old.tick ≤ tick_limit → start_told way old ≡ None
      → SeeksOrPauses p met old.tick (end_tick way.tick_stop old.tick - old.tick) sought new.tick → GoesOn way begin set old.tick (end_told way new sought) new.tick
  goes-on old new sought p begins stands limit none seeks =
      let parts = start-none (over_told way old) _ none in
      let apart = eqb-false old.tick tick_limit (end-none (ahead_of (met_on way true) old) (eqb old.tick tick_limit) (general_at way old End) parts.1) in
      let early : old.tick < tick_limit = omega (arith, limit, apart) in
      record {
        over = λ stands over. absurd (let no : Some stands ≡ None = sym over ∙ ap (λ (at : MachineState). over_told way at) (sym begins) ∙ parts.0 in cc);
        on = λ _. comes-on old.tick new sought p stands early (at-machine old begins ∙ parts.1) seeks;
      }

  start-over : (over y : Option Told) (found stands : Told) → first_of over y ≡ Some found → over ≡ Some stands → found ≡ stands
  start-over (Some x) y found stands is over = cc
  start-over None y found stands is over = absurd cc

  start-met : (over y : Option Told) (found : Told) → first_of over y ≡ Some found → over ≡ None → y ≡ Some found
  start-met (Some x) y found is over = absurd cc
  start-met None y found is over = is

  pub stays : (old : MachineState) (found : Told) → old ≡ state_at set old.tick → start_told way old ≡ Some found → GoesOn way begin set old.tick found old.tick
  stays old found begins is = record {
    over = λ stands over. (start-over (over_told way old) _ found stands is (ap (λ (at : MachineState). over_told way at) begins ∙ over), refl);
    on = λ on.
        let met_is = start-met (over_told way old) _ found is (ap (λ (at : MachineState). over_told way at) begins ∙ on) in
        record {
          from = omega arith;
          here = sym (ap (λ (o : Option Told). unwrap_or o (general_on way set old.tick Interrupted)) (at-machine old begins ∙ met_is));
          none_before = λ u from before. absurd (omega (arith, from, before));
          moved = λ interrupted. absurd (true≢false (sym interrupted ∙ start-goes way old found is));
        };
  }

  -- the same of a way that goes on, by what calls answered
  pub goes-on-by : (old new : MachineState) (sought : Sought Told) (p : Bool) (halt : Onward) (start last : ℕ) (found : Told) → old ≡ state_at set old.tick → new ≡ state_at set new.tick → old.tick ≤ tick_limit
      → start_told way old ≡ None → halt ≡ way → start ≡ old.tick → last ≡ end_tick way.tick_stop start → found ≡ end_told way new sought
      → SeeksOrPauses p (met_at (behind_on halt.actions.now halt.events.now) (met_on halt false) begin set) old.tick (last - start) sought new.tick → GoesOn way begin set old.tick found new.tick
  goes-on-by old new sought p halt start last found begins stands limit none halt-is start-is last-is found-is seeks =
      let of-way = subst (λ (h : Onward). SeeksOrPauses p (met_at (behind_on h.actions.now h.events.now) (met_on h false) begin set) old.tick (last - start) sought new.tick) halt-is seeks in
      let most-is : last - start ≡ end_tick way.tick_stop old.tick - old.tick = ap (λ (n : ℕ). n - start) last-is ∙ ap (λ (n : ℕ). end_tick way.tick_stop n - n) start-is in
      let of-most = subst (λ (n : ℕ). SeeksOrPauses p met old.tick n sought new.tick) most-is of-way in
      subst (λ (f : Told). GoesOn way begin set old.tick f new.tick) (sym found-is) (goes-on old new sought p begins stands limit none of-most)

-- a search that looks for what is met on the same way
pub seeks-of : (halt way : Onward) (begin : Stand) (set : TaskSet) (p : Bool) (t n m : ℕ) (sought : Sought Told) → halt ≡ way → SeeksOrPauses p (met_at (behind_on halt.actions.now halt.events.now) (met_on halt false) begin set) t n sought m
    → SeeksOrPauses p (met_at (behind_on way.actions.now way.events.now) (met_on way false) begin set) t n sought m
seeks-of halt way begin set p t n m sought is seeks = subst (λ (h : Onward). SeeksOrPauses p (met_at (behind_on h.actions.now h.events.now) (met_on h false) begin set) t n sought m) is seeks
