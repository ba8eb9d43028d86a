-- Where no stop may be met, none is.
use Rattle.std.proofs.Common.{◌≡◌, inl, inr, ℕ, ◌+◌, ◌-◌, ◌<◌, ◌≤◌, Bool, true, false, true≢false, cond, List, Option, Some, None, refl, sym, ap, ◌∙◌, arith}
use Rattle.std.specs.Option.{is_some, option_map}
use Rattle.std.proofs.lemmas.Bool.{cases_lt}
use Rattle.rt_words.specs.Limits.{tick_limit}
use Rattle.rt_image.specs.SystemFile.{TaskSet}
use Rattle.rt_history.specs.declared.record.Record.{Record}
use Rattle.rt_history.specs.declared.record.Record.TheVariants as records
use Rattle.rt_history.specs.MachineState.{MachineState}
use Rattle.rt_history.specs.Legal.{record_at, state_at}
use Rattle.rt_core.specs.declared.view.Next.{Next}
use Rattle.rt_core.specs.declared.view.Next.TheVariants as nexts
use Rattle.rt_core.specs.Next.{next_of}
use Rattle.rt_walk.specs.declared.halt.Sought.{Sought}
use Rattle.rt_walk.specs.declared.halt.Sought.TheVariants.{Met, Unmet, Paused}
use Rattle.rt_walk.specs.FirstMet.{Seeks, SeeksOrPauses, Moves, is_unmet}
use Rattle.rt_walk.specs.Met.{behind_of, ahead_at, ahead_of, first_of, met_at}
use Rattle.rt_walk.specs.Jobs.{Stand, stand_at}
use Rattle.rt_walk.specs.Position.{WalkState, stand_of}
use Rattle.rt_walk.proofs.EventLemmas.{happens-none, asked-none}
use Rattle.rt_walk.proofs.SeekLemmas.{seeks_same, seeks_mapped}
use Rattle.rt_points.specs.declared.events.Events.{Events}
use Rattle.rt_points.specs.Events.{asks, any_asked}
use Rattle.rt_debug.specs.Stopping.{stopping}
use Rattle.rt_debug.specs.FirstStop.{met_by, stop_at, event_behind, stop_ahead, stands_at}
use Rattle.rt_debug.specs.Session.{Continues}
use Rattle.rt_debug.specs.declared.reply.reply.Stopped.{Stopped}
use Rattle.rt_debug.specs.declared.reply.reply.Stopped.TheVariants.{At, Happened}
use Rattle.rt_debug.specs.declared.watch.Watch.{Watch}
use Rattle.rt_debug.specs.Working.Watch.{sees, Covers, seen_at, asked_behind, asked_ahead, stands_by, standing}
use Rattle.rt_walk.specs.declared.events.Happening.{Happening}
use Rattle.rt_walk.specs.Events.{happens}

nothing_at : (m : MachineState) (next : Next) → ahead_at {A = Unit {0}} (λ _ _ _. None) m next ≡ None
nothing_at m nexts.Idle = refl
nothing_at m (nexts.Run task pc) = refl

nothing_behind : (before : MachineState) (r : Record) (after : Stand) → behind_of {A = Unit {0}} (λ _ _ _. None) before r after ≡ None
nothing_behind before records.Idle after = nothing_at after.machine (next_of after.machine)
nothing_behind before (records.Busy attempt) after = refl

unseen : (b : Bool) → ◌≡◌ {A = Option (Unit {0})} (cond b (Some tt) None) None → b ≡ false
unseen true is = absurd cc
unseen false is = refl

module _ {B : Type 0} (meets : B → ℕ → ℕ → Bool) (slots : List (Option B)) (words : List ℕ) (watch : Watch) (covers : Covers meets slots words watch) where
  none_ahead : (m : MachineState) (next : Next) → ahead_at (λ task pc _. seen_at words watch task pc) m next ≡ None → met_by meets slots next ≡ None
  none_ahead m nexts.Idle none = refl
  none_ahead m (nexts.Run task pc) none = covers (nexts.Run task pc) (unseen (sees words watch (nexts.Run task pc)) none)

  -- where a walk halts at no place that is seen, no stop is met
  pub none_met : (begin : Stand) (set : TaskSet) (u : ℕ) → met_at (λ _ _ _. None) (λ task pc _. seen_at words watch task pc) begin set u ≡ None → stop_at meets slots set u ≡ None
  none_met begin set u none =
      none_ahead (state_at set u) (next_of (state_at set u))
      (ap (λ (b : Option (Unit {0})). first_of b (ahead_of (λ task pc _. seen_at words watch task pc) (state_at set u))) (sym (nothing_behind (state_at set (u - 1)) (record_at (state_at set (u - 1))) (stand_at begin set u))) ∙ none)

-- ---- a search in parts, each up to a place that is seen

module _ {A C : Type 0} (stands : ℕ → Option C) (met : ℕ → Option A) (unseen_none : (u : ℕ) → met u ≡ None → stands u ≡ None)
    (t0 n left t m : ℕ) (few : left ≤ n) (clock : t ≡ t0 + (n - left)) (none : (u : ℕ) → t0 < u → u ≤ t → stands u ≡ None) where
  -- before the place that was seen nothing is met
  pub none_before_seen : (sought : Sought A) → is_unmet sought ≡ false → SeeksOrPauses false met t left sought m → (u : ℕ) → t0 < u → u < m → stands u ≡ None
  none_before_seen (Met a) seen first u after before = elim (cases_lt t u) [
    | inl later ↦ unseen_none u (first.none_before u later before)
    | inr early ↦ none u after early
  ]
  none_before_seen Unmet seen first u after before = absurd (true≢false seen)
  none_before_seen Paused seen paused u after before = absurd (true≢false (sym paused.0))

  -- and where none was seen, none is met to the end
  pub none_to_end : (sought : Sought A) → is_unmet sought ≡ true → SeeksOrPauses false met t left sought m → t ≤ tick_limit → Seeks stands t0 n None m
  none_to_end (Met a) unmet first within = absurd (true≢false (sym unmet))
  none_to_end Unmet unmet part within = record {
    end = omega (arith, part.end, clock, few, within);
    none = λ u after before. elim (cases_lt t u) [
      | inl later ↦ unseen_none u (part.none u later before)
      | inr early ↦ none u after early
    ];
  }
  none_to_end Paused unmet paused within = absurd (true≢false (sym unmet))

-- how far a part has come
pub came : {A : Type 0} (t n m : ℕ) (sought : Sought A) → is_unmet sought ≡ false → Moves t n sought m → (t < m) × (m ≤ t + n)
came t n m (Met a) seen moved = moved
came t n m Unmet seen moved = absurd (true≢false seen)
came t n m Paused seen moved = moved

-- what is met where a machine stands
pub met_there : {B : Type 0} (meets : B → ℕ → ℕ → Bool) (slots : List (Option B)) (set : TaskSet) (m : MachineState) (next : Next) (hit : Option ℕ)
    → m ≡ state_at set m.tick → next ≡ next_of m → hit ≡ met_by meets slots next → stop_at meets slots set m.tick ≡ hit
met_there meets slots set m next hit stands at is = ap (λ (m : MachineState). met_by meets slots (next_of m)) (sym stands) ∙ ap (met_by meets slots) (sym at) ∙ sym is

pub seeks_hit : {C : Type 0} (met : ℕ → Option C) (t n m : ℕ) (hit : Option C) → is_some hit ≡ true → t < m → m ≤ t + n → met m ≡ hit → ((u : ℕ) → t < u → u < m → met u ≡ None) → Seeks met t n hit m
seeks_hit met t n m None some later within here none = absurd (true≢false (sym some))
seeks_hit met t n m (Some k) some later within here none = record { later = later; within = within; here = here; none_before = none }

pub none_there : {C : Type 0} (met : ℕ → Option C) (t m : ℕ) (hit : Option C) → is_some hit ≡ false → met m ≡ hit → ((u : ℕ) → t < u → u < m → met u ≡ None) → (u : ℕ) → t < u → u ≤ m → met u ≡ None
none_there {C} met t m hit is here none u after within = elim (cases_lt u m) [
  | inl early ↦ none u after early
  | inr last ↦ let at : u ≡ m = omega (arith, within, last) in ap met at ∙ here ∙ no_hit hit is
]
  where
    no_hit : (hit : Option C) → is_some hit ≡ false → hit ≡ None
    no_hit None is = refl
    no_hit (Some k) is = absurd (true≢false is)

-- ---- where events are asked for

module _ {B : Type 0} (meets : B → ℕ → ℕ → Bool) (slots : List (Option B)) (words : List ℕ) (watch : Watch) (covers : Covers meets slots words watch) (events : Events) where
  abbrev asked_at : Stand → TaskSet → ℕ → Option (Option Happening)
  asked_at begin set u = met_at (asked_behind events) (asked_ahead words watch) begin set u

  found : (b : Option Happening) (hit : Option ℕ) (seen : Bool) → (seen ≡ false → hit ≡ None)
      → first_of (option_map Happened b) (option_map At hit) ≡ stands_by (first_of (option_map Some b) (cond seen (Some None) None)) hit
  found None hit true none = refl
  found None hit false none = ap (option_map At) (none refl)
  found (Some h) hit seen none = refl

  by_busy : (b : Option Happening) (m : MachineState) (next : Next)
      → first_of (option_map Happened b) (ahead_at (stop_ahead meets slots) m next) ≡ stands_by (first_of (option_map Some b) (ahead_at (asked_ahead words watch) m next)) (met_by meets slots next)
  by_busy None m nexts.Idle = refl
  by_busy (Some h) m nexts.Idle = refl
  by_busy b m (nexts.Run task pc) = found b (met_by meets slots (nexts.Run task pc)) (sees words watch (nexts.Run task pc)) (covers (nexts.Run task pc))

  by_idle : (before : MachineState) (s : Stand) (next : Next)
      → first_of (ahead_at (λ task pc m. event_behind events before records.Idle s) s.machine next) (ahead_at (stop_ahead meets slots) s.machine next)
      ≡ stands_by (first_of (ahead_at (λ task pc m. asked_behind events before records.Idle s) s.machine next) (ahead_at (asked_ahead words watch) s.machine next)) (met_by meets slots next)
  by_idle before s nexts.Idle = refl
  by_idle before s (nexts.Run task pc) = by_busy (happens (asks events) before records.Idle s) s.machine (nexts.Run task pc)

  by_record : (before : MachineState) (r : Record) (after : Stand)
      → first_of (behind_of (event_behind events) before r after) (ahead_of (stop_ahead meets slots) after.machine)
      ≡ stands_by (first_of (behind_of (asked_behind events) before r after) (ahead_of (asked_ahead words watch) after.machine)) (met_by meets slots (next_of after.machine))
  by_record before records.Idle after = by_idle before after (next_of after.machine)
  by_record before (records.Busy attempt) after = by_busy (happens (asks events) before (records.Busy attempt) after) after.machine (next_of after.machine)

  pub stands_asked : (begin : Stand) (set : TaskSet) (u : ℕ) → stands_at meets (stopping slots events) begin set u ≡ stands_by (asked_at begin set u) (stop_at meets slots set u)
  stands_asked begin set u = by_record (state_at set (u - 1)) (record_at (state_at set (u - 1))) (stand_at begin set u)

  pub unasked_none : (begin : Stand) (set : TaskSet) (u : ℕ) → asked_at begin set u ≡ None → stands_at meets (stopping slots events) begin set u ≡ None
  unasked_none begin set u none = stands_asked begin set u ∙ ap (λ o. stands_by o (stop_at meets slots set u)) none

  -- what is met where it was seen
  pub stands_seen : (begin : Stand) (set : TaskSet) (t n m : ℕ) (sought : Sought (Option Happening)) → is_unmet sought ≡ false → SeeksOrPauses false (asked_at begin set) t n sought m
      → stands_at meets (stopping slots events) begin set m ≡ standing sought (stop_at meets slots set m)
  stands_seen begin set t n m (Met a) seen first = stands_asked begin set m ∙ ap (λ o. stands_by o (stop_at meets slots set m)) first.here
  stands_seen begin set t n m Unmet seen part = absurd (true≢false seen)
  stands_seen begin set t n m Paused seen paused = absurd (true≢false (sym paused.0))

-- ---- where no event is asked for, it stands still at stops alone

module _ {B : Type 0} (meets : B → ℕ → ℕ → Bool) (slots : List (Option B)) (events : Events) (none : any_asked events ≡ false) where
  no_event : (before : MachineState) (r : Record) (after : Stand) → event_behind events before r after ≡ None
  no_event before r after = ap (option_map Happened) (happens-none (asks events) (λ event task. asked-none events event task none) before r after)

  no_event_behind : (before : MachineState) (r : Record) (after : Stand) → behind_of (event_behind events) before r after ≡ None
  no_event_behind before records.Idle after = at_next (next_of after.machine)
    where
      at_next : (next : Next) → ahead_at (λ task pc m. event_behind events before records.Idle after) after.machine next ≡ None
      at_next nexts.Idle = refl
      at_next (nexts.Run task pc) = no_event before records.Idle after
  no_event_behind before (records.Busy attempt) after = no_event before (records.Busy attempt) after

  stop_alone : (m : MachineState) (next : Next) → option_map At (met_by meets slots next) ≡ ahead_at (stop_ahead meets slots) m next
  stop_alone m nexts.Idle = refl
  stop_alone m (nexts.Run task pc) = refl

  stands_alone : (begin : Stand) (set : TaskSet) (u : ℕ) → option_map At (stop_at meets slots set u) ≡ stands_at meets (stopping slots events) begin set u
  stands_alone begin set u =
      stop_alone (state_at set u) (next_of (state_at set u))
      ∙ sym (ap (λ (b : Option Stopped). first_of b (ahead_of (stop_ahead meets slots) (state_at set u))) (no_event_behind (state_at set (u - 1)) (record_at (state_at set (u - 1))) (stand_at begin set u)))

  pub continues_alone : (old new : WalkState) (n : ℕ) (found : Option ℕ) → Continues (stop_at meets slots) old n found new → Continues (stands_at meets (stopping slots events) (stand_of old.shown)) old n (option_map At found) new
  continues_alone old new n found goes = record {
    walk = goes.walk;
    seeks = λ set is. seeks_same (λ u. option_map At (stop_at meets slots set u)) (stands_at meets (stopping slots events) (stand_of old.shown) set) (stands_alone (stand_of old.shown) set) old.shown.machine.tick n new.shown.machine.tick (option_map At found)
        (seeks_mapped At (stop_at meets slots set) old.shown.machine.tick n new.shown.machine.tick found (goes.seeks set is));
  }
