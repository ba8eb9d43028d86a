-- A session all of whose stops are places does what a session of these places does.
use Rattle.rt_dialogue.proofs.Common.{◌≡◌, ℕ, zero, suc, ◌+◌, ◌<◌, Bool, true, false, ltb, List, [], ◌∷◌, ◌++◌, length, Option, Some, None, Result, Ok, Err, refl, sym, ap, subst, ◌∙◌, TaskSet}
use Rattle.std.proofs.Common.{cond, set}
use Rattle.std.specs.Prelude.{option_map, slice_get}
use Rattle.std.proofs.lemmas.List.{length-map, map-append, map-set}
use Rattle.std.proofs.lemmas.Option.{slice_get-map}
use Rattle.rt_words.specs.Chain.{mapped}
use Rattle.rt_history.specs.Legal.{state_at}
use Rattle.rt_core.specs.declared.view.Next.{Next}
use Rattle.rt_core.specs.declared.view.Next.TheVariants as nexts
use Rattle.rt_core.specs.Next.{next_of}
use Rattle.rt_command.specs.declared.command.Command.{Command}
use Rattle.rt_command.specs.declared.command.Command.TheVariants as commands
use Rattle.rt_command.specs.declared.refusal.Refusal.{Refusal}
use Rattle.rt_command.specs.declared.refusal.Refusal.TheVariants.{NoMemory, TooManyStops}
use Rattle.rt_debug.specs.declared.reply.reply.Reply.{Reply}
use Rattle.rt_debug.specs.declared.reply.reply.Reply.TheVariants as replies
use Rattle.rt_debug.specs.declared.line.Answer.{Answer}
use Rattle.rt_points.specs.declared.marks.Place.{Place as PlaceStop}
use Rattle.rt_debug.specs.declared.stops.AnyStop.{AnyStop}
use Rattle.rt_debug.specs.declared.stops.AnyStop.TheVariants.{Place}
use Rattle.rt_debug.specs.PlaceStop.{is_at}
use Rattle.rt_debug.specs.StopSlots.{meets_of, hit_from, has_stop, deletes, slots_after, Adds}
use Rattle.rt_debug.specs.Stopping.{Stopping, stopping, AddsTo}
use Rattle.rt_debug.specs.FirstStop.{event_behind, stop_ahead, stands_at}
use Rattle.rt_debug.specs.declared.reply.reply.Stopped.{Stopped}
use Rattle.rt_debug.specs.declared.reply.reply.Stopped.TheVariants.{At}
use Rattle.rt_points.specs.declared.events.Event.{Event}
use Rattle.rt_points.specs.Events.{with_event}
use Rattle.rt_walk.specs.Met.{ahead_at, behind_at, first_of}
use Rattle.rt_history.specs.MachineState.{MachineState}
use Rattle.rt_walk.specs.Jobs.{Stand}
use Rattle.rt_walk.specs.Position.{WalkState, stand_of}
use Rattle.rt_walk.specs.FirstMet.{Seeks}
use Rattle.rt_walk.proofs.SeekLemmas.{seeks_same}
use Rattle.rt_names.specs.TaskNames.{task_names}
use Rattle.rt_debug.specs.Looking.{place_pc}
use Rattle.rt_debug.specs.Whose.{meant}
use Rattle.rt_debug.specs.Session.{Continues, AsksEvent, Executes}
use Rattle.rt_debug.specs.Line.{Breaks, Obeys}
use Rattle.rt_dialogue.specs.Working.Places.{placed_slots, placed}

module _ {B : Type 0} (meets : B → ℕ → ℕ → Bool) where
  abbrev pub any : AnyStop B → ℕ → ℕ → Bool
  any = meets_of meets

  same_hit : (task pc k : ℕ) (places : List (Option PlaceStop)) → hit_from (λ s. any s task pc) k (placed_slots places) ≡ hit_from (λ p. is_at p task pc) k places
  same_hit task pc k [] = refl
  same_hit task pc k (None ∷ places) = same_hit task pc (k + 1) places
  same_hit task pc k (Some place ∷ places) = ap (cond (is_at place task pc) (Some k)) (same_hit task pc (k + 1) places)

  same_ahead : (places : List (Option PlaceStop)) (m : MachineState) (next : Next) → ahead_at (stop_ahead any (placed_slots places)) m next ≡ ahead_at (stop_ahead is_at places) m next
  same_ahead places m nexts.Idle = refl
  same_ahead places m (nexts.Run task pc) = ap (option_map At) (same_hit task pc 1 places)

  same_seek : (places : Stopping PlaceStop) (begin : Stand) (set : TaskSet) (t n m : ℕ) (found : Option Stopped) → Seeks (stands_at any (placed places) begin set) t n found m → Seeks (stands_at is_at places begin set) t n found m
  same_seek places begin set t n m found = seeks_same (stands_at any (placed places) begin set) (stands_at is_at places begin set)
      (λ u. ap (first_of (behind_at (event_behind places.events) begin set u)) (same_ahead places.slots (state_at set u) (next_of (state_at set u)))) t n m found

  same_slot : (slot : Option (Option PlaceStop)) → has_stop (option_map {U = Option (AnyStop B)} (option_map Place) slot) ≡ has_stop slot
  same_slot None = refl
  same_slot (Some None) = refl
  same_slot (Some (Some place)) = refl

  same_stop : (places : List (Option PlaceStop)) (n : ℕ) → has_stop (slice_get (placed_slots {B = B} places) n) ≡ has_stop (slice_get places n)
  same_stop places n = ap has_stop (slice_get-map (option_map Place) places n) ∙ same_slot (slice_get places n)

  same_deletes : (places : List (Option PlaceStop)) (k : ℕ) → deletes (placed_slots {B = B} places) k ≡ deletes places k
  same_deletes places zero = refl
  same_deletes places (suc n) = rw (same_stop places n) refl

  same_after : (places : List (Option PlaceStop)) (k : ℕ) → slots_after (placed_slots {B = B} places) k ≡ placed_slots (slots_after places k)
  same_after places zero = refl
  same_after places (suc n) = rw (same_stop places n) (set_or_not (has_stop (slice_get places n)))
    where
      set_or_not : (b : Bool) → cond b (set (placed_slots {B = B} places) n None) (placed_slots places) ≡ placed_slots (cond b (set places n None) places)
      set_or_not true = sym (map-set (option_map Place) places n None)
      set_or_not false = refl

  -- what comes after is a session of places again
  abbrev Stay : (Stopping PlaceStop → Type 0) → Stopping (AnyStop B) → Type 0
  Stay holds later = (places : Stopping PlaceStop) × (later ≡ placed places) × holds places

  same_adds : (place : PlaceStop) (places : List (Option PlaceStop)) (added : Result ℕ Refusal) (later : List (Option (AnyStop B)))
      → Adds (Place place) (placed_slots places) added later → (slots : List (Option PlaceStop)) × (later ≡ placed_slots slots) × Adds place places added slots
  same_adds place places (Ok k) later adds =
      let size : length (placed_slots {B = B} places) ≡ length places = length-map places (option_map {U = AnyStop B} Place) in
      (places ++ Some place ∷ [], adds.2 ∙ sym (map-append (option_map Place) places (Some place ∷ [])), (adds.0 ∙ ap (λ (n : ℕ). n + 1) size, subst (λ (n : ℕ). n < 65535) size adds.1, refl))
  same_adds place places (Err refusal) later adds =
      let size : length (placed_slots {B = B} places) ≡ length places = length-map places (option_map {U = AnyStop B} Place) in
      (places, adds.1, (adds.0 ∙ ap (λ (n : ℕ). cond (ltb n 65535) NoMemory TooManyStops) size, refl))

  same_adds_to : (place : PlaceStop) (places : Stopping PlaceStop) (added : Result ℕ Refusal) (later : Stopping (AnyStop B)) → AddsTo (Place place) (placed places) added later → Stay (AddsTo place places added) later
  same_adds_to place places added later adds =
      let one = same_adds place places.slots added later.slots adds.0 in
      (stopping one.0 places.events, λ k. stopping (one.1 k) (adds.1 k), (one.2, refl))

  same_asks : (task : Result (Option ℕ) Refusal) (places : Stopping PlaceStop) (event : Event) (is_asked : Bool) (answer : Result Reply Refusal) (later : Stopping (AnyStop B))
      → AsksEvent task (placed places) event is_asked answer later → Stay (AsksEvent task places event is_asked answer) later
  same_asks (Ok task) places event is_asked answer later did = (record places { events = with_event event task is_asked places.events }, did.0, (refl, did.1))
  same_asks (Err refusal) places event is_asked answer later did = (places, did.0, (refl, did.1))

  same_continue : (places : Stopping PlaceStop) (old new : WalkState) (n : ℕ) (found : Option Stopped)
      → Continues (stands_at any (placed places) (stand_of old.shown)) old n found new → Continues (stands_at is_at places (stand_of old.shown)) old n found new
  same_continue places old new n found goes = record {
    walk = goes.walk;
    seeks = λ set is. same_seek places (stand_of old.shown) set old.shown.machine.tick n new.shown.machine.tick found (goes.seeks set is);
  }

  same_execute : (set : TaskSet) (old new : WalkState) (places : Stopping PlaceStop) (later : Stopping (AnyStop B)) (command : Command) (answer : Result Reply Refusal)
      → Executes any set old (placed places) command answer new later → Stay (Executes is_at set old places command answer new) later
  same_execute set old new places later (commands.Step n) answer did = (places, did.1, (did.0, refl, did.2))
  same_execute set old new places later (commands.Back n) answer did = (places, did.1, (did.0, refl, did.2))
  same_execute set old new places later (commands.Continue n) answer did = (places, did.2, (did.0, same_continue places old new n did.0 did.1, refl, did.3))
  same_execute set old new places later commands.Shown answer did = (places, did.1, (did.0, refl, did.2))
  same_execute set old new places later (commands.Delete k) answer did =
      let after = did.1 ∙ ap (λ (s : List (Option (AnyStop B))). stopping s places.events) (same_after places.slots k) in
      (record places { slots = slots_after places.slots k }, after, (did.0, refl, did.2 ∙ ap (mapped (λ _. replies.Deleted k)) (same_deletes places.slots k)))
  same_execute set old new places later (commands.Events event whose is_asked) answer did =
      let asks = same_asks (meant (task_names set) old.shown.machine whose) places event is_asked answer later did.1 in (asks.0, asks.1, (did.0, asks.2))
  same_execute set old new places later commands.Quit answer did = (places, did.1, (did.0, refl, did.2))
  same_execute set old new places later (commands.Regs i) answer did = (places, did.1, (did.0, refl, did.2))
  same_execute set old new places later (commands.Server i) answer did = (places, did.1, (did.0, refl, did.2))
  same_execute set old new places later (commands.Mem i a n) answer did = (places, did.1, (did.0, refl, did.2))
  same_execute set old new places later (commands.List i a n) answer did = (places, did.1, (did.0, refl, did.2))
  same_execute set old new places later (commands.Out i) answer did = (places, did.1, (did.0, refl, did.2))
  same_execute set old new places later (commands.Trace n) answer did = (places, did.1, (did.0, refl, did.2))
  same_execute set old new places later (commands.Break i place) answer did = (places, did.1, (did.0, refl, did.2))

  same_breaks : (i : ℕ) (places : Stopping PlaceStop) (pc : Result ℕ Refusal) (answer : Result Answer Refusal) (later : Stopping (AnyStop B))
      → Breaks Place (placed places) i pc answer later → Stay (Breaks (λ place. place) places i pc answer) later
  same_breaks i places (Ok pc) answer later did = let adds = same_adds_to (record { task = i; pc = pc }) places did.0 later did.1 in (adds.0, adds.1, (did.0, adds.2, did.2))
  same_breaks i places (Err refusal) answer later did = (places, did.1, (did.0, refl))

  pub same_obey : (set : TaskSet) (old new : WalkState) (places : Stopping PlaceStop) (later : Stopping (AnyStop B)) (command : Result Command Refusal) (answer : Result Answer Refusal)
      → Obeys Place any set old (placed places) command answer new later → Stay (Obeys (λ place. place) is_at set old places command answer new) later
  same_obey set old new places later (Err refusal) answer did = (places, did.2, (did.0, did.1, refl))
  same_obey set old new places later (Ok (commands.Break i place)) answer did =
      let added = same_breaks i places (place_pc set old.shown.machine i place) answer later did.1 in (added.0, added.1, (did.0, added.2))
  same_obey set old new places later (Ok (commands.Step n)) answer did = let e = same_execute set old new places later (commands.Step n) did.0 did.1 in (e.0, e.1, (did.0, e.2, did.2))
  same_obey set old new places later (Ok (commands.Back n)) answer did = let e = same_execute set old new places later (commands.Back n) did.0 did.1 in (e.0, e.1, (did.0, e.2, did.2))
  same_obey set old new places later (Ok (commands.Continue n)) answer did = let e = same_execute set old new places later (commands.Continue n) did.0 did.1 in (e.0, e.1, (did.0, e.2, did.2))
  same_obey set old new places later (Ok commands.Shown) answer did = let e = same_execute set old new places later commands.Shown did.0 did.1 in (e.0, e.1, (did.0, e.2, did.2))
  same_obey set old new places later (Ok (commands.Regs i)) answer did = let e = same_execute set old new places later (commands.Regs i) did.0 did.1 in (e.0, e.1, (did.0, e.2, did.2))
  same_obey set old new places later (Ok (commands.Server i)) answer did = let e = same_execute set old new places later (commands.Server i) did.0 did.1 in (e.0, e.1, (did.0, e.2, did.2))
  same_obey set old new places later (Ok (commands.Mem i a n)) answer did = let e = same_execute set old new places later (commands.Mem i a n) did.0 did.1 in (e.0, e.1, (did.0, e.2, did.2))
  same_obey set old new places later (Ok (commands.List i a n)) answer did = let e = same_execute set old new places later (commands.List i a n) did.0 did.1 in (e.0, e.1, (did.0, e.2, did.2))
  same_obey set old new places later (Ok (commands.Out i)) answer did = let e = same_execute set old new places later (commands.Out i) did.0 did.1 in (e.0, e.1, (did.0, e.2, did.2))
  same_obey set old new places later (Ok (commands.Trace n)) answer did = let e = same_execute set old new places later (commands.Trace n) did.0 did.1 in (e.0, e.1, (did.0, e.2, did.2))
  same_obey set old new places later (Ok (commands.Delete k)) answer did = let e = same_execute set old new places later (commands.Delete k) did.0 did.1 in (e.0, e.1, (did.0, e.2, did.2))
  same_obey set old new places later (Ok (commands.Events event whose is_asked)) answer did = let e = same_execute set old new places later (commands.Events event whose is_asked) did.0 did.1 in (e.0, e.1, (did.0, e.2, did.2))
  same_obey set old new places later (Ok commands.Quit) answer did = let e = same_execute set old new places later commands.Quit did.0 did.1 in (e.0, e.1, (did.0, e.2, did.2))
