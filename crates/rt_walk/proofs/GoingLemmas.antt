-- What a walk's machine and ring do as they go on.
use Rattle.rt_walk.proofs.Common.{◌≡◌, inl, inr, ℕ, ◌+◌, ◌-◌, ◌<◌, ◌≤◌, Bool, true, false, true≢false, cond, List, [], ◌∷◌, ◌++◌, Option, Some, None, refl, sym, ap, subst, ◌∙◌, arith, nat_lt, min, cases_lt, tick_limit, TaskSet, Entry, state_at, PositionState, IsReached, IsAt, ahead_of, met_at, Sought, GoesOn, sought_by, Searches, Comes}
use Rattle.std.proofs.Common.{length, length-drop, drop, replicate, get_or}
use Rattle.std.specs.Option.{option_map_or, is_some}
use Rattle.std.proofs.lemmas.List.{get_or-replicate, get_or-append_right, drop-append-le, drop_all}
use Rattle.circular_buffer.specs.Buffer.{Buffer, buffer, keep_last}
use Rattle.rt_history.specs.declared.record.Attempt.{Attempt}
use Rattle.rt_history.specs.declared.record.AttemptOutcome.{AttemptOutcome}
use Rattle.rt_history.specs.declared.record.AttemptOutcome.TheVariants as outcomes
use Rattle.rt_history.specs.declared.record.Record.{Record}
use Rattle.rt_history.specs.declared.record.Record.TheVariants as records
use Rattle.rt_history.specs.declared.record.Entry.TheVariants.{Busy, Idle}
use Rattle.rt_history.specs.Named.{named_task}
use Rattle.rt_history.specs.MachineState.{MachineState}
use Rattle.rt_history.specs.Legal.{record_at, legal}
use Rattle.rt_history.specs.Entries.{start_of, ticks_of, records_of, entries_from}
use Rattle.rt_history.proofs.Steps.{length-legal, record-in-legal, idle-none}
use Rattle.rt_core.specs.Advance.{Goes, Follows}
use Rattle.rt_core.specs.declared.view.Next.TheVariants as nexts
use Rattle.rt_core.specs.Next.{next_of}
use Rattle.rt_walk.specs.declared.jobs.OpenJob.{OpenJob}
use Rattle.rt_walk.specs.Jobs.{Stand, stand_at}
use Rattle.rt_walk.specs.Position.{ring_limit, entries_between, stand_of}
use Rattle.rt_walk.specs.Met.{behind_of, behind_at, ahead_at, first_of, Meets}
use Rattle.rt_walk.specs.declared.halt.Sought.TheVariants.{Met, Unmet, Paused}
use Rattle.rt_walk.specs.FirstMet.{SeeksOrPauses, Moves, is_paused}
use Rattle.rt_walk.specs.declared.position.Gone.{Gone}
use Rattle.rt_walk.specs.Working.Led.{ByEntry, Passes, Looks, Keeps, end_of}
use Rattle.rt_walk.specs.Working.Opened.{opened_in}
use Rattle.rt_walk.proofs.JobLemmas.{machine-at, at-begin, at-on}

-- ---- one entry more

-- what a push tells of the entries that follow
abbrev pub Pushes : Buffer Entry → Entry → Buffer Entry → Type 0
Pushes old entry new =
    (u : ℕ) (rs : List Record) → old.items ≡ keep_last old.capacity (entries_from u rs)
    → start_of entry ≡ u + length rs → 1 ≤ ticks_of entry → new.items ≡ keep_last old.capacity (entries_from u (rs ++ records_of entry))

-- and an advance
abbrev pub Advances : MachineState → Entry → MachineState → Type 0
Advances old entry new = (set : TaskSet) (t : ℕ) → old ≡ state_at set t → Follows set t entry new

-- the legal history at the end of an entry
pub stands-on : (set : TaskSet) (t : ℕ) (entry : Entry) (old new : MachineState) → new.tick ≡ old.tick + ticks_of entry → Follows set old.tick entry new → new ≡ state_at set new.tick
stands-on set t entry old new end follows = follows.stands ∙ ap (state_at set) (sym end)

kept-on : (set : TaskSet) (entry : Entry) (first old new : PositionState) (cap : ℕ) → first.machine.tick ≤ old.machine.tick → start_of entry ≡ old.machine.tick → 1 ≤ ticks_of entry
    → new.machine.tick ≡ old.machine.tick + ticks_of entry → old.ring.capacity ≡ cap → Pushes old.ring entry new.ring → Follows set old.machine.tick entry new.machine
    → old.ring.items ≡ keep_last cap (entries_from first.machine.tick (drop first.machine.tick (legal set old.machine.tick)))
    → new.ring.items ≡ keep_last cap (entries_from first.machine.tick (drop first.machine.tick (legal set new.machine.tick)))
kept-on set entry first old new cap later start some end room pushes follows kept =
    let m0 = first.machine.tick in
    let t = old.machine.tick in
    let whole : length (legal set t) ≡ t = length-legal set t in
    let size : length (drop m0 (legal set t)) ≡ t - m0 = length-drop m0 (legal set t) ∙ ap (λ (n : ℕ). n - m0) whole in
    let begins : start_of entry ≡ m0 + length (drop m0 (legal set t)) = omega (arith, start, size, later) in
    let before : old.ring.items ≡ keep_last old.ring.capacity (entries_from m0 (drop m0 (legal set t))) = kept ∙ ap (λ (n : ℕ). keep_last n (entries_from m0 (drop m0 (legal set t)))) (sym room) in
    let after = pushes m0 (drop m0 (legal set t)) before begins some in
    let within : m0 ≤ length (legal set t) = omega (arith, whole, later) in
    let longer : drop m0 (legal set t) ++ records_of entry ≡ drop m0 (legal set new.machine.tick) =
    sym (drop-append-le m0 (legal set t) (records_of entry) within) ∙ ap (drop m0) (sym follows.history) ∙ ap (λ (n : ℕ). drop m0 (legal set n)) (sym end) in
    after ∙ ap (λ (n : ℕ). keep_last n (entries_from m0 (drop m0 (legal set t) ++ records_of entry))) room ∙ ap (λ (rs : List Record). keep_last cap (entries_from m0 rs)) longer

pub reached-on : (most : ℕ) (entry : Entry) (first old new : PositionState) → Goes most old.machine entry new.machine → Advances old.machine entry new.machine
    → new.jobs ≡ opened_in old.jobs entry → new.ring.capacity ≡ old.ring.capacity → Pushes old.ring entry new.ring → IsReached first old → IsReached first new
reached-on most entry first old new goes advances jobs same pushes reached = record {
  later = omega (arith, goes.end, reached.later);
  room = same ∙ reached.room;
  stands = λ set is. stands-on set old.machine.tick entry old.machine new.machine goes.end (advances set old.machine.tick (reached.stands set is));
  at = λ set is. let stood = reached.at set is in at-on (stand_of first) set entry (stand_of old) (stand_of new) goes.end jobs (advances set old.machine.tick (machine-at (stand_of first) set (stand_of old) stood)) stood;
  kept = λ set is. kept-on set entry first old new ring_limit reached.later goes.start goes.some goes.end reached.room pushes (advances set old.machine.tick (reached.stands set is)) (reached.kept set is);
}

no-entries : (set : TaskSet) (t : ℕ) → entries_between set t t ≡ []
no-entries set t = ap (entries_from t) (drop_all t (legal set t) (omega (arith, length-legal set t)))

-- a position with an empty ring is where it begins
pub begins : (machine : MachineState) (jobs : List OpenJob) → IsReached (record { machine = machine; ring = buffer [] ring_limit; jobs = jobs }) (record { machine = machine; ring = buffer [] ring_limit; jobs = jobs })
begins machine jobs = record {
  later = omega arith;
  room = refl;
  stands = λ set is. is;
  at = λ set is. at-begin set (record { machine = machine; jobs = jobs }) is;
  kept = λ set is. sym (ap (keep_last ring_limit) (no-entries set machine.tick));
}

-- ---- what is met within an entry and at its end

idle-next : (m : MachineState) (b : Bool) → option_map_or (λ n. nexts.Run n.0 n.1.program.state.pc) (named_task m.tasks) nexts.Idle ≡ nexts.Idle
    → cond b (option_map_or (λ n. nexts.Run n.0 n.1.program.state.pc) (named_task m.tasks) nexts.Idle) nexts.Idle ≡ nexts.Idle
idle-next m true is = is
idle-next m false is = refl

idle-at : (set : TaskSet) (u : ℕ) → record_at (state_at set u) ≡ records.Idle → next_of (state_at set u) ≡ nexts.Idle
idle-at set u is =
    let m = state_at set u in
    let none : named_task m.tasks ≡ None = idle-none m is in
    idle-next m (nat_lt m.tick tick_limit) (rw none refl)

-- each tick within an entry is idle
idle-within : (set : TaskSet) (t : ℕ) (entry : Entry) (new : MachineState) → Follows set t entry new
    → (u : ℕ) → t < u → u < t + ticks_of entry → next_of (state_at set u) ≡ nexts.Idle
idle-within set t (Busy start rec) new follows u after before = absurd (omega (arith, after, before))
idle-within set t (Idle start n) new follows u after before =
    let at : u + 1 + (t + n - (u + 1)) ≡ t + n = omega (arith, before) in
    let one : record_at (state_at set u) ≡ get_or (legal set (t + n)) u records.Idle =
    sym (record-in-legal set u (t + n - (u + 1))) ∙ ap (λ (k : ℕ). get_or (legal set k) u records.Idle) at in
    let two : get_or (legal set (t + n)) u records.Idle ≡ records.Idle =
    ap (λ (h : List Record). get_or h u records.Idle) follows.history
    ∙ get_or-append_right (legal set t) (replicate n records.Idle) t u records.Idle (length-legal set t) (omega (arith, after))
    ∙ get_or-replicate n (u - t) records.Idle records.Idle (omega (arith, after, before)) in
    idle-at set u (one ∙ two)

-- each record of an idle stretch is idle
idle-record : (set : TaskSet) (t start n : ℕ) (new : MachineState) → Follows set t (Idle start n) new → (u : ℕ) → t ≤ u → u < t + n → record_at (state_at set u) ≡ records.Idle
idle-record set t start n new follows u after before =
    let at : u + 1 + (t + n - (u + 1)) ≡ t + n = omega (arith, before) in
    sym (record-in-legal set u (t + n - (u + 1))) ∙ ap (λ (k : ℕ). get_or (legal set k) u records.Idle) at
    ∙ ap (λ (h : List Record). get_or h u records.Idle) follows.history
    ∙ get_or-append_right (legal set t) (replicate n records.Idle) t u records.Idle (length-legal set t) after
    ∙ get_or-replicate n (u - t) records.Idle records.Idle (omega (arith, after, before))

-- and that of a busy tick is its own
busy-record : (set : TaskSet) (t start : ℕ) (attempt : Attempt) (new : MachineState) → Follows set t (Busy start attempt) new → record_at (state_at set t) ≡ records.Busy attempt
busy-record set t start attempt new follows =
    let at : t + 1 + 0 ≡ t + 1 = omega arith in
    let last : t - t ≡ 0 = omega arith in
    sym (record-in-legal set t 0) ∙ ap (λ (k : ℕ). get_or (legal set k) t records.Idle) at
    ∙ ap (λ (h : List Record). get_or h t records.Idle) follows.history
    ∙ get_or-append_right (legal set t) (records.Busy attempt ∷ []) t t records.Idle (length-legal set t) (omega arith)
    ∙ ap (λ (k : ℕ). get_or (records.Busy attempt ∷ []) k records.Idle) last

pub idle-from : (set : TaskSet) (t start n : ℕ) (new : MachineState) → Follows set t (Idle start n) new → (u : ℕ) → t ≤ u → u < t + n → next_of (state_at set u) ≡ nexts.Idle
idle-from set t start n new follows u from before = idle-at set u (idle-record set t start n new follows u from before)

pub behind-within : {A : Type 0} (behind : MachineState → Record → Stand → Option A) (begin : Stand) (set : TaskSet) (t start n : ℕ) (new : MachineState) → Follows set t (Idle start n) new
    → (u : ℕ) → t < u → u < t + n → behind_at behind begin set u ≡ None
behind-within behind begin set t start n new follows u after before =
    ap (λ (r : Record). behind_of behind (state_at set (u - 1)) r (stand_at begin set u)) (idle-record set t start n new follows (u - 1) (omega (arith, after)) (omega (arith, after, before)))
    ∙ ap (ahead_at (λ task pc m. behind (state_at set (u - 1)) records.Idle (stand_at begin set u)) (state_at set u)) (idle-from set t start n new follows u (omega (arith, after)) before)

module _ {A : Type 0} (behind : MachineState → Record → Stand → Option A) (ahead : ℕ → ℕ → MachineState → Option A) (begin : Stand) (set : TaskSet) where
  -- nothing is met within an entry
  within : (t : ℕ) (entry : Entry) (new : MachineState) → Follows set t entry new → (u : ℕ) → t < u → u < t + ticks_of entry → met_at behind ahead begin set u ≡ None
  within t (Busy start attempt) new follows u after before = absurd (omega (arith, after, before))
  within t (Idle start n) new follows u after before =
      ap (λ (b : Option A). first_of b (ahead_of ahead (state_at set u))) (behind-within behind begin set t start n new follows u after before)
      ∙ ap (ahead_at ahead (state_at set u)) (idle-within set t (Idle start n) new follows u after before)

  -- what is met behind the last record of an entry
  behind-end : (t : ℕ) (entry : Entry) (new : Stand) (found : Option A) → 1 ≤ ticks_of entry → Follows set t entry new.machine → Meets behind (state_at set t) entry new found
      → behind_of behind (state_at set (t + ticks_of entry - 1)) (record_at (state_at set (t + ticks_of entry - 1))) new ≡ found
  behind-end t (Busy start attempt) new found some follows meets =
      let last : t + 1 - 1 ≡ t = omega arith in
      ap (λ (u : ℕ). behind_of behind (state_at set u) (record_at (state_at set u)) new) last
      ∙ ap (λ (r : Record). behind_of behind (state_at set t) r new) (busy-record set t start attempt new.machine follows) ∙ meets
  behind-end t (Idle start n) new found some follows meets =
      ap (λ (r : Record). behind_of behind (state_at set (t + n - 1)) r new) (idle-record set t start n new.machine follows (t + n - 1) (omega (arith, some)) (omega (arith, some)))
      ∙ meets (state_at set (t + n - 1))

  pub behind-entry : (old : MachineState) (entry : Entry) (new : Stand) (found : Option A) → 1 ≤ ticks_of entry → new.machine.tick ≡ old.tick + ticks_of entry
      → Follows set old.tick entry new.machine → old ≡ state_at set old.tick → new ≡ stand_at begin set new.machine.tick → Meets behind old entry new found → behind_at behind begin set new.machine.tick ≡ found
  behind-entry old entry new found some end follows stood stands meets =
      ap (λ (s : Stand). behind_of behind (state_at set (new.machine.tick - 1)) (record_at (state_at set (new.machine.tick - 1))) s) (sym stands)
      ∙ ap (λ (u : ℕ). behind_of behind (state_at set (u - 1)) (record_at (state_at set (u - 1))) new) end
      ∙ behind-end old.tick entry new found some follows (subst (λ (m : MachineState). Meets behind m entry new found) stood meets)

  -- what is met where an entry ends
  met-end : (old : MachineState) (entry : Entry) (new : Stand) (found : Option A) → 1 ≤ ticks_of entry → new.machine.tick ≡ old.tick + ticks_of entry
      → Follows set old.tick entry new.machine → old ≡ state_at set old.tick → new ≡ stand_at begin set new.machine.tick → Meets behind old entry new found
      → met_at behind ahead begin set new.machine.tick ≡ first_of found (ahead_of ahead new.machine)
  met-end old entry new found some end follows stood stands meets =
      ap (λ (b : Option A). first_of b (ahead_of ahead (state_at set new.machine.tick))) (behind-entry old entry new found some end follows stood stands meets)
      ∙ ap (λ (s : Stand). first_of found (ahead_of ahead s.machine)) (sym stands)

  -- nothing is met before an entry ends, where nothing was up to its start
  pub none-before : (t : ℕ) (old : MachineState) (entry : Entry) (new : MachineState) → new.tick ≡ old.tick + ticks_of entry → Follows set old.tick entry new
      → ((u : ℕ) → t < u → u ≤ old.tick → met_at behind ahead begin set u ≡ None) → (u : ℕ) → t < u → u < new.tick → met_at behind ahead begin set u ≡ None
  none-before t old entry new end follows none u after before = elim (cases_lt old.tick u) [
    | inl later ↦ within old.tick entry new follows u later (omega (arith, before, end))
    | inr early ↦ none u after early
  ]

  -- what is met behind an entry, and that nothing is before
  pub met-after : (most : ℕ) (old new : PositionState) (found : Option A) → ByEntry behind most old new found → IsAt begin set (stand_of old)
      → met_at behind ahead begin set new.machine.tick ≡ first_of found (ahead_of ahead new.machine)
  met-after most old new found by stands =
      let machine = machine-at begin set (stand_of old) stands in
      let follows = by.legal set old.machine.tick machine in
      met-end old.machine by.entry (stand_of new) found by.goes.some by.goes.end follows machine (at-on begin set by.entry (stand_of old) (stand_of new) by.goes.end by.jobs follows stands).stand by.met

  pub none-after : (most t : ℕ) (old new : PositionState) (found : Option A) → ByEntry behind most old new found → IsAt begin set (stand_of old)
      → ((u : ℕ) → t < u → u ≤ old.machine.tick → met_at behind ahead begin set u ≡ None) → (u : ℕ) → t < u → u < new.machine.tick → met_at behind ahead begin set u ≡ None
  none-after most t old new found by stands none = none-before t old.machine by.entry new.machine by.goes.end (by.legal set old.machine.tick (machine-at begin set (stand_of old) stands)) none

  -- a search that ends with an entry, or where there is none
  pub ends-by : (has_paused : Bool) (most t n end : ℕ) (old new : PositionState) (sought : Sought A) → t ≤ old.machine.tick → end ≡ min (t + n) tick_limit → old.machine.tick + most ≤ end → (most ≡ 0 → old.machine.tick ≡ end)
      → GoesOn behind most old new (Some sought) → IsAt begin set (stand_of old) → ((u : ℕ) → t < u → u ≤ old.machine.tick → met_at behind ahead begin set u ≡ None)
      → SeeksOrPauses has_paused (met_at behind ahead begin set) t n sought new.machine.tick
  ends-by has_paused most t n end old new (Met a) from is many at by stands none = record {
    later = omega (arith, from, by.goes.end, by.goes.some);
    within = omega (arith, by.goes.end, by.goes.within, many, is);
    here = met-after most old new (Some a) by stands;
    none_before = none-after most t old new (Some a) by stands none;
  }
  ends-by has_paused most t n end old new Unmet from is many at stays stands none =
      let same = ap (λ (p : PositionState). p.machine.tick) stays.0 in
      let done = at stays.1 in record {
        end = omega (arith, same, done, is, from);
        none = λ u after within. none u after (omega (arith, within, same));
      }
  ends-by has_paused most t n end old new Paused from is many at by stands none = absurd by

pub stands-after : {A : Type 0} (behind : MachineState → Record → Stand → Option A) (most : ℕ) (begin : Stand) (set : TaskSet) (old new : PositionState) (found : Option A) → ByEntry behind most old new found → IsAt begin set (stand_of old)
    → IsAt begin set (stand_of new)
stands-after behind most begin set old new found by stands = at-on begin set by.entry (stand_of old) (stand_of new) by.goes.end by.jobs (by.legal set old.machine.tick (machine-at begin set (stand_of old) stands)) stands

pub goes-at : {A : Type 0} (behind : MachineState → Record → Stand → Option A) (most : ℕ) (begin : Stand) (set : TaskSet) (old new : PositionState) (sought : Option (Sought A)) → GoesOn behind most old new sought → IsAt begin set (stand_of old) → IsAt begin set (stand_of new)
goes-at behind most begin set old new None by is = stands-after behind most begin set old new None by is
goes-at behind most begin set old new (Some (Met a)) by is = stands-after behind most begin set old new (Some a) by is
goes-at behind most begin set old new (Some Unmet) stays is = subst (λ (p : PositionState). IsAt begin set (stand_of p)) (sym stays.0) is
goes-at behind most begin set old new (Some Paused) by is = absurd by

-- ---- an entry that is kept

module _ {A : Type 0} (behind : MachineState → Record → Stand → Option A) (most : ℕ) (old new : PositionState) (machine : MachineState) where
  leads : (entry : Entry) (found : Option A) → Goes most old.machine entry machine → Advances old.machine entry machine → new.machine ≡ machine → new.jobs ≡ opened_in old.jobs entry
      → Meets behind old.machine entry (stand_of new) found → ByEntry behind most old new found
  leads entry found goes advances same jobs met = record {
    entry = entry;
    goes = subst (λ (m : MachineState). Goes most old.machine entry m) (sym same) goes;
    legal = λ set t is. subst (λ (m : MachineState). Follows set t entry m) (sym same) (advances set t is);
    jobs = jobs;
    met = met;
  }

  pub goes-on : (entry : Entry) (gone : Gone) (found : Option A) → Goes most old.machine entry machine → Advances old.machine entry machine → new.machine ≡ machine
      → new.jobs ≡ opened_in old.jobs entry → Looks behind old.machine entry (stand_of new) gone found → GoesOn behind most old new (sought_by gone found)
  goes-on (Busy t attempt) gone None goes advances same jobs looks =
      subst (λ (g : Gone). GoesOn behind most old new (sought_by {A = A} g None)) (sym looks.1) (leads (Busy t attempt) None goes advances same jobs looks.0)
  goes-on (Busy t attempt) gone (Some a) goes advances same jobs looks =
      subst (λ (g : Gone). GoesOn behind most old new (sought_by {A = A} g (Some a))) (sym looks.1) (leads (Busy t attempt) (Some a) goes advances same jobs looks.0)
  goes-on (Idle t n) gone None goes advances same jobs looks =
      subst (λ (g : Gone). GoesOn behind most old new (sought_by {A = A} g None)) (sym looks.1) (leads (Idle t n) None goes advances same jobs looks.0)
  goes-on (Idle t n) gone (Some a) goes advances same jobs looks =
      subst (λ (g : Gone). GoesOn behind most old new (sought_by {A = A} g (Some a))) (sym looks.1) (leads (Idle t n) (Some a) goes advances same jobs looks.0)

  pub passes-on : (entry : Entry) (gone : Gone) (found : Option A) → Goes most old.machine entry machine → new.machine ≡ machine → Looks behind old.machine entry (stand_of new) gone found
      → Passes old.machine.tick new.machine.tick gone found
  passes-on (Busy t attempt) gone None goes same looks =
      subst (λ (g : Gone). Passes {A = A} old.machine.tick new.machine.tick g None) (sym looks.1) (refl, ap (λ (m : MachineState). m.tick) same ∙ goes.end)
  passes-on (Busy t attempt) gone (Some a) goes same looks =
      subst (λ (g : Gone). Passes {A = A} old.machine.tick new.machine.tick g (Some a)) (sym looks.1) refl
  passes-on (Idle t n) gone None goes same looks =
      subst (λ (g : Gone). Passes {A = A} old.machine.tick new.machine.tick g None) (sym looks.1) (refl, goes.some, ap (λ (m : MachineState). m.tick) same ∙ goes.end)
  passes-on (Idle t n) gone (Some a) goes same looks =
      subst (λ (g : Gone). Passes {A = A} old.machine.tick new.machine.tick g (Some a)) (sym looks.1) refl

pub plain-entry : (entry : Entry) (t : ℕ) (attempt : Attempt) → entry ≡ Busy t attempt → attempt.outcome ≡ outcomes.Next
    → Busy t (record { task = attempt.task; pc = attempt.pc; word = attempt.word; outcome = outcomes.Next }) ≡ entry
plain-entry entry t attempt is next =
    ap (λ (o : AttemptOutcome). Busy t (record { task = attempt.task; pc = attempt.pc; word = attempt.word; outcome = o })) (sym next) ∙ sym is

pub reached-by : (most : ℕ) (entry : Entry) (first old mid new : PositionState) → mid.ring ≡ old.ring → mid.jobs ≡ old.jobs → Goes most old.machine entry mid.machine → Advances old.machine entry mid.machine → Keeps entry mid new
    → IsReached first old → IsReached first new
reached-by most entry first old mid new ring jobs goes advances keeps reached =
    reached-on most entry first old new (subst (λ (m : MachineState). Goes most old.machine entry m) (sym keeps.machine) goes)
    (λ set t is. subst (λ (m : MachineState). Follows set t entry m) (sym keeps.machine) (advances set t is))
    (keeps.jobs ∙ ap (λ js. opened_in js entry) jobs) (keeps.capacity ∙ ap (λ (b : Buffer Entry). b.capacity) ring) (subst (λ (b : Buffer Entry). Pushes b entry new.ring) ring keeps.follows) reached

-- ---- the search

-- how far a search has come that ends so
pub moves-by : {A : Type 0} (behind : MachineState → Record → Stand → Option A) (most t n end : ℕ) (old new : PositionState) (sought : Sought A) → t ≤ old.machine.tick → end ≡ min (t + n) tick_limit → old.machine.tick + most ≤ end → (most ≡ 0 → old.machine.tick ≡ end)
    → GoesOn behind most old new (Some sought) → Moves t n sought new.machine.tick
moves-by behind most t n end old new (Met a) from is many at by = (omega (arith, from, by.goes.end, by.goes.some), omega (arith, by.goes.end, by.goes.within, many, is))
moves-by behind most t n end old new Unmet from is many at stays =
    let same = ap (λ (p : PositionState). p.machine.tick) stays.0 in let done = at stays.1 in omega (arith, same, done, is, from)
moves-by behind most t n end old new Paused from is many at by = absurd by

pub none-on : {A : Type 0} (met : ℕ → Option A) (t m : ℕ) → ((u : ℕ) → t < u → u < m → met u ≡ None) → met m ≡ None → (u : ℕ) → t < u → u ≤ m → met u ≡ None
none-on met t m none here u after before = elim (cases_lt u m) [
  | inl early ↦ none u after early
  | inr last ↦ ap met (omega (arith, before, last)) ∙ here
]

-- a search that comes to its last tick, or to where something is met
pub ends-there : {A : Type 0} (has_paused : Bool) (met : ℕ → Option A) (t n end m : ℕ) (found : Option A) → t < m → (found ≡ None → m ≡ end) → m ≤ end → end ≡ min (t + n) tick_limit → met m ≡ found
    → ((u : ℕ) → t < u → u < m → met u ≡ None) → SeeksOrPauses has_paused met t n (end_of found) m
ends-there has_paused met t n end m None later at before is here none =
    let last = at refl in record { end = omega (arith, later, last, is); none = none-on met t m none here }
ends-there has_paused met t n end m (Some a) later at before is here none = record { later = later; within = omega (arith, before, is); here = here; none_before = none }

pub moves-there : {A : Type 0} (t n end m : ℕ) (found : Option A) → t < m → (found ≡ None → m ≡ end) → m ≤ end → end ≡ min (t + n) tick_limit → Moves t n (end_of found) m
moves-there t n end m None later at before is = let last = at refl in omega (arith, later, last, is)
moves-there t n end m (Some a) later at before is = (later, omega (arith, before, is))

-- neither there nor within an entry is a pause
pub unpaused-there : {A : Type 0} (found : Option A) → is_paused (end_of found) ≡ false
unpaused-there None = refl
unpaused-there (Some a) = refl

pub unpaused-by : {A : Type 0} (behind : MachineState → Record → Stand → Option A) (most : ℕ) (old new : PositionState) (sought : Sought A) → GoesOn behind most old new (Some sought) → is_paused sought ≡ false
unpaused-by behind most old new (Met a) by = refl
unpaused-by behind most old new Unmet stays = refl
unpaused-by behind most old new Paused by = absurd by

pub none-is : {A : Type 0} (found : Option A) → is_some found ≡ false → found ≡ None
none-is None none = refl
none-is (Some a) none = absurd (true≢false none)

-- where a search stands behind its first entry, and behind one more
module _ {A : Type 0} (behind : MachineState → Record → Stand → Option A) (ahead : ℕ → ℕ → MachineState → Option A) (begin : Stand) (set : TaskSet) (most : ℕ) (old new : PositionState) (by : ByEntry behind most old new None) where
  pub searches-first : IsAt begin set (stand_of old) → Searches behind ahead begin set old.machine.tick (stand_of new)
  searches-first is = record {
    later = omega (arith, by.goes.end, by.goes.some);
    stands = stands-after behind most begin set old new None by is;
    none = none-after behind ahead begin set most old.machine.tick old new None by is (λ u after before. absurd (omega (arith, after, before)));
    here = met-after behind ahead begin set most old new None by is;
  }

  pub searches-on : (t : ℕ) → ahead_of ahead old.machine ≡ None → Searches behind ahead begin set t (stand_of old) → Searches behind ahead begin set t (stand_of new)
  searches-on t unmet search = record {
    later = omega (arith, search.later, by.goes.end);
    stands = stands-after behind most begin set old new None by search.stands;
    none = none-after behind ahead begin set most t old new None by search.stands (none-on (met_at behind ahead begin set) t old.machine.tick search.none (search.here ∙ unmet));
    here = met-after behind ahead begin set most old new None by search.stands;
  }

-- a search that has gone on by one entry, or has ended by it
pub comes-by : {A : Type 0} (behind : MachineState → Record → Stand → Option A) (ahead : ℕ → ℕ → MachineState → Option A) (begin : Stand) (set : TaskSet) (has_paused : Bool) (most t n end : ℕ) (old new : PositionState) (sought : Option (Sought A))
    → end ≡ min (t + n) tick_limit → old.machine.tick + most ≤ end → (most ≡ 0 → old.machine.tick ≡ end) → GoesOn behind most old new sought
    → ahead_of ahead old.machine ≡ None → Searches behind ahead begin set t (stand_of old) → Comes behind ahead begin set has_paused t n (stand_of new) sought
comes-by behind ahead begin set has_paused most t n end old new None is many at by unmet search = searches-on behind ahead begin set most old new by t unmet search
comes-by behind ahead begin set has_paused most t n end old new (Some sought) is many at by unmet search =
    let later = search.later in
    ends-by behind ahead begin set has_paused most t n end old new sought (omega (arith, later)) is many at by search.stands
    (none-on (met_at behind ahead begin set) t old.machine.tick search.none (search.here ∙ unmet))

pub below-min : (k a b : ℕ) → k ≤ min a b → k ≤ a
below-min k a b small = omega (arith, small)

-- ---- the way back

pub back-enough : (m0 m n : ℕ) → m0 ≤ m → n ≤ m - m0 → m0 + n ≤ m
back-enough m0 m n later few = omega (arith, later, few)
