-- The text of the finished jobs, one entry or some ticks more.
use Rattle.rt_accounts.proofs.Common.{◌≡◌, ℕ, ◌+◌, ◌≤◌, Bool, true, false, List, [], length, refl, sym, ap, subst, ◌∙◌, arith, append-nil, Offers-nil, TaskSet, legal, state_at, listed_text, OffersMore}
use Rattle.std.proofs.Common.{true≢false, append_assoc, zero, suc, ◌∷◌, ◌++◌, slice_get, Option, Some, None, Result, Ok, Err, OnOk, OnErr, ◌⊎◌, inl, inr, add-zero, zero-add}
use Rattle.std.specs.List.{flat_map}
use Rattle.std.specs.Option.{option_map_or}
use Rattle.std.proofs.lemmas.List.{length-append, take-append-le}
use Rattle.std.proofs.lemmas.List.Concat.{flat_map-append}
use Rattle.std.specs.Io.KnownBytes.{Appends}
use Rattle.rt_sink.specs.Seen.{Seen}
use Rattle.rt_sink.specs.Offers.{Offers}
use Rattle.rt_sink.specs.Sink.{Counts}
use Rattle.rt_sink.specs.declared.sink.DeviceFault.{DeviceFault}
use Rattle.rt_sink.proofs.Parts.{Offers-then, Offers-failed}
use Rattle.rt_image.specs.SystemFile.{SetTask}
use Rattle.rt_names.specs.TaskNames.{task_names}
use Rattle.rt_history.specs.declared.record.AttemptOutcome.{AttemptOutcome}
use Rattle.rt_history.specs.declared.record.AttemptOutcome.TheVariants.{Next}
use Rattle.rt_history.specs.declared.record.Record.{Record}
use Rattle.rt_history.specs.declared.record.Record.TheVariants.{Idle, Busy}
use Rattle.rt_history.specs.MachineState.{MachineState}
use Rattle.rt_history.specs.OwnPart.{own}
use Rattle.rt_history.specs.Legal.{record_at}
use Rattle.rt_history.specs.Plain.{IsPlain, ArePlain}
use Rattle.rt_history.proofs.Steps.{length-legal, legal_next, tick_is}
use Rattle.rt_report.specs.declared.finished_job.FinishedJob.{FinishedJob}
use Rattle.rt_report.specs.JobLines.{finished_jobs}
use Rattle.rt_report.specs.JobText.{jobs_header, job_line, jobs_text}
use Rattle.rt_report.specs.declared.detailed_job.DetailedJob.{DetailedJob}
use Rattle.rt_report.specs.JobDetails.{detailed_in, detailed_jobs}
use Rattle.rt_report.specs.DetailText.{detailed_header, detailed_line, detailed_text}
use Rattle.rt_report.proofs.JobLineLaws.{new_jobs, finished-busy, finished_begin}
use Rattle.rt_report.proofs.DetailLaws.{details-busy, detailed_begin}
use Rattle.rt_accounts.specs.JobListing.{header_with}

-- jobs that come behind those of before
jobs_text-more : (set : TaskSet) (g h : List Record) (new : List FinishedJob) → finished_jobs set g ≡ finished_jobs set h ++ new
    → jobs_text set g ≡ jobs_text set h ++ flat_map job_line new
jobs_text-more set g h new more =
    ap (λ (js : List FinishedJob). jobs_header ++ flat_map job_line js) more
    ∙ ap (λ (text : List ℕ). jobs_header ++ text) (flat_map-append job_line (finished_jobs set h) new)
    ∙ sym (append_assoc jobs_header (flat_map job_line (finished_jobs set h)) (flat_map job_line new))

-- no job, and one
pub jobs_text-same : (set : TaskSet) (g h : List Record) → finished_jobs set g ≡ finished_jobs set h ++ [] → jobs_text set g ≡ jobs_text set h
jobs_text-same set g h more = jobs_text-more set g h [] more ∙ append-nil (jobs_text set h)

pub jobs_text-one : (set : TaskSet) (g h : List Record) (j : FinishedJob) → finished_jobs set g ≡ finished_jobs set h ++ j ∷ []
    → jobs_text set g ≡ jobs_text set h ++ job_line j
jobs_text-one set g h j more =
    jobs_text-more set g h (j ∷ []) more ∙ ap (λ (text : List ℕ). jobs_text set h ++ text) (append-nil (job_line j))

-- the text of no ticks is the header
pub jobs_text-first : (set : TaskSet) → jobs_header ≡ jobs_text set (legal set 0)
unfolding legal
jobs_text-first set = sym (append-nil jobs_header)

-- the text of a beginning begins the text
pub jobs_text-begins : (set : TaskSet) (t n : ℕ) → t ≤ n → (rest : List ℕ) × (jobs_text set (legal set n) ≡ jobs_text set (legal set t) ++ rest)
jobs_text-begins set t n le =
    let from = finished_begin set t n le in
    (flat_map job_line from.0, jobs_text-more set (legal set n) (legal set t) from.0 from.1)

-- ---- plain ticks finish no job

none-new : (i t : ℕ) (h : List Record) (found : Option SetTask) → option_map_or (λ s. new_jobs i s (own i h) t Next) found [] ≡ []
none-new i t h None = refl
none-new i t h (Some s) = refl

plain-none : (set : TaskSet) (t i : ℕ) (h : List Record) (r : Record) → length h ≡ t → IsPlain i r → finished_jobs set (h ++ r ∷ []) ≡ finished_jobs set h
plain-none set t i h Idle len plain = absurd plain
plain-none set t i h (Busy a) len plain =
    finished-busy set t h a len
    ∙ ap (λ (o : AttemptOutcome). finished_jobs set h ++ option_map_or (λ s. new_jobs a.task s (own a.task h) t o) (slice_get set.tasks a.task) []) plain.1
    ∙ ap (λ (new : List FinishedJob). finished_jobs set h ++ new) (none-new a.task t h (slice_get set.tasks a.task))
    ∙ append-nil (finished_jobs set h)

plain-jobs : (set : TaskSet) (t i n : ℕ) → ArePlain set t i n → finished_jobs set (legal set (t + n)) ≡ finished_jobs set (legal set t)
plain-jobs set t i zero plain = ap (λ (u : ℕ). finished_jobs set (legal set u)) (add-zero t)
plain-jobs set t i (suc n) plain =
    let at : t + suc n ≡ t + n + 1 = omega arith in
    ap (λ (u : ℕ). finished_jobs set (legal set u)) at ∙ ap (finished_jobs set) (legal_next set (t + n))
    ∙ plain-none set (t + n) i (legal set (t + n)) (record_at (state_at set (t + n))) (length-legal set (t + n)) (plain n (omega arith))
    ∙ plain-jobs set t i n (λ k below. plain k (omega (arith, below)))

pub jobs_text-plain : (set : TaskSet) (t i n : ℕ) → ArePlain set t i n → jobs_text set (legal set (t + n)) ≡ jobs_text set (legal set t)
jobs_text-plain set t i n plain = ap (λ (js : List FinishedJob). jobs_header ++ flat_map job_line js) (plain-jobs set t i n plain)

-- ---- the detailed list

detailed_text-more : (set : TaskSet) (g h : List Record) (new : List DetailedJob) → detailed_jobs set g ≡ detailed_jobs set h ++ new
    → detailed_text set g ≡ detailed_text set h ++ flat_map (detailed_line (task_names set)) new
detailed_text-more set g h new more =
    let line = detailed_line (task_names set) in
    ap (λ (js : List DetailedJob). detailed_header ++ flat_map line js) more
    ∙ ap (λ (text : List ℕ). detailed_header ++ text) (flat_map-append line (detailed_jobs set h) new)
    ∙ sym (append_assoc detailed_header (flat_map line (detailed_jobs set h)) (flat_map line new))

-- no job, and one
pub detailed_text-same : (set : TaskSet) (g h : List Record) → detailed_jobs set g ≡ detailed_jobs set h ++ [] → detailed_text set g ≡ detailed_text set h
detailed_text-same set g h more = detailed_text-more set g h [] more ∙ append-nil (detailed_text set h)

pub detailed_text-one : (set : TaskSet) (g h : List Record) (j : DetailedJob) → detailed_jobs set g ≡ detailed_jobs set h ++ j ∷ []
    → detailed_text set g ≡ detailed_text set h ++ detailed_line (task_names set) j
detailed_text-one set g h j more =
    detailed_text-more set g h (j ∷ []) more ∙ ap (λ (text : List ℕ). detailed_text set h ++ text) (append-nil (detailed_line (task_names set) j))

none-detailed : (i t : ℕ) (h : List Record) (found : Option SetTask) → option_map_or (λ s. detailed_in i s (own i h) (t, Next)) found [] ≡ []
none-detailed i t h None = refl
none-detailed i t h (Some s) = refl

plain-undetailed : (set : TaskSet) (t i : ℕ) (h : List Record) (r : Record) → length h ≡ t → IsPlain i r → detailed_jobs set (h ++ r ∷ []) ≡ detailed_jobs set h
plain-undetailed set t i h Idle len plain = absurd plain
plain-undetailed set t i h (Busy a) len plain =
    details-busy set t h a len
    ∙ ap (λ (o : AttemptOutcome). detailed_jobs set h ++ option_map_or (λ s. detailed_in a.task s (own a.task h) (t, o)) (slice_get set.tasks a.task) []) plain.1
    ∙ ap (λ (new : List DetailedJob). detailed_jobs set h ++ new) (none-detailed a.task t h (slice_get set.tasks a.task))
    ∙ append-nil (detailed_jobs set h)

plain-details : (set : TaskSet) (t i n : ℕ) → ArePlain set t i n → detailed_jobs set (legal set (t + n)) ≡ detailed_jobs set (legal set t)
plain-details set t i zero plain = ap (λ (u : ℕ). detailed_jobs set (legal set u)) (add-zero t)
plain-details set t i (suc n) plain =
    let at : t + suc n ≡ t + n + 1 = omega arith in
    ap (λ (u : ℕ). detailed_jobs set (legal set u)) at ∙ ap (detailed_jobs set) (legal_next set (t + n))
    ∙ plain-undetailed set (t + n) i (legal set (t + n)) (record_at (state_at set (t + n))) (length-legal set (t + n)) (plain n (omega arith))
    ∙ plain-details set t i n (λ k below. plain k (omega (arith, below)))

detailed_text-begins : (set : TaskSet) (t n : ℕ) → t ≤ n → (rest : List ℕ) × (detailed_text set (legal set n) ≡ detailed_text set (legal set t) ++ rest)
detailed_text-begins set t n le =
    let from = detailed_begin set t n le in
    (flat_map (detailed_line (task_names set)) from.0, detailed_text-more set (legal set n) (legal set t) from.0 from.1)

detailed_text-first : (set : TaskSet) → detailed_header ≡ detailed_text set (legal set 0)
unfolding legal
detailed_text-first set = sym (append-nil detailed_header)

-- ---- with details or without

pub listed-first : (details : Bool) (set : TaskSet) → header_with details ≡ listed_text details set (legal set 0)
listed-first true set = detailed_text-first set
listed-first false set = jobs_text-first set

pub listed-plain : (details : Bool) (set : TaskSet) (t i n : ℕ) → ArePlain set t i n → listed_text details set (legal set (t + n)) ≡ listed_text details set (legal set t)
listed-plain true set t i n plain = ap (λ (js : List DetailedJob). detailed_header ++ flat_map (detailed_line (task_names set)) js) (plain-details set t i n plain)
listed-plain false set t i n plain = jobs_text-plain set t i n plain

pub listed-begins : (details : Bool) (set : TaskSet) (t n : ℕ) → t ≤ n
    → (rest : List ℕ) × (listed_text details set (legal set n) ≡ listed_text details set (legal set t) ++ rest)
listed-begins true set t n le = detailed_text-begins set t n le
listed-begins false set t n le = jobs_text-begins set t n le

-- ---- the text at a sink

module _ {S : Type 0} (seen : S → Seen) where
  pub on-nothing : (x : List ℕ) (k : ℕ) (a : S) → OffersMore seen x x k a k a
  on-nothing x k a = record { more = []; grown = sym (append-nil x); offered = Offers-nil seen k a }

  pub on-same : (x y z : List ℕ) (k : ℕ) (a : S) (m : ℕ) (b : S) → z ≡ y → OffersMore seen x y k a m b → OffersMore seen x z k a m b
  on-same x y z k a m b same so_far = record { more = so_far.more; grown = same ∙ so_far.grown; offered = so_far.offered }

  -- a text that has grown twice
  grown-twice : (x y z more rest : List ℕ) → x ≡ y ++ rest → y ≡ z ++ more → x ≡ z ++ (more ++ rest)
  grown-twice x y z more rest last first = last ∙ ap (λ (text : List ℕ). text ++ rest) first ∙ append_assoc z more rest

  pub on-more : (x y z : List ℕ) (k : ℕ) (a : S) (m : ℕ) (b : S) (n : ℕ) (c : S)
      → OffersMore seen y z m b n c → OffersMore seen x y k a m b → OffersMore seen x z k a n c
  on-more x y z k a m b n c next so_far = record {
    more = so_far.more ++ next.more;
    grown = grown-twice z y x so_far.more next.more next.grown so_far.grown;
    offered = Offers-then seen k a so_far.more m b next.more n c so_far.offered next.offered;
  }

  -- nothing more is offered to a sink that has failed
  pub on-failed : (x y z rest : List ℕ) (k : ℕ) (a : S) (m : ℕ) (b : S) → (seen b).failed ≡ true → z ≡ y ++ rest
      → OffersMore seen x y k a m b → OffersMore seen x z k a m b
  on-failed x y z rest k a m b shut more so_far = record {
    more = so_far.more ++ rest;
    grown = grown-twice z y x so_far.more rest more so_far.grown;
    offered = Offers-failed seen k a so_far.more rest m b shut so_far.offered;
  }

  -- what a sink took of a text, and its length, were offered
  pub took-offered : (a : S) (text : List ℕ) (m : ℕ) (b : S) → (seen a).failed ≡ false → Counts seen a text (Ok m) b → Offers seen 0 a text m b
  took-offered a text m b opened took = record {
    stays = λ shut. absurd (true≢false (sym shut ∙ opened));
    whole = λ _. (took.1, took.0 ∙ sym (zero-add (length text)));
    stopped = λ _ shut. absurd (true≢false (sym shut ∙ took.1.is_open));
  }

  -- a sink that failed within a text failed within a longer one
  pub failed-longer : (a : S) (text more : List ℕ) (fault : DeviceFault) (b : S) → Counts seen a text (Err fault) b → Counts seen a (text ++ more) (Err fault) b
  failed-longer a text more fault b took = record {
    part = omega (arith, took.part, length-append text more);
    is_failed = took.is_failed;
    took = subst (λ (xs : List ℕ). Appends (seen a).contents (seen b).contents xs) (sym (take-append-le fault.written text more (omega (arith, took.part)))) took.took;
  }

-- what went to its end, or stopped on the way
pub ended : {T E : Type 0} (r : Result T E) (P Q : Type 0) → OnOk r P → OnErr r Q → P ⊎ Q
ended (Ok x) P Q to_end stopped = inl to_end
ended (Err e) P Q to_end stopped = inr stopped

-- what follows of one that went to its end, and of one that stopped
pub when_ok : {T E : Type 0} (r : Result T E) (P Q R : Type 0) → (P → Q → R) → OnOk r P → OnOk r Q → OnOk r R
when_ok (Ok x) P Q R both p q = both p q
when_ok (Err e) P Q R both p q = tt

pub when_err : {T E : Type 0} (r : Result T E) (P R : Type 0) → (P → R) → OnErr r P → OnErr r R
when_err (Ok x) P R then p = tt
when_err (Err e) P R then p = then p

-- a machine in a legal history is at its own tick
pub own-tick : (set : TaskSet) (t : ℕ) (m : MachineState) → m ≡ state_at set t → m.tick ≡ t
own-tick set t m stands = ap (λ (x : MachineState). x.tick) stands ∙ tick_is set t

pub own-state : (set : TaskSet) (t : ℕ) (m : MachineState) → m ≡ state_at set t → m ≡ state_at set m.tick
own-state set t m stands = subst (λ (u : ℕ). m ≡ state_at set u) (sym (own-tick set t m stands)) stands
