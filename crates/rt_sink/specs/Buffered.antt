-- A sink that gathers bytes, and passes them on to another sink when it is full.
use Rattle.std.specs.Prelude.{◌≡◌, ℕ, ◌+◌, ◌-◌, ◌^◌, ◌<◌, ◌≤◌, ◌==◌, if◌then◌else◌, min, List, [], ◌++◌, length, take, drop, true, false, Option, Some, None, Result, Ok, Err}
use Rattle.rt_sink.specs.Seen.{Seen}
use Rattle.rt_sink.specs.declared.sink.Put.{Put}
use Rattle.rt_sink.specs.declared.sink.Put.TheVariants.{Taken, Failed}
use Rattle.rt_sink.specs.declared.sink.DeviceFault.{DeviceFault}
use Rattle.rt_sink.specs.Sink.{Answers, Took, TookFirst}

-- how many bytes are gathered before the other sink gets them
abbrev pub gathered_limit : ℕ
gathered_limit = 32768

-- the other sink, the bytes that wait for it, and how many it has taken since this one was made
pub record BufferedSink (S : Type 0) : Type 0 where
  pub inner : S
  pub gathered : List ℕ
  pub delivered : ℕ

-- a count of bytes, which stops at 2^64 - 1
abbrev pub counted : ℕ → ℕ → ℕ
counted count more = min (count + more) (2 ^ 64 - 1)

-- the bytes that a sink was given: those that the other one has taken, and behind them those that wait
abbrev pub told_behind : Option (List ℕ) → List ℕ → ℕ → Option (List ℕ)
told_behind None gathered delivered = None
told_behind (Some taken) gathered delivered = if delivered == counted 0 (length taken) then Some (taken ++ gathered) else None

-- It tells them where the other sink tells its own, and had none when this one was made: then all of them are counted.
abbrev pub told : {S : Type 0} → (S → Seen) → BufferedSink S → Option (List ℕ)
told seen b = told_behind (seen b.inner).contents b.gathered b.delivered

-- what is seen of a sink that gathers: it has failed where the other one has
abbrev pub gathering : {S : Type 0} → (S → Seen) → BufferedSink S → Seen
gathering seen b = record { failed = (seen b.inner).failed; contents = told seen b }

-- An open sink was given what was gathered. It took all of it, or the first n bytes, and then the others still wait.
pub record Delivers {S : Type 0} (seen : S → Seen) (old new : BufferedSink S) : Type 0 where
  pub whole : (seen new.inner).failed ≡ false → Took seen old.inner old.gathered new.inner × (new.gathered ≡ []) × (new.delivered ≡ counted old.delivered (length old.gathered))
  pub part : (seen new.inner).failed ≡ true → (n : ℕ) × TookFirst seen old.inner old.gathered n new.inner × (new.gathered ≡ drop n old.gathered) × (new.delivered ≡ counted old.delivered n)

-- One put into an open sink that takes n bytes: as many as find room wait behind those that wait already, and nothing is
-- delivered. Where there is no room left, what waited is delivered first.
pub record Gathers {S : Type 0} (seen : S → Seen) (old : BufferedSink S) (bytes : List ℕ) (n : ℕ) (new : BufferedSink S) : Type 0 where
  pub waits : length old.gathered < gathered_limit
      → (n ≡ min (length bytes) (gathered_limit - length old.gathered)) × (new ≡ record old { gathered = old.gathered ++ take n bytes })
  pub passes : length old.gathered ≡ gathered_limit
      → (n ≡ min (length bytes) gathered_limit) × Took seen old.inner old.gathered new.inner × (new.gathered ≡ take n bytes)
      × (new.delivered ≡ counted old.delivered (length old.gathered))

-- One put of fewer bytes than are gathered: they were taken, or the other sink failed before, and nothing changed, or it failed
-- at what waited.
abbrev pub PutGathers : {S : Type 0} → (S → Seen) → BufferedSink S → List ℕ → Put → BufferedSink S → Type 0
PutGathers seen old bytes (Taken n) new = Gathers seen old bytes n new
PutGathers seen old bytes Failed new = ((seen old.inner).failed ≡ true → new ≡ old) × ((seen old.inner).failed ≡ false → Delivers seen old new)

-- One put of as many bytes as are gathered, or more, into an open sink: what waited is delivered, and then the other sink is
-- given these bytes themselves. It took some, or failed at them, or had failed at what waited.
abbrev pub PutPasses : {S : Type 0} → (S → Seen) → BufferedSink S → List ℕ → Put → BufferedSink S → Type 0
PutPasses {S} seen old bytes (Taken n) new =
    (between : BufferedSink S) × Delivers seen old between × Answers seen between.inner bytes (Taken n) new.inner
    × (new ≡ record between { inner = new.inner; delivered = counted between.delivered n })
PutPasses {S} seen old bytes Failed new =
    (between : BufferedSink S) × Delivers seen old between × ((seen between.inner).failed ≡ true → new ≡ between)
    × ((seen between.inner).failed ≡ false → Answers seen between.inner bytes Failed new.inner × (new ≡ record between { inner = new.inner }))

-- a flush: all is delivered, or the other sink has failed, and the answer is how many bytes it took in all
abbrev pub Flushes : {S X : Type 0} → (S → Seen) → BufferedSink S → Result X DeviceFault → BufferedSink S → Type 0
Flushes seen old (Ok x) new = ((seen old.inner).failed ≡ false) × ((seen new.inner).failed ≡ false) × Delivers seen old new
Flushes seen old (Err e) new =
    ((seen new.inner).failed ≡ true) × (e.written ≡ new.delivered) × ((seen old.inner).failed ≡ true → new ≡ old) × ((seen old.inner).failed ≡ false → Delivers seen old new)

-- What a sink was told is a text below 2^64 bytes. All of it has arrived at the other sink, or so many of its first bytes as
-- the fault says.
abbrev pub Arrives : {S X : Type 0} → (S → Seen) → List ℕ → Result X DeviceFault → S → Type 0
Arrives seen text (Ok x) inner = (seen inner).contents ≡ Some text
Arrives seen text (Err e) inner = (e.written ≤ length text) × ((seen inner).contents ≡ Some (take e.written text))
