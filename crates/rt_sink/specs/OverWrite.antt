-- A sink over a writer, which doesn't report its bytes.
use Rattle.std.specs.Prelude.{ℕ, List, take, Bool, Option}
use Rattle.std.specs.Io.KnownBytes.{Appends, Keeps}
use Rattle.rt_sink.specs.declared.sink.Put.{Put}
use Rattle.rt_sink.specs.declared.sink.Put.TheVariants.{Taken, Failed}

-- the writer, and whether the sink has failed
pub record WriterSink (W : Type 0) : Type 0 where
  pub writer : W
  pub has_failed : Bool

-- what the writer holds grows by the bytes that were taken, where it is known
abbrev pub Reaches : Option (List ℕ) → List ℕ → Put → Option (List ℕ) → Type 0
Reaches old bytes (Taken n) new = Appends old new (take n bytes)
Reaches old bytes Failed new = Keeps old new
