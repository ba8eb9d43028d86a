-- What a sink does with the bytes that it is given. `seen` is a sink's own: what is seen of it.
use Rattle.std.specs.Prelude.{◌≡◌, ℕ, ◌<◌, ◌≤◌, List, length, take, true, false, Result, Ok, Err}
use Rattle.std.specs.Io.KnownBytes.{Appends, Keeps}
use Rattle.rt_sink.specs.Seen.{Seen}
use Rattle.rt_sink.specs.declared.sink.Put.{Put}
use Rattle.rt_sink.specs.declared.sink.Put.TheVariants.{Taken, Failed}
use Rattle.rt_sink.specs.declared.sink.DeviceFault.{DeviceFault}

-- one `put`: an open sink takes the first n bytes, at least one where there are some, or fails and takes none
abbrev pub Answers : {S : Type 0} → (S → Seen) → S → List ℕ → Put → S → Type 0
Answers seen old bytes (Taken n) new =
    ((seen old).failed ≡ false) × ((seen new).failed ≡ false) × (n ≤ length bytes) × (0 < length bytes → 0 < n) × Appends (seen old).contents (seen new).contents (take n bytes)
Answers seen old bytes Failed new = ((seen new).failed ≡ true) × Keeps (seen old).contents (seen new).contents

-- the sink took the whole text, and hasn't failed
pub record Took {S : Type 0} (seen : S → Seen) (old : S) (text : List ℕ) (new : S) : Type 0 where
  pub is_open : (seen new).failed ≡ false
  pub took : Appends (seen old).contents (seen new).contents text

-- the sink took the first n bytes of the text, which is longer, and failed there
pub record TookFirst {S : Type 0} (seen : S → Seen) (old : S) (text : List ℕ) (n : ℕ) (new : S) : Type 0 where
  pub part : n < length text
  pub is_failed : (seen new).failed ≡ true
  pub took : Appends (seen old).contents (seen new).contents (take n text)

-- a text was written: all of it, or as much as the fault says
abbrev pub Writes : {S X : Type 0} → (S → Seen) → S → List ℕ → Result X DeviceFault → S → Type 0
Writes seen old text (Ok x) new = Took seen old text new
Writes seen old text (Err e) new = TookFirst seen old text e.written new

-- a text was written, and its length is the answer
abbrev pub Counts : {S : Type 0} → (S → Seen) → S → List ℕ → Result ℕ DeviceFault → S → Type 0
Counts seen old text (Ok n) new = (n ≡ length text) × Took seen old text new
Counts seen old text (Err e) new = TookFirst seen old text e.written new
