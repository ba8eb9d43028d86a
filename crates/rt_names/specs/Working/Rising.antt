-- The symbols that name parts, in the order of their addresses.
use Rattle.std.specs.Prelude.{◌≡◌, ℕ, zero, suc, ◌+◌, ◌≤◌, ◌<◌, List, length, take, get_or, slice_get, Option, Some, None}
use Rattle.std.specs.List.{reduce}
use Rattle.std.specs.List.Sorted.{IsNonDecreasingBy}
use Rattle.std.specs.Option.{option_map}
use Rattle.rt_image.specs.declared.object.Symbol.{Symbol}
use Rattle.rt_image.specs.ObjectFile.{Label, label, labels}
use Rattle.rt_names.specs.Parts.{nearer, namer}

-- the last of the first i
abbrev pub last_of : ℕ → List Symbol → Option Symbol
last_of zero ns = None
last_of (suc k) ns = slice_get ns k

-- the first i of them stand at an address or below it, and the others above it
pub record AreSplit (a i : ℕ) (ns : List Symbol) : Type 0 where
  pub below : (k : ℕ) (d : Symbol) → k < i → (get_or ns k d).address ≤ a
  pub above : (k : ℕ) (d : Symbol) → i ≤ k → k < length ns → a < (get_or ns k d).address

-- the last of them at an address or below it names its part, by these labels
pub record AreNamers (ls : List Label) (ns : List Symbol) : Type 0 where
  pub rising : IsNonDecreasingBy (λ (s : Symbol). s.address) ns
  pub found : (a i : ℕ) → i ≤ length ns → AreSplit a i ns → option_map label (last_of i ns) ≡ namer ls a

-- each is the nearest of the symbols up to its place, and stands where the symbol there does
pub record Reduces (rising ns : List Symbol) : Type 0 where
  pub count : length ns ≡ length rising
  pub same : (k : ℕ) (d : Symbol) → k < length ns → (get_or ns k d).address ≡ (get_or rising k d).address
  pub nearest : (k : ℕ) (d : Symbol) → k < length ns → reduce nearer (labels (take (k + 1) rising)) ≡ Some (label (get_or ns k d))
