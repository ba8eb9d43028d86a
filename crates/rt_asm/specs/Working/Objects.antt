-- What an object file can hold, whose symbols need only be put in order.
use Rattle.std.specs.Prelude.{◌≡◌, ℕ, ◌≤◌, List, length, All, true, Some, codes}
use Rattle.rt_words.specs.Limits.{image_limit, line_limit, symbol_limit}
use Rattle.rt_image.specs.ObjectFile.{Label, is_placed}
use Rattle.rt_token.specs.Word.{is_word}
use Rattle.rt_asm.specs.Labels.{address_in}
use Rattle.rt_asm.specs.Placement.{AreApart}
use Rattle.rt_asm.specs.Source.{Program}

-- a label of an image of n bytes
pub record IsListed (n : ℕ) (l : Label) : Type 0 where
  pub word : is_word l.name ≡ true
  pub short : length l.name ≤ line_limit
  pub placed : is_placed n l.address ≡ true

-- an image within the limits, with labels of its own, no two of one name, that begins at `_start`
pub record IsComplete (p : Program) : Type 0 where
  pub size : length p.bytes ≤ image_limit
  pub count : length p.labels ≤ symbol_limit
  pub listed : All (IsListed (length p.bytes)) p.labels
  pub apart : AreApart p.labels
  pub start : address_in p.labels (codes "_start") ≡ Some p.entry

-- an image that has these labels and bytes is complete wherever it begins at `_start`
abbrev pub IsWhole : List Label → List ℕ → Type 0
IsWhole labels bytes = (entry : ℕ) → address_in labels (codes "_start") ≡ Some entry → IsComplete (record { entry = entry; bytes = bytes; labels = labels })
