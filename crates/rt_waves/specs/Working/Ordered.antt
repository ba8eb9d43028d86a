-- Addresses of symbols in order, and parts that are known.
use Rattle.std.specs.Prelude.{◌≡◌, ℕ, ◌-◌, ◌^◌, ◌<◌, ◌≤◌, ◌==◌, nat_lt, if◌then◌else◌, List, length, slice_index, map}
use Rattle.std.specs.List.Sorted.{IsNonDecreasing}
use Rattle.rt_image.specs.ObjectFile.{Label}
use Rattle.rt_waves.specs.declared.parts.Part.{Part}
use Rattle.rt_waves.specs.Waves.{greatest_upto}

abbrev pub addresses : List Label → List ℕ
addresses ls = map (λ l. l.address) ls

-- each address of the part has the same greatest one of these at it or below
abbrev pub IsPartOf : List ℕ → Part → Type 0
IsPartOf places part = (a : ℕ) → part.begin ≤ a → a < part.end → greatest_upto a places ≡ part.begin

-- the part between the first n of these and the others
abbrev pub begin_at : List ℕ → ℕ → ℕ
begin_at places n = if n == 0 then 0 else slice_index places (n - 1)

abbrev pub end_at : List ℕ → ℕ → ℕ
end_at places n = if nat_lt n (length places) then slice_index places n else 2 ^ 32

-- these addresses rise, and make the same parts as those of the symbols do
pub record IsTable (ls : List Label) (places : List ℕ) (part : Part) : Type 0 where
  pub same : (a : ℕ) → greatest_upto a places ≡ greatest_upto a (addresses ls)
  pub rise : IsNonDecreasing places
  pub known : IsPartOf places part
