-- Words of options.
use Rattle.std.specs.Prelude.{◌≡◌, ◌≢◌, ◌⊎◌, ◌<◌, ◌++◌, ◌^◌, ◌==◌, ◌&&◌, ◌||◌, not, leb, Bool, true, false, ℕ, pos, List, [], ◌∷◌, Option, Some, None, MatchOption, IsSomeAnd, codes}
use Rattle.std.specs.List.{before_first, after_first}
use Rattle.rt_elf.specs.declared.flat.entry.Entry.{Entry}
use Rattle.rt_elf.specs.declared.flat.entry.Entry.TheVariants.{Address, Name}
use Rattle.rt_perform.specs.declared.request.LaidFile.{LaidFile}
use Rattle.rt_token.specs.Number.{number}
use Rattle.rt_waves.specs.Scale.{count_text, unit_text}
use Rattle.rt_waves.specs.declared.scale.Scale.{Scale}

-- `--timescale`: a count, and behind it a unit
abbrev pub scale_word : Scale → List ℕ
scale_word s = count_text s.count ++ unit_text s.unit

-- `--entry`: an address as in assembly text
abbrev pub IsAddress : List ℕ → ℕ → Type 0
IsAddress word address = (number word ≡ Some (pos address)) × (address < 2 ^ 32)

-- a word that is to be a number begins with a digit or a sign
abbrev pub is_numeric : List ℕ → Bool
is_numeric [] = false
is_numeric (b ∷ bs) = leb 48 b && leb b 57 || b == 45 || b == 43

-- the address that it spells, or else a name, where there is a list of names
abbrev pub MeansEntry : List ℕ → Bool → Option Entry → Type 0
MeansEntry word is_listed (Some (Address address)) = IsAddress word address
MeansEntry word is_listed (Some (Name name)) = (name.now ≡ word) × (is_listed ≡ true) × (is_numeric word ≡ false) × ((a : ℕ) → IsAddress word a → ⊥)
MeansEntry word is_listed None = (is_numeric word || not is_listed ≡ true) × ((a : ℕ) → IsAddress word a → ⊥)

-- a path, of which `-` is a device
abbrev pub IsPath : List ℕ → List ℕ → List ℕ → Type 0
IsPath device path file = ((path ≡ codes "-") × (file ≡ device)) ⊎ ((path ≢ codes "-") × (file ≡ path))

-- `--data`: what stands before the first `=`, and behind it
abbrev pub data_symbol : List ℕ → List ℕ
data_symbol word = before_first (λ b. b == 61) word

abbrev pub data_path : List ℕ → List ℕ
data_path word = after_first (λ b. b == 61) word

-- the file whose bytes are laid at a symbol
abbrev pub Lays : List ℕ → LaidFile → Type 0
Lays word f = (f.symbol.now ≡ data_symbol word) × (data_symbol word ≢ []) × (data_path word ≢ []) × IsPath (codes "/dev/stdin") (data_path word) f.path.now

-- the path of an argument, if it is given
abbrev pub MeansPath : List ℕ → Option (List ℕ) → Option (List ℕ) → Type 0
MeansPath device given found = MatchOption found (given ≡ None) (λ file. IsSomeAnd given (λ path. IsPath device path file))
