-- The name that the path of a file gives to the entry of an object: its stem.
use Rattle.std.specs.Prelude.{◌≡◌, ℕ, ◌==◌, ◌&&◌, not, nat_eq, nat_le, Bool, false, List, [], ◌∷◌, length, codes, Option, Some, None, Ok}
use Rattle.std.specs.Char.{is_ascii_alphabetic}
use Rattle.std.specs.Global.{Vec}
use Rattle.std.specs.List.{before_first, after_last, starts_with}
use Rattle.std.specs.Option.{is_none}
use Rattle.std.specs.Result.{is_ok}
use Rattle.rt_words.specs.Found.{◌>>=◌, when}
use Rattle.rt_token.specs.Word.{is_word}
use Rattle.rt_image.specs.ObjectFile.{ObjectValue}
use Rattle.rt_image.specs.ObjectReading.{spelled_object}
use Rattle.rt_names.specs.TaskName.{own_namer}
use Rattle.rt_elf.specs.naming.NamedEntry.{named, NamesFile}

-- what stands behind the last `/` of a path, or all of it
abbrev pub file_name : List ℕ → List ℕ
file_name path = after_last (λ b. b == 47) path

-- that up to its first `.`, or all of it
abbrev pub stem : List ℕ → List ℕ
stem path = before_first (λ b. b == 46) (file_name path)

-- a device of the host, as `/dev/stdout`, isn't named after what it holds
abbrev pub is_device : List ℕ → Bool
is_device path = starts_with nat_eq path (codes "/dev/")

abbrev pub begins_with_letter : List ℕ → Bool
begins_with_letter [] = false
begins_with_letter (b ∷ bs) = is_ascii_alphabetic b

-- a word that begins with a letter, of at most 64 bytes
abbrev pub may_be_name : List ℕ → Bool
may_be_name name = begins_with_letter name && (is_word name && nat_le (length name) 64)

-- the stem of a path, where it may be a name
abbrev pub stem_name : List ℕ → Option (List ℕ)
stem_name path = when (not (is_device path) && may_be_name (stem path)) (stem path)

-- a name for an object's entry, where no symbol there names a task, and the object can have it
abbrev pub new_name : ObjectValue → List ℕ → Option (List ℕ)
new_name o name = when (is_none (own_namer o) && is_ok (named name o)) name

-- the name that an object gets by a path, if it gets one
abbrev pub path_name : List ℕ → ObjectValue → Option (List ℕ)
path_name path o = stem_name path >>= new_name o

-- the object file with that name, or as it is
abbrev pub HasName : Option (List ℕ) → List ℕ → Vec ℕ → Type 0
HasName None file named = named.items ≡ file
HasName (Some name) file named = NamesFile file name (Ok named)

-- what an object file comes to by a path
abbrev pub NamesByPath : List ℕ → List ℕ → Vec ℕ → Type 0
NamesByPath path file named = (o : ObjectValue) × (spelled_object file ≡ Ok o) × HasName (path_name path o) file named
