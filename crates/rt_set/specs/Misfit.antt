-- Which word of a set line is refused: the first that isn't what the lines before it allow there.
use Rattle.std.specs.Prelude.{ℕ, ◌+◌, ◌-◌, ◌==◌, ◌||◌, nat_le, length, List, [], ◌∷◌, codes, drop, Bool, true, false, Option, Some, None, if◌then◌else◌}
use Rattle.std.specs.Option.{option_map}
use Rattle.std.specs.Str.{bytes_eq}
use Rattle.rt_words.specs.Found.{when}
use Rattle.rt_words.specs.Limits.{is_ram_size}
use Rattle.rt_token.specs.SpacedWords.{word_at, decimal_up_to}
use Rattle.rt_image.specs.SystemFile.{task_limit}
use Rattle.rt_set.specs.SetFile.{SetEntries, task_word}
use Rattle.rt_set.specs.SetLines.{number_limit, path_of}
use Rattle.rt_set.specs.declared.misfits.WordKind.{WordKind}
use Rattle.rt_set.specs.declared.misfits.WordKind.TheVariants.{Hyper, Ticks, End, Task, Budget, Period, Start, Ram, Path, Nothing}
use Rattle.rt_set.specs.declared.misfits.Misfit.{Misfit}

abbrev pub is_found : {A : Type 0} → Option A → Bool
is_found None = false
is_found (Some x) = true

abbrev pub is_ram : Option ℕ → Bool
is_ram None = false
is_ram (Some size) = is_ram_size size

-- a word, and what stands behind the space that ends it; none where the line ends with the word
abbrev pub cut_by : List ℕ → Option (List ℕ × List ℕ) → List ℕ × Option (List ℕ)
cut_by rest (Some x) = (x.0, Some x.1)
cut_by rest None = (rest, None)

abbrev pub cut : List ℕ → List ℕ × Option (List ℕ)
cut rest = cut_by rest (word_at rest)

-- a word between single spaces is what it is to be
abbrev pub is_right : WordKind → List ℕ → Bool
is_right Hyper word = bytes_eq word (codes "hyper")
is_right Ticks word = is_found (decimal_up_to number_limit word)
is_right End word = false
is_right Task word = bytes_eq word (task_word false) || bytes_eq word (task_word true)
is_right Budget word = is_found (decimal_up_to number_limit word)
is_right Period word = is_found (decimal_up_to number_limit word)
is_right Start word = is_found (decimal_up_to number_limit word)
is_right Ram word = is_ram (decimal_up_to number_limit word)
is_right Path word = false
is_right Nothing word = false

-- what is left of a line behind a word that is what it is to be: a path is all that was left
abbrev pub behind_word : WordKind → List ℕ → Option (Option (List ℕ))
behind_word Path rest = when (is_found (path_of rest)) None
behind_word kind rest = when (is_right kind (cut rest).0) (cut rest).1

abbrev pub at_end : WordKind → Option (Option (List ℕ))
at_end End = Some None
at_end _ = None

abbrev pub behind : WordKind → Option (List ℕ) → Option (Option (List ℕ))
behind kind None = at_end kind
behind kind (Some rest) = behind_word kind rest

abbrev pub or_here : WordKind → Option (List ℕ) → Option (Option (List ℕ)) → (Option (List ℕ) → Option (WordKind × Option (List ℕ))) → Option (WordKind × Option (List ℕ))
or_here kind left None later = Some (kind, left)
or_here kind left (Some next) later = later next

-- the first word that isn't what it is to be, and what is left of the line from there on
abbrev pub misfit_in : List WordKind → Option (List ℕ) → Option (WordKind × Option (List ℕ))
misfit_in [] left = None
misfit_in (kind ∷ kinds) left = or_here kind left (behind kind left) (λ next. misfit_in kinds next)

-- what the words of a line are to be behind so many lines that say something
abbrev pub form_after : ℕ → List WordKind
form_after said =
    if said == 0 then Hyper ∷ Ticks ∷ End ∷ []
    else (if nat_le said task_limit then Task ∷ Budget ∷ Period ∷ Start ∷ Ram ∷ Path ∷ [] else Nothing ∷ [])

-- the bytes that are left
abbrev pub rest_of : Option (List ℕ) → List ℕ
rest_of None = []
rest_of (Some rest) = rest

-- where a word begins that so many bytes stand before: the blank belongs to what stands where a line is to end
abbrev pub start_of : WordKind → ℕ → ℕ
start_of End place = place - 1
start_of _ place = place

-- the bytes of the word at the front of others
abbrev pub word_in : WordKind → List ℕ → List ℕ
word_in Path tail = tail
word_in End tail = tail
word_in _ tail = (cut tail).0

pub record MisfitEntry : Type 0 where
  pub kind : WordKind
  pub start : ℕ
  pub word : List ℕ

abbrev pub entry_at : List ℕ → WordKind → ℕ → MisfitEntry
entry_at line kind start = record { kind = kind; start = start; word = word_in kind (drop start line) }

-- the word for which a line is refused behind so many lines that say something
abbrev pub misfit_of : ℕ → List ℕ → Option MisfitEntry
misfit_of said line =
    option_map (λ x. entry_at line x.0 (start_of x.0 (length line - length (rest_of x.1)))) (misfit_in (form_after said) (Some line))

-- how many lines say something where they say this together
abbrev pub said_by : Option SetEntries → ℕ
said_by None = 0
said_by (Some s) = 1 + length s.tasks

-- what the program's values stand for
abbrev pub misfit_entry : Misfit → MisfitEntry
misfit_entry m = record { kind = m.kind; start = m.start; word = m.word.now }
