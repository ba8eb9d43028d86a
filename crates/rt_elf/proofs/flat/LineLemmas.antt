-- How the first line of a text is read, and then the others.
use Rattle.rt_elf.proofs.Common.{◌≡◌, ℕ, ◌+◌, ◌-◌, List, [], ◌∷◌, map, length, refl, ap, ◌∙◌, Bool, true, false, Some, None, Err, ◌==◌, if◌then◌else◌, Named, names_from, name_lines}
use Rattle.std.specs.Prelude.{Result}
use Rattle.std.specs.List.{slice_split}
use Rattle.std.specs.Str.Lines.{strip_carriage_return}
use Rattle.rt_token.specs.SourceLines.{is_line_feed, lines_of_parts, source_lines}
use Rattle.rt_elf.specs.flat.FlatNames.{after_line}

last_line : (empty : Bool) (p q : ℕ) (part : List ℕ) → map (λ (line : ℕ × List ℕ). line.1) (if empty then [] else (p, part) ∷ []) ≡ map (λ (line : ℕ × List ℕ). line.1) (if empty then [] else (q, part) ∷ [])
last_line true p q part = refl
last_line false p q part = refl

-- where a text lies doesn't matter to its lines
any_place : (p q : ℕ) (parts : List (List ℕ)) → map (λ (line : ℕ × List ℕ). line.1) (lines_of_parts p parts) ≡ map (λ (line : ℕ × List ℕ). line.1) (lines_of_parts q parts)
any_place p q [] = refl
any_place p q (part ∷ []) = last_line (length part == 0) p q part
any_place p q (part ∷ another ∷ more) =
    ap (λ lines. strip_carriage_return part ∷ lines) (any_place (p + length part + 1) (q + length part + 1) (another ∷ more))

pub first_line : (text line after : List ℕ) → ((place : ℕ) → source_lines place text ≡ (place, line) ∷ source_lines (place + (length text - length after)) after) → name_lines text ≡ line ∷ name_lines after
first_line text line after first =
    ap (map (λ (line : ℕ × List ℕ). line.1)) (first 0)
    ∙ ap (λ lines. line ∷ lines) (any_place (0 + (length text - length after)) 0 (slice_split is_line_feed after))

read_on : (size n : ℕ) (d e : Named) (line : List ℕ) (lines : List (List ℕ)) → after_line size d line ≡ Some e → names_from size n d (line ∷ lines) ≡ names_from size (n + 1) e lines
read_on size n d e line lines taken = rw taken refl

pub next_line : (read : Result Named ℕ) (size n : ℕ) (d e : Named) (text line after : List ℕ) → ((place : ℕ) → source_lines place text ≡ (place, line) ∷ source_lines (place + (length text - length after)) after)
    → after_line size d line ≡ Some e → read ≡ names_from size n d (name_lines text) → read ≡ names_from size (n + 1) e (name_lines after)
next_line read size n d e text line after first taken before =
    before ∙ ap (names_from size n d) (first_line text line after first) ∙ read_on size n d e line (name_lines after) taken

stop_there : (size n : ℕ) (d : Named) (line : List ℕ) (lines : List (List ℕ)) → after_line size d line ≡ None → names_from size n d (line ∷ lines) ≡ Err n
stop_there size n d line lines faulty = rw faulty refl

pub faulty_line : (read : Result Named ℕ) (size n : ℕ) (d : Named) (text line after : List ℕ) → ((place : ℕ) → source_lines place text ≡ (place, line) ∷ source_lines (place + (length text - length after)) after)
    → after_line size d line ≡ None → read ≡ names_from size n d (name_lines text) → read ≡ Err n
faulty_line read size n d text line after first faulty before =
    before ∙ ap (names_from size n d) (first_line text line after first) ∙ stop_there size n d line (name_lines after) faulty
