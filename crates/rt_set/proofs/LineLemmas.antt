-- How the first line of a text is read, and then the others.
use Rattle.std.proofs.Common.{◌≡◌, ℕ, ◌+◌, ◌-◌, List, [], ◌∷◌, map, length, refl, ap, ◌∙◌, arith, Bool, true, false, Some}
use Rattle.std.specs.Prelude.{Result, ◌==◌, if◌then◌else◌}
use Rattle.std.specs.List.{slice_split}
use Rattle.std.specs.Str.Lines.{strip_carriage_return}
use Rattle.rt_token.specs.SourceLines.{is_line_feed, lines_of_parts, source_lines}
use Rattle.rt_set.specs.SetFile.{SetEntries, set_lines}
use Rattle.rt_set.specs.SetLines.{Draft, after_line, read_from, finished}

last_line : (empty : Bool) (p q : ℕ) (part : List ℕ) → map (λ (line : ℕ × List ℕ). line.1) (if empty then [] else (p, part) ∷ []) ≡ map (λ (line : ℕ × List ℕ). line.1) (if empty then [] else (q, part) ∷ [])
last_line true p q part = refl
last_line false p q part = refl

-- where a text lies doesn't matter to its lines
any_place : (p q : ℕ) (parts : List (List ℕ)) → map (λ (line : ℕ × List ℕ). line.1) (lines_of_parts p parts) ≡ map (λ (line : ℕ × List ℕ). line.1) (lines_of_parts q parts)
any_place p q [] = refl
any_place p q (part ∷ []) = last_line (length part == 0) p q part
any_place p q (part ∷ another ∷ more) =
    ap (λ lines. strip_carriage_return part ∷ lines) (any_place (p + length part + 1) (q + length part + 1) (another ∷ more))

pub first_line : (text line after : List ℕ) → ((place : ℕ) → source_lines place text ≡ (place, line) ∷ source_lines (place + (length text - length after)) after) → set_lines text ≡ line ∷ set_lines after
first_line text line after first =
    ap (map (λ (line : ℕ × List ℕ). line.1)) (first 0)
    ∙ ap (λ lines. line ∷ lines) (any_place (0 + (length text - length after)) 0 (slice_split is_line_feed after))

read_on : (n : ℕ) (d e : Draft) (line : List ℕ) (lines : List (List ℕ)) → after_line d line ≡ Some e → read_from n d (line ∷ lines) ≡ read_from (n + 1) e lines
read_on n d e line lines taken = rw taken refl

pub next_line : (read : Result SetEntries ℕ) (n : ℕ) (d e : Draft) (text line after : List ℕ) → ((place : ℕ) → source_lines place text ≡ (place, line) ∷ source_lines (place + (length text - length after)) after)
    → after_line d line ≡ Some e → read ≡ finished (n + length (set_lines text)) (read_from n d (set_lines text))
    → read ≡ finished (n + 1 + length (set_lines after)) (read_from (n + 1) e (set_lines after))
next_line read n d e text line after first taken before =
    let lines = first_line text line after first in
    let count : n + length (set_lines text) ≡ n + 1 + length (set_lines after) = omega (arith, ap length lines) in
    let same = ap (read_from n d) lines ∙ read_on n d e line (set_lines after) taken in
    before ∙ (λ i. finished (count i) (same i))
