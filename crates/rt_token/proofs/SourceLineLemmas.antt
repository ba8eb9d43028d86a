-- How a text's first line is cut off.
use Rattle.std.proofs.Common.{◌≡◌, ℕ, ◌+◌, ◌-◌, ◌<◌, ◌≤◌, List, [], ◌∷◌, length, refl, sym, ◌∙◌, ap, take, drop, arith, length-take-le, length-drop, eqb, Bool, suc, Option, None, Some}
use Rattle.std.specs.List.{position_or_len, slice_split}
use Rattle.std.specs.Str.Lines.{strip_carriage_return}
use Rattle.std.proofs.lemmas.Bool.{false_from_ne_true}
use Rattle.std.proofs.lemmas.List.Splits.{length-slice_split}
use Rattle.std.proofs.lemmas.List.Sums.{position_or_len_is}
use Rattle.std.specs.Option.{unwrap_or}
use Rattle.memchr.specs.Find.{IsFirstByte, is_byte}
use Rattle.rt_token.specs.SourceLines.{lines_of_parts, source_lines}
use Rattle.rt_token.proofs.PartLemmas.{first_part, last_part, no_item}

-- a byte that ends a line
abbrev ends_line : ℕ → Bool
ends_line b = eqb b 10

before_others : (place : ℕ) (part : List ℕ) (parts : List (List ℕ)) → 0 < length parts → lines_of_parts place (part ∷ parts) ≡ (place, strip_carriage_return part) ∷ lines_of_parts (place + length part + 1) parts
before_others place part [] some = absurd (omega arith)
before_others place part (another ∷ more) some = refl

-- a line that a line feed ends
pub ended_line : (text line shown after left : List ℕ) (n b : ℕ) → n ≡ position_or_len (λ c. eqb c 10) text → n ≤ length text → line ≡ take n text → left ≡ drop n text → left ≡ b ∷ after → shown ≡ strip_carriage_return line → (place : ℕ) → source_lines place text ≡ (place, shown) ∷ source_lines (place + (length text - length after)) after
ended_line text line shown after left n b is_n within is_line is_left is_cut is_shown place =
    let rest : drop (position_or_len ends_line text) text ≡ b ∷ after = ap (λ k. drop k text) (sym is_n) ∙ sym is_left ∙ is_cut in
    let parts : slice_split ends_line text ≡ line ∷ slice_split ends_line after = first_part ends_line text b after rest ∙ ap (λ l. l ∷ slice_split ends_line after) (ap (λ k. take k text) (sym is_n) ∙ sym is_line) in
    let some : 0 < length (slice_split ends_line after) = omega (arith, length-slice_split ends_line after) in
    let size : length line ≡ n = ap length is_line ∙ length-take-le n text within in
    let left_size : length left ≡ length text - n = ap length is_left ∙ length-drop n text in
    let cut_size : length left ≡ suc (length after) = ap length is_cut in
    let next : place + length line + 1 ≡ place + (length text - length after) = omega arith in
    ap (lines_of_parts place) parts ∙ before_others place line (slice_split ends_line after) some ∙ (λ i. (place, sym is_shown i) ∷ lines_of_parts (next i) (slice_split ends_line after))

alone : (place : ℕ) (text : List ℕ) → 0 < length text → lines_of_parts place (text ∷ []) ≡ (place, text) ∷ []
alone place [] some = absurd (omega arith)
alone place (b ∷ bs) some = grind arith

-- the last line of a text, where nothing ends it
pub open_line : (text line left : List ℕ) (n : ℕ) → n ≡ position_or_len (λ c. eqb c 10) text → line ≡ take n text → left ≡ drop n text → length left ≡ 0 → 0 < length text → n ≤ length text → (place : ℕ) → source_lines place text ≡ (place, line) ∷ source_lines (place + (length text - length left)) left
open_line text line left n is_n is_line is_left none some within place =
    let empty : left ≡ [] = no_item left none in
    let rest : drop (position_or_len ends_line text) text ≡ [] = ap (λ k. drop k text) (sym is_n) ∙ sym is_left ∙ empty in
    let parts : slice_split ends_line text ≡ line ∷ [] = last_part ends_line text rest ∙ ap (λ l. l ∷ []) (ap (λ k. take k text) (sym is_n) ∙ sym is_line) in
    let left_size : length left ≡ length text - n = ap length is_left ∙ length-drop n text in
    let size : length line ≡ n = ap length is_line ∙ length-take-le n text within in
    let filled : 0 < length line = omega arith in
    ap (lines_of_parts place) parts ∙ alone place line filled ∙ sym (ap (λ l. (place, line) ∷ source_lines (place + (length text - length l)) l) empty)

-- the first line feed, or the end of the text, as a search finds it
pub first_line_feed : (text : List ℕ) (found : Option ℕ) → IsFirstByte (is_byte 10) text found → unwrap_or found (length text) ≡ position_or_len ends_line text
first_line_feed text None nowhere =
    sym (position_or_len_is ends_line text (length text) 0 (omega arith) (λ k low. false_from_ne_true _ (nowhere k (omega arith) low)) (λ low. absurd (omega arith)))
first_line_feed text (Some n) here =
    sym (position_or_len_is ends_line text n 0 (omega (arith, here.0.high)) (λ k low. false_from_ne_true _ (here.0.before k (omega arith) low)) (λ low. here.1))

pub first_line_feed_within : (text : List ℕ) (found : Option ℕ) → IsFirstByte (is_byte 10) text found → unwrap_or found (length text) ≤ length text
first_line_feed_within text None nowhere = omega arith
first_line_feed_within text (Some n) here = omega (arith, here.0.high)
