-- A source whose last line is too long already is refused for it, or for a line before it.
use Rattle.rt_desk.proofs.Common.{◌≡◌, ◌⊎◌, ℕ, ◌+◌, ◌<◌, ◌≤◌, ◌==◌, true, false, nat_lt, List, [], ◌∷◌, ◌++◌, length, take, drop, Result, Err, refl, sym, ap, subst, ◌∙◌, arith, inl, inr, cases_Bool, lt-ltb, ne_eqb, append_assoc, length-append, length-drop, take-append-drop, length-slice_split, slice_split, count_by, strip_carriage_return, run, is_line_feed, lines_of_parts}
use Rattle.std.proofs.Common.{◌-◌, All, Contains, slice_index, slice_index_or}
use Rattle.std.proofs.lemmas.List.{get_or_default, length-take-le}
use Rattle.std.proofs.lemmas.List.Splits.{slice_split_none}
use Rattle.rt_words.specs.Limits.{line_limit}
use Rattle.rt_text.specs.Line.{SourceLine}
use Rattle.rt_text.specs.Statement.{line_at}
use Rattle.rt_text.specs.Text.{appended, fault_at, text_lines}
use Rattle.rt_text.specs.declared.fault.TextKind.{TextKind}
use Rattle.rt_text.specs.declared.fault.TextKind.TheVariants.{LineTooLong}
use Rattle.rt_text.specs.declared.fault.TextFault.{TextFault}
use Rattle.rt_desk.specs.reading.Extent.{HasFaultyText}
use Rattle.rt_desk.proofs.reading_laws.Lines.{joined, split_append, over, same_front, ended_fault}

abbrev read_line : List SourceLine → ℕ × List ℕ → Result (List SourceLine) TextKind
read_line before line = appended before (line_at line.0 line.1)

pub length_strip : (x : List ℕ) → length x ≤ length (strip_carriage_return x) + 1
length_strip x =
    elim (cases_Bool (slice_index x (length x - 1) == 13)) [
      | inl cut ↦ rw cut (omega (arith, length-take-le (length x - 1) x (omega arith)))
      | inr whole ↦ rw whole (omega arith)
    ]

refused : (n : ℕ) (before : List SourceLine) (place : ℕ) (x : List ℕ) (rest : List (ℕ × List ℕ)) → line_limit < length x
    → run fault_at read_line n before ((place, x) ∷ rest) ≡ Err (fault_at n LineTooLong)
refused n before place x rest long = let is : nat_lt line_limit (length x) ≡ true = lt-ltb line_limit (length x) long in rw is refl

too_long : (n : ℕ) (before : List SourceLine) (place : ℕ) (x : List ℕ) (ws : List (List ℕ)) → line_limit + 1 < length x
    → over fault_at read_line n before place (x ∷ ws) ≡ Err (fault_at n LineTooLong)
too_long n before place x [] long =
    let some : (length x == 0) ≡ false = ne_eqb (length x) 0 (λ none. omega (arith, long, none)) in rw some (refused n before place x [] (omega (arith, long)))
too_long n before place x (w ∷ ws) long = refused n before place (strip_carriage_return x) (lines_of_parts (place + length x + 1) (w ∷ ws)) (omega (arith, long, length_strip x))

-- lines before the last, and a last one that is too long however it ends
last_line : (ps us vs : List (List ℕ)) → 0 < length ps → (u v : List ℕ) (more others : List (List ℕ)) → us ≡ u ∷ more → vs ≡ v ∷ others
    → line_limit + 1 < length u → line_limit + 1 < length v → over fault_at read_line 1 [] 0 (joined ps us) ≡ over fault_at read_line 1 [] 0 (joined ps vs)
last_line [] us vs some u v more others is_us is_vs long_u long_v = absurd (omega (arith, some))
last_line (x ∷ xs) us vs some u v more others is_us is_vs long_u long_v =
    same_front fault_at read_line us vs (λ m t q y.
    rw (is_us, is_vs) (too_long m t q (y ++ u) more (omega (arith, long_u, length-append y u)) ∙ sym (too_long m t q (y ++ v) others (omega (arith, long_v, length-append y v))))) x xs 1 [] 0

-- a text that no line feed ends goes on in the first part of what follows
goes_on : (tail : List ℕ) (ws : List (List ℕ)) → 0 < length ws → (w : List ℕ) × (others : List (List ℕ)) × (joined (tail ∷ []) ws ≡ (tail ++ w) ∷ others)
goes_on tail [] some = absurd (omega (arith, some))
goes_on tail (w ∷ ws) some = (w, ws, refl)

source_parts : (front tail more : List ℕ) → All (λ b. is_line_feed b ≡ false) tail → line_limit + 1 < length tail
    → text_lines ((front ++ tail) ++ more) ≡ text_lines (front ++ tail)
source_parts front tail more unended long =
    let one = slice_split_none is_line_feed tail unended in
    let others = goes_on tail (slice_split is_line_feed more) (omega (arith, length-slice_split is_line_feed more)) in
    let longer : slice_split is_line_feed (tail ++ more) ≡ (tail ++ others.0) ∷ others.1 =
    split_append is_line_feed tail more ∙ ap (λ (ps : List (List ℕ)). joined ps (slice_split is_line_feed more)) one ∙ others.2 in
    ap text_lines (append_assoc front tail more)
    ∙ ap (over fault_at read_line 1 [] 0) (split_append is_line_feed front (tail ++ more))
    ∙ last_line (slice_split is_line_feed front) (slice_split is_line_feed (tail ++ more)) (slice_split is_line_feed tail)
    (omega (arith, length-slice_split is_line_feed front)) (tail ++ others.0) tail others.1 [] longer one
    (omega (arith, long, length-append tail others.0)) long
    ∙ sym (ap (over fault_at read_line 1 [] 0) (split_append is_line_feed front tail))

no_line_ends : (xs : List ℕ) → (Contains xs 10 → ⊥) → All (λ b. is_line_feed b ≡ false) xs
no_line_ends xs none k d within = ne_eqb (slice_index_or xs k d) 10 (λ is. none (k, within, get_or_default xs k 10 d within ∙ is))

long_law : (bytes more : List ℕ) → line_limit + 2 ≤ length bytes → (Contains (drop (length bytes - (line_limit + 2)) bytes) 10 → ⊥) → text_lines (bytes ++ more) ≡ text_lines bytes
long_law bytes more big enough =
    let n = length bytes - (line_limit + 2) in
    let whole : take n bytes ++ drop n bytes ≡ bytes = take-append-drop n bytes in
    let long : line_limit + 1 < length (drop n bytes) = omega (arith, big, length-drop n bytes) in
    subst (λ (l : List ℕ). text_lines (l ++ more) ≡ text_lines l) whole (source_parts (take n bytes) (drop n bytes) more (no_line_ends (drop n bytes) enough) long)

ended_text : (lines rest : List ℕ) (fault : TextFault) → fault.line ≤ count_by (λ b. b == 10) lines → text_lines lines ≡ Err fault → text_lines (lines ++ rest) ≡ Err fault
ended_text lines rest fault within is =
    let count = length-slice_split is_line_feed lines in
    ap (over fault_at read_line 1 [] 0) (split_append is_line_feed lines rest)
    ∙ ended_fault fault_at read_line (λ f. f.line) (λ n _. refl) (slice_split is_line_feed lines) (slice_split is_line_feed rest) fault [] (omega (arith, within, count)) is

faulty_law : (bytes more : List ℕ) → HasFaultyText bytes → text_lines (bytes ++ more) ≡ text_lines bytes
faulty_law bytes more f =
    ap (λ (l : List ℕ). text_lines (l ++ more)) f.parts ∙ ap text_lines (append_assoc f.ended f.rest more) ∙ ended_text f.ended (f.rest ++ more) f.fault f.within f.refused
    ∙ sym (ap text_lines f.parts ∙ ended_text f.ended f.rest f.fault f.within f.refused)

pub source_law : (bytes more : List ℕ) → line_limit + 2 ≤ length bytes → (Contains (drop (length bytes - (line_limit + 2)) bytes) 10 → ⊥) ⊎ HasFaultyText bytes
    → text_lines (bytes ++ more) ≡ text_lines bytes
source_law bytes more big (inl enough) = long_law bytes more big enough
source_law bytes more big (inr faulty) = faulty_law bytes more faulty
