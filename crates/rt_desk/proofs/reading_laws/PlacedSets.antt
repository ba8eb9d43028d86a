-- Whether a file is a set in place of a system is decided by a line that has ended, whatever follows.
use Rattle.rt_desk.proofs.Common.{◌≡◌, ◌⊎◌, ℕ, ◌+◌, ◌<◌, ◌≤◌, ◌==◌, Bool, true, false, nat_eq, List, [], ◌∷◌, ◌++◌, length, take, drop, Option, Some, None, Result, Ok, Err, refl, sym, ap, subst, ◌∙◌, arith, inl, inr, cases_Bool, append_assoc, take-append-drop, length-slice_split, slice_split, count_by, strip_carriage_return, run, is_line_feed, lines_of_parts, block_size, first_said}
use Rattle.std.proofs.Common.{true≢false, map, find, if◌then◌else◌}
use Rattle.std.specs.Option.{option_map_or}
use Rattle.rt_set.specs.SetFile.{set_lines, says_something}
use Rattle.rt_set.specs.SetLines.{begins_set, is_set, set_of}
use Rattle.rt_desk.specs.reading.Extent.{may_begin_set, HasFaultyLine, IsNoSet}
use Rattle.rt_desk.proofs.reading_laws.BadStart.{begins_badly}
use Rattle.rt_desk.proofs.reading_laws.Lines.{joined, some_joined, split_append, over, over_ended, last_part, ended}
use Rattle.rt_desk.proofs.reading_laws.Systems.{flipped}
use Rattle.rt_desk.proofs.reading_laws.Sets.{set_step, none_read, set_by_parts, is_of_a_line, not_or, is_no_start, start_is}

abbrev text_of : ℕ × List ℕ → List ℕ
text_of l = l.1

-- the first line of these parts that says something
abbrev saying : ℕ → List (List ℕ) → Option (List ℕ)
saying place ps = find says_something (map text_of (lines_of_parts place ps))

first_saying : (x : List ℕ) (ls : List (List ℕ)) → says_something x ≡ true → find says_something (x ∷ ls) ≡ Some x
first_saying x ls says = rw says refl

first_silent : (x : List ℕ) (ls : List (List ℕ)) → says_something x ≡ false → find says_something (x ∷ ls) ≡ find says_something ls
first_silent x ls silent = rw silent refl

-- by a line that has ended
ended_saying : (place : ℕ) (x : List ℕ) (ps : List (List ℕ)) → 0 < length ps → says_something (strip_carriage_return x) ≡ true → saying place (x ∷ ps) ≡ Some (strip_carriage_return x)
ended_saying place x ps some says =
    ap (λ (ls : List (ℕ × List ℕ)). find says_something (map text_of ls)) (ended place x ps some)
    ∙ first_saying (strip_carriage_return x) (map text_of (lines_of_parts (place + length x + 1) ps)) says

ended_silent : (place : ℕ) (x : List ℕ) (ps : List (List ℕ)) → 0 < length ps → says_something (strip_carriage_return x) ≡ false → saying place (x ∷ ps) ≡ saying (place + length x + 1) ps
ended_silent place x ps some silent =
    ap (λ (ls : List (ℕ × List ℕ)). find says_something (map text_of ls)) (ended place x ps some)
    ∙ first_silent (strip_carriage_return x) (map text_of (lines_of_parts (place + length x + 1) ps)) silent

-- a line that is faulty says something, so a line up to it is the first that does
same_saying : (us : List (List ℕ)) (x : List ℕ) (xs : List (List ℕ)) (n k place : ℕ) → k < n + length xs
    → over (λ line _. line) set_step n none_read place (x ∷ xs) ≡ Err k → saying place (joined (x ∷ xs) us) ≡ saying place (x ∷ xs)
same_saying us x [] n k place before is = let late = last_part (λ line _. line) set_step (λ m. m) (λ m _. refl) n k none_read place x is in absurd (omega (arith, late, before))
same_saying us x (y ∷ zs) n k place before is =
    elim (cases_Bool (says_something (strip_carriage_return x))) [
      | inl says ↦ ended_saying place x (joined (y ∷ zs) us) (some_joined y zs us) says ∙ sym (ended_saying place x (y ∷ zs) (omega arith) says)
      | inr silent ↦
          let read : over (λ line _. line) set_step (n + 1) none_read (place + length x + 1) (y ∷ zs) ≡ Err k =
          rw silent at (sym (over_ended (λ line _. line) set_step n none_read place x (y ∷ zs) (omega arith)) ∙ is)
          in
          ended_silent place x (joined (y ∷ zs) us) (some_joined y zs us) silent ∙ same_saying us y zs (n + 1) k (place + length x + 1) (omega (arith, before)) read
          ∙ sym (ended_silent place x (y ∷ zs) (omega arith) silent)
    ]

same_said : (ps us : List (List ℕ)) (k : ℕ) → k + 1 ≤ length ps → over (λ line _. line) set_step 1 none_read 0 ps ≡ Err k → saying 0 (joined ps us) ≡ saying 0 ps
same_said [] us k some is = absurd (omega (arith, some))
same_said (x ∷ xs) us k some is = same_saying us x xs 1 k 0 (omega (arith, some)) is

ended_is_set : (lines rest : List ℕ) (k : ℕ) → k ≤ count_by (λ b. b == 10) lines → set_of lines ≡ Err k → is_set (lines ++ rest) ≡ is_set lines
ended_is_set lines rest k within refused =
    let first = set_by_parts lines in
    let count = length-slice_split is_line_feed lines in
    let fault = is_of_a_line first.0 k _ (omega (arith, within, count, first.2)) (sym first.1 ∙ refused) in
    ap (λ (found : Option (List ℕ)). option_map_or begins_set found false)
    (ap (saying 0) (split_append is_line_feed lines rest) ∙ same_said (slice_split is_line_feed lines) (slice_split is_line_feed rest) k (omega (arith, within, count)) fault)

faulty_is_set : (bytes more : List ℕ) → HasFaultyLine bytes → is_set (bytes ++ more) ≡ is_set bytes
faulty_is_set bytes more f =
    ap (λ (l : List ℕ). is_set (l ++ more)) f.parts ∙ ap is_set (append_assoc f.ended f.rest more) ∙ ended_is_set f.ended (f.rest ++ more) f.number f.within f.refused
    ∙ sym (ap is_set f.parts ∙ ended_is_set f.ended f.rest f.number f.within f.refused)

-- ---- the first byte that ends no line

-- whether a line that begins a set was seen
abbrev seen_step : Bool → ℕ × List ℕ → Result Bool (Unit {0})
seen_step true l = Ok true
seen_step false l = if says_something l.1 then (if begins_set l.1 then Ok true else Err tt) else Ok false

seen_on : (n k : ℕ) (ls : List (ℕ × List ℕ)) → run (λ line _. line) seen_step n true ls ≡ Err k → ⊥
seen_on n k [] is = cc
seen_on n k (l ∷ ls) is = seen_on (n + 1) k ls is

is_none : (n k : ℕ) (ls : List (ℕ × List ℕ)) → run (λ line _. line) seen_step n false ls ≡ Err k → option_map_or begins_set (find says_something (map text_of ls)) false ≡ false
is_none n k [] is = refl
is_none n k (l ∷ ls) is =
    elim (cases_Bool (says_something l.1)) [
      | inl says ↦
          elim (cases_Bool (begins_set l.1)) [
            | inl begins ↦ absurd (seen_on (n + 1) k ls (rw (says, begins) at is))
            | inr other ↦ rw (says, other) refl
          ]
      | inr silent ↦ rw silent (is_none (n + 1) k ls (rw silent at is))
    ]

not_h : (c : ℕ) → (c == 104) ≡ false → nat_eq 104 c ≡ false
not_h c other =
    elim (cases_Bool (nat_eq 104 c)) [
      | inl is ↦ absurd (true≢false (sym (flipped 104 c is) ∙ other))
      | inr isn't ↦ isn't
    ]

bad_seen : (q c : ℕ) (y : List ℕ) → is_no_start c ≡ true → seen_step false (q, c ∷ y) ≡ Err tt
bad_seen q c y bad = let neither = not_or (c == 35) (c == 104) bad in rw (neither.0, not_h c neither.1) refl

none_begins : (bytes more : List ℕ) (b : ℕ) → first_said bytes ≡ Some b → is_no_start b ≡ true → is_set (bytes ++ more) ≡ false
none_begins bytes more b said bad =
    let read = begins_badly seen_step false is_no_start (λ q. refl) bad_seen refl bytes b more 1 0 said bad in
    is_none 1 read.0 (lines_of_parts 0 (slice_split is_line_feed (bytes ++ more))) read.1

begins_is_set : (block others more : List ℕ) → may_begin_set (first_said block) ≡ false → is_set ((block ++ others) ++ more) ≡ is_set (block ++ others)
begins_is_set block others more bad =
    let first = start_is block bad in
    ap is_set (append_assoc block others more) ∙ none_begins block (others ++ more) first.0 first.1 first.2 ∙ sym (none_begins block others first.0 first.1 first.2)

pub is_set_law : (bytes more : List ℕ) → IsNoSet bytes → is_set (bytes ++ more) ≡ is_set bytes
is_set_law bytes more (inr faulty) = faulty_is_set bytes more faulty
is_set_law bytes more (inl bad) =
    subst (λ (l : List ℕ). is_set (l ++ more) ≡ is_set l) (take-append-drop block_size bytes) (begins_is_set (take block_size bytes) (drop block_size bytes) more bad)
