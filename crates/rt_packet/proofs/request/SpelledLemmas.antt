-- What is written for an id, an action or a line is read as it.
use Rattle.rt_packet.proofs.Common.{◌≡◌, ◌≢◌, ℕ, ◌+◌, ◌-◌, ◌%◌, ◌^◌, ◌<◌, ◌≤◌, true, false, eqb, leb, ltb, List, [], ◌∷◌, length, Some, refl, sym, ap, subst, ◌∙◌, inl, inr, arith, eq-eqb, ne_eqb, is_digit, list_all, is_some, bytes_eq, and_parts, Tasks, cut_at, long_number, two_numbers, part_of, parts, resumed, hex_bytes, hex_line}
use Rattle.std.proofs.Common.{le-leb, le-ltb}
use Rattle.std.specs.Prelude.{codes}
use Rattle.std.specs.List.{filter_map}
use Rattle.std.specs.Str.Parse.{AllDigits, digits_value}
use Rattle.std.proofs.Math.Nat.{pow-le-pow_right}
use Rattle.std.proofs.lemmas.Bool.{ltb-true}
use Rattle.std.proofs.lemmas.Int.Digits.{digits_value-lt}
use Rattle.rt_token.specs.Number.{are_digits}
use Rattle.rt_packet.specs.declared.request.actions.Action.{Action}
use Rattle.rt_packet.specs.declared.request.actions.Action.TheVariants as actions
use Rattle.rt_packet.specs.declared.request.ids.Tasks.TheVariants.{All, One}
use Rattle.rt_packet.specs.request.Numbers.{hexadecimal, short_number}
use Rattle.rt_packet.specs.request.Ids.{id_part, numbered, both_parts, parts_or_one, in_process, tasks_of}
use Rattle.rt_packet.specs.request.Actions.{action_text, with_or_without}
use Rattle.rt_packet.specs.request.SpelledParts.{Lacks, IsHexadecimal, IsTwo, IsPart, IsThread, IsBoth, IsId, IsSignalled, IsAction, IsActionFor, AreActions, IsHexLine}
use Rattle.rt_packet.proofs.request.MarkLemmas.{lacks_digits, lacks_join, cut_again, cut_none, one_part, first_part, other_byte}

-- ---- numbers

digits_all : (ds : List ℕ) → list_all (λ d. is_digit d 16) ds ≡ true → AllDigits 16 ds
digits_all [] all = tt
digits_all (d ∷ ds) all =
    let h = and_parts (is_digit d 16) (list_all (λ d. is_digit d 16) ds) all in
    (ltb-true _ _ h.0, digits_all ds h.1)

digits_of : (text : List ℕ) → are_digits 16 text ≡ true → list_all (λ d. is_digit d 16) text ≡ true
digits_of text digits = (and_parts (ltb 0 (length text)) (list_all (λ d. is_digit d 16) text) digits).1

pub number_again : (most limit : ℕ) (text : List ℕ) (n : ℕ) → 16 ^ most ≤ limit + 1 → IsHexadecimal most text n
    → hexadecimal most limit text ≡ Some n
number_again most limit text n room (digits, short, is) =
    let below : digits_value 16 text < 16 ^ length text = digits_value-lt 16 text (digits_all text (digits_of text digits)) in
    let grown : 16 ^ length text ≤ 16 ^ most = pow-le-pow_right (omega arith) short in
    let fits : leb (digits_value 16 text) limit ≡ true = le-leb _ _ (omega (arith, below, grown, room)) in
    rw (le-ltb most (length text) short, digits, fits) (ap Some is)

pub long_again : (text : List ℕ) (n : ℕ) → IsHexadecimal 16 text n → long_number text ≡ Some n
long_again text n h = number_again 16 (2 ^ 64 - 1) text n (omega arith) h

short_again : (text : List ℕ) (n : ℕ) → IsHexadecimal 8 text n → short_number text ≡ Some n
short_again text n h = number_again 8 (2 ^ 32 - 1) text n (omega arith) h

pub two_again : (text : List ℕ) (a n : ℕ) → IsTwo text a n → two_numbers text ≡ Some (a, n)
two_again text a n (first, second, is, one, two) =
    let cut : cut_at 44 text ≡ Some (first, second) =
    ap (cut_at 44) is ∙ cut_again 44 first second (lacks_digits 44 first refl (digits_of first one.0)) in
    rw (cut, long_again first a one, long_again second n two) refl

-- ---- ids

no_minus : (text : List ℕ) → list_all (λ d. is_digit d 16) text ≡ true → bytes_eq text (codes "-1") ≡ false
no_minus [] all = refl
no_minus (d ∷ ds) all =
    let other : eqb d 45 ≡ false = ne_eqb d 45 (lacks_digits 45 (d ∷ ds) refl all).0 in rw other refl

read_part : (text : List ℕ) (n : ℕ) → IsHexadecimal 8 text n → id_part text ≡ Some (numbered n)
read_part text n h = rw (no_minus text (digits_of text h.0), short_again text n h) refl

next_number : (i : ℕ) → numbered (i + 1) ≡ One i
next_number i =
    let some : eqb (i + 1) 0 ≡ false = ne_eqb (i + 1) 0 (λ e. omega (arith, e)) in
    let less : i + 1 - 1 ≡ i = omega arith in
    rw (some, less) refl

part_again : (text : List ℕ) (tasks : Tasks) → IsPart text tasks → id_part text ≡ Some tasks
part_again text All (inl is) = ap id_part is
part_again text All (inr h) = read_part text 0 h
part_again text (One i) h = read_part text (i + 1) h ∙ ap Some (next_number i)

lacks_part : (mark : ℕ) (text : List ℕ) (tasks : Tasks) → is_digit mark 16 ≡ false → 45 ≢ mark → 49 ≢ mark → IsPart text tasks
    → Lacks mark text
lacks_part mark text All out minus one (inl is) = subst (Lacks mark) (sym is) (minus, (one, tt))
lacks_part mark text All out minus one (inr h) = lacks_digits mark text out (digits_of text h.0)
lacks_part mark text (One i) out minus one h = lacks_digits mark text out (digits_of text h.0)

both_again : (process thread : List ℕ) (tasks : Tasks) → IsPart process tasks → IsThread thread tasks
    → both_parts (process, thread) ≡ Some tasks
both_again process thread All one (tasks, two) = rw (part_again process All one, part_again thread tasks two) refl
both_again process thread (One i) one (inl two) = rw (part_again process (One i) one, part_again thread All two) refl
both_again process thread (One i) one (inr two) =
    rw (part_again process (One i) one, part_again thread (One i) two, eq-eqb i i refl) refl

process_again : (text : List ℕ) (tasks : Tasks) → IsPart text tasks → in_process text ≡ Some tasks
process_again text tasks h =
    let lacks = lacks_part 46 text tasks refl (λ e. omega (arith, e)) (λ e. omega (arith, e)) h in
    ap (parts_or_one text) (cut_none 46 text lacks) ∙ part_again text tasks h

thread_again : (text : List ℕ) (tasks : Tasks) → IsBoth text tasks → in_process text ≡ Some tasks
thread_again text tasks (process, thread, is, one, two) =
    let lacks = lacks_part 46 process tasks refl (λ e. omega (arith, e)) (λ e. omega (arith, e)) one in
    ap (parts_or_one text) (ap (cut_at 46) is ∙ cut_again 46 process thread lacks) ∙ both_again process thread tasks one two

alone_again : (text : List ℕ) (tasks : Tasks) → IsPart text tasks → tasks_of text ≡ Some tasks
alone_again [] tasks h = part_again [] tasks h
alone_again (b ∷ bs) tasks h =
    let lacks = lacks_part 112 (b ∷ bs) tasks refl (λ e. omega (arith, e)) (λ e. omega (arith, e)) h in
    let other : eqb b 112 ≡ false = ne_eqb b 112 lacks.0 in
    rw other (part_again (b ∷ bs) tasks h)

pub id_again : (text : List ℕ) (tasks : Tasks) → IsId text tasks → tasks_of text ≡ Some tasks
id_again text tasks (inl h) = alone_again text tasks h
id_again text tasks (inr (rest, is, inl h)) = ap tasks_of is ∙ process_again rest tasks h
id_again text tasks (inr (rest, is, inr h)) = ap tasks_of is ∙ thread_again rest tasks h

-- ---- actions

lacks_thread : (text : List ℕ) (tasks : Tasks) → IsThread text tasks → Lacks 59 text
lacks_thread text All (tasks, h) = lacks_part 59 text tasks refl (λ e. omega (arith, e)) (λ e. omega (arith, e)) h
lacks_thread text (One i) (inl h) = lacks_part 59 text All refl (λ e. omega (arith, e)) (λ e. omega (arith, e)) h
lacks_thread text (One i) (inr h) = lacks_part 59 text (One i) refl (λ e. omega (arith, e)) (λ e. omega (arith, e)) h

lacks_one : (text : List ℕ) (tasks : Tasks) → IsPart text tasks → Lacks 59 text
lacks_one text tasks h = lacks_part 59 text tasks refl (λ e. omega (arith, e)) (λ e. omega (arith, e)) h

lacks_both : (text : List ℕ) (tasks : Tasks) → IsBoth text tasks → Lacks 59 text
lacks_both text tasks (process, thread, is, one, two) =
    subst (Lacks 59) (sym is)
    (lacks_join 59 46 process thread (λ e. omega (arith, e)) (lacks_one process tasks one) (lacks_thread thread tasks two))

lacks_id : (text : List ℕ) (tasks : Tasks) → IsId text tasks → Lacks 59 text
lacks_id text tasks (inl h) = lacks_one text tasks h
lacks_id text tasks (inr (rest, is, inl h)) = subst (Lacks 59) (sym is) ((λ e. omega (arith, e)), lacks_one rest tasks h)
lacks_id text tasks (inr (rest, is, inr h)) = subst (Lacks 59) (sym is) ((λ e. omega (arith, e)), lacks_both rest tasks h)

lacks_signal : (mark letter : ℕ) (text : List ℕ) → is_digit mark 16 ≡ false → letter ≢ mark → IsSignalled letter text → Lacks mark text
lacks_signal mark letter text out other (high, low, is, one, two) =
    subst (Lacks mark) (sym is)
    (other, (other_byte (λ d. is_digit d 16) high mark out one, (other_byte (λ d. is_digit d 16) low mark out two, tt)))

lacks_action : (mark : ℕ) (text : List ℕ) (action : Action) → is_digit mark 16 ≡ false → mark ≤ 59 → IsAction text action → Lacks mark text
lacks_action mark text actions.Continue out low (inl is) = subst (Lacks mark) (sym is) ((λ e. omega (arith, e, low)), tt)
lacks_action mark text actions.Continue out low (inr h) = lacks_signal mark 67 text out (λ e. omega (arith, e, low)) h
lacks_action mark text actions.Step out low (inl is) = subst (Lacks mark) (sym is) ((λ e. omega (arith, e, low)), tt)
lacks_action mark text actions.Step out low (inr h) = lacks_signal mark 83 text out (λ e. omega (arith, e, low)) h

action_again : (text : List ℕ) (action : Action) → IsAction text action → action_text text ≡ Some action
action_again text actions.Continue (inl is) = ap action_text is
action_again text actions.Continue (inr (high, low, is, one, two)) = ap action_text is ∙ rw (one, two) refl
action_again text actions.Step (inl is) = ap action_text is
action_again text actions.Step (inr (high, low, is, one, two)) = ap action_text is ∙ rw (one, two) refl

lacks_for : (text : List ℕ) (part : Action × Tasks) → IsActionFor text part → Lacks 59 text
lacks_for text part (inl h) = lacks_action 59 text part.0 refl (omega arith) h.0
lacks_for text part (inr (action, id, is, one, two)) =
    subst (Lacks 59) (sym is)
    (lacks_join 59 58 action id (λ e. omega (arith, e)) (lacks_action 59 action part.0 refl (omega arith) one) (lacks_id id part.1 two))

for_again : (text : List ℕ) (part : Action × Tasks) → IsActionFor text part → part_of text ≡ Some part
for_again text part (inl (h, all)) =
    let lacks = lacks_action 58 text part.0 refl (omega arith) h in
    ap (with_or_without text) (cut_none 58 text lacks)
    ∙ rw (action_again text part.0 h) (ap (λ (t : Tasks). Some (part.0, t)) (sym all))
for_again text part (inr (action, id, is, one, two)) =
    let lacks = lacks_action 58 action part.0 refl (omega arith) one in
    ap (with_or_without text) (ap (cut_at 58) is ∙ cut_again 58 action id lacks)
    ∙ rw (action_again action part.0 one, id_again id part.1 two) refl

-- each part is an action, and these are they
abbrev AreRead : List (List ℕ) → List (Action × Tasks) → Type 0
AreRead texts found = (list_all (λ part. is_some (part_of part)) texts ≡ true) × (filter_map part_of texts ≡ found)

read_more : (text : List ℕ) (texts : List (List ℕ)) (part : Action × Tasks) (found : List (Action × Tasks)) → part_of text ≡ Some part
    → AreRead texts found → AreRead (text ∷ texts) (part ∷ found)
read_more text texts part found is (all, more) = (rw (is, all) refl, rw is (ap (λ (ps : List (Action × Tasks)). part ∷ ps) more))

read_again : (text : List ℕ) (found : List (Action × Tasks)) → AreActions text found → AreRead (parts text) found
read_again text [] h = absurd h
read_again text (part ∷ []) h =
    subst (λ (ts : List (List ℕ)). AreRead ts (part ∷ [])) (sym (one_part 59 text (lacks_for text part h)))
    (read_more text [] part [] (for_again text part h) (refl, refl))
read_again text (part ∷ next ∷ more) (first, rest, is, one, others) =
    let cut : parts text ≡ first ∷ parts rest = ap parts is ∙ first_part 59 first rest (lacks_for first part one) in
    subst (λ (ts : List (List ℕ)). AreRead ts (part ∷ next ∷ more)) (sym cut)
    (read_more first (parts rest) part (next ∷ more) (for_again first part one) (read_again rest (next ∷ more) others))

pub actions_again : (text : List ℕ) (found : List (Action × Tasks)) → AreActions text found → resumed text ≡ Some found
actions_again text found h = let read = read_again text found h in rw read.0 (ap Some read.1)

-- ---- lines

-- the digits are pairs, and these are their bytes
abbrev IsRead : List ℕ → List ℕ → Type 0
IsRead text bytes = (length text % 2 ≡ 0) × (list_all (λ b. is_digit b 16) text ≡ true) × (hex_bytes text ≡ bytes)

line_read : (text bytes : List ℕ) → IsHexLine text bytes → IsRead text bytes
line_read text [] is = subst (λ (t : List ℕ). IsRead t []) (sym is) (refl, refl, refl)
line_read text (b ∷ bs) (high, low, rest, is, one, two, byte, more) =
    let read = line_read rest bs more in
    let even : length (high ∷ low ∷ rest) % 2 ≡ 0 = omega (arith, read.0) in
    subst (λ (t : List ℕ). IsRead t (b ∷ bs)) (sym is)
    (even, rw (one, two, read.1) refl, rw (one, two) (λ k. byte k ∷ read.2 k))

pub line_again : (text bytes : List ℕ) → IsHexLine text bytes → hex_line text ≡ Some bytes
line_again text bytes h =
    let read = line_read text bytes h in
    let even : eqb (length text % 2) 0 ≡ true = eq-eqb _ _ read.0 in
    rw (even, read.1) (ap Some read.2)
