-- The names of tasks stand in a file of XML as they are.
use Rattle.rt_chart.proofs.Common.{◌≡◌, ℕ, ◌<◌, Bool, true, false, List, [], ◌∷◌, ◌++◌, length, decimal, All, Option, Some, None, refl, arith, list_all, option_map_or, nat_tests}
use Rattle.std.proofs.Common.{◌^◌, ◌&&◌, not, cond, codes, IfSome}
use Rattle.std.specs.List.{filter, reduce, fold}
use Rattle.std.specs.Str.Parse.{AllDigits}
use Rattle.std.proofs.lemmas.Bool.{and_parts}
use Rattle.std.proofs.lemmas.Fmt.{decimal_is_IsNumeral}
use Rattle.std.proofs.lemmas.List.Elements.{All-cons, All-head, All-tail, All-filter}
use Rattle.std.proofs.lemmas.Str.Parse.{digit_from_value}
use Rattle.rt_token.specs.Word.{is_word_start, is_word_part, is_word}
use Rattle.rt_image.specs.ObjectFile.{Label, ObjectValue, IsObject, is_name_size, is_before, is_placed, is_label, are_labels}
use Rattle.rt_names.specs.Parts.{is_nearer, nearer}
use Rattle.rt_names.specs.TaskName.{can_name, own_namer, task_name}
use Rattle.rt_chart.specs.Escapes.{is_special, IsPlainText}

-- ---- the bytes of words

plain-part : (b : ℕ) → is_word_part b ≡ true → not (is_special b) ≡ true
plain-part b part = grind (arith, nat_tests, part)

plain-parts : (bs : List ℕ) → list_all is_word_part bs ≡ true → IsPlainText bs
plain-parts [] parts = refl
plain-parts (b ∷ bs) parts =
    let both = and_parts (is_word_part b) (list_all is_word_part bs) parts in
    rw (plain-part b both.0, plain-parts bs both.1) refl

plain-word : (bs : List ℕ) → is_word bs ≡ true → IsPlainText bs
plain-word [] word = refl
plain-word (b ∷ bs) word =
    let both = and_parts (is_word_start b) (list_all is_word_part bs) word in
    let part : is_word_part b ≡ true = rw both.0 refl in
    rw (plain-part b part, plain-parts bs both.1) refl

plain-digits : (ds : List ℕ) → AllDigits 10 ds → IsPlainText ds
plain-digits [] digits = refl
plain-digits (c ∷ cs) digits =
    let range = digit_from_value c digits.0 in
    let plain : not (is_special c) ≡ true = grind (arith, nat_tests, range) in
    rw (plain, plain-digits cs digits.1) refl

-- ---- names

abbrev IsPlain : Label → Type 0
IsPlain l = IsPlainText l.name

plain-label : (n : ℕ) (before : List ℕ) (l : Label) → is_label n before l ≡ true → IsPlain l
plain-label n before l is =
    let placed = and_parts (is_name_size (length l.name) && is_word l.name && is_before before l.name) (is_placed n l.address) is in
    let rising = and_parts (is_name_size (length l.name) && is_word l.name) (is_before before l.name) placed.0 in
    plain-word l.name (and_parts (is_name_size (length l.name)) (is_word l.name) rising.0).1

plain-labels : (n : ℕ) (before : List ℕ) (ls : List Label) → are_labels n before ls ≡ true → All IsPlain ls
plain-labels n before [] are = λ k d below. absurd (omega arith)
plain-labels n before (l ∷ ls) are =
    let fits = and_parts (is_label n before l) (are_labels n l.name ls) are in
    All-cons IsPlain l ls (plain-label n before l fits.0) (plain-labels n l.name ls fits.1)

either : (b : Bool) (l m : Label) → IsPlain l → IsPlain m → IsPlain (cond b m l)
either true l m first second = second
either false l m first second = first

folded : (l : Label) (ls : List Label) → IsPlain l → All IsPlain ls → IsPlain (fold nearer l ls)
folded l [] one all = one
folded l (m ∷ ls) one all =
    folded (nearer l m) ls (either (is_nearer m l) l m one (All-head IsPlain m ls all)) (All-tail IsPlain m ls all)

reduced : (ls : List Label) → All IsPlain ls → IfSome (reduce nearer ls) IsPlain
reduced [] all = tt
reduced (l ∷ ls) all = folded l ls (All-head IsPlain l ls all) (All-tail IsPlain l ls all)

named : (i : ℕ) (found : Option Label) → i < 2 ^ 32 → IfSome found IsPlain → IsPlainText (option_map_or (λ l. l.name) found (codes "task" ++ decimal i))
named i None few plain = plain-digits (decimal i) (decimal_is_IsNumeral i (omega (arith, few))).0.1
named i (Some l) few plain = plain

pub name-plain : (i : ℕ) (o : ObjectValue) → i < 2 ^ 32 → IsObject o → IsPlainText (task_name i o)
name-plain i o few spelled =
    named i (own_namer o) few
    (reduced (filter (can_name o.entry) o.labels)
    (All-filter (can_name o.entry) IsPlain o.labels (plain-labels (length o.bytes) [] o.labels spelled.labels_fit)))
