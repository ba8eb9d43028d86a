-- What follows enough bytes of a system file changes nothing.
use Rattle.rt_desk.proofs.Common.{◌≡◌, ℕ, zero, suc, ◌+◌, ◌*◌, ◌<◌, ◌≤◌, ◌==◌, Bool, true, false, nat_eq, nat_le, List, [], ◌∷◌, ◌++◌, length, drop, Option, Some, None, Ok, Err, refl, sym, ap, subst, ◌∙◌, arith, inl, inr, cases_Bool, eqb-true, length-drop, length-append, little_number, number_at, bytes_at, magic_at, spelled_object}
use Rattle.std.proofs.Common.{◌&&◌, ◌||◌, cond, codes, get_or, eq-eqb}
use Rattle.std.proofs.lemmas.Bool.{and_parts, ltb-true, leb-true, le-leb}
use Rattle.std.specs.List.{starts_with}
use Rattle.std.specs.Option.{option_map_or}
use Rattle.rt_words.specs.Limits.{is_ram_size}
use Rattle.rt_words.proofs.Chains.{bind_ok, bind_when}
use Rattle.rt_image.proofs.Fields.{ok_is}
use Rattle.rt_image.specs.declared.fault.ImageFault.TheVariants.{BadMagic, BadField}
use Rattle.rt_image.specs.declared.system.Version.{Version}
use Rattle.rt_image.specs.declared.system.Version.TheVariants.{One, Two}
use Rattle.rt_image.specs.SystemFile.{task_limit}
use Rattle.rt_image.specs.SystemReading.{file_limit, version_of, digit_at, version_at, flags_at, Front, front_at, task_at, tasks_at, system_of}
use Rattle.rt_desk.specs.reading.Extent.{task_size, most_of_system, exceeds}
use Rattle.rt_desk.proofs.reading_laws.Local.{Local, then_pair, then_rest, then_when, then_same, ends_when, number_local, bytes_local, magic_local}
use Rattle.rt_desk.proofs.reading_laws.Objects.{drop_drop, number_is, magic_is, trailing}

-- the version of a digit that has one
digit_local : (n : ℕ) (bytes more : List ℕ) → 1 + n ≤ length bytes → Local n more (digit_at bytes) (digit_at (bytes ++ more))
digit_local n [] more big = absurd (omega (arith, big))
digit_local n (digit ∷ rest) more big = digit_step n rest more (version_of digit) (omega (arith, big))
  where
    digit_step : (n : ℕ) (rest more : List ℕ) (found : Option Version) → n ≤ length rest
        → Local n more (option_map_or (λ version. Ok (version, rest)) found (Err BadMagic)) (option_map_or (λ version. Ok (version, rest ++ more)) found (Err BadMagic))
    digit_step n rest more (Some version) big = (refl, big)
    digit_step n rest more None big = refl

pub version_local : (n : ℕ) (bytes more : List ℕ) → 4 + n ≤ length bytes → Local n more (version_at bytes) (version_at (bytes ++ more))
unfolding version_at
version_local n bytes more big =
    then_rest (Local n more) (λ e. refl) (1 + n) more (magic_at (codes "RTS") bytes) (magic_at (codes "RTS") (bytes ++ more)) digit_at (magic_local (codes "RTS") (1 + n) bytes more (omega (arith, big)))
    (λ rest _ left. digit_local n rest more left)

-- ---- tasks

flags_local : (version : Version) (n : ℕ) (bytes more : List ℕ) → 4 + n ≤ length bytes → Local n more (flags_at version bytes) (flags_at version (bytes ++ more))
unfolding flags_at
flags_local One n bytes more big = (refl, omega (arith, big))
flags_local Two n bytes more big =
    then_pair (Local n more) (λ e. refl) n more (number_at 4 bytes) (number_at 4 (bytes ++ more)) _ (number_local 4 n bytes more big)
    (λ flags _ left. ends_when (Local n more) (λ e. refl) (nat_le flags.0 1) BadField (flags.0 == 1, flags.1) (flags.0 == 1, flags.1 ++ more) (refl, left))

front_local : (version : Version) (n : ℕ) (bytes more : List ℕ) → 24 + n ≤ length bytes → Local n more (front_at version bytes) (front_at version (bytes ++ more))
unfolding front_at
front_local version n bytes more big =
    then_pair (Local n more) (λ e. refl) (20 + n) more (number_at 4 bytes) (number_at 4 (bytes ++ more)) _ (number_local 4 (20 + n) bytes more (omega (arith, big))) (λ budget _ left.
    then_pair (Local n more) (λ e. refl) (16 + n) more (number_at 4 budget.1) (number_at 4 (budget.1 ++ more)) _ (number_local 4 (16 + n) budget.1 more (omega (arith, left))) (λ period _ left.
    then_pair (Local n more) (λ e. refl) (12 + n) more (number_at 4 period.1) (number_at 4 (period.1 ++ more)) _ (number_local 4 (12 + n) period.1 more (omega (arith, left))) (λ start _ left.
    then_pair (Local n more) (λ e. refl) (8 + n) more (flags_at version start.1) (flags_at version (start.1 ++ more)) _ (flags_local version (8 + n) start.1 more (omega (arith, left))) (λ split _ left.
    then_pair (Local n more) (λ e. refl) (4 + n) more (number_at 4 split.1) (number_at 4 (split.1 ++ more)) _ (number_local 4 (4 + n) split.1 more (omega (arith, left))) (λ ram _ left.
    then_when (Local n more) (λ e. refl) (is_ram_size ram.0) BadField ram.1 (ram.1 ++ more) _ (λ _.
    then_pair (Local n more) (λ e. refl) n more (number_at 4 ram.1) (number_at 4 (ram.1 ++ more)) _ (number_local 4 n ram.1 more left) (λ size _ left.
    then_when (Local n more) (λ e. refl) (nat_le size.0 file_limit) BadField size.1 (size.1 ++ more) _ (λ _. (refl, left)))))))))

-- the size of what is to be an object
size_bound : (version : Version) (bytes : List ℕ) (x : Front × List ℕ) → front_at version bytes ≡ Ok x → x.0.size ≤ file_limit
unfolding front_at
size_bound version bytes x e =
    let budget = bind_ok (number_at 4 bytes) _ x e in
    let period = bind_ok (number_at 4 budget.0.1) _ x budget.2 in
    let start = bind_ok (number_at 4 period.0.1) _ x period.2 in
    let split = bind_ok (flags_at version start.0.1) _ x start.2 in
    let ram = bind_ok (number_at 4 split.0.1) _ x split.2 in
    let sized = bind_when (is_ram_size ram.0.0) BadField ram.0.1 _ x ram.2 in
    let size = bind_ok (number_at 4 ram.0.1) _ x sized.1 in
    let bounded = bind_when (nat_le size.0.0 file_limit) BadField size.0.1 _ x size.2 in
    subst (λ (y : Front × List ℕ). y.0.size ≤ file_limit) (ok_is _ x bounded.1) (leb-true size.0.0 file_limit bounded.0)

task_local : (version : Version) (n : ℕ) (bytes more : List ℕ) → task_size + n ≤ length bytes → Local n more (task_at version bytes) (task_at version (bytes ++ more))
unfolding task_at
task_local version n bytes more big =
    then_pair (Local n more) (λ e. refl) (file_limit + n) more (front_at version bytes) (front_at version (bytes ++ more)) _ (front_local version (file_limit + n) bytes more (omega (arith, big)))
    (λ front is left.
    then_pair (Local n more) (λ e. refl) n more (bytes_at front.0.size front.1) (bytes_at front.0.size (front.1 ++ more)) _
    (bytes_local front.0.size n front.1 more (omega (arith, left, size_bound version bytes front is)))
    (λ file _ left. then_same (Local n more) (λ e. refl) (spelled_object file.0) _ _ (λ object. (refl, left))))

tasks_local : (version : Version) (count n : ℕ) (bytes more : List ℕ) → count * task_size + n ≤ length bytes → Local n more (tasks_at version count bytes) (tasks_at version count (bytes ++ more))
unfolding tasks_at
tasks_local version zero n bytes more big = (refl, omega (arith, big))
tasks_local version (suc count) n bytes more big =
    then_pair (Local n more) (λ e. refl) (count * task_size + n) more (task_at version bytes) (task_at version (bytes ++ more)) _
    (task_local version (count * task_size + n) bytes more (omega (arith, big)))
    (λ first _ left.
    then_pair (Local n more) (λ e. refl) n more (tasks_at version count first.1) (tasks_at version count (first.1 ++ more)) _ (tasks_local version count n first.1 more left)
    (λ others _ left. (refl, left)))

-- ---- the whole file

with_true : (x y : Bool) → (x || y) ≡ true → ((x && true) || (y && true)) ≡ true
with_true true y e = refl
with_true false true e = refl
with_true false false e = e

-- three letters and a digit
begins_with : (bytes : List ℕ) (digit : ℕ) (rest : List ℕ) → starts_with nat_eq bytes (codes "RTS") ≡ true → drop 3 bytes ≡ digit ∷ rest
    → (nat_eq 49 digit || nat_eq 50 digit) ≡ true → ((starts_with nat_eq bytes (codes "RTS1") || starts_with nat_eq bytes (codes "RTS2")) ≡ true) × (drop 4 bytes ≡ rest)
begins_with [] digit rest s d v = absurd cc
begins_with (a ∷ []) digit rest s d v = absurd cc
begins_with (a ∷ b ∷ []) digit rest s d v = absurd cc
begins_with (a ∷ b ∷ c ∷ []) digit rest s d v = absurd cc
begins_with (a ∷ b ∷ c ∷ e ∷ bytes) digit rest s d v =
    let first = and_parts (nat_eq 82 a) _ s in
    let second = and_parts (nat_eq 84 b) _ first.1 in
    let third = and_parts (nat_eq 83 c) _ second.1 in
    let same : digit ≡ e = sym (ap (λ (l : List ℕ). get_or l 0 0) d) in
    (rw (first.0, second.0, third.0) (with_true (nat_eq 49 e) (nat_eq 50 e) (subst (λ (n : ℕ). (nat_eq 49 n || nat_eq 50 n) ≡ true) same v)), ap (drop 1) d)

pub flipped : (a b : ℕ) → nat_eq a b ≡ true → nat_eq b a ≡ true
flipped a b e = eq-eqb b a (sym (eqb-true a b e))

either_flipped : (a b c : ℕ) → (nat_eq a b || nat_eq a c) ≡ true → (nat_eq b a || nat_eq c a) ≡ true
either_flipped a b c e =
    elim (cases_Bool (nat_eq a b)) [
      | inl is ↦ rw (flipped a b is) refl
      | inr isn't ↦ let other : nat_eq c a ≡ true = flipped a c (rw isn't at e) in rw other (or_true (nat_eq b a))
    ]
  where
    or_true : (x : Bool) → (x || true) ≡ true
    or_true true = refl
    or_true false = refl

version_step : (one two : Bool) (rest : List ℕ) (x : Version × List ℕ)
    → option_map_or (λ version. Ok (version, rest)) (cond one (Some One) (cond two (Some Two) None)) (Err BadMagic) ≡ Ok x → ((one || two) ≡ true) × (rest ≡ x.1)
version_step true two rest x e = (refl, ap (λ (y : Version × List ℕ). y.1) (ok_is (One, rest) x e))
version_step false true rest x e = (refl, ap (λ (y : Version × List ℕ). y.1) (ok_is (Two, rest) x e))
version_step false false rest x e = absurd cc

-- a digit that is a version
digit_found : (digit : ℕ) (rest : List ℕ) (x : Version × List ℕ) → digit_at (digit ∷ rest) ≡ Ok x → ((nat_eq 49 digit || nat_eq 50 digit) ≡ true) × (rest ≡ x.1)
digit_found digit rest x e = let found = version_step (digit == 49) (digit == 50) rest x e in (either_flipped digit 49 50 found.0, found.1)

digit_is : (bytes : List ℕ) (x : Version × List ℕ) → digit_at bytes ≡ Ok x → (digit : ℕ) × (bytes ≡ digit ∷ x.1) × ((nat_eq 49 digit || nat_eq 50 digit) ≡ true)
digit_is [] x e = absurd cc
digit_is (digit ∷ rest) x e = let found = digit_found digit rest x e in (digit, ap (λ (l : List ℕ). digit ∷ l) found.1, found.0)

-- how a file begins that has a version
version_is : (bytes : List ℕ) (x : Version × List ℕ) → version_at bytes ≡ Ok x
    → ((starts_with nat_eq bytes (codes "RTS1") || starts_with nat_eq bytes (codes "RTS2")) ≡ true) × (drop 4 bytes ≡ x.1)
unfolding version_at
version_is bytes x e =
    let magic = bind_ok (magic_at (codes "RTS") bytes) digit_at x e in
    let begins = magic_is (codes "RTS") bytes magic.0 magic.1 in
    let digit = digit_is magic.0 x magic.2 in
    begins_with bytes digit.0 x.1 begins.0 (begins.1 ∙ digit.1) digit.2

most_is : (bytes : List ℕ) (count : ℕ) → nat_le 12 (length bytes) ≡ true → little_number 4 (drop 8 bytes) ≡ count
    → (starts_with nat_eq bytes (codes "RTS1") || starts_with nat_eq bytes (codes "RTS2")) ≡ true → nat_le count task_limit ≡ true
    → most_of_system bytes ≡ Some (12 + count * task_size)
most_is bytes count l c b counted = rw (l, c, b, counted) refl

-- a count that passes is that of `most_of_system`, where the count of a file begins so
over_is : (bytes : List ℕ) (version : Version × List ℕ) (hyper count : ℕ × List ℕ) → 12 ≤ length bytes → version_at bytes ≡ Ok version → number_at 4 version.1 ≡ Ok hyper
    → number_at 4 hyper.1 ≡ Ok count → nat_le count.0 task_limit ≡ true → exceeds (most_of_system bytes) bytes ≡ true → count.0 * task_size + 1 ≤ length count.1
over_is bytes version hyper count big v h c counted enough =
    let begins = version_is bytes version v in
    let hyper_is = number_is 4 version.1 hyper h in
    let count_is = number_is 4 hyper.1 count c in
    let at_8 : drop 8 bytes ≡ hyper.1 = sym (drop_drop 4 4 8 bytes refl) ∙ ap (drop 4) begins.1 ∙ ap (λ (p : ℕ × List ℕ). p.1) hyper_is in
    let at_12 : drop 12 bytes ≡ count.1 = sym (drop_drop 4 8 12 bytes refl) ∙ ap (drop 4) at_8 ∙ ap (λ (p : ℕ × List ℕ). p.1) count_is in
    let number : little_number 4 (drop 8 bytes) ≡ count.0 = ap (little_number 4) at_8 ∙ ap (λ (p : ℕ × List ℕ). p.0) count_is in
    let most = most_is bytes count.0 (le-leb 12 (length bytes) big) number begins.0 counted in
    let over : 12 + count.0 * task_size < length bytes = ltb-true _ _ (subst (λ (m : Option ℕ). exceeds m bytes ≡ true) most enough) in
    omega (arith, over, length-drop 12 bytes, ap length at_12)

pub system_law : (bytes more : List ℕ) → 12 ≤ length bytes → exceeds (most_of_system bytes) bytes ≡ true → system_of (bytes ++ more) ≡ system_of bytes
unfolding system_of
system_law bytes more big enough =
    then_pair (λ u v. v ≡ u) (λ e. refl) 8 more (version_at bytes) (version_at (bytes ++ more)) _ (version_local 8 bytes more big) (λ version v left.
    then_pair (λ u v. v ≡ u) (λ e. refl) 4 more (number_at 4 version.1) (number_at 4 (version.1 ++ more)) _ (number_local 4 4 version.1 more left) (λ hyper h left.
    then_pair (λ u v. v ≡ u) (λ e. refl) 0 more (number_at 4 hyper.1) (number_at 4 (hyper.1 ++ more)) _ (number_local 4 0 hyper.1 more left) (λ count c _.
    then_when (λ u v. v ≡ u) (λ e. refl) (nat_le count.0 task_limit) BadField count.1 (count.1 ++ more) _ (λ counted.
    then_pair (λ u v. v ≡ u) (λ e. refl) 1 more (tasks_at version.0 count.0 count.1) (tasks_at version.0 count.0 (count.1 ++ more)) _
    (tasks_local version.0 count.0 1 count.1 more (over_is bytes version hyper count big v h c counted enough))
    (λ tasks _ left. trailing (length (tasks.1 ++ more)) (length tasks.1) _ _ (omega (arith, left, length-append tasks.1 more)) left)))))
