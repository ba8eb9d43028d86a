-- How names are read, shown and kept.
use Rattle.rt_elf.proofs.Common.{◌≡◌, ℕ, zero, suc, ◌-◌, ◌+◌, ◌≤◌, ◌<◌, ◌&&◌, not, Bool, true, false, List, [], ◌∷◌, ◌++◌, length, take, drop, map, Option, Some, None, inl, inr, refl, sym, ap, ◌∙◌, arith, subst, true≢false, cond, ◌==◌, if◌then◌else◌, nat_le, Err, fold, filter, list_any, or_parts, and_left, and_right, nat_tests, length-take, Label, is_name_size, is_placed, Named, may_stand, has_name, put, is_word, Entry, numbered, tells, told, is_of, told_by, keep}
use Rattle.std.specs.Prelude.{unwrap_or, take_while, min, Result, Ok, OnOk}
use Rattle.std.specs.List.{position_or_len, before_first}
use Rattle.std.proofs.lemmas.Bool.{cases_lt, false_from_ne_true}
use Rattle.std.proofs.lemmas.List.{take_all, take-take, take_rest}
use mathlib.Core.Bool.{beq}
use Rattle.std.proofs.Math.Nat.{eq-or-lt_of_le}
use Rattle.std.proofs.lemmas.List.Sums.{position_or_len_is, take_while-cons}
use Rattle.memchr.specs.Find.{IsFirstByte, is_byte}
use Rattle.rt_elf.specs.flat.FlatNames.{is_kept}
use Rattle.rt_elf.specs.flat.Shown.{is_shown}
use Rattle.rt_elf.specs.Telling.{is_end, string_at, may_tell, is_local}
use Rattle.rt_elf.specs.Working.Keeping.{taken}
use Rattle.rt_elf.proofs.NumberedLemmas.{numbered_first}

pub first_end : (text : List ℕ) (found : Option ℕ) → IsFirstByte (is_byte 0) text found → unwrap_or found (length text) ≡ position_or_len is_end text
first_end text None nowhere =
    sym (position_or_len_is is_end text (length text) 0 (omega arith) (λ k low. false_from_ne_true _ (nowhere k (omega arith) low)) (λ low. absurd (omega arith)))
first_end text (Some n) here =
    sym (position_or_len_is is_end text n 0 (omega (arith, here.0.high)) (λ k low. false_from_ne_true _ (here.0.before k (omega arith) low)) (λ low. here.1))

-- a front of what passes is what passes of a front
take_of_front : (q : ℕ → Bool) (n : ℕ) (xs : List ℕ) → take_while q (take n xs) ≡ take n (take_while q xs)
take_of_front q zero xs = refl
take_of_front q (suc n) [] = refl
take_of_front q (suc n) (x ∷ xs) = take_while-cons q x (take n xs) ∙ by (q x) (take_of_front q n xs) ∙ ap (take (suc n)) (sym (take_while-cons q x xs))
  where
    by : (b : Bool) → take_while q (take n xs) ≡ take n (take_while q xs) → cond b (x ∷ take_while q (take n xs)) [] ≡ take (suc n) (cond b (x ∷ take_while q xs) [])
    by true again = ap (λ (ys : List ℕ). x ∷ ys) again
    by false again = refl

pub cut_name : (n : ℕ) (xs : List ℕ) → before_first is_end (take n xs) ≡ take n (before_first is_end xs)
cut_name n xs = take_of_front (λ b. not (is_end b)) n xs

-- the front of a name shows whether it is shown
some : (x : ℕ) (xs : List ℕ) → (length (x ∷ xs) == 0) ≡ false
some x xs = grind (arith, nat_tests)

no_bytes : (m : ℕ) (s : List ℕ) → (length (take (suc m) s) == 0) ≡ (length s == 0)
no_bytes m [] = refl
no_bytes m (x ∷ xs) = some x (take m xs) ∙ sym (some x xs)

shown_front : (m : ℕ) (s : List ℕ) → 1 ≤ m → is_shown (take (suc m) s) ≡ is_shown s
shown_front m s big =
    let two : take 2 (take (suc m) s) ≡ take 2 s = take-take 2 (suc m) s (omega arith) in
    rw (no_bytes m s, two) refl

pub shown_cut : (n : ℕ) (s : List ℕ) → 2 ≤ n → is_shown (take n s) ≡ is_shown s
shown_cut zero s big = absurd (omega arith)
shown_cut (suc m) s big = shown_front m s (omega arith)

-- one more symbol
pub keep_new : (n : ℕ) (named : Named) (l : Label) → is_kept n named.symbols l ≡ true → keep n named l ≡ record { symbols = put l named.symbols; left_out = named.left_out }
keep_new n named l new = rw new refl

pub keep_none : (n : ℕ) (named : Named) (l : Label) → is_kept n named.symbols l ≡ false → keep n named l ≡ record { symbols = named.symbols; left_out = named.left_out + 1 }
keep_none n named l out = rw out refl

-- a name that is too long
long_name : (n : ℕ) (symbols : List Label) (l : Label) → 512 < length l.name → is_kept n symbols l ≡ false
long_name n symbols l long =
    let big : nat_le (length l.name) 512 ≡ false = grind (arith, nat_tests) in
    let sized = and_right (nat_le 1 (length l.name)) (nat_le (length l.name) 512) big in
    let word = and_left (is_name_size (length l.name)) (is_word l.name) sized in
    let placed = and_left (is_name_size (length l.name) && is_word l.name) (is_placed n l.address) word in
    and_left (may_stand n l) (not (has_name l.name symbols)) placed

pub keep_cut : (n : ℕ) (named : Named) (s : List ℕ) (v : ℕ) → keep n named (record { name = take 513 s; address = v }) ≡ keep n named (record { name = s; address = v })
keep_cut n named s v =
    elim (cases_lt 512 (length s)) [
      | inl long ↦
          keep_none n named (record { name = take 513 s; address = v }) (long_name n named.symbols (record { name = take 513 s; address = v }) (cut_long s long))
          ∙ sym (keep_none n named (record { name = s; address = v }) (long_name n named.symbols (record { name = s; address = v }) long))
      | inr short ↦ ap (λ (name : List ℕ). keep n named (record { name = name; address = v })) (take_all 513 s (omega arith))
    ]
  where
    cut_long : (s : List ℕ) → 512 < length s → 512 < length (take 513 s)
    cut_long s long = omega (arith, length-take 513 s)

-- entries one after the other
fold_more : (n : ℕ) (local : Bool) (names : List ℕ) (named : Named) (e : Entry) (es : List Entry)
    → fold (keep n) named (told_by local names (e ∷ es)) ≡ fold (keep n) (taken n names local named e) (told_by local names es)
fold_more n local names named e es = by (is_of local e && tells names e)
  where
    by : (b : Bool) → fold (keep n) named (map (told names) (cond b (e ∷ filter (λ x. is_of local x && tells names x) es) (filter (λ x. is_of local x && tells names x) es)))
        ≡ fold (keep n) (if b then keep n named (told names e) else named) (told_by local names es)
    by true = refl
    by false = refl

pub entries_more : (n : ℕ) (local : Bool) (names : List ℕ) (f : ℕ → Entry) (k m : ℕ) (named : Named) (all : Named) → k < m
    → all ≡ fold (keep n) named (told_by local names (numbered f k (m - k))) → all ≡ fold (keep n) (taken n names local named (f k)) (told_by local names (numbered f (k + 1) (m - (k + 1))))
entries_more n local names f k m named all low so_far =
    so_far ∙ ap (λ es. fold (keep n) named (told_by local names es)) (numbered_first f k m low) ∙ fold_more n local names named (f k) (numbered f (k + 1) (m - (k + 1)))

pub fold_both : {A B : Type 0} → (f : B → A → B) (b : B) (xs ys : List A) → fold f b (xs ++ ys) ≡ fold f (fold f b xs) ys
fold_both f b [] ys = refl
fold_both f b (x ∷ xs) ys = fold_both f (f b x) xs ys

-- each entry has its name where none lacks it
pub none_of : {X : Type 0} → (p : X → Bool) (f : ℕ → X) (k m j : ℕ) → list_any p (numbered f k m) ≡ false → k ≤ j → j < k + m → p (f j) ≡ false
none_of p f k zero j none low high = absurd (omega arith)
none_of p f k (suc m) j none low high =
    let parts = or_parts (p (f k)) (list_any p (numbered f (k + 1) m)) none in
    elim (eq-or-lt_of_le low) [
      | inl same ↦ subst (λ (i : ℕ). p (f i) ≡ false) same parts.0
      | inr later ↦ none_of p f (k + 1) m j parts.1 (omega arith) (omega arith)
    ]

-- the front of the names from a place on, up to the first 0 of it
pub named_front : (names : List ℕ) (at some end : ℕ) → some ≡ min (length (take (length names - at) (drop at names))) 513 → end ≡ position_or_len is_end (take some (take (length names - at) (drop at names)))
    → take end (take some (take (length names - at) (drop at names))) ≡ take 513 (string_at names at)
named_front names at some end sized ended =
    let rest : take (length names - at) (drop at names) ≡ drop at names = take_rest names at in
    let front : take some (take (length names - at) (drop at names)) ≡ take 513 (drop at names) = ap (take some) rest ∙ front_of (drop at names) some (sized ∙ ap (λ (xs : List ℕ). min (length xs) 513) rest) in
    ap (λ (n : ℕ). take n (take some (take (length names - at) (drop at names)))) ended
    ∙ ap (before_first is_end) front ∙ cut_name 513 (drop at names)
  where
    front_of : (xs : List ℕ) (n : ℕ) → n ≡ min (length xs) 513 → take n xs ≡ take 513 xs
    front_of xs n is = elim (cases_lt 513 (length xs)) [
      | inl long ↦ ap (λ (m : ℕ). take m xs) (let e : n ≡ 513 = omega arith in e)
      | inr short ↦ take_all n xs (omega arith) ∙ sym (take_all 513 xs short)
    ]

-- an entry of the kind that is gone through
is_of_kind : (local : Bool) (e : Entry) → is_local e ≡ local → is_of local e ≡ true
is_of_kind true e same = same
is_of_kind false e same = ap not same

pub told_kept : (n : ℕ) (names : List ℕ) (local : Bool) (named : Named) (e : Entry) (name : List ℕ) → is_local e ≡ local → may_tell e ≡ true → is_shown name ≡ true → name ≡ take 513 (string_at names e.name)
    → keep n named (record { name = name; address = e.value }) ≡ taken n names local named e
told_kept n names local named e name kind may shown is =
    let whole : is_shown (string_at names e.name) ≡ true = sym (shown_cut 513 (string_at names e.name) (omega arith)) ∙ sym (ap is_shown is) ∙ shown in
    ap (λ (s : List ℕ). keep n named (record { name = s; address = e.value })) is ∙ keep_cut n named (string_at names e.name) e.value
    ∙ rw (is_of_kind local e kind, may, whole) refl

pub on_ok : {T E : Type 0} {P Q : Type 0} (r : Result T E) → (P → Q) → OnOk r P → OnOk r Q
on_ok (Ok x) f h = f h
on_ok (Err e) f h = tt

pub same_kind : (a b : Bool) → not (beq a b) ≡ false → a ≡ b
same_kind true true e = refl
same_kind true false e = absurd (true≢false e)
same_kind false true e = absurd (true≢false e)
same_kind false false e = refl
