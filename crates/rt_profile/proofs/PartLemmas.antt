-- The parts of addresses, one symbol or one word more.
use Rattle.rt_profile.proofs.Common.{◌≡◌, ℕ, ◌+◌, ◌-◌, ◌*◌, ◌/◌, ◌<◌, ◌≤◌, ◌==◌, nat_le, nat_lt, Bool, cond, List, [], ◌∷◌, ◌++◌, length, take, get_or, count_by, refl, sym, ap, ◌∙◌, arith, nat_tests, length-map, sum_by-cons, count_by-le-length, base, Label, labels, part, first_word}
use Rattle.std.proofs.lemmas.List.Sums.{sum_by_push}
use Rattle.rt_image.specs.declared.object.Symbol.{Symbol}
use Rattle.rt_image.specs.ObjectFile.{label}
use Rattle.rt_names.proofs.NamerLemmas.{labels-more}

pub count-push : {X : Type 0} (p : X → Bool) (xs : List X) (x : X) → count_by p (xs ++ x ∷ []) ≡ count_by p xs + cond (p x) 1 0
count-push p xs x = sum_by_push (λ y. cond (p y) 1 0) xs x

pub count-cons : {X : Type 0} (p : X → Bool) (x : X) (xs : List X) → count_by p (x ∷ xs) ≡ cond (p x) 1 0 + count_by p xs
count-cons p x xs = sum_by-cons (λ y. cond (p y) 1 0) x xs

pub count-within : (p : Label → Bool) (ss : List Symbol) → count_by p (labels ss) ≤ length ss
count-within p ss = omega (arith, count_by-le-length p (labels ss), length-map ss label)

-- one symbol more
pub part-more : (n a : ℕ) (ss : List Symbol) (s : Symbol) (b : Bool) → n < length ss → s ≡ get_or ss n s → nat_le s.address a ≡ b
    → part (labels (take (n + 1) ss)) a ≡ part (labels (take n ss)) a + cond b 1 0
part-more n a ss s b below here is =
    ap (λ (ls : List Label). part ls a) (labels-more n ss s below here) ∙ count-push (λ l. nat_le l.address a) (labels (take n ss)) (label s)
    ∙ ap (λ (c : Bool). part (labels (take n ss)) a + cond c 1 0) is

-- ---- words

-- how many symbols have their first word below word w
abbrev pub below : List Label → ℕ → ℕ
below ls w = count_by (λ l. nat_lt (first_word l.address) w) ls

pub below-none : (ls : List Label) → below ls 0 ≡ 0
below-none [] = refl
below-none (l ∷ ls) = count-cons (λ x. nat_lt (first_word x.address) 0) l ls ∙ grind (arith, nat_tests, below-none ls)

one-more : (n w : ℕ) → cond (nat_lt n (w + 1)) 1 0 ≡ cond (nat_lt n w) 1 0 + cond (n == w) 1 0
one-more n w = grind (arith, nat_tests)

pub below-more : (ls : List Label) (w : ℕ) → below ls (w + 1) ≡ below ls w + count_by (λ l. first_word l.address == w) ls
below-more [] w = refl
below-more (l ∷ ls) w =
    omega (
      arith,
      count-cons (λ x. nat_lt (first_word x.address) (w + 1)) l ls,
      count-cons (λ x. nat_lt (first_word x.address) w) l ls,
      count-cons (λ x. first_word x.address == w) l ls,
      one-more (first_word l.address) w,
      below-more ls w,
    )

stands-below : (a w : ℕ) → nat_le a (base + 4 * w) ≡ nat_lt ((a - base + 3) / 4) (w + 1)
stands-below a w = grind (arith, nat_tests)

-- the part of a word
pub part-word : (ls : List Label) (w : ℕ) → part ls (base + 4 * w) ≡ below ls (w + 1)
part-word [] w = refl
part-word (l ∷ ls) w =
    count-cons (λ x. nat_le x.address (base + 4 * w)) l ls ∙ ap (λ (b : Bool). cond b 1 0 + part ls (base + 4 * w)) (stands-below l.address w)
    ∙ ap (λ (n : ℕ). cond (nat_lt (first_word l.address) (w + 1)) 1 0 + n) (part-word ls w) ∙ sym (count-cons (λ x. nat_lt (first_word x.address) (w + 1)) l ls)
