-- The addresses of a task's records rise, and each is told once.
use Rattle.rt_profile.proofs.Common.{◌≡◌, ℕ, ◌+◌, ◌<◌, ◌≤◌, ◌==◌, nat_lt, min, Bool, true, false, cond, List, [], ◌∷◌, count_by, refl, ap, ◌∙◌, arith, eqb-true, nat_tests, Attempt, placed, placed_all, pcs, ticks_at}
use Rattle.std.proofs.Common.{max}
use Rattle.rt_profile.proofs.PartLemmas.{count-cons}
use Rattle.rt_profile.proofs.laws.SumLemmas.{one_if, one_if-le}

-- ---- addresses that rise

abbrev pub Above : ℕ → List ℕ → Type 0
Above a [] = Unit {0}
Above a (b ∷ bs) = (a < b) × Above a bs

abbrev pub Rises : List ℕ → Type 0
Rises [] = Unit {0}
Rises (a ∷ bs) = Above a bs × Rises bs

above-less : (a b : ℕ) (bs : List ℕ) → a < b → Above b bs → Above a bs
above-less a b [] less above = tt
above-less a b (c ∷ bs) less above = (omega (arith, less, above.0), above-less a b bs less above.1)

placed-above : (c a : ℕ) (bs : List ℕ) → c < a → Above c bs → Above c (placed a bs)
placed-above c a [] less above = (less, tt)
placed-above c a (b ∷ bs) less above =
    let rest = placed-above c a bs less above.1 in
    elim (nat_lt a b) as (λ x. Above c (cond x (a ∷ b ∷ bs) (cond (a == b) (b ∷ bs) (b ∷ placed a bs)))) [
      | true ↦ (less, above)
      | false ↦ elim (a == b) as (λ y. Above c (cond y (b ∷ bs) (b ∷ placed a bs))) [ true ↦ above | false ↦ (above.0, rest) ]
    ]

placed-rises : (a : ℕ) (bs : List ℕ) → Rises bs → Rises (placed a bs)
placed-rises a [] rises = (tt, tt)
placed-rises a (b ∷ bs) rises = by_place (nat_lt a b) (a == b) refl refl (placed-rises a bs rises.1)
  where
    by_place : (c d : Bool) → nat_lt a b ≡ c → (a == b) ≡ d → Rises (placed a bs) → Rises (cond c (a ∷ b ∷ bs) (cond d (b ∷ bs) (b ∷ placed a bs)))
    by_place true d e f rest = let less : a < b = grind (arith, nat_tests) in ((less, above-less a b bs less rises.0), rises)
    by_place false true e f rest = rises
    by_place false false e f rest = let more : b < a = grind (arith, nat_tests) in (placed-above b a bs more rises.0, rest)

all-rise : (bs : List ℕ) (rs : List Attempt) → Rises bs → Rises (placed_all bs rs)
all-rise bs [] rises = rises
all-rise bs (r ∷ rs) rises = all-rise (placed r.pc bs) rs (placed-rises r.pc bs rises)

pub pcs-rise : (rs : List Attempt) → Rises (pcs rs)
pcs-rise rs = all-rise [] rs tt

-- ---- how often an address is told

-- how often x is among these
abbrev times : ℕ → List ℕ → ℕ
times x bs = count_by (λ b. x == b) bs

times-cons : (x b : ℕ) (bs : List ℕ) (c : Bool) → (x == b) ≡ c → times x (b ∷ bs) ≡ one_if c + times x bs
times-cons x b bs c is = count-cons (λ k. x == k) b bs ∙ ap (λ (d : Bool). one_if d + times x bs) is

above-none : (x a : ℕ) (bs : List ℕ) → x ≤ a → Above a bs → times x bs ≡ 0
above-none x a [] le above = refl
above-none x a (b ∷ bs) le above =
    let less : a < b = above.0 in
    let apart : (x == b) ≡ false = grind (arith, nat_tests) in
    omega (arith, times-cons x b bs false apart, above-none x a bs le above.1)

placed-count : (x a : ℕ) (bs : List ℕ) → Rises bs → times x (placed a bs) ≡ max (times x bs) (one_if (x == a))
placed-count x a [] rises = omega (arith, times-cons x a [] (x == a) refl)
placed-count x a (b ∷ bs) rises = by_place (nat_lt a b) (a == b) (x == a) refl refl refl (placed-count x a bs rises.1)
  where
    by_place : (c d e : Bool) → nat_lt a b ≡ c → (a == b) ≡ d → (x == a) ≡ e → times x (placed a bs) ≡ max (times x bs) (one_if (x == a))
        → times x (cond c (a ∷ b ∷ bs) (cond d (b ∷ bs) (b ∷ placed a bs))) ≡ max (times x (b ∷ bs)) (one_if e)
    by_place true d true f g h rest =
        let less : a < b = grind (arith, nat_tests) in
        let le : x ≤ a = grind (arith, nat_tests) in
        let none : times x (b ∷ bs) ≡ 0 = above-none x a (b ∷ bs) le (less, above-less a b bs less rises.0) in
        omega (arith, times-cons x a (b ∷ bs) true h, none)
    by_place true d false f g h rest = omega (arith, times-cons x a (b ∷ bs) false h)
    by_place false true true f g h rest =
        let same : (x == b) ≡ true = grind (arith, nat_tests) in
        omega (arith, times-cons x b bs true same)
    by_place false true false f g h rest = omega arith
    by_place false false true f g h rest =
        let apart : (x == b) ≡ false = grind (arith, nat_tests) in
        let one : times x (placed a bs) ≡ max (times x bs) 1 = rest ∙ ap (λ (e : Bool). max (times x bs) (one_if e)) h in
        omega (arith, times-cons x b (placed a bs) false apart, times-cons x b bs false apart, one)
    by_place false false false f g h rest =
        let one : times x (placed a bs) ≡ max (times x bs) 0 = rest ∙ ap (λ (e : Bool). max (times x bs) (one_if e)) h in
        omega (arith, times-cons x b (placed a bs) (x == b) refl, times-cons x b bs (x == b) refl, one)

all-count : (x : ℕ) (bs : List ℕ) (rs : List Attempt) → Rises bs → times x (placed_all bs rs) ≡ max (times x bs) (min 1 (ticks_at rs x))
all-count x bs [] rises = omega arith
all-count x bs (r ∷ rs) rises =
    let rest = all-count x (placed r.pc bs) rs (placed-rises r.pc bs rises) in
    let first = placed-count x r.pc bs rises in
    let turned : one_if (x == r.pc) ≡ one_if (r.pc == x) = grind (arith, nat_tests) in
    omega (arith, rest, first, turned, one_if-le (x == r.pc), count-cons (λ q. q.pc == x) r rs)

pub pcs-once : (x : ℕ) (rs : List Attempt) → times x (pcs rs) ≡ min 1 (ticks_at rs x)
pcs-once x rs = omega (arith, all-count x [] rs tt)

-- ---- whether some pass a test

some-cons : (p : ℕ → Bool) (b : ℕ) (bs : List ℕ) → count_by p (b ∷ bs) ≡ one_if (p b) + count_by p bs
some-cons p b bs = count-cons p b bs

placed-some : (p : ℕ → Bool) (a : ℕ) (bs : List ℕ) → min 1 (count_by p (placed a bs)) ≡ min 1 (count_by p bs + one_if (p a))
placed-some p a [] = omega (arith, some-cons p a [])
placed-some p a (b ∷ bs) = by_place (nat_lt a b) (a == b) refl (placed-some p a bs)
  where
    by_place : (c d : Bool) → (a == b) ≡ d → min 1 (count_by p (placed a bs)) ≡ min 1 (count_by p bs + one_if (p a))
        → min 1 (count_by p (cond c (a ∷ b ∷ bs) (cond d (b ∷ bs) (b ∷ placed a bs)))) ≡ min 1 (count_by p (b ∷ bs) + one_if (p a))
    by_place true d f rest = omega (arith, some-cons p a (b ∷ bs))
    by_place false true f rest =
        let same : one_if (p a) ≡ one_if (p b) = ap (λ (k : ℕ). one_if (p k)) (eqb-true a b f) in
        omega (arith, same, some-cons p b bs)
    by_place false false f rest = omega (arith, rest, some-cons p b bs, some-cons p b (placed a bs))

all-some : (p : ℕ → Bool) (bs : List ℕ) (rs : List Attempt) → min 1 (count_by p (placed_all bs rs)) ≡ min 1 (count_by p bs + count_by (λ r. p r.pc) rs)
all-some p bs [] = omega arith
all-some p bs (r ∷ rs) = omega (arith, all-some p (placed r.pc bs) rs, placed-some p r.pc bs, count-cons (λ q. p q.pc) r rs)

pub pcs-some : (p : ℕ → Bool) (rs : List Attempt) → min 1 (count_by p (pcs rs)) ≡ min 1 (count_by (λ r. p r.pc) rs)
pcs-some p rs =
    let none : count_by p [] + count_by (λ r. p r.pc) rs ≡ count_by (λ r. p r.pc) rs = omega arith in
    all-some p [] rs ∙ ap (λ (n : ℕ). min 1 n) none
