-- How much is told of a time.
use Rattle.rt_waves.proofs.Common.{◌≡◌, ◌≢◌, ℕ, zero, suc, ◌+◌, Bool, true, false, cond, List, [], ◌∷◌, ◌++◌, length, append_assoc, refl, sym, ap, ◌∙◌, arith, flat_map, range_with_len, enumerate_from, eq-eqb, Telling, Changes, Wire, Number, Wave, is_same, line, changed_lines, timed, Record, outcome_of, TaskStanding, told_line, block_of, seen, lines_of, lines_at}
use Rattle.std.proofs.Common.{add-zero}
use Rattle.std.proofs.lemmas.List.{append-nil}
use Rattle.rt_waves.specs.declared.block.Telling.TheVariants.{Nothing, All}
use Rattle.rt_waves.specs.declared.signals.Value.{Value}
use Rattle.rt_waves.specs.Working.Telling.{told_lines}

-- ---- how much is told

pub same-itself : (v : Value) → is_same v v ≡ true
same-itself (Wire true) = refl
same-itself (Wire false) = refl
same-itself (Number n) = eq-eqb n n refl

pub told_line-same : (t : Telling) (x : Wave) → t ≢ All → told_line t x.value x ≡ []
told_line-same Nothing x part = refl
told_line-same All x part = absurd (part refl)
told_line-same Changes x part = ap (λ (b : Bool). cond b [] (line x)) (same-itself x.value)

pub told-same : (t : Telling) (xs : List Wave) → t ≢ All → told_lines t xs xs ≡ []
told-same t [] part = refl
told-same t (x ∷ xs) part = ap (λ (zs : List ℕ). zs ++ told_lines t xs xs) (told_line-same t x part) ∙ told-same t xs part

pub told-nothing : (xs ys : List Wave) → told_lines Nothing xs ys ≡ []
told-nothing [] ys = refl
told-nothing (x ∷ xs) [] = refl
told-nothing (x ∷ xs) (y ∷ ys) = told-nothing xs ys

pub told-all : (xs ys : List Wave) → length xs ≡ length ys → told_lines All xs ys ≡ flat_map line ys
told-all [] [] same = refl
told-all [] (y ∷ ys) same = absurd (omega arith)
told-all (x ∷ xs) [] same = absurd (omega arith)
told-all (x ∷ xs) (y ∷ ys) same = ap (λ (zs : List ℕ). line y ++ zs) (told-all xs ys (omega arith)) ∙ sym (flat_map-line y ys)
  where
    flat_map-line : (y : Wave) (ys : List Wave) → flat_map line (y ∷ ys) ≡ line y ++ flat_map line ys
    flat_map-line y ys = refl

pub told-changes : (xs ys : List Wave) → told_lines Changes xs ys ≡ changed_lines xs ys
told-changes [] ys = refl
told-changes (x ∷ xs) [] = refl
told-changes (x ∷ xs) (y ∷ ys) = ap (λ (zs : List ℕ). told_line Changes x.value y ++ zs) (told-changes xs ys)

pub told-append : (t : Telling) (xs ys vs ws : List Wave) → length xs ≡ length ys → told_lines t (xs ++ vs) (ys ++ ws) ≡ told_lines t xs ys ++ told_lines t vs ws
told-append t [] [] vs ws same = refl
told-append t [] (y ∷ ys) vs ws same = absurd (omega arith)
told-append t (x ∷ xs) [] vs ws same = absurd (omega arith)
told-append t (x ∷ xs) (y ∷ ys) vs ws same =
    ap (λ (zs : List ℕ). told_line t x.value y ++ zs) (told-append t xs ys vs ws (omega arith))
    ∙ sym (append_assoc (told_line t x.value y) (told_lines t xs ys) (told_lines t vs ws))

-- ---- numbers one after the other

range-more : (f : ℕ → List ℕ) (a n : ℕ) → flat_map f (range_with_len a (suc n)) ≡ flat_map f (range_with_len a n) ++ f (a + n)
range-more f a zero = rw add-zero (append-nil (f a))
range-more f a (suc n) =
    let at : (a + 1) + n ≡ a + suc n = omega arith in
    ap (λ (zs : List ℕ). f a ++ zs) (range-more f (a + 1) n ∙ ap (λ (k : ℕ). flat_map f (range_with_len (a + 1) n) ++ f k) at)
    ∙ sym (append_assoc (f a) (flat_map f (range_with_len (a + 1) n)) (f (a + suc n)))

pub range-next : (f : ℕ → List ℕ) (a n : ℕ) → flat_map f (range_with_len a (n + 1)) ≡ flat_map f (range_with_len a n) ++ f (a + n)
range-next f a n = let next : n + 1 ≡ suc n = omega arith in ap (λ (k : ℕ). flat_map f (range_with_len a k)) next ∙ range-more f a n

pub range-first : (f : ℕ → List ℕ) (n : ℕ) → flat_map f (range_with_len 0 (n + 1)) ≡ flat_map f (range_with_len 0 n) ++ f n
range-first f n = let at : 0 + n ≡ n = omega arith in range-next f 0 n ∙ ap (λ (k : ℕ). flat_map f (range_with_len 0 n) ++ f k) at

pub range-append : (f : ℕ → List ℕ) (a m n : ℕ) → flat_map f (range_with_len a (m + n)) ≡ flat_map f (range_with_len a m) ++ flat_map f (range_with_len (a + m) n)
range-append f a m zero = let at : m + zero ≡ m = omega arith in ap (λ (k : ℕ). flat_map f (range_with_len a k)) at ∙ sym (append-nil (flat_map f (range_with_len a m)))
range-append f a m (suc n) =
    let at : m + suc n ≡ suc (m + n) = omega arith in
    let place : a + (m + n) ≡ (a + m) + n = omega arith in
    ap (λ (k : ℕ). flat_map f (range_with_len a k)) at ∙ range-more f a (m + n)
    ∙ ap (λ (zs : List ℕ). zs ++ f (a + (m + n))) (range-append f a m n)
    ∙ append_assoc (flat_map f (range_with_len a m)) (flat_map f (range_with_len (a + m) n)) (f (a + (m + n)))
    ∙ ap (λ (k : ℕ). flat_map f (range_with_len a m) ++ (flat_map f (range_with_len (a + m) n) ++ f k)) place
    ∙ ap (λ (zs : List ℕ). flat_map f (range_with_len a m) ++ zs) (sym (range-more f (a + m) n))

-- ---- a time of which not all is told

nothing-all : (u : ℕ) (r : Record) (i : ℕ) (xs : List TaskStanding)
    → flat_map (λ n. lines_of Nothing n.0 n.1.told (seen u (outcome_of n.0 r) n.1)) (enumerate_from i xs) ≡ []
nothing-all u r i [] = refl
nothing-all u r i (x ∷ xs) = nothing-all u r (i + 1) xs

pub block-of-part : (t : Telling) (u : ℕ) (r : Record) (idle : Bool) (xs : List TaskStanding) → t ≢ All
    → timed u (lines_at t u r idle xs) ≡ block_of t u (lines_at t u r idle xs)
block-of-part Nothing u r idle xs part = ap (timed u) (nothing-all u r 0 xs)
block-of-part All u r idle xs part = absurd (part refl)
block-of-part Changes u r idle xs part = refl
