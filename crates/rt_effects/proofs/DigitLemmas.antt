-- Hexadecimal digits: the last ones, and those behind the zeros that lead.
use Rattle.rt_effects.proofs.Common.{append_assoc, ◌≡◌, ℕ, zero, suc, ◌+◌, ◌-◌, ◌/◌, ◌%◌, ◌<◌, ◌≤◌, ◌==◌, false, List, [], ◌∷◌, ◌++◌, length, drop, take, get_or, refl, sym, ap, ◌∙◌, arith, hex}
use Rattle.std.proofs.Common.{append-nil, add-zero, take-take, take_at}
use Rattle.std.specs.Fmt.{digit_glyph}
use Rattle.std.proofs.lemmas.List.{length-append, drop-append-le, drop_all, take_all}
use Rattle.rt_effects.specs.TraceText.{least_digits}

length-hex : (k n : ℕ) → length (hex k n) ≡ k
unfolding hex
length-hex zero n = refl
length-hex (suc k) n = length-append (hex k (n / 16)) (digit_glyph false (n % 16) ∷ []) ∙ omega (arith, length-hex k (n / 16))

-- more digits have the fewer behind them
record Ends (j k n : ℕ) : Type 0 where
  front : List ℕ
  count : length front ≡ j
  is : hex (j + k) n ≡ front ++ hex k n

ends : (j k n : ℕ) → Ends j k n
unfolding hex
ends j zero n = record { front = hex j n; count = length-hex j n; is = ap (λ (m : ℕ). hex m n) (add-zero j) ∙ sym (append-nil (hex j n)) }
ends j (suc k) n =
    let before = ends j k (n / 16) in
    let at : j + suc k ≡ suc (j + k) = omega arith in
    record {
      front = before.front;
      count = before.count;
      is =
          ap (λ (m : ℕ). hex m n) at ∙ ap (λ (x : List ℕ). x ++ digit_glyph false (n % 16) ∷ []) before.is
          ∙ append_assoc before.front (hex k (n / 16)) (digit_glyph false (n % 16) ∷ []);
    }

last-digits : (k n : ℕ) → k ≤ 8 → drop (8 - k) (hex 8 n) ≡ hex k n
last-digits k n few =
    let e = ends (8 - k) k n in
    let all : 8 ≡ (8 - k) + k = omega (arith, few) in
    ap (λ (m : ℕ). drop (8 - k) (hex m n)) all ∙ ap (drop (8 - k)) e.is
    ∙ drop-append-le (8 - k) e.front (hex k n) (omega (arith, e.count))
    ∙ ap (λ (x : List ℕ). x ++ hex k n) (drop_all (8 - k) e.front (omega (arith, e.count)))

-- as a slice has them
pub sliced-digits : (k n : ℕ) → k ≤ 8 → take (8 - (8 - k)) (drop (8 - k) (hex 8 n)) ≡ hex k n
sliced-digits k n few = ap (take (8 - (8 - k))) (last-digits k n few) ∙ take_all (8 - (8 - k)) (hex k n) (omega (arith, length-hex k n, few))

-- as the front of a slice of the digits of two words has them
pub low-digits : (k n m : ℕ) → k ≤ 8 → take k (take (16 - (8 - k)) (drop (8 - k) (hex 8 n ++ hex 8 m))) ≡ hex k n
low-digits k n m few =
    take-take k (16 - (8 - k)) (drop (8 - k) (hex 8 n ++ hex 8 m)) (omega (arith, few))
    ∙ ap (take k) (drop-append-le (8 - k) (hex 8 n) (hex 8 m) (omega (arith, length-hex 8 n)) ∙ ap (λ (x : List ℕ). x ++ hex 8 m) (last-digits k n few))
    ∙ take_at (hex k n) (hex 8 m) k (length-hex k n)

pub first-digits : (n m : ℕ) → take 8 (hex 8 n ++ hex 8 m) ≡ hex 8 n
first-digits n m = take_at (hex 8 n) (hex 8 m) 8 (length-hex 8 n)

-- ---- zeros that lead

pub zero-leads : (k : ℕ) (ds : List ℕ) (d : ℕ) → k < length ds → get_or ds k d ≡ 48 → least_digits (drop k ds) ≡ least_digits (drop (k + 1) ds)
zero-leads k [] d less is = absurd (omega arith)
zero-leads zero (c ∷ ds) d less is = rw is refl
zero-leads (suc k) (c ∷ ds) d less is = let at : suc k + 1 ≡ suc (k + 1) = omega arith in zero-leads k ds d (omega (arith, less)) is ∙ ap (λ (m : ℕ). least_digits (drop m (c ∷ ds))) (sym at)

pub other-stays : (k : ℕ) (ds : List ℕ) (d : ℕ) → k < length ds → (get_or ds k d == 48) ≡ false → least_digits (drop k ds) ≡ drop k ds
other-stays k [] d less is = absurd (omega arith)
other-stays zero (c ∷ ds) d less is = rw is refl
other-stays (suc k) (c ∷ ds) d less is = other-stays k ds d (omega (arith, less)) is
