-- The eight hexadecimal digits of a word, one by one.
use Rattle.std.proofs.Common.{◌≡◌, ℕ, zero, suc, ◌+◌, ◌/◌, ◌%◌, ◌<◌, [], ◌∷◌, false, cond, nat_lt, refl, ◌∙◌, ap, arith}
use Rattle.std.specs.Simd.Lanes.{top}
use Rattle.std.specs.Fmt.{digit_glyph}
use Rattle.rt_words.specs.Hex.{hex}

-- each digit is that of the number divided so often by 16
pub hex_word_is : (n a b c d e f g h : ℕ)
    → a ≡ digit_glyph false (n / 268435456 % 16) → b ≡ digit_glyph false (n / 16777216 % 16)
    → c ≡ digit_glyph false (n / 1048576 % 16) → d ≡ digit_glyph false (n / 65536 % 16)
    → e ≡ digit_glyph false (n / 4096 % 16) → f ≡ digit_glyph false (n / 256 % 16)
    → g ≡ digit_glyph false (n / 16 % 16) → h ≡ digit_glyph false (n % 16)
    → a ∷ b ∷ c ∷ d ∷ e ∷ f ∷ g ∷ h ∷ [] ≡ hex 8 n
unfolding hex
hex_word_is n a b c d e f g h ia ib ic id ie if_ ig ih =
    let second : n / 16 / 16 ≡ n / 256 = omega arith in
    let third : n / 256 / 16 ≡ n / 4096 = omega arith in
    let fourth : n / 4096 / 16 ≡ n / 65536 = omega arith in
    let fifth : n / 65536 / 16 ≡ n / 1048576 = omega arith in
    let sixth : n / 1048576 / 16 ≡ n / 16777216 = omega arith in
    let seventh : n / 16777216 / 16 ≡ n / 268435456 = omega arith in
    rw (second, third, fourth, fifth, sixth, seventh, ia, ib, ic, id, ie, if_, ig, ih) refl

-- a lane of the digits: 39 more where it is above 9, and 48 more
abbrev pub lane : ℕ → ℕ
lane d = ((d + cond (top 7 (cond (nat_lt 9 d) 255 0)) 39 0) % 256 + 48) % 256

lane-digit : (d : ℕ) → d < 16 → lane d ≡ digit_glyph false d
lane-digit zero small = refl
lane-digit (suc zero) small = refl
lane-digit (suc (suc zero)) small = refl
lane-digit (suc (suc (suc zero))) small = refl
lane-digit (suc (suc (suc (suc zero)))) small = refl
lane-digit (suc (suc (suc (suc (suc zero))))) small = refl
lane-digit (suc (suc (suc (suc (suc (suc zero)))))) small = refl
lane-digit (suc (suc (suc (suc (suc (suc (suc zero))))))) small = refl
lane-digit (suc (suc (suc (suc (suc (suc (suc (suc zero)))))))) small = refl
lane-digit (suc (suc (suc (suc (suc (suc (suc (suc (suc zero))))))))) small = refl
lane-digit (suc (suc (suc (suc (suc (suc (suc (suc (suc (suc zero)))))))))) small = refl
lane-digit (suc (suc (suc (suc (suc (suc (suc (suc (suc (suc (suc zero))))))))))) small = refl
lane-digit (suc (suc (suc (suc (suc (suc (suc (suc (suc (suc (suc (suc zero)))))))))))) small = refl
lane-digit (suc (suc (suc (suc (suc (suc (suc (suc (suc (suc (suc (suc (suc zero))))))))))))) small = refl
lane-digit (suc (suc (suc (suc (suc (suc (suc (suc (suc (suc (suc (suc (suc (suc zero)))))))))))))) small = refl
lane-digit (suc (suc (suc (suc (suc (suc (suc (suc (suc (suc (suc (suc (suc (suc (suc zero))))))))))))))) small = refl
lane-digit (suc (suc (suc (suc (suc (suc (suc (suc (suc (suc (suc (suc (suc (suc (suc (suc d)))))))))))))))) small = absurd (omega (arith, small))

pub lane_is : (d e : ℕ) → d ≡ e → d < 16 → lane d ≡ digit_glyph false e
lane_is d e same small = lane-digit d small ∙ ap (λ (v : ℕ). digit_glyph false v) same
