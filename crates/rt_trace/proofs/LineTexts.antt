-- The texts of the out line and the regs line, item by item.
use Rattle.rt_trace.proofs.Common.{◌≡◌, ℕ, zero, suc, ◌+◌, ◌-◌, ◌<◌, ◌≤◌, List, [], ◌∷◌, ◌++◌, length, get_or, take, drop, codes, refl, sym, ap, ◌∙◌, append_assoc, arith, append-nil, hex, bytes_text}
use Rattle.std.proofs.Common.{length-drop}
use Rattle.std.proofs.Math.Nat.{add-zero}
use Rattle.std.proofs.lemmas.List.{take_more, get_or-drop}
use Rattle.std.proofs.lemmas.Grind.{flat_map-append}
use Rattle.rt_trace.specs.OutLine.{gap}
use Rattle.rt_trace.specs.RegsLine.{register_text, registers_text}

pub gap_none : (n : ℕ) → n ≡ 0 → gap n ≡ []
gap_none zero e = refl
gap_none (suc n) e = absurd cc

pub gap_some : (n : ℕ) → 0 < n → gap n ≡ codes " "
gap_some zero lt = absurd (omega (arith, lt))
gap_some (suc n) lt = refl

-- one byte more
pub bytes_text-take : (bytes : List ℕ) (i : ℕ) → i < length bytes → bytes_text (take (i + 1) bytes) ≡ bytes_text (take i bytes) ++ hex 2 (get_or bytes i 0)
unfolding hex
bytes_text-take bytes i lt = rw (take_more bytes i 0 lt) (flat_map-append (hex 2) (take i bytes) (get_or bytes i 0 ∷ []))

-- one register more
pub registers_text-take : (r i : ℕ) (xs : List ℕ) → i < length xs → registers_text r (take (suc i) xs) ≡ registers_text r (take i xs) ++ register_text (r + i) (get_or xs i 0)
registers_text-take r i [] lt = absurd (omega (arith, lt))
registers_text-take r zero (x ∷ xs) lt = append-nil (register_text r x) ∙ ap (λ k. register_text k x) (sym (add-zero r))
registers_text-take r (suc i) (x ∷ xs) lt =
    let before = registers_text (suc r) (take i xs) in
    let place : suc r + i ≡ r + suc i = omega arith in
    ap (λ t. register_text r x ++ t) (registers_text-take (suc r) i xs (omega (arith, lt)))
    ∙ sym (append_assoc (register_text r x) before (register_text (suc r + i) (get_or xs i 0)))
    ∙ ap (λ k. (register_text r x ++ before) ++ register_text k (get_or xs i 0)) place

pub regs_step : (x : List ℕ) (n : ℕ) → 1 ≤ n → n < length x → registers_text 1 (take (n + 1 - 1) (drop 1 x)) ≡ registers_text 1 (take (n - 1) (drop 1 x)) ++ register_text n (get_or x n 0)
regs_step x n least lt =
    let next : n + 1 - 1 ≡ suc (n - 1) = omega arith in
    let place : 1 + (n - 1) ≡ n = omega arith in
    let within : n - 1 < length (drop 1 x) = omega (arith, length-drop 1 x) in
    let value : get_or (drop 1 x) (n - 1) 0 ≡ get_or x n 0 = get_or-drop 1 x (n - 1) 0 ∙ ap (λ k. get_or x k 0) place in
    ap (λ k. registers_text 1 (take k (drop 1 x))) next ∙ registers_text-take 1 (n - 1) (drop 1 x) within
    ∙ ap (λ k. registers_text 1 (take (n - 1) (drop 1 x)) ++ register_text k (get_or (drop 1 x) (n - 1) 0)) place
    ∙ ap (λ v. registers_text 1 (take (n - 1) (drop 1 x)) ++ register_text n v) value
