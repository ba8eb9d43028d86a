-- The folder of a path, as splitting it at its last slash gives it.
use Rattle.rt_desk.proofs.Common.{◌≡◌, ℕ, ◌≤◌, ◌<◌, ◌++◌, ◌∷◌, [], ◌==◌, ◌+◌, List, length, take, drop, Option, Some, None, refl, ap, ◌∙◌, sym, arith, length-drop}
use Rattle.std.proofs.Common.{◌≢◌, ◌-◌, get_or, not}
use Rattle.std.proofs.lemmas.Bool.{ne_eqb}
use Rattle.std.proofs.lemmas.List.{get_or-drop, take_more}
use Rattle.std.proofs.lemmas.List.Sums.{suffix_len_is}
use Rattle.std.proofs.lemmas.Str.Pattern.{NoCharPasses-char, drop_at_char}
use Rattle.std.specs.Borrow.{Bor}
use Rattle.std.specs.Prelude.{MatchOption}
use Rattle.std.specs.Str.Pattern.{RFindsChar}
use Rattle.rt_desk.specs.making.Making.{folder}

up_to : (text : List ℕ) (j : ℕ) → j ≤ length text → ((k : ℕ) → j ≤ k → k < length text → get_or text k 0 ≢ 47) → (0 < j → get_or text (j - 1) 0 ≡ 47) → folder text ≡ take j text
up_to text j within later at =
    let size = suffix_len_is (λ b. not (b == 47)) text j 0 within (λ k low high. ap not (ne_eqb (get_or text k 0) 47 (later k low high))) (λ some. ap (λ b. not (b == 47)) (at some)) in
    let place : length text - (length text - j) ≡ j = omega (arith, within) in
    rw (size, place) refl

pub last_folder : (text : List ℕ) (r : Option (Bor (List ℕ) × Bor (List ℕ)))
    → MatchOption r (RFindsChar 47 text None) (λ x. (i : ℕ) × (j : ℕ) × RFindsChar 47 text (Some (i, j)) × (x.0.now ≡ take i text) × (x.1.now ≡ drop j text) × (i ≤ j) × (length x.0.now ≡ i) × (length x.1.now + j ≡ length text))
    → MatchOption r (folder text ≡ []) (λ x. folder text ≡ x.0.now ++ 47 ∷ [])
last_folder text None none = up_to text 0 (omega arith) (λ k low high. NoCharPasses-char 47 text k none (omega arith) high) (λ some. absurd (omega (arith, some)))
last_folder text (Some x) h =
    let i = h.0 in
    let j = h.1 in
    let begins = drop_at_char 47 text i j h.2.1 (omega arith) in
    let next : j ≡ i + 1 = omega (arith, ap length begins, length-drop i text, length-drop j text, h.5, h.7) in
    let later : (k : ℕ) → j ≤ k → k < length text → get_or text k 0 ≢ 47 = λ k low high e.
    let back : j + (k - j) ≡ k = omega (arith, low) in
    NoCharPasses-char 47 (drop j text) (k - j) h.2.0 (omega arith) (omega (arith, low, high, length-drop j text)) (get_or-drop j text (k - j) 0 ∙ ap (λ (n : ℕ). get_or text n 0) back ∙ e) in
    let before : j - 1 ≡ i = omega (arith, next) in
    let byte = h.2.1.byte (omega arith) in
    up_to text j (omega (arith, h.7)) later (λ some. ap (λ (n : ℕ). get_or text n 0) before ∙ byte)
    ∙ ap (λ (n : ℕ). take n text) next ∙ take_more text i 0 (omega (arith, next, h.7)) ∙ ap (λ (l : List ℕ). l ++ get_or text i 0 ∷ []) (sym h.3) ∙ ap (λ (b : ℕ). x.0.now ++ b ∷ []) byte
