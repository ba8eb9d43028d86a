-- Pieces as they are appended one by one, and together.
use Rattle.rt_effects.proofs.Common.{append_assoc, ◌≡◌, ℕ, ◌≤◌, true, false, List, [], ◌∷◌, ◌++◌, length, Option, Some, None, IfSome, refl, sym, ap, ◌∙◌, arith, is_some, Ins, Lb, Lh, Lw, Lbu, Lhu, Sb, Sh, Sw, accessed}
use Rattle.std.proofs.Common.{append-nil, ◌||◌}
use Rattle.std.specs.List.{filter_map}
use Rattle.rt_effects.specs.Did.{joined}
use Rattle.rt_effects.specs.Working.Pieces.{comma, piece_text, nothing}

-- three pieces, of which some are there
joined-three : (p q r : Option (List ℕ)) → joined (filter_map (λ p. p) (p ∷ q ∷ r ∷ []))
    ≡ ((piece_text false p ++ piece_text (is_some p) q) ++ piece_text (is_some p || is_some q) r) ++ nothing ((is_some p || is_some q) || is_some r)
joined-three None None None = refl
joined-three None None (Some r) = refl
joined-three None (Some q) None = sym (append-nil (q ++ []))
joined-three None (Some q) (Some r) = sym (append_assoc q (comma true ++ r) [])
joined-three (Some p) None None = sym (ap (λ (x : List ℕ). (x ++ []) ++ []) (append-nil p) ∙ ap (λ (x : List ℕ). x ++ []) (append-nil p))
joined-three (Some p) None (Some r) = sym (append_assoc p (comma true ++ r) []) ∙ sym (ap (λ (x : List ℕ). (x ++ (comma true ++ r)) ++ []) (append-nil p))
joined-three (Some p) (Some q) None = sym (append_assoc p (comma true ++ q) []) ∙ sym (append-nil ((p ++ (comma true ++ q)) ++ []))
joined-three (Some p) (Some q) (Some r) = sym (append_assoc p (comma true ++ q) ((comma true ++ r) ++ [])) ∙ sym (append_assoc (p ++ (comma true ++ q)) (comma true ++ r) [])

-- a line to which they are appended one by one
pub in-turn : (old one two three whole : List ℕ) (p q r : Option (List ℕ)) → one ≡ old ++ piece_text false p → two ≡ one ++ piece_text (is_some p) q
    → three ≡ two ++ piece_text (is_some p || is_some q) r → whole ≡ three ++ nothing ((is_some p || is_some q) || is_some r)
    → whole ≡ old ++ joined (filter_map (λ p. p) (p ∷ q ∷ r ∷ []))
in-turn old one two three whole p q r is_one is_two is_three is_whole =
    let a = piece_text false p in
    let b = piece_text (is_some p) q in
    let c = piece_text (is_some p || is_some q) r in
    let d = nothing ((is_some p || is_some q) || is_some r) in
    is_whole ∙ ap (λ (x : List ℕ). x ++ d) (is_three ∙ ap (λ (x : List ℕ). x ++ c) (is_two ∙ ap (λ (x : List ℕ). x ++ b) is_one))
    ∙ ap (λ (x : List ℕ). (x ++ c) ++ d) (append_assoc old a b) ∙ ap (λ (x : List ℕ). x ++ d) (append_assoc old (a ++ b) c)
    ∙ append_assoc old ((a ++ b) ++ c) d ∙ ap (λ (x : List ℕ). old ++ x) (sym (joined-three p q r))

-- a load or store is of few bytes
pub accessed-few : (x : List ℕ) (i : Ins) → IfSome (accessed x i) (λ a. a.bytes ≤ 4)
accessed-few x (Lb rd rs1 offset) = omega arith
accessed-few x (Lh rd rs1 offset) = omega arith
accessed-few x (Lw rd rs1 offset) = omega arith
accessed-few x (Lbu rd rs1 offset) = omega arith
accessed-few x (Lhu rd rs1 offset) = omega arith
accessed-few x (Sb rs1 rs2 offset) = omega arith
accessed-few x (Sh rs1 rs2 offset) = omega arith
accessed-few x (Sw rs1 rs2 offset) = omega arith
accessed-few x other = tt

-- a line that goes on by some text
pub goes-by : (new old whole text : List ℕ) → new ≡ old ++ text → old ≡ whole → new ≡ whole ++ text
goes-by new old whole text is same = is ∙ ap (λ (x : List ℕ). x ++ text) same

pub empty-line : (line : List ℕ) → length line ≡ 0 → line ≡ []
empty-line [] is = refl
empty-line (c ∷ line) is = absurd (omega (arith, is))
