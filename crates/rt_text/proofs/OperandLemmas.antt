-- What the loop over the operands of a statement needs.
use Rattle.rt_text.proofs.Common.{◌≡◌, ℕ, ◌+◌, List, [], ◌∷◌, ◌++◌, length, ◌∙◌, ap, refl, Option, Some, None, append_assoc, option_map, option_and_then, slice_split, with_front, each, operand, is_comma, Operand, Token}
use Rattle.std.proofs.Common.{Bor}

-- the parts between commas that are left to read
abbrev pub parts_left : Option (Bor (List Token)) → List (List Token)
parts_left None = []
parts_left (Some ts) = slice_split is_comma ts.now

abbrev pub steps_left : Option (Bor (List Token)) → ℕ
steps_left None = 0
steps_left (Some ts) = length ts.now + 1

regrouped : (front : List Operand) (x : Operand) (rest : Option (List Operand)) → option_map (λ xs. (front ++ x ∷ []) ++ xs) rest ≡ option_map (λ xs. front ++ xs) (with_front x rest)
regrouped front x None = refl
regrouped front x (Some xs) = ap Some (append_assoc front (x ∷ []) xs)

-- an operand that is read goes behind those before it
pub operand_step : (front : List Operand) (x : Operand) (part : List Token) (parts : List (List Token)) → Some x ≡ operand part → option_map (λ xs. (front ++ x ∷ []) ++ xs) (each operand parts) ≡ option_map (λ xs. front ++ xs) (each operand (part ∷ parts))
operand_step front x part parts here =
    regrouped front x (each operand parts) ∙ ap (λ o. option_map (λ xs. front ++ xs) (option_and_then (λ y. with_front y (each operand parts)) o)) here
