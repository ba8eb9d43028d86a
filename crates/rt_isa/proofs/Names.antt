-- The name of the row that makes an instruction, and the text that this gives.
use Rattle.rt_isa.proofs.Common.{◌≡◌, ℕ, List, ◌++◌, Option, Some, None, refl, sym, ap, ◌∙◌, append_assoc, option_map, ins, row_of, cut, table, Row}
use Rattle.rt_isa.specs.Print.{Operands, operands, written, text, data_text}
use Rattle.rt_isa.specs.Working.InstructionOperands.{operands_of}
use Rattle.rt_isa.specs.Working.Names.{name_of}
use Rattle.rt_isa.specs.declared.instruction.Ins.{Ins}
use Rattle.rt_isa.proofs.OneRow.{EachRow, row_found}

abbrev IsNamed : Row → Type 0
IsNamed r = (w : ℕ) → name_of (cut r.format w) ≡ r.name

table_named : EachRow IsNamed table
unfolding name_of
table_named =
    (λ w. refl, (λ w. refl, (λ w. refl, (λ w. refl, (λ w. refl, (λ w. refl, (λ w. refl, (λ w. refl, (λ w. refl, (λ w. refl, (λ w. refl, (λ w. refl, (λ w. refl, (λ w. refl, (λ w. refl, (λ w. refl, (λ w. refl, (λ w. refl, (λ w. refl, (λ w. refl, (λ w. refl, (λ w. refl, (λ w. refl, (λ w. refl, (λ w. refl, (λ w. refl, (λ w. refl, (λ w. refl, (λ w. refl, (λ w. refl, (λ w. refl, (λ w. refl, (λ w. refl, (λ w. refl, (λ w. refl, (λ w. refl, (λ w. refl, (λ w. refl, (λ w. refl, (λ w. refl, tt))))))))))))))))))))))))))))))))))))))))

-- the name of the row that makes an instruction
named : (x : Ins) (w : ℕ) (r : Row) → row_of w ≡ Some r → cut r.format w ≡ x → name_of x ≡ r.name
unfolding row_of
named x w r is made = ap name_of (sym made) ∙ (row_found IsNamed table table_named w r is).1 w

-- ---- the operands of a row's format are those of its instruction

abbrev HasOperands : Row → Type 0
HasOperands r = (pc w : ℕ) → operands pc r.format w ≡ operands_of pc (cut r.format w)

table_operands : EachRow HasOperands table
unfolding operands operands_of
table_operands =
    (λ pc w. refl, (λ pc w. refl, (λ pc w. refl, (λ pc w. refl, (λ pc w. refl, (λ pc w. refl, (λ pc w. refl, (λ pc w. refl, (λ pc w. refl, (λ pc w. refl, (λ pc w. refl, (λ pc w. refl, (λ pc w. refl, (λ pc w. refl, (λ pc w. refl, (λ pc w. refl, (λ pc w. refl, (λ pc w. refl, (λ pc w. refl, (λ pc w. refl, (λ pc w. refl, (λ pc w. refl, (λ pc w. refl, (λ pc w. refl, (λ pc w. refl, (λ pc w. refl, (λ pc w. refl, (λ pc w. refl, (λ pc w. refl, (λ pc w. refl, (λ pc w. refl, (λ pc w. refl, (λ pc w. refl, (λ pc w. refl, (λ pc w. refl, (λ pc w. refl, (λ pc w. refl, (λ pc w. refl, (λ pc w. refl, (λ pc w. refl, tt))))))))))))))))))))))))))))))))))))))))

found_operands : (pc w : ℕ) (x : Ins) (o : Option Operands) (r : Row) → row_of w ≡ Some r → cut r.format w ≡ x → operands_of pc x ≡ o → operands pc r.format w ≡ o
unfolding row_of
found_operands pc w x o r is made has = (row_found HasOperands table table_operands w r is).1 pc w ∙ ap (operands_of pc) made ∙ has

-- ---- the text of a word

pub text_of_none : (pc w : ℕ) → ins w ≡ None → data_text w ≡ text pc w
unfolding ins text
text_of_none pc w none = from (row_of w) refl none
  where
    from : (o : Option Row) → row_of w ≡ o → option_map (λ (r : Row). cut r.format w) o ≡ None → data_text w ≡ text pc w
    from None at none = rw at refl
    from (Some r) at some = absurd cc

pub text_of_data : (pc w : ℕ) (x : Ins) → ins w ≡ Some x → operands_of pc x ≡ None → data_text w ≡ text pc w
unfolding ins text
text_of_data pc w x is no_operands = from (row_of w) refl is
  where
    from : (o : Option Row) → row_of w ≡ o → option_map (λ (r : Row). cut r.format w) o ≡ Some x → data_text w ≡ text pc w
    from None at none = absurd cc
    from (Some r) at some =
        let made : cut r.format w ≡ x = cc in
        rw (at, found_operands pc w x None r at made no_operands) refl

text_of_statement : (pc w : ℕ) (x : Ins) (o : Operands) → ins w ≡ Some x → operands_of pc x ≡ Some o → name_of x ++ written o ≡ text pc w
unfolding ins text
text_of_statement pc w x o is has_operands = from (row_of w) refl is
  where
    from : (q : Option Row) → row_of w ≡ q → option_map (λ (r : Row). cut r.format w) q ≡ Some x → name_of x ++ written o ≡ text pc w
    from None at none = absurd cc
    from (Some r) at some =
        let made : cut r.format w ≡ x = cc in
        rw (at, found_operands pc w x (Some o) r at made has_operands, named x w r at made) refl

-- ---- a text that was pushed

-- what is made of operands, where there are some
made_of : {A : Type 0} (f : A → List ℕ) (q : Option A) (new : List ℕ) → option_map f q ≡ Some new → (o : A) × (q ≡ Some o) × (f o ≡ new)
made_of f None new none = absurd cc
made_of f (Some o) new some = (o, refl, cc)

-- a name, and operands behind it
pub statement_pushed : (pc w : ℕ) (x : Ins) (old new : List ℕ) → ins w ≡ Some x → option_map (λ o. (old ++ name_of x) ++ written o) (operands_of pc x) ≡ Some new → new ≡ old ++ text pc w
statement_pushed pc w x old new is pushed =
    let found = made_of _ (operands_of pc x) new pushed in
    sym found.2 ∙ append_assoc old (name_of x) (written found.0) ∙ ap (λ (l : List ℕ). old ++ l) (text_of_statement pc w x found.0 is found.1)
