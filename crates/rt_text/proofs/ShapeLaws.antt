-- Operands have a meaning under a form exactly where they have one of its shapes.
use Rattle.rt_text.proofs.Common.{◌≡◌, Bool, true, false, ◌&&◌, List, [], ◌∷◌, Option, Some, None, refl, sym, ap, ◌∙◌, option_map, option_and_then, with_front, meaning_of, each, Form, Operand}
use Rattle.std.proofs.Common.{◌||◌}
use Rattle.std.specs.Prelude.{is_some}
use Rattle.std.specs.List.{list_any}
use Rattle.rt_text.specs.Meaning.{or_else, some_of, none, operation_of, transfer_of, directive_of}
use Rattle.rt_text.specs.OperandKinds.{is_kind, is_more, fit, shapes_of, operation_shapes, transfer_shapes, directive_shapes}
use Rattle.rt_text.specs.Shapes.{register, number_in, target_in, memory_in, fence_set, word_in, text_in, one, two, three}
use Rattle.rt_text.specs.declared.forms.Form.TheVariants as form
use Rattle.rt_text.specs.declared.forms.OperationForm.{OperationForm}
use Rattle.rt_text.specs.declared.forms.OperationForm.TheVariants.{Upper, LoadNumber, Immediate, Shift, Register, Unary, Load, Store}
use Rattle.rt_text.specs.declared.forms.TransferForm.{TransferForm}
use Rattle.rt_text.specs.declared.forms.TransferForm.TheVariants.{JumpAndLink, JumpAndLinkRegister, Branch, ZeroBranch, JumpTo, JumpRegister, LoadAddress}
use Rattle.rt_text.specs.declared.forms.DirectiveForm.{DirectiveForm}
use Rattle.rt_text.specs.declared.forms.DirectiveForm.TheVariants.{Section, Symbol, Bytes, Halves, Words, Zero, Align, Text}
use Rattle.rt_text.specs.declared.operand_kinds.OperandKind.{OperandKind}
use Rattle.rt_text.specs.declared.operand_kinds.OperandKind.TheVariants as kind

mapped : {A B : Type 0} (f : A → B) (o : Option A) → is_some (option_map f o) ≡ is_some o
mapped f None = refl
mapped f (Some x) = refl

and_true : (b : Bool) → (b && true) ≡ b
and_true true = refl
and_true false = refl

and_false : (b : Bool) → (b && false) ≡ false
and_false true = refl
and_false false = refl

or_false : (b : Bool) → (b || false) ≡ b
or_false true = refl
or_false false = refl

either : {A : Type 0} (x y : Option A) → is_some (or_else x y) ≡ (is_some x || is_some y)
either None y = refl
either (Some x) y = refl

-- the kind is that of what is read
abbrev Reads : {A : Type 0} → OperandKind → (Operand → Option A) → Type 0
Reads k f = (o : Operand) → is_kind k o ≡ is_some (f o)

one_fits : {A : Type 0} (f : Operand → Option A) (k : OperandKind) → is_more k ≡ false → Reads k f → (os : List Operand) → is_some (one f os) ≡ fit (k ∷ []) os
one_fits f k once is [] = sym once
one_fits f k once is (a ∷ []) = rw (once, is a) (sym (and_true (is_some (f a))))
one_fits f k once is (a ∷ b ∷ os) = rw once (sym (and_false (is_kind k a)))

pair_fits : {A B C : Type 0} (made : A → B → C) (x : Option A) (y : Option B) → is_some (option_and_then (λ x. option_map (made x) y) x) ≡ (is_some x && is_some y)
pair_fits made None y = refl
pair_fits made (Some x) y = mapped (made x) y

two_fits : {A B : Type 0} (f : Operand → Option A) (g : Operand → Option B) (j k : OperandKind) → is_more j ≡ false → is_more k ≡ false → Reads j f → Reads k g
    → (os : List Operand) → is_some (two f g os) ≡ fit (j ∷ k ∷ []) os
two_fits f g j k once again is bs [] = sym once
two_fits f g j k once again is bs (a ∷ []) = rw (once, again) (sym (and_false (is_kind j a)))
two_fits f g j k once again is bs (a ∷ b ∷ []) = rw (once, again, is a, bs b) (pair_fits _ (f a) (g b) ∙ ap (λ c. is_some (f a) && c) (sym (and_true (is_some (g b)))))
two_fits f g j k once again is bs (a ∷ b ∷ c ∷ os) = rw (once, again) (sym (ap (λ d. is_kind j a && d) (and_false (is_kind k b)) ∙ and_false (is_kind j a)))

triple_fits : {A B C D : Type 0} (made : A → B → C → D) (x : Option A) (y : Option B) (z : Option C)
    → is_some (option_and_then (λ x. option_and_then (λ y. option_map (made x y) z) y) x) ≡ (is_some x && (is_some y && is_some z))
triple_fits made None y z = refl
triple_fits made (Some x) None z = refl
triple_fits made (Some x) (Some y) z = mapped (made x y) z

three_fits : {A B C : Type 0} (f : Operand → Option A) (g : Operand → Option B) (h : Operand → Option C) (i j k : OperandKind)
    → is_more i ≡ false → is_more j ≡ false → is_more k ≡ false → Reads i f → Reads j g → Reads k h
    → (os : List Operand) → is_some (three f g h os) ≡ fit (i ∷ j ∷ k ∷ []) os
three_fits f g h i j k one two three is bs cs [] = sym one
three_fits f g h i j k one two three is bs cs (a ∷ []) = rw (one, two) (sym (and_false (is_kind i a)))
three_fits f g h i j k one two three is bs cs (a ∷ b ∷ []) = rw (one, two, three) (sym (ap (λ d. is_kind i a && d) (and_false (is_kind j b)) ∙ and_false (is_kind i a)))
three_fits f g h i j k one two three is bs cs (a ∷ b ∷ c ∷ []) =
    rw (one, two, three, is a, bs b, cs c) (triple_fits _ (f a) (g b) (h c) ∙ ap (λ d. is_some (f a) && (is_some (g b) && d)) (sym (and_true (is_some (h c)))))
three_fits f g h i j k one two three is bs cs (a ∷ b ∷ c ∷ d ∷ os) =
    rw (one, two, three) (sym (ap (λ e. is_kind i a && (is_kind j b && e)) (and_false (is_kind k c)) ∙ ap (λ e. is_kind i a && e) (and_false (is_kind j b)) ∙ and_false (is_kind i a)))

each_fits : {A : Type 0} (f : Operand → Option A) (m : OperandKind) → is_more m ≡ true → Reads m f → (os : List Operand) → is_some (each f os) ≡ fit (m ∷ []) os
each_fits f m more is [] = sym more
each_fits f m more is (o ∷ os) = rw (more, is o) (front (f o) (each f os) ∙ ap (λ b. is_some (f o) && b) (each_fits f m more is os))
  where
    front : {A : Type 0} (x : Option A) (xs : Option (List A)) → is_some (option_and_then (λ y. with_front y xs) x) ≡ (is_some x && is_some xs)
    front None xs = refl
    front (Some x) xs = mapped _ xs

some_fit : {A : Type 0} (f : Operand → Option A) (k m : OperandKind) → is_more k ≡ false → is_more m ≡ true → Reads k f → Reads m f
    → (os : List Operand) → is_some (some_of f os) ≡ fit (k ∷ m ∷ []) os
some_fit f k m once more is bs [] = sym once
some_fit f k m once more is bs (o ∷ os) =
    each_fits f m more bs (o ∷ os) ∙ (rw (once, more) (ap (λ b. b && fit (m ∷ []) os) (bs o ∙ sym (is o))))

none_fits : {A : Type 0} (x : A) (os : List Operand) → is_some (none x os) ≡ fit [] os
none_fits x [] = refl
none_fits x (o ∷ os) = refl

-- a form of one shape
alone : {A B : Type 0} (f : A → B) (o : Option A) (shape : List OperandKind) (os : List Operand) → is_some o ≡ fit shape os → is_some (option_map f o) ≡ list_any (λ s. fit s os) (shape ∷ [])
alone f o shape os is = mapped f o ∙ is ∙ sym (or_false (fit shape os))

operation_fits : (f : OperationForm) (os : List Operand) → is_some (operation_of f os) ≡ list_any (λ s. fit s os) (operation_shapes f)
operation_fits (Upper op) os = alone _ (two register number_in os) (kind.Written ∷ kind.Number ∷ []) os (two_fits register number_in kind.Written kind.Number refl refl (λ o. refl) (λ o. refl) os)
operation_fits LoadNumber os = alone _ (two register number_in os) (kind.Written ∷ kind.Number ∷ []) os (two_fits register number_in kind.Written kind.Number refl refl (λ o. refl) (λ o. refl) os)
operation_fits (Immediate op) os =
    alone _ (three register register number_in os) (kind.Written ∷ kind.First ∷ kind.Number ∷ []) os (three_fits register register number_in kind.Written kind.First kind.Number refl refl refl (λ o. refl) (λ o. refl) (λ o. refl) os)
operation_fits (Shift op) os =
    alone _ (three register register number_in os) (kind.Written ∷ kind.First ∷ kind.Amount ∷ []) os (three_fits register register number_in kind.Written kind.First kind.Amount refl refl refl (λ o. refl) (λ o. refl) (λ o. refl) os)
operation_fits (Register op) os =
    alone _ (three register register register os) (kind.Written ∷ kind.First ∷ kind.Second ∷ []) os (three_fits register register register kind.Written kind.First kind.Second refl refl refl (λ o. refl) (λ o. refl) (λ o. refl) os)
operation_fits (Unary op) os = alone _ (two register register os) (kind.Written ∷ kind.First ∷ []) os (two_fits register register kind.Written kind.First refl refl (λ o. refl) (λ o. refl) os)
operation_fits (Load op) os = alone _ (two register memory_in os) (kind.Written ∷ kind.Memory ∷ []) os (two_fits register memory_in kind.Written kind.Memory refl refl (λ o. refl) (λ o. refl) os)
operation_fits (Store op) os = alone _ (two register memory_in os) (kind.Second ∷ kind.Memory ∷ []) os (two_fits register memory_in kind.Second kind.Memory refl refl (λ o. refl) (λ o. refl) os)

-- a way to write operands before others
first : {A B : Type 0} (f : A → B) (o : Option A) (rest : Option B) (shape : List OperandKind) (others : Bool) (os : List Operand)
    → is_some o ≡ fit shape os → is_some rest ≡ others → is_some (or_else (option_map f o) rest) ≡ (fit shape os || others)
first f o rest shape others os is left = either (option_map f o) rest ∙ rw (mapped f o, is, left) refl

transfer_fits : (f : TransferForm) (os : List Operand) → is_some (transfer_of f os) ≡ list_any (λ s. fit s os) (transfer_shapes f)
transfer_fits JumpAndLink os =
    first _ (two register target_in os) _ (kind.Written ∷ kind.Target ∷ []) _ os (two_fits register target_in kind.Written kind.Target refl refl (λ o. refl) (λ o. refl) os)
    (alone _ (one target_in os) (kind.Target ∷ []) os (one_fits target_in kind.Target refl (λ o. refl) os))
transfer_fits JumpAndLinkRegister os =
    first _ (two register memory_in os) _ (kind.Written ∷ kind.Memory ∷ []) _ os (two_fits register memory_in kind.Written kind.Memory refl refl (λ o. refl) (λ o. refl) os)
    (first _ (three register register number_in os) _ (kind.Written ∷ kind.First ∷ kind.Number ∷ []) _ os (three_fits register register number_in kind.Written kind.First kind.Number refl refl refl (λ o. refl) (λ o. refl) (λ o. refl) os)
    (first _ (two register register os) _ (kind.Written ∷ kind.First ∷ []) _ os (two_fits register register kind.Written kind.First refl refl (λ o. refl) (λ o. refl) os)
    (alone _ (one register os) (kind.First ∷ []) os (one_fits register kind.First refl (λ o. refl) os))))
transfer_fits (Branch op) os =
    alone _ (three register register target_in os) (kind.First ∷ kind.Second ∷ kind.Target ∷ []) os (three_fits register register target_in kind.First kind.Second kind.Target refl refl refl (λ o. refl) (λ o. refl) (λ o. refl) os)
transfer_fits (ZeroBranch op) os = alone _ (two register target_in os) (kind.First ∷ kind.Target ∷ []) os (two_fits register target_in kind.First kind.Target refl refl (λ o. refl) (λ o. refl) os)
transfer_fits (JumpTo op) os = alone _ (one target_in os) (kind.Target ∷ []) os (one_fits target_in kind.Target refl (λ o. refl) os)
transfer_fits JumpRegister os = alone _ (one register os) (kind.First ∷ []) os (one_fits register kind.First refl (λ o. refl) os)
transfer_fits LoadAddress os = alone _ (two register target_in os) (kind.Written ∷ kind.Target ∷ []) os (two_fits register target_in kind.Written kind.Target refl refl (λ o. refl) (λ o. refl) os)

directive_fits : (f : DirectiveForm) (os : List Operand) → is_some (directive_of f os) ≡ list_any (λ s. fit s os) (directive_shapes f)
directive_fits Section os = none_fits _ os ∙ sym (or_false (fit [] os))
directive_fits Symbol os = alone _ (one word_in os) (kind.Symbol ∷ []) os (one_fits word_in kind.Symbol refl (λ o. refl) os)
directive_fits Bytes os = alone _ (some_of number_in os) (kind.Number ∷ kind.MoreNumbers ∷ []) os (some_fit number_in kind.Number kind.MoreNumbers refl refl (λ o. refl) (λ o. refl) os)
directive_fits Halves os = alone _ (some_of number_in os) (kind.Number ∷ kind.MoreNumbers ∷ []) os (some_fit number_in kind.Number kind.MoreNumbers refl refl (λ o. refl) (λ o. refl) os)
directive_fits Words os = alone _ (some_of target_in os) (kind.Item ∷ kind.MoreItems ∷ []) os (some_fit target_in kind.Item kind.MoreItems refl refl (λ o. refl) (λ o. refl) os)
directive_fits Zero os = alone _ (one number_in os) (kind.Number ∷ []) os (one_fits number_in kind.Number refl (λ o. refl) os)
directive_fits Align os = alone _ (one number_in os) (kind.Number ∷ []) os (one_fits number_in kind.Number refl (λ o. refl) os)
directive_fits (Text op) os = alone _ (one text_in os) (kind.Text ∷ []) os (one_fits text_in kind.Text refl (λ o. refl) os)

pub operands_fit : (f : Form) (os : List Operand) → is_some (meaning_of f os) ≡ list_any (λ s. fit s os) (shapes_of f)
operands_fit (form.Operation f) os = mapped _ (operation_of f os) ∙ operation_fits f os
operands_fit (form.Transfer f) os = mapped _ (transfer_of f os) ∙ transfer_fits f os
operands_fit form.Fence os =
    either (none _ os) (option_map _ (two fence_set fence_set os))
    ∙ rw (none_fits _ os, alone _ (two fence_set fence_set os) (kind.Before ∷ kind.After ∷ []) os (two_fits fence_set fence_set kind.Before kind.After refl refl (λ o. refl) (λ o. refl) os)) refl
operands_fit (form.Plain op) os = none_fits _ os ∙ sym (or_false (fit [] os))
operands_fit (form.Directive f) os = mapped _ (directive_of f os) ∙ directive_fits f os
