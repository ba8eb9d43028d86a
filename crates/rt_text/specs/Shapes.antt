-- How an operand is read at its place, and a statement's operands one by one.
use Rattle.std.specs.Prelude.{ℕ, ℤ, List, [], ◌∷◌, Option, Some, None}
use Rattle.std.specs.Option.{option_map, option_and_then}
use Rattle.rt_token.specs.Slice.{Slice}
use Rattle.rt_text.specs.Names.{register_of, fence_set_of}
use Rattle.rt_text.specs.declared.operands.Memory.{Memory as Place}
use Rattle.rt_text.specs.declared.operands.Operand.{Operand}
use Rattle.rt_text.specs.declared.operands.Operand.TheVariants.{Word, Number, Text, Memory}
use Rattle.rt_text.specs.declared.meaning.Target.{Target}
use Rattle.rt_text.specs.declared.meaning.Target.TheVariants as targets

-- r: a register
abbrev pub register : Operand → Option ℕ
register (Word s) = register_of s.text
register _ = None

-- n: a number
abbrev pub number_in : Operand → Option ℤ
number_in (Number s n) = Some n
number_in _ = None

-- t: a label, or a number
abbrev pub target_in : Operand → Option Target
target_in (Word s) = Some (targets.Label s)
target_in (Number s n) = Some (targets.Number n)
target_in _ = None

-- m: n(r) or (r)
abbrev pub memory_in : Operand → Option Place
memory_in (Memory span m) = Some m
memory_in _ = None

-- a fence set
abbrev pub fence_set : Operand → Option ℕ
fence_set (Word s) = fence_set_of s.text
fence_set _ = None

-- a word
abbrev pub word_in : Operand → Option Slice
word_in (Word s) = Some s
word_in _ = None

-- a string, with its quotes
abbrev pub text_in : Operand → Option Slice
text_in (Text s) = Some s
text_in _ = None

-- exactly one operand, read by f
abbrev pub one : {A : Type 0} → (Operand → Option A) → List Operand → Option A
one f (a ∷ []) = f a
one f _ = None

-- exactly two
abbrev pub two : {A B : Type 0} → (Operand → Option A) → (Operand → Option B) → List Operand → Option (A × B)
two f g (a ∷ b ∷ []) = option_and_then (λ x. option_map (λ y. (x, y)) (g b)) (f a)
two f g _ = None

-- exactly three
abbrev pub three : {A B C : Type 0} → (Operand → Option A) → (Operand → Option B) → (Operand → Option C) → List Operand → Option (A × B × C)
three f g h (a ∷ b ∷ c ∷ []) = option_and_then (λ x. option_and_then (λ y. option_map (λ z. (x, y, z)) (h c)) (g b)) (f a)
three f g h _ = None
