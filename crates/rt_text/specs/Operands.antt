-- The operands of a statement.
use Rattle.std.specs.Prelude.{ℕ, ℤ, pos, Bool, true, false, ◌+◌, List, [], ◌∷◌, length, Option, Some, None}
use Rattle.std.specs.List.{slice_split}
use Rattle.std.specs.Option.{option_map, option_and_then}
use Rattle.rt_token.specs.Slice.{Slice}
use Rattle.rt_token.specs.Number.{number}
use Rattle.rt_text.specs.Names.{register_of}
use Rattle.rt_token.specs.Tokens.{with_front}
use Rattle.rt_token.specs.declared.tokens.Kind.{Kind}
use Rattle.rt_token.specs.declared.tokens.Kind.TheVariants as kinds
use Rattle.rt_token.specs.declared.tokens.Token.{Token}
use Rattle.rt_token.specs.declared.pieces.Span.{Span}
use Rattle.rt_text.specs.declared.operands.Operand.{Operand}
use Rattle.rt_text.specs.declared.operands.Operand.TheVariants.{Word, Number, Text, Memory}

abbrev pub is_comma_kind : Kind → Bool
is_comma_kind kinds.Comma = true
is_comma_kind _ = false

-- the token separates two operands
abbrev pub is_comma : Token → Bool
is_comma t = is_comma_kind t.kind

-- where a token ends: one past its last byte
abbrev pub end_of : Slice → ℕ
end_of s = s.start + length s.text

-- where a part of the source lies
abbrev pub span_at : Slice → Span
span_at s = record { start = s.start; end = end_of s }

-- where an operand lies: a memory operand from its first token to its last
abbrev pub span_of : Operand → Span
span_of (Word s) = span_at s
span_of (Number s n) = span_at s
span_of (Text s) = span_at s
span_of (Memory span m) = span

-- an operand of one token
abbrev pub one_token : Kind → Slice → Option Operand
one_token kinds.Word s = Some (Word s)
one_token kinds.Number s = option_map (λ n. Number s n) (number s.text)
one_token kinds.Text s = Some (Text s)
one_token _ s = None

-- the register in '(' register ')'
abbrev pub base_in : Kind → Kind → Kind → List ℕ → Option ℕ
base_in kinds.Open kinds.Word kinds.Close name = register_of name
base_in _ _ _ name = None

-- the number before the '(' of a memory operand
abbrev pub offset_in : Kind → List ℕ → Option ℤ
offset_in kinds.Number text = number text
offset_in _ text = None

-- a memory operand from its first token to its ')'
abbrev pub memory : Slice → ℤ → Token → Token → Token → Option Operand
memory first offset left base right =
    option_map (λ r. Memory (record { start = first.start; end = end_of right.slice }) (record { offset = offset; base = r })) (base_in left.kind base.kind right.kind base.slice.text)

-- the operand that these tokens, those between two commas, are
abbrev pub operand : List Token → Option Operand
operand (t ∷ []) = one_token t.kind t.slice
operand (left ∷ base ∷ right ∷ []) = memory left.slice (pos 0) left base right
operand (offset ∷ left ∷ base ∷ right ∷ []) =
    option_and_then (λ n. memory offset.slice n left base right) (offset_in offset.kind offset.slice.text)
operand _ = None

-- f of each element, where it has one for all
abbrev pub each : {A B : Type 0} → (A → Option B) → List A → Option (List B)
each f [] = Some []
each f (x ∷ xs) = option_and_then (λ y. with_front y (each f xs)) (f x)

-- the operands of a statement, separated by commas
abbrev pub operands : List Token → Option (List Operand)
operands [] = Some []
operands (t ∷ ts) = each operand (slice_split is_comma (t ∷ ts))
