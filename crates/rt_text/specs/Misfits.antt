-- The operand of a statement that fits no form of its name.
use Rattle.std.specs.Prelude.{ℕ, Bool, false, nat_lt, ◌-◌, max, length, if◌then◌else◌, List, [], ◌∷◌, take, drop, Option, Some, None}
use Rattle.std.specs.List.{position_or_len, slice_get}
use Rattle.std.specs.Option.{unwrap_or}
use Rattle.rt_token.specs.Slice.{Slice}
use Rattle.rt_token.specs.declared.pieces.Span.{Span}
use Rattle.rt_token.specs.declared.tokens.Kind.{Kind}
use Rattle.rt_token.specs.declared.tokens.Kind.TheVariants.{Word}
use Rattle.rt_token.specs.declared.tokens.Token.{Token}
use Rattle.rt_text.specs.FlawedWord.{flawed_slice}
use Rattle.rt_text.specs.Forms.{form_of}
use Rattle.rt_text.specs.OperandKinds.{is_kind, behind, shapes_of}
use Rattle.rt_text.specs.Operands.{is_comma, end_of, span_at, operand}
use Rattle.rt_text.specs.declared.forms.Form.{Form}
use Rattle.rt_text.specs.declared.operand_kinds.OperandKind.{OperandKind}
use Rattle.rt_text.specs.declared.operands.Operand.{Operand}
use Rattle.rt_text.specs.declared.refused_words.Flaw.TheVariants.{NoName, Operand as Misfit}
use Rattle.rt_text.specs.declared.refused_words.RefusedWord.{RefusedWord}

-- what stands behind each comma
abbrev pub behind_commas : List Token → List (List Token)
behind_commas [] = []
behind_commas (t ∷ ts) = if is_comma t then ts ∷ behind_commas ts else behind_commas ts

-- the tokens from each operand on
abbrev pub from_each : List Token → List (List Token)
from_each [] = []
from_each (t ∷ ts) = (t ∷ ts) ∷ behind_commas (t ∷ ts)

-- the operand at the front of some tokens is of a kind
abbrev pub fits : OperandKind → Option Operand → Bool
fits kind None = false
fits kind (Some o) = is_kind kind o

abbrev pub begins_with : OperandKind → List Token → Bool
begins_with kind ts = fits kind (operand (take (position_or_len is_comma ts) ts))

-- the tokens from the first operand on that isn't of its kind; none where each is
abbrev pub misfit_from : List OperandKind → List (List Token) → Option (List Token)
misfit_from kinds [] = None
misfit_from [] (rest ∷ rests) = Some rest
misfit_from (kind ∷ kinds) (rest ∷ rests) = if begins_with kind rest then misfit_from (behind kind kinds) rests else Some rest

abbrev pub later : Option (List Token) → Option (List Token) → Option (List Token)
later None other = None
later (Some rest) None = None
later (Some rest) (Some other) = if nat_lt (length other) (length rest) then Some other else Some rest

-- the same of the shape that fits longest
abbrev pub last_misfit : Option (List Token) → List (List OperandKind) → List (List Token) → Option (List Token)
last_misfit found [] rests = found
last_misfit found (shape ∷ shapes) rests = last_misfit (later found (misfit_from shape rests)) shapes rests

-- the tokens of the operand at the front of some; where it is empty its comma, or the statement's last token
abbrev pub marked : List Token → List Token → List Token
marked ts [] = drop (length ts - 1) ts
marked ts (t ∷ rest) = take (max 1 (position_or_len is_comma (t ∷ rest))) (t ∷ rest)

abbrev pub between : Option Token → Option Token → Option Span
between (Some first) (Some last) = Some (record { start = first.slice.start; end = end_of last.slice })
between _ _ = None

-- from the first of some tokens to the last
abbrev pub span_over : List Token → Option Span
span_over ts = between (slice_get ts 0) (slice_get ts (length ts - 1))

-- where the operand lies that fits no form; the name where all fit, so that one is missing
abbrev pub misfit_span : Span → List Token → Option (List Token) → Span
misfit_span name ts None = name
misfit_span name ts (Some rest) = unwrap_or (span_over (marked ts rest)) name

abbrev pub form_by : Kind → List ℕ → Option Form
form_by Word text = form_of text
form_by _ text = None

abbrev pub misfit_by : Slice → Option Form → List Token → RefusedWord
misfit_by name None ts = flawed_slice NoName name
misfit_by name (Some form) ts =
    record { flaw = Misfit (span_at name); span = misfit_span (span_at name) ts (last_misfit (slice_get (from_each ts) 0) (shapes_of form) (from_each ts)) }

-- what stands where a name is to stand, or an operand
abbrev pub misfit : List Token → Option RefusedWord
misfit [] = None
misfit (t ∷ ts) = Some (misfit_by t.slice (form_by t.kind t.slice.text) ts)
