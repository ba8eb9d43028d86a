-- The labels and the statement of a line, and the first fault of a line.
use Rattle.std.specs.Prelude.{ℕ, Bool, true, false, not, nat_lt, is_some, length, if◌then◌else◌, List, [], ◌∷◌, Option, Some, None, Result, Ok, Err}
use Rattle.std.specs.Char.{is_ascii}
use Rattle.std.specs.List.{list_all}
use Rattle.std.specs.Option.{option_map, option_and_then}
use Rattle.rt_words.specs.Limits.{line_limit}
use Rattle.rt_token.specs.Slice.{Slice}
use Rattle.rt_token.specs.Number.{number}
use Rattle.rt_token.specs.Tokens.{tokens}
use Rattle.rt_text.specs.Operands.{operands}
use Rattle.rt_text.specs.Forms.{form_of}
use Rattle.rt_text.specs.Meaning.{meaning_of}
use Rattle.rt_text.specs.Line.{SourceStatement, SourceLine}
use Rattle.rt_text.specs.declared.forms.Form.{Form}
use Rattle.rt_token.specs.declared.tokens.Kind.{Kind}
use Rattle.rt_token.specs.declared.tokens.Kind.TheVariants.{Word, Number, Colon}
use Rattle.rt_token.specs.declared.tokens.Token.{Token}
use Rattle.rt_text.specs.declared.fault.TextKind.{TextKind}
use Rattle.rt_text.specs.declared.fault.TextKind.TheVariants.{BadToken, BadNumber, UnknownName, BadOperands, LineTooLong, NotAscii}

-- a word and a ':' make a label
abbrev pub is_label : Kind → Kind → Bool
is_label Word Colon = true
is_label _ _ = false

-- the labels at the front, and the tokens after them
abbrev pub labels_of : List Token → List Slice × List Token
labels_of [] = ([], [])
labels_of (t ∷ []) = ([], t ∷ [])
labels_of (t ∷ u ∷ ts) =
    if is_label t.kind u.kind then (t.slice ∷ (labels_of ts).0, (labels_of ts).1) else ([], t ∷ u ∷ ts)

-- a statement of this form, where its operands fit
abbrev pub fitted : Slice → Form → List Token → Option SourceStatement
fitted name form ts =
    option_and_then (λ os. option_map (λ m. record { name = name; operands = os; meaning = m }) (meaning_of form os)) (operands ts)

abbrev pub fits_or_fails : Option SourceStatement → Result (Option SourceStatement) TextKind
fits_or_fails (Some s) = Ok (Some s)
fits_or_fails None = Err BadOperands

-- a statement whose name asks for this form, if it asks for one
abbrev pub formed : Slice → Option Form → List Token → Result (Option SourceStatement) TextKind
formed name None ts = Err UnknownName
formed name (Some form) ts = fits_or_fails (fitted name form ts)

-- a statement begins with a word
abbrev pub named : Kind → Slice → List Token → Result (Option SourceStatement) TextKind
named Word name ts = formed name (form_of name.text) ts
named _ name ts = Err BadOperands

-- the statement that the tokens after the labels are: at most one
abbrev pub statement_of : List Token → Result (Option SourceStatement) TextKind
statement_of [] = Ok None
statement_of (t ∷ ts) = named t.kind t.slice ts

abbrev pub with_labels : List Slice → Result (Option SourceStatement) TextKind → Result SourceLine TextKind
with_labels labels (Ok statement) = Ok (record { labels = labels; statement = statement })
with_labels labels (Err kind) = Err kind

-- a token that is written as a number is one
abbrev pub is_good : Kind → List ℕ → Bool
is_good Number text = is_some (number text)
is_good _ text = true

-- the line that these tokens are, none standing for a byte that begins no token
abbrev pub line_of : Option (List Token) → Result SourceLine TextKind
line_of None = Err BadToken
line_of (Some ts) =
    if list_all (λ t. is_good t.kind t.slice.text) ts then with_labels (labels_of ts).0 (statement_of (labels_of ts).1) else Err BadNumber

-- the line without its end whose first byte lies at place, or its first fault
abbrev pub line_at : ℕ → List ℕ → Result SourceLine TextKind
line_at place bytes =
    if nat_lt line_limit (length bytes) then Err LineTooLong
    else (if not (list_all is_ascii bytes) then Err NotAscii
    else line_of (tokens place 0 bytes))
