-- The grammar of operands, statements and lines, as relations between the tokens of a line and what they say.
use Rattle.std.specs.Prelude.{ℕ, ℤ, pos, ◌≡◌, ◌≤◌, true, length, List, [], ◌∷◌, ◌++◌, Option, Some, None}
use Rattle.std.specs.Char.{is_ascii}
use Rattle.std.specs.List.{list_all}
use Rattle.rt_words.specs.Limits.{line_limit}
use Rattle.rt_token.specs.Grammar.{AreTokens}
use Rattle.rt_token.specs.Number.{number}
use Rattle.rt_token.specs.Slice.{Slice}
use Rattle.rt_text.specs.Forms.{form_of}
use Rattle.rt_text.specs.Line.{SourceStatement, SourceLine}
use Rattle.rt_text.specs.Meaning.{meaning_of}
use Rattle.rt_text.specs.Names.{register_of}
use Rattle.rt_text.specs.Operands.{end_of}
use Rattle.rt_text.specs.declared.forms.Form.{Form}
use Rattle.rt_text.specs.declared.meaning.Meaning.{Meaning}
use Rattle.rt_text.specs.declared.operands.Operand.{Operand}
use Rattle.rt_text.specs.declared.operands.Operand.TheVariants as operands
use Rattle.rt_token.specs.declared.tokens.Kind.{Kind}
use Rattle.rt_token.specs.declared.tokens.Kind.TheVariants.{Word, Number, Text, Comma, Open, Close, Colon}
use Rattle.rt_token.specs.declared.tokens.Token.{Token}

-- a token of this kind
abbrev pub of_kind : Kind → Slice → Token
of_kind kind s = record { kind = kind; slice = s }

-- the memory operand from one token to another
abbrev pub memory_from : Slice → Slice → ℤ → ℕ → Operand
memory_from first last offset base = operands.Memory (record { start = first.start; end = end_of last }) (record { offset = offset; base = base })

-- an operand: a word, a number, a string, (r) for 0(r), or n(r)
pub data IsOperand : List Token → Operand → Type 0 where
  word : (s : Slice) → IsOperand (of_kind Word s ∷ []) (operands.Word s)
  value : (s : Slice) (n : ℤ) → number s.text ≡ Some n → IsOperand (of_kind Number s ∷ []) (operands.Number s n)
  text : (s : Slice) → IsOperand (of_kind Text s ∷ []) (operands.Text s)
  at_base : (left base right : Slice) (r : ℕ) → register_of base.text ≡ Some r
      → IsOperand (of_kind Open left ∷ of_kind Word base ∷ of_kind Close right ∷ []) (memory_from left right (pos 0) r)
  at_offset : (offset left base right : Slice) (n : ℤ) (r : ℕ) → number offset.text ≡ Some n → register_of base.text ≡ Some r
      → IsOperand (of_kind Number offset ∷ of_kind Open left ∷ of_kind Word base ∷ of_kind Close right ∷ []) (memory_from offset right n r)

-- operands with commas between them, at least one
pub data AreSeparated : List Token → List Operand → Type 0 where
  last : (ts : List Token) (o : Operand) → IsOperand ts o → AreSeparated ts (o ∷ [])
  more : (ts : List Token) (comma : Slice) (rest : List Token) (o : Operand) (os : List Operand) → IsOperand ts o → AreSeparated rest os
      → AreSeparated (ts ++ of_kind Comma comma ∷ rest) (o ∷ os)

-- the operands of a statement, which may have none
pub data AreOperands : List Token → List Operand → Type 0 where
  none : AreOperands [] []
  some : (ts : List Token) (os : List Operand) → AreSeparated ts os → AreOperands ts os

-- a statement: a word that is the name of a form, and operands that fit it
pub data IsStatement : List Token → SourceStatement → Type 0 where
  statement : (name : Slice) (form : Form) (ts : List Token) (os : List Operand) (meaning : Meaning) → form_of name.text ≡ Some form → AreOperands ts os
      → meaning_of form os ≡ Some meaning → IsStatement (of_kind Word name ∷ ts) (record { name = name; operands = os; meaning = meaning })

-- a line: labels, each a word and a ':', and then a statement or nothing
pub data IsLine : List Token → SourceLine → Type 0 where
  blank : IsLine [] (record { labels = []; statement = None })
  bare : (ts : List Token) (s : SourceStatement) → IsStatement ts s → IsLine ts (record { labels = []; statement = Some s })
  labelled : (name colon : Slice) (ts : List Token) (labels : List Slice) (s : Option SourceStatement) → IsLine ts (record { labels = labels; statement = s })
      → IsLine (of_kind Word name ∷ of_kind Colon colon ∷ ts) (record { labels = name ∷ labels; statement = s })

-- the bytes of a line without its end, of which the first lies at place: not too many, all of them ASCII, and tokens that are a line
pub record SaysLine (place : ℕ) (bytes : List ℕ) (line : SourceLine) : Type 0 where
  pub short : length bytes ≤ line_limit
  pub ascii : list_all is_ascii bytes ≡ true
  pub tokens : List Token
  pub are : AreTokens place bytes tokens
  pub is : IsLine tokens line
