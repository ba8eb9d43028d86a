-- The pieces of a source in order, and how they lie in its text.
use Rattle.std.specs.Prelude.{ℕ, ◌≡◌, ◌-◌, ◌<◌, ◌≤◌, List, [], ◌∷◌, ◌++◌, length, map, take, drop, Option, Some, None}
use Rattle.rt_token.specs.Grammar.{AreTokens}
use Rattle.rt_text.specs.Line.{SourceStatement, SourceLine}
use Rattle.rt_text.specs.Operands.{span_at, span_of, operand}
use Rattle.rt_text.specs.declared.operands.Operand.{Operand}
use Rattle.rt_text.specs.declared.operands.Operand.TheVariants.{Word, Number, Text, Memory}
use Rattle.rt_token.specs.declared.pieces.Span.{Span}
use Rattle.rt_token.specs.declared.tokens.Token.{Token}

-- the name of a statement, which is a word, and then its operands
abbrev pub pieces_in : Option SourceStatement → List Operand
pieces_in None = []
pieces_in (Some s) = Word s.name ∷ s.operands

-- the pieces of lines, in order: in each its labels, which are words, and then its statement's
abbrev pub pieces_of : List SourceLine → List Operand
pieces_of [] = []
pieces_of (line ∷ lines) = map Word line.labels ++ (pieces_in line.statement ++ pieces_of lines)

-- the bytes of a text from the start of a span to its end
abbrev pub bytes_in : List ℕ → Span → List ℕ
bytes_in text span = take (span.end - span.start) (drop span.start text)

-- a piece is what the bytes of its span say: they are its text, or the tokens of a memory operand with nothing before or behind them
abbrev pub IsWrittenIn : List ℕ → Operand → Type 0
IsWrittenIn text (Word s) = s.text ≡ bytes_in text (span_at s)
IsWrittenIn text (Number s n) = s.text ≡ bytes_in text (span_at s)
IsWrittenIn text (Text s) = s.text ≡ bytes_in text (span_at s)
IsWrittenIn text (Memory span m) = (ts : List Token) × AreTokens span.start (bytes_in text span) ts × (operand ts ≡ Some (Memory span m))

-- pieces of a text from place on: each begins where the one before it ends or behind that, none is empty, and the last ends within the text
abbrev pub AreInOrder : List ℕ → ℕ → List Operand → Type 0
AreInOrder text place [] = place ≤ length text
AreInOrder text place (o ∷ os) =
    (place ≤ (span_of o).start) × ((span_of o).start < (span_of o).end) × IsWrittenIn text o × AreInOrder text (span_of o).end os
