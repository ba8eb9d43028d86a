-- The word for which a line is refused, and what is wrong with it.
use Rattle.std.specs.Prelude.{ℕ, not, ◌+◌, length, List, [], ◌∷◌, Option, Some, None}
use Rattle.std.specs.Char.{is_ascii}
use Rattle.std.specs.List.{find, prefix_len}
use Rattle.std.specs.Option.{option_map, option_and_then}
use Rattle.std.specs.Result.{result_err}
use Rattle.rt_token.specs.Tokens.{tokens}
use Rattle.rt_token.specs.declared.tokens.Token.{Token}
use Rattle.rt_text.specs.FlawedWord.{flawed, flawed_byte, flawed_slice}
use Rattle.rt_text.specs.Misfits.{misfit}
use Rattle.rt_text.specs.NoToken.{no_token_behind, tokens_len}
use Rattle.rt_text.specs.Statement.{labels_of, is_good, line_at}
use Rattle.rt_text.specs.declared.fault.TextKind.{TextKind}
use Rattle.rt_text.specs.declared.fault.TextKind.TheVariants as fault
use Rattle.rt_text.specs.declared.refused_words.Flaw.{Flaw}
use Rattle.rt_text.specs.declared.refused_words.Flaw.TheVariants.{TooLong, NotAscii, Byte, InString, Escape, Endless, Number, Name, NoName, Operand as Misfit}
use Rattle.rt_text.specs.declared.refused_words.RefusedWord.{RefusedWord}

-- the first token that is written as a number and is none
abbrev pub no_number : List Token → Option RefusedWord
no_number ts = option_map (λ t. flawed_slice Number t.slice) (find (λ t. not (is_good t.kind t.slice.text)) ts)

-- the first word of a statement
abbrev pub no_name : List Token → Option RefusedWord
no_name [] = None
no_name (name ∷ ts) = Some (flawed_slice Name name.slice)

-- the word of a line of these tokens
abbrev pub word_among : TextKind → List Token → Option RefusedWord
word_among fault.BadNumber ts = no_number ts
word_among fault.UnknownName ts = no_name (labels_of ts).1
word_among fault.BadOperands ts = misfit (labels_of ts).1
word_among _ ts = None

-- the word for which a line whose first byte lies at place is refused by a fault of this kind
abbrev pub word_of : ℕ → List ℕ → TextKind → Option RefusedWord
word_of place line fault.LineTooLong = Some (flawed TooLong place (place + length line))
word_of place line fault.NotAscii = Some (flawed_byte NotAscii (place + prefix_len is_ascii line))
word_of place line fault.BadToken = Some (no_token_behind place line (tokens_len place (length line) line))
word_of place line kind = option_and_then (word_among kind) (tokens place 0 line)

-- the word for which such a line is refused
abbrev pub refused_word : ℕ → List ℕ → Option RefusedWord
refused_word place line = option_and_then (word_of place line) (result_err (line_at place line))

-- the kind of the fault that a flaw makes
abbrev pub kind_of : Flaw → TextKind
kind_of TooLong = fault.LineTooLong
kind_of NotAscii = fault.NotAscii
kind_of Byte = fault.BadToken
kind_of InString = fault.BadToken
kind_of Escape = fault.BadToken
kind_of Endless = fault.BadToken
kind_of Number = fault.BadNumber
kind_of Name = fault.UnknownName
kind_of NoName = fault.BadOperands
kind_of (Misfit name) = fault.BadOperands
