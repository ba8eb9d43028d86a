-- A line has a refused word exactly where it has a fault, and of the same kind.
use Rattle.rt_text.proofs.Common.{◌≡◌, ℕ, Bool, true, false, cond, ◌&&◌, ◌+◌, ◌-◌, ltb, eqb, List, [], ◌∷◌, drop, length, Option, Some, None, refl, ap, is_ascii, list_all, option_map, option_and_then, result_err, Slice, tokens, is_printable, Kind, Word, Number, Text, Comma, Open, Close, Colon, Token, form_of, SourceStatement, SourceLine, fits_or_fails, formed, is_good, labels_of, line_at, line_of, named, statement_of, with_labels, TextKind, Form}
use Rattle.std.specs.Prelude.{not, Result, Err}
use Rattle.std.specs.List.{find}
use Rattle.rt_token.specs.Tokens.{is_escape}
use Rattle.rt_text.specs.FlawedWord.{flawed, flawed_byte, flawed_slice}
use Rattle.rt_text.specs.Misfits.{form_by, misfit_by}
use Rattle.rt_text.specs.NoToken.{no_token, string_piece, tokens_len}
use Rattle.rt_text.specs.RefusedWord.{kind_of, no_number, word_of, refused_word}
use Rattle.rt_text.specs.Statement.{fitted}
use Rattle.rt_text.specs.declared.fault.TextKind.TheVariants.{BadToken, BadNumber, BadOperands, LineTooLong, NotAscii}
use Rattle.rt_text.specs.declared.refused_words.Flaw.TheVariants.{Byte, InString, Escape, Number as NoNumber}
use Rattle.rt_text.specs.declared.refused_words.RefusedWord.{RefusedWord}

abbrev fault_of : RefusedWord → TextKind
fault_of w = kind_of w.flaw

-- the refused word of a line that is read so is of its fault
abbrev Agrees : ℕ → List ℕ → Result SourceLine TextKind → Type 0
Agrees place line read = option_map fault_of (option_and_then (word_of place line) (result_err read)) ≡ result_err read

of_both : (b : Bool) (x y : RefusedWord) (kind : TextKind) → fault_of x ≡ kind → fault_of y ≡ kind → fault_of (cond b x y) ≡ kind
of_both true x y kind is others = is
of_both false x y kind is others = others

string_kind : (quote : ℕ) (escaped : Bool) (place : ℕ) (bs : List ℕ) → fault_of (string_piece quote escaped place bs) ≡ BadToken
string_kind quote escaped place [] = refl
string_kind quote true place (b ∷ bs) =
    of_both (is_escape b) (string_piece quote false (place + 1) bs) (flawed Escape (place - 1) (place + 1)) BadToken (string_kind quote false (place + 1) bs) refl
string_kind quote false place (b ∷ bs) =
    of_both (eqb b 92) (string_piece quote true (place + 1) bs) (cond (is_printable b) (string_piece quote false (place + 1) bs) (flawed_byte InString place)) BadToken
    (string_kind quote true (place + 1) bs)
    (of_both (is_printable b) (string_piece quote false (place + 1) bs) (flawed_byte InString place) BadToken (string_kind quote false (place + 1) bs) refl)

token_kind : (place : ℕ) (bs : List ℕ) → fault_of (no_token place bs) ≡ BadToken
token_kind place [] = refl
token_kind place (b ∷ bs) = of_both (eqb b 34) (string_piece place false (place + 1) bs) (flawed_byte Byte place) BadToken (string_kind place false (place + 1) bs) refl

number_step : (t : Token) (ts : List Token) (g : Bool) → (g && list_all (λ t. is_good t.kind t.slice.text) ts) ≡ false
    → (list_all (λ t. is_good t.kind t.slice.text) ts ≡ false → option_map fault_of (no_number ts) ≡ Some BadNumber)
    → option_map fault_of (option_map (λ t. flawed_slice NoNumber t.slice) (cond (not g) (Some t) (find (λ t. not (is_good t.kind t.slice.text)) ts))) ≡ Some BadNumber
number_step t ts true bad later = later bad
number_step t ts false bad later = refl

number_kind : (ts : List Token) → list_all (λ t. is_good t.kind t.slice.text) ts ≡ false → option_map fault_of (no_number ts) ≡ Some BadNumber
number_kind [] bad = absurd cc
number_kind (t ∷ ts) bad = number_step t ts (is_good t.kind t.slice.text) bad (number_kind ts)

misfit_kind : (name : Slice) (form : Option Form) (ts : List Token) → fault_of (misfit_by name form ts) ≡ BadOperands
misfit_kind name None ts = refl
misfit_kind name (Some form) ts = refl

operands_agree : (place : ℕ) (line : List ℕ) (ts us : List Token) (t : Token) → tokens place 0 line ≡ Some ts → (labels_of ts).1 ≡ t ∷ us → Agrees place line (Err BadOperands)
operands_agree place line ts us t cut is = rw (cut, is) (ap Some (misfit_kind t.slice (form_by t.kind t.slice.text) us))

fitted_agree : (place : ℕ) (line : List ℕ) (ts us : List Token) (t : Token) (labels : List Slice) (s : Option SourceStatement) → tokens place 0 line ≡ Some ts → (labels_of ts).1 ≡ t ∷ us
    → Agrees place line (with_labels labels (fits_or_fails s))
fitted_agree place line ts us t labels None cut is = operands_agree place line ts us t cut is
fitted_agree place line ts us t labels (Some s) cut is = refl

formed_agree : (place : ℕ) (line : List ℕ) (ts us : List Token) (t : Token) (labels : List Slice) (form : Option Form) → tokens place 0 line ≡ Some ts → (labels_of ts).1 ≡ t ∷ us
    → Agrees place line (with_labels labels (formed t.slice form us))
formed_agree place line ts us t labels None cut is = rw (cut, is) refl
formed_agree place line ts us t labels (Some form) cut is = fitted_agree place line ts us t labels (fitted t.slice form us) cut is

named_agree : (place : ℕ) (line : List ℕ) (ts us : List Token) (t : Token) (labels : List Slice) (kind : Kind) → tokens place 0 line ≡ Some ts → (labels_of ts).1 ≡ t ∷ us
    → Agrees place line (with_labels labels (named kind t.slice us))
named_agree place line ts us t labels Word cut is = formed_agree place line ts us t labels (form_of t.slice.text) cut is
named_agree place line ts us t labels Number cut is = operands_agree place line ts us t cut is
named_agree place line ts us t labels Text cut is = operands_agree place line ts us t cut is
named_agree place line ts us t labels Comma cut is = operands_agree place line ts us t cut is
named_agree place line ts us t labels Open cut is = operands_agree place line ts us t cut is
named_agree place line ts us t labels Close cut is = operands_agree place line ts us t cut is
named_agree place line ts us t labels Colon cut is = operands_agree place line ts us t cut is

statement_agrees : (place : ℕ) (line : List ℕ) (ts rest : List Token) (labels : List Slice) → tokens place 0 line ≡ Some ts → (labels_of ts).1 ≡ rest → Agrees place line (with_labels labels (statement_of rest))
statement_agrees place line ts [] labels cut is = refl
statement_agrees place line ts (t ∷ us) labels cut is = named_agree place line ts us t labels t.kind cut is

tokens_agree : (place : ℕ) (line : List ℕ) (ts : Option (List Token)) → tokens place 0 line ≡ ts → Agrees place line (line_of ts)
tokens_agree place line None cut = ap Some (token_kind (place + tokens_len place (length line) line) (drop (tokens_len place (length line) line) line))
tokens_agree place line (Some ts) cut = step (list_all (λ t. is_good t.kind t.slice.text) ts) refl
  where
    step : (g : Bool) → list_all (λ t. is_good t.kind t.slice.text) ts ≡ g → Agrees place line (cond g (with_labels (labels_of ts).0 (statement_of (labels_of ts).1)) (Err BadNumber))
    step true good = statement_agrees place line ts (labels_of ts).1 (labels_of ts).0 cut refl
    step false bad = rw cut (number_kind ts bad)

pub refused_agrees : (place : ℕ) (line : List ℕ) → option_map (λ w. kind_of w.flaw) (refused_word place line) ≡ result_err (line_at place line)
refused_agrees place line = step (ltb 512 (length line)) (not (list_all is_ascii line))
  where
    step : (long wide : Bool) → Agrees place line (cond long (Err LineTooLong) (cond wide (Err NotAscii) (line_of (tokens place 0 line))))
    step true wide = refl
    step false true = refl
    step false false = tokens_agree place line (tokens place 0 line) refl
