-- The names that three or more files of these proofs cite, passed on from one place. Declares nothing.
pub use Rattle.std.proofs.Common.{◌≡◌, ℕ, zero, suc, ◌≤◌, Bool, true, false, List, [], ◌∷◌, refl, sym, arith, ◌+◌, ◌++◌, Result, Ok, Err, ap, cond, length, subst, Some, ℤ, pos, ltb, Option, None, ◌∙◌, inl, inr, append_assoc, append-nil, drop, ◌&&◌, ◌<◌, ◌-◌, take, length-append, eqb, get_or, map, negsuc, ◌≤ℤ◌, ◌^◌}
pub use Rattle.rt_isa.specs.Print.{register, letters}
pub use Rattle.rt_text.specs.Forms.{form_of}
pub use Rattle.rt_text.specs.Line.{SourceLine, SourceStatement}
pub use Rattle.rt_text.specs.Meaning.{meaning_of}
pub use Rattle.rt_text.specs.Names.{value_of}
unfoldable pub use Rattle.rt_text.specs.Names.{registers, fence_sets}
pub use Rattle.rt_text.specs.Operands.{is_comma, operand, each, operands as operands_of}
pub use Rattle.rt_text.specs.Statement.{line_at, is_label, labels_of, fits_or_fails, formed, named, statement_of, with_labels, is_good, line_of}
pub use Rattle.rt_text.specs.Text.{text_lines}
pub use Rattle.rt_text.specs.Working.Rows.{seen_row}
pub use Rattle.rt_text.specs.declared.fault.TextKind.{TextKind}
pub use Rattle.rt_text.specs.declared.forms.Form.{Form}
pub use Rattle.rt_text.specs.declared.meaning.Meaning.{Meaning}
pub use Rattle.rt_text.specs.declared.operands.Operand.{Operand}
pub use Rattle.rt_token.proofs.GrammarLemmas.{tokens_are}
pub use Rattle.rt_token.specs.Grammar.{AreTokens, end, blank, IsText}
pub use Rattle.rt_token.specs.Number.{number}
pub use Rattle.rt_token.specs.Slice.{Slice}
pub use Rattle.rt_token.specs.SourceLines.{source_lines}
pub use Rattle.rt_token.specs.Tokens.{tokens, with_front, is_printable}
pub use Rattle.rt_token.specs.Word.{is_word}
pub use Rattle.rt_token.specs.declared.tokens.Kind.{Kind}
pub use Rattle.rt_token.specs.declared.tokens.Kind.TheVariants.{Word, Number, Text, Comma, Open, Close, Colon}
pub use Rattle.rt_token.specs.declared.tokens.Token.{Token}
unfoldable pub use Rattle.rt_words.specs.Hex.{hex}
pub use Rattle.std.proofs.lemmas.Bool.{and_parts, eqb-true}
pub use Rattle.std.proofs.lemmas.Bool.Decides.{nat_tests}
pub use Rattle.std.specs.Char.{is_ascii}
pub use Rattle.std.specs.Fmt.{decimal, signed_decimal}
pub use Rattle.std.specs.List.{list_all, slice_split, position_or_len}
pub use Rattle.std.specs.Option.{option_map, option_and_then}
pub use Rattle.std.specs.Result.{result_err}
