-- The names that three or more files of these proofs cite, passed on from one place. Declares nothing.
pub use Rattle.std.proofs.Common.{◌≡◌, ℕ, ◌+◌, ◌-◌, ◌≤◌, ◌<◌, Bool, true, false, List, [], ◌∷◌, ◌++◌, length, get_or, take, drop, Option, Some, None, Result, Ok, Err, refl, sym, ap, subst, ◌∙◌, append_assoc, arith, length-append, map, add-one, true≢false, suc, pos, ◌*◌, ◌^◌, ℤ, ◌%◌, rules}
pub use Rattle.byteorder.specs.Endian.{little_bytes}
pub use Rattle.rt_asm.specs.Code.{Code, Instructions, Data, code_size, statement_code, IsCode}
unfoldable pub use Rattle.rt_asm.specs.Code.{code_of}
pub use Rattle.rt_asm.specs.Labels.{address_in, labels_at}
pub use Rattle.rt_asm.specs.Layout.{Layout, line_layout, fault_at, layout_from, with_labels, within_limits, layout}
pub use Rattle.rt_asm.specs.Placement.{ArePlaced, Agrees, AreApart}
pub use Rattle.rt_asm.specs.Size.{statement_size}
pub use Rattle.rt_asm.specs.Source.{end_from, assembled, Program}
pub use Rattle.rt_asm.specs.declared.fault.AsmFault.{AsmFault}
pub use Rattle.rt_asm.specs.declared.fault.AsmKind.{AsmKind}
pub use Rattle.rt_asm.specs.declared.fault.AsmKind.TheVariants.{DuplicateLabel}
pub use Rattle.rt_asm.specs.declared.fault.LineFault.TheVariants.{Source}
pub use Rattle.rt_asm.specs.declared.kept.KeptStatement.{KeptStatement}
pub use Rattle.rt_image.specs.ObjectFile.{Label, labels}
unfoldable pub use Rattle.rt_isa.specs.Bits.{signed}
pub use Rattle.rt_isa.specs.declared.instruction.Ins.{Ins}
pub use Rattle.rt_text.specs.LabelName.{AreLabelNames}
pub use Rattle.rt_text.specs.Line.{SourceLine, SourceStatement}
pub use Rattle.rt_text.specs.Reading.{Reading, NextLine}
pub use Rattle.rt_text.specs.declared.fault.TextFault.{TextFault}
pub use Rattle.rt_text.specs.declared.meaning.Meaning.{Meaning}
pub use Rattle.rt_token.specs.Slice.{Slice}
pub use Rattle.rt_words.specs.Base.{base}
pub use Rattle.rt_words.specs.Chain.{◌>>=◌, mapped}
pub use Rattle.rt_words.specs.Run.{next}
pub use Rattle.std.proofs.lemmas.Bool.Decides.{nat_tests}
pub use Rattle.std.proofs.lemmas.Grind.{common_steps}
pub use Rattle.std.proofs.lemmas.Int.{ints}
pub use Rattle.std.proofs.lemmas.List.{append-nil}
pub use Rattle.std.proofs.lemmas.Slice.Eq.{bytes_eq-Decides}
pub use Rattle.std.specs.Option.{option_map, ok_or}
pub use Rattle.std.specs.Prelude.{if◌then◌else◌, is_some, codes, ◌≢◌, All}
pub use Rattle.std.specs.Str.{bytes_eq}
