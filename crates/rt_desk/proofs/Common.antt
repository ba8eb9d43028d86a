-- The names that three or more files of these proofs cite, passed on from one place. Declares nothing.
pub use Rattle.std.proofs.Common.{◌≡◌, ℕ, ◌≤◌, length, List, [], ◌++◌, Bool, true, Option, Some, None, inl, inr, refl, sym, ap, ◌∙◌, subst, arith, ◌+◌, drop, take, ◌⊎◌, suc, ◌<◌, ◌==◌, false, ◌∷◌, Result, Ok, Err, nat_lt, zero, ◌*◌, nat_le, nat_eq}
pub use Rattle.byteorder.specs.Endian.{little_number}
pub use Rattle.rt_desk.specs.reading.Extent.{block_size, IsEnough, first_said}
pub use Rattle.rt_image.specs.ObjectReading.{number_at, bytes_at, magic_at}
unfoldable pub use Rattle.rt_image.specs.ObjectReading.{spelled_object}
pub use Rattle.rt_token.specs.SourceLines.{is_line_feed, lines_of_parts}
pub use Rattle.rt_token.specs.SpacedWords.{is_space}
pub use Rattle.rt_words.specs.Run.{run}
pub use Rattle.std.proofs.lemmas.Bool.{cases_Bool, eqb-true, ne_eqb, lt-ltb}
pub use Rattle.std.proofs.lemmas.List.{append_assoc, take-append-drop, length-append, length-drop}
pub use Rattle.std.proofs.lemmas.List.Splits.{length-slice_split}
pub use Rattle.std.specs.List.{slice_split, position_or_len, count_by}
pub use Rattle.std.specs.Str.Lines.{strip_carriage_return}
