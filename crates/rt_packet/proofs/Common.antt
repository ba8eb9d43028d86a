-- The names that three or more files of these proofs cite, passed on from one place. Declares nothing.
pub use Rattle.std.proofs.Common.{◌≡◌, ℕ, ◌+◌, ◌*◌, ◌/◌, ◌%◌, ◌<◌, true, eqb, ltb, [], ◌∷◌, refl, arith, lt-ltb, eq-eqb, ◌≢◌, sym, ap, ◌∙◌, ne_eqb, suc, ◌-◌, ◌≤◌, List, ◌++◌, length, length-append, take, take_all, append_assoc, Bool, false, cond, leb, inl, inr, subst, eqb-true, drop, codes, Option, Some, None, zero, ◌^◌, get_or, rules, tests}
pub use Rattle.arrayvec.specs.ArrayVec.{array_vec_len}
pub use Rattle.rt_packet.specs.Packet.{dollar, hash, payload_limit}
pub use Rattle.rt_packet.specs.answer.Ids.{id_text, other_text}
pub use Rattle.rt_packet.specs.declared.decoder.Heard.{Heard}
pub use Rattle.rt_packet.specs.declared.request.ids.Tasks.{Tasks}
pub use Rattle.rt_packet.specs.request.Actions.{parts, part_of, resumed}
pub use Rattle.rt_packet.specs.request.HexLines.{hex_bytes, hex_line}
pub use Rattle.rt_packet.specs.request.Numbers.{is_mark, cut_at, long_number, two_numbers}
pub use Rattle.rt_points.specs.declared.point.BreakKind.TheVariants.{Software, Hardware}
unfoldable pub use Rattle.rt_words.specs.Hex.{hex}
pub use Rattle.std.proofs.lemmas.Bool.{cases_lt, cases_Bool, and_parts, both_ways}
pub use Rattle.std.proofs.lemmas.Iterator.Splits.{YieldsList-from_slice_split}
pub use Rattle.std.proofs.lemmas.Slice.Eq.{bytes_eq-Decides}
pub use Rattle.std.specs.Char.{is_digit}
pub use Rattle.std.specs.Fmt.{digit_glyph}
unfoldable pub use Rattle.std.specs.Fmt.{digits}
pub use Rattle.std.specs.List.{AllByRecursion, flat_map, list_all, position_or_len}
pub use Rattle.std.specs.Option.{option_map, is_some}
pub use Rattle.std.specs.Prelude.{slice_index}
pub use Rattle.std.specs.Str.{bytes_eq, byte}
