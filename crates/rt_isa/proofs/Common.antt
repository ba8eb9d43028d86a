-- The names that three or more files of these proofs cite, passed on from one place. Declares nothing.
pub use Rattle.std.proofs.Common.{◌≡◌, ℕ, ◌+◌, ◌-◌, ◌*◌, ◌/◌, ◌%◌, ◌^◌, ◌<◌, Bool, true, false, List, [], ◌∷◌, ◌++◌, codes, cond, eqb, Option, Some, None, refl, sym, subst, arith, inl, inr, ap, ◌∙◌, append_assoc}
pub use Rattle.rt_isa.specs.Table.{table, Row, cut, matches, row_in}
unfoldable pub use Rattle.rt_isa.specs.Table.{row_of, ins}
unfoldable pub use Rattle.rt_words.specs.Hex.{hex}
pub use Rattle.std.proofs.lemmas.Bool.{cases_Bool, eqb-true, ne_eqb}
pub use Rattle.std.proofs.lemmas.Nat.{and_mask}
pub use Rattle.std.specs.Option.{option_map}
pub use Rattle.std.specs.Prelude.{bit_and}
