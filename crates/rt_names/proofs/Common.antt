-- The names that three or more files of these proofs cite, passed on from one place. Declares nothing.
pub use Rattle.std.proofs.Common.{◌≡◌, ℕ, ◌+◌, ◌<◌, ◌≤◌, List, [], ◌∷◌, ◌++◌, length, take, get_or, refl, sym, ap, ◌∙◌, arith, Bool, true, false, Some, nat_le, cond, IfSome, subst}
pub use Rattle.rt_image.specs.ObjectFile.{Label, label, labels}
pub use Rattle.rt_image.specs.declared.object.Symbol.{Symbol}
pub use Rattle.rt_image.specs.declared.system.Task.{Task}
pub use Rattle.rt_names.specs.Parts.{nearer, is_nearer, namer}
pub use Rattle.std.specs.List.{filter, reduce}
pub use Rattle.std.specs.Option.{option_map}
