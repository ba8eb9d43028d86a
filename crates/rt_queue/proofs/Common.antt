-- The names that three or more files of these proofs cite, passed on from one place. Declares nothing.
pub use Rattle.std.proofs.Common.{◌≡◌, ◌≢◌, ℕ, zero, suc, ◌+◌, ◌-◌, ◌*◌, ◌/◌, ◌<◌, ◌≤◌, ◌⊎◌, List, ◌∷◌, length, set, get_or, replicate, Option, None, Some, refl, sym, ap, subst, ◌∙◌, inl, inr, arith, [], nat_lt, cond}
pub use Rattle.rt_queue.specs.Keys.{key_at}
pub use Rattle.rt_queue.specs.Least.{IsLeast}
pub use Rattle.rt_queue.specs.Order.{NotAfter}
pub use Rattle.rt_queue.specs.Working.Games.{seat_at, played_at}
pub use Rattle.rt_queue.specs.heap.HeapOrder.{above, IsRising, IsSinking, IsLeastBelow}
pub use Rattle.rt_queue.specs.heap.Places.{entry_at, keys_in, AreInverse}
pub use Rattle.std.proofs.lemmas.Bool.{cases_eq}
pub use Rattle.std.proofs.lemmas.Bool.Decides.{nat_tests}
pub use Rattle.std.proofs.lemmas.Grind.{common_steps}
pub use Rattle.std.proofs.lemmas.List.{get_or-set_same, get_or-set_other, get_or_past, length-set}
