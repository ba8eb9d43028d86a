-- The names that three or more files of these proofs cite, passed on from one place. Declares nothing.
pub use Rattle.std.proofs.Common.{◌≡◌, ℕ, zero, suc, ◌+◌, ◌-◌, ◌<◌, ◌≤◌, inl, List, [], ◌∷◌, ◌++◌, length, append_assoc, refl, sym, ap, subst, ◌∙◌, arith, get_or, take, drop, codes, ◌/◌, ◌%◌, decimal, length-append, length-take-le, ◌*◌, true}
pub use Rattle.rt_history.specs.Legal.{state_at}
unfoldable pub use Rattle.rt_history.specs.Legal.{legal}
pub use Rattle.rt_image.specs.SystemFile.{TaskSet}
pub use Rattle.rt_trace.specs.HistoryText.{line, history_text}
pub use Rattle.rt_trace.specs.OutLine.{bytes_text}
pub use Rattle.rt_trace.specs.Placed.{Placed}
pub use Rattle.rt_trace.specs.TaskText.{task_text}
pub use Rattle.rt_trace.specs.Working.Cut.{IsCut, IsTold}
pub use Rattle.rt_trace.specs.Working.Lines.{rest_text}
unfoldable pub use Rattle.rt_words.specs.Hex.{hex}
pub use Rattle.std.proofs.lemmas.Fmt.{decimal_digit, length-decimal-le}
pub use Rattle.std.proofs.lemmas.List.{append-nil}
