-- The names that three or more files of these proofs cite, passed on from one place. Declares nothing.
pub use Rattle.std.proofs.Common.{◌≡◌, ℕ, ◌+◌, ◌<◌, ◌≤◌, Bool, true, false, List, [], length, refl, ap, ◌∙◌, arith, sym, subst}
pub use Rattle.rt_accounts.specs.Accounting.{IsAccounted}
pub use Rattle.rt_accounts.specs.Working.JobsOffered.{OffersMore}
pub use Rattle.rt_history.specs.Entries.{ticks_of}
unfoldable pub use Rattle.rt_history.specs.Legal.{legal, state_at}
pub use Rattle.rt_image.specs.SystemFile.{TaskSet}
pub use Rattle.rt_report.specs.DetailText.{listed_text}
pub use Rattle.rt_sink.proofs.Parts.{Offers-nil}
pub use Rattle.std.proofs.lemmas.List.{append-nil}
