-- The names that three or more files of these proofs cite, passed on from one place. Declares nothing.
pub use Rattle.std.proofs.Common.{◌≡◌, ℕ, zero, suc, ◌+◌, ◌-◌, ◌*◌, ◌/◌, ◌%◌, ◌<◌, ◌≤◌, false, List, [], ◌++◌, refl, sym, ap, ◌∙◌, arith, append-nil, add-zero, true, ◌∷◌, length, map, take, get_or, slice_get, slice_set, Option, Some, None, Bool, decimal, All, length-take-le, take-take, min, drop, subst, append_assoc}
pub use Rattle.rt_chart.specs.Axis.{part_at}
pub use Rattle.rt_chart.specs.ChartText.{row_text}
unfoldable pub use Rattle.rt_chart.specs.MarkText.{mark_text}
pub use Rattle.rt_chart.specs.Standing.{all_finished, ChartState}
pub use Rattle.rt_chart.specs.Working.Drawn.{drawn_at, added}
pub use Rattle.rt_chart.specs.Working.Titled.{titled_text}
unfoldable pub use Rattle.rt_chart.specs.Working.Titled.{title_begin}
pub use Rattle.rt_chart.specs.declared.element.TheConstants.{ELEMENT_LEN}
pub use Rattle.rt_chart.specs.declared.look.Look.{Look}
pub use Rattle.rt_chart.specs.declared.style.Style.{Style}
pub use Rattle.rt_drawing.specs.Standing.{TaskDrawing, finished}
pub use Rattle.rt_drawing.specs.Windows.{ticks_in}
pub use Rattle.rt_drawing.specs.declared.window.Window.{Window}
unfoldable pub use Rattle.rt_history.specs.Legal.{legal}
pub use Rattle.rt_history.specs.declared.record.AttemptOutcome.{AttemptOutcome}
pub use Rattle.rt_sink.proofs.Parts.{Offers-then, Offers-nil}
pub use Rattle.rt_sink.specs.Offers.{Offers}
pub use Rattle.std.proofs.lemmas.Bool.Decides.{nat_tests}
pub use Rattle.std.proofs.lemmas.Fmt.{length-decimal-le}
pub use Rattle.std.proofs.lemmas.List.{length-map, take_all}
pub use Rattle.std.specs.List.{flat_map, range_with_len, enumerate_from, list_all}
pub use Rattle.std.specs.Option.{option_map_or}
