-- The names that three or more files of these proofs cite, passed on from one place. Declares nothing.
pub use Rattle.std.proofs.Common.{◌≡◌, ℕ, length, Option, Some, None, refl, ap, ◌∙◌, List, [], ◌∷◌, ◌<◌, arith, ◌++◌, sym, subst, ◌^◌, min, Bool, Result, Ok, Err, false, ◌+◌, ◌-◌, ◌≤◌, true}
pub use Rattle.rt_accounts.proofs.JobLemmas.{own-state}
pub use Rattle.rt_accounts.specs.Accounting.{Accounts, IsAccounted}
pub use Rattle.rt_accounts.specs.Reporting.{ReportMeans}
pub use Rattle.rt_admit.specs.declared.params.Params.{Params}
pub use Rattle.rt_core.specs.Loading.{load_fault}
pub use Rattle.rt_history.proofs.Steps.{tasks-count, tick_is}
pub use Rattle.rt_history.specs.Admitted.{task_params, params_in}
pub use Rattle.rt_history.specs.Legal.{legal, state_at}
pub use Rattle.rt_history.specs.MachineState.{MachineState}
pub use Rattle.rt_image.specs.ObjectFile.{object_value}
pub use Rattle.rt_image.specs.SystemFile.{TaskSet, set_tasks, task_set, set_task}
pub use Rattle.rt_image.specs.declared.system.Task.{Task}
pub use Rattle.rt_opening.proofs.EndLemmas.{ends-written}
pub use Rattle.rt_opening.proofs.SystemLemmas.{sizes_fit}
pub use Rattle.rt_opening.specs.Alone.{Spells, alone, solo_fault}
pub use Rattle.rt_opening.specs.Ends.{Ends, EndsTelling, Apart}
pub use Rattle.rt_opening.specs.Faults.{sim_load_fault}
pub use Rattle.rt_opening.specs.Sets.{SpellsSet}
pub use Rattle.rt_opening.specs.declared.fault.SimFault.{SimFault}
pub use Rattle.rt_opening.specs.declared.fault.SimFault.TheVariants.{Admit, Load, Text, Source, NotCertified, NoTask, Memory, Device, Image}
pub use Rattle.rt_programs.specs.Parts.{RunPartMeans, SoloPartMeans}
pub use Rattle.rt_programs.specs.printing.Prints.{Prints}
pub use Rattle.rt_programs.specs.printing.TextMeans.{TextMeans}
pub use Rattle.rt_report.specs.DetailText.{listed_text}
pub use Rattle.rt_sink.proofs.Said.{Said}
pub use Rattle.rt_sink.specs.Buffered.{gathering, BufferedSink, told, Flushes}
pub use Rattle.rt_sink.specs.Seen.{Seen}
pub use Rattle.rt_sink.specs.Sink.{Counts}
pub use Rattle.rt_sink.specs.declared.sink.DeviceFault.{DeviceFault}
pub use Rattle.rt_words.specs.Limits.{tick_limit, is_ram_size}
pub use Rattle.std.proofs.lemmas.List.{length-map}
pub use Rattle.std.proofs.lemmas.Result.{err_from_is_err_and}
pub use Rattle.std.specs.Option.{option_map}
