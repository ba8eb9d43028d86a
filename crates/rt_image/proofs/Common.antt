-- The names that three or more files of these proofs cite, passed on from one place. Declares nothing.
pub use Rattle.std.proofs.Common.{◌≡◌, ℕ, ◌+◌, ◌^◌, ◌<◌, ◌≤◌, eqb, suc, List, [], ◌∷◌, ◌++◌, length, take, drop, Result, Ok, refl, sym, ap, subst, ◌∙◌, append_assoc, arith, true, leb, Err, ◌-◌}
pub use Rattle.byteorder.specs.Endian.{little_bytes}
pub use Rattle.rt_image.specs.ObjectFile.{Label, ObjectValue, is_label, are_labels, IsObject, label_spelling, spelling, labels}
pub use Rattle.rt_image.specs.ObjectReading.{number_at, bytes_at, magic_at, Gives}
unfoldable pub use Rattle.rt_image.specs.ObjectReading.{labels_at, spelled_object}
pub use Rattle.rt_image.specs.ReadFaults.{ReadFault}
pub use Rattle.rt_image.specs.SystemFile.{SetTask, set_task, set_tasks}
unfoldable pub use Rattle.rt_image.specs.SystemFile.{task_spelling}
unfoldable pub use Rattle.rt_image.specs.SystemReading.{tasks_at}
pub use Rattle.rt_image.specs.declared.fault.ImageFault.{ImageFault}
pub use Rattle.rt_image.specs.declared.system.Version.{Version}
pub use Rattle.std.proofs.lemmas.Bool.{eqb-true, and_parts, leb-true, le-leb}
pub use Rattle.std.proofs.lemmas.List.{append-nil}
pub use Rattle.std.specs.List.{flat_map}
