-- What a profile of each form says of a set and a whole history.
use Rattle.std.specs.Prelude.{ℕ, List}
use Rattle.rt_image.specs.SystemFile.{TaskSet}
use Rattle.rt_history.specs.declared.record.Record.{Record}
use Rattle.rt_profile.specs.declared.form.ProfileForm.{ProfileForm}
use Rattle.rt_profile.specs.declared.form.ProfileForm.TheVariants.{Rows, Needs, Callgrind}
use Rattle.rt_profile.specs.CallgrindText.{callgrind_text}
use Rattle.rt_profile.specs.NeedsText.{needs_text}
use Rattle.rt_profile.specs.RowsText.{rows_text}

abbrev pub profile_text : ProfileForm → TaskSet → List Record → List ℕ
profile_text Rows set history = rows_text set history
profile_text Needs set history = needs_text set history
profile_text Callgrind set history = callgrind_text set history
