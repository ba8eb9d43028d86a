-- Records that can be followed by others without changing their entries.
use Rattle.std.specs.Prelude.{List, [], ◌∷◌}
use Rattle.rt_history.specs.declared.record.Record.{Record}
use Rattle.rt_history.specs.declared.record.Record.TheVariants.{Idle, Busy}

-- no stretch of idle ticks is at the end
abbrev pub EndsBusy : List Record → Type 0
EndsBusy [] = Unit {0}
EndsBusy (Idle ∷ []) = ⊥
EndsBusy (Busy a ∷ []) = Unit {0}
EndsBusy (r ∷ s ∷ h) = EndsBusy (s ∷ h)
