-- The stops and events of a session.
use Rattle.std.specs.Prelude.{◌≡◌, ℕ, List, [], Option, Result}
use Rattle.rt_command.specs.declared.refusal.Refusal.{Refusal}
use Rattle.rt_points.specs.declared.events.Events.{Events}
use Rattle.rt_points.specs.Events.{no_events}
use Rattle.rt_debug.specs.StopSlots.{Adds}

pub record Stopping (B : Type 0) : Type 0 where
  pub slots : List (Option B)
  pub events : Events

abbrev pub stopping : {B : Type 0} → List (Option B) → Events → Stopping B
stopping slots events = record { slots = slots; events = events }

-- nowhere, as at the begin of a session
abbrev pub no_stopping : {B : Type 0} → Stopping B
no_stopping = stopping [] no_events

-- one stop more
abbrev pub AddsTo : {B : Type 0} → B → Stopping B → Result ℕ Refusal → Stopping B → Type 0
AddsTo stop old added new = Adds stop old.slots added new.slots × (new.events ≡ old.events)
