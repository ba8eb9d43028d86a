-- A session all of whose stops are places.
use Rattle.std.specs.Prelude.{◌≡◌, ℕ, Bool, List, map, Option, option_map}
use Rattle.rt_image.specs.SystemFile.{TaskSet}
use Rattle.rt_points.specs.declared.marks.Place.{Place as PlaceStop}
use Rattle.rt_debug.specs.declared.stops.AnyStop.{AnyStop}
use Rattle.rt_debug.specs.declared.stops.AnyStop.TheVariants.{Place}
use Rattle.rt_debug.specs.Stopping.{Stopping, stopping}
use Rattle.rt_walk.specs.Position.{WalkState}
use Rattle.rt_dialogue.specs.Dialogue.{Talks}

-- its slots
abbrev pub placed_slots : {B : Type 0} → List (Option PlaceStop) → List (Option (AnyStop B))
placed_slots places = map (option_map Place) places

-- its stops and events
abbrev pub placed : {B : Type 0} → Stopping PlaceStop → Stopping (AnyStop B)
placed places = stopping (placed_slots places.slots) places.events

-- what it says to the bytes of an input from here on: to all lines, or to the first of them
abbrev pub SaysOn : {B : Type 0} → TaskSet → WalkState → Stopping (AnyStop B) → List ℕ → List ℕ → Bool → Type 0
SaysOn set walk stops bytes text is_all = (places : Stopping PlaceStop) → stops ≡ placed places → (lines : ℕ) × Talks set walk places bytes lines text is_all
