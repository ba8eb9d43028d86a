-- What a run leaves.
use Rattle.rt_remote.proofs.Common.{◌≡◌, ℕ, ◌+◌, ◌-◌, zero, suc, Bool, true, false, List, [], ◌∷◌, length, drop, Option, Some, refl, sym, ap, subst, ◌∙◌, arith, TaskSet, state_at, Watched, Action, Stop, Interrupted, Told, Onward, Backward, RemoteState, is_listed, GoesTo, GoesBackTo, GoesOneBack, RunsOn}
use Rattle.std.proofs.Common.{◌==◌, slice_get}
use Rattle.std.proofs.lemmas.Bool.{eqb-true}
use Rattle.rt_walk.specs.Position.{stand_of}
use Rattle.rt_walk.specs.Walking.{IsWalk}
use Rattle.rt_remote.specs.declared.stops.one_back.OneBack.{OneBack}
use Rattle.rt_remote.specs.stops.Onward.{GoesOn, is_interrupted}
use Rattle.rt_remote.specs.stops.Backward.{GoesBack}
use Rattle.rt_remote.specs.stops.OneBack.{StepsBack}
use Rattle.rt_remote.specs.declared.selection.Direction.{Direction}
use Rattle.rt_remote.specs.declared.selection.Direction.TheVariants.{On, Back}
use Rattle.rt_remote.specs.Remote.{machine}
use Rattle.rt_packet.specs.declared.answer.replies.Refused.TheVariants.{Malformed}
use Rattle.rt_remote.specs.Said.{Said, refuses}
use Rattle.std.proofs.Common.{◌⊎◌}
use Rattle.rt_remote.specs.Chosen.{are_any, stepped}
use Rattle.rt_remote.specs.stops.Ahead.{told as told_of}
use Rattle.rt_remote.specs.Runs.{IfAny, UnlessKept, Halts, halted, BacksBy, StepsOneBack, LacksMemory, with_told, stop_said, Stops, IsOnward, IsBackward, IsOneBack}

-- a request that may be done is done
-- and where no interrupt is kept it goes; else that is told
pub goes-so : (held : Bool) (Halt Go : Type 0) → held ≡ false → Go → UnlessKept held Halt Go
goes-so held Halt Go is go = subst (λ (b : Bool). UnlessKept b Halt Go) (sym is) go

pub halts-so : (held : Bool) (Halt Go : Type 0) → held ≡ true → Halt → UnlessKept held Halt Go
halts-so held Halt Go is halt = subst (λ (b : Bool). UnlessKept b Halt Go) (sym is) halt

pub done-so : (any : Bool) (old new : RemoteState) (said : Said) (Run : Type 0) → any ≡ true → Run → IfAny any old said new Run
done-so any old new said Run is run = subst (λ (b : Bool). IfAny b old said new Run) (sym is) run

-- the last element of a list
pub last-alone : {X : Type 0} (xs : List X) (k : ℕ) (x : X) → length xs ≡ k + 1 → slice_get xs k ≡ Some x → drop k xs ≡ x ∷ []
last-alone [] k x long is = absurd (omega (arith, long))
last-alone (y ∷ []) zero x long is = let same : y ≡ x = cc in ap (λ z. z ∷ []) same
last-alone (y ∷ z ∷ zs) zero x long is = absurd (omega (arith, long))
last-alone (y ∷ ys) (suc k) x long is = let less : length ys ≡ k + 1 = omega (arith, long) in last-alone ys k x less is

-- a list with elements, and one without
pub long-by : {X : Type 0} (xs : List X) (n : ℕ) → n ≡ length xs → (length xs == 0) ≡ false → length xs ≡ n - 1 + 1
long-by [] n is some = absurd cc
long-by (x ∷ xs) n is some = omega (arith, is)

pub none-by : {X : Type 0} (xs : List X) → (length xs == 0) ≡ true → xs ≡ []
none-by [] is = refl
none-by (x ∷ xs) is = absurd (let none = eqb-true (length (x ∷ xs)) 0 is in omega (arith, none))

-- how a session stands that went so and then tells a stop
pub stopped : (old mid new : RemoteState) (direction : Direction) (told : Told) (said : Said) → IsWalk old.walk mid.walk → mid.names ≡ old.names → mid.points ≡ old.points → mid.selection ≡ old.selection
    → mid.has_interrupt ≡ old.has_interrupt → new ≡ record mid { selection = with_told direction told mid.selection } → said ≡ stop_said new told → Stops old direction told said new
stopped old mid new direction told said walk names points selection interrupt is said_is = record {
  names = ap (λ (s : RemoteState). s.names) is ∙ names;
  walk = subst (λ (s : RemoteState). IsWalk old.walk s.walk) (sym is) walk;
  points = ap (λ (s : RemoteState). s.points) is ∙ points;
  selection = ap (λ (s : RemoteState). s.selection) is ∙ ap (with_told direction told) selection;
  interrupt = ap (λ (s : RemoteState). s.has_interrupt) is ∙ interrupt;
  said_of = said_is;
}

module _ (old mid new : RemoteState) (told : Told) (said : Said) (walk : IsWalk old.walk mid.walk) (names : mid.names ≡ old.names) (points : mid.points ≡ old.points) (selection : mid.selection ≡ old.selection)
    (interrupt : mid.has_interrupt ≡ old.has_interrupt) where
  pub goes-to : (actions : List (Option Action)) (paused : Bool) (way : Onward) → IsOnward old actions way
      → ((set : TaskSet) → machine old ≡ state_at set (machine old).tick → GoesOn way (stand_of old.walk.shown) set (machine old).tick told (machine mid).tick)
      → paused ≡ is_interrupted told.stop → new ≡ record mid { selection = with_told On told mid.selection } → said ≡ stop_said new told → GoesTo old actions paused said new
  goes-to actions paused way is_way goes interrupted is said_is = record {
    told = told;
    way = way;
    is_way = is_way;
    goes = λ set legal. subst (λ (s : RemoteState). GoesOn way (stand_of old.walk.shown) set (machine old).tick told (machine s).tick) (sym is) (goes set legal);
    interrupted = interrupted;
    stops = stopped old mid new On told said walk names points selection interrupt is said_is;
  }

  pub goes-back-to : (actions : List (Option Action)) (paused : Bool) (way : Backward) → IsBackward old actions way
      → ((set : TaskSet) → old.walk.first.machine ≡ state_at set old.walk.first.machine.tick → GoesBack way (stand_of old.walk.first) set old.walk.first.machine.tick (machine old).tick told (machine mid).tick)
      → (is_interrupted told.stop ≡ true → paused ≡ true) → new ≡ record mid { selection = with_told Back told mid.selection } → said ≡ stop_said new told
      → GoesBackTo old actions paused said new
  goes-back-to actions paused way is_way goes interrupted is said_is = record {
    told = told;
    way = way;
    is_way = is_way;
    goes = λ set legal. subst (λ (s : RemoteState). GoesBack way (stand_of old.walk.first) set old.walk.first.machine.tick (machine old).tick told (machine s).tick) (sym is) (goes set legal);
    interrupted = interrupted;
    stops = stopped old mid new Back told said walk names points selection interrupt is said_is;
  }

  pub goes-one-back : (way : OneBack) → IsOneBack old way
      → ((set : TaskSet) → old.walk.first.machine ≡ state_at set old.walk.first.machine.tick
      → (last : Option (ℕ × Option Watched)) × StepsBack way set old.walk.first.machine.tick (machine old).tick last told (machine mid).tick)
      → new ≡ record mid { selection = with_told Back told mid.selection } → said ≡ stop_said new told → GoesOneBack old said new
  goes-one-back way is_way goes is said_is = record {
    told = told;
    way = way;
    is_way = is_way;
    goes = λ set legal.
        subst (λ (s : RemoteState). (last : Option (ℕ × Option Watched)) × StepsBack way set old.walk.first.machine.tick (machine old).tick last told (machine s).tick) (sym is) (goes set legal);
    stops = stopped old mid new Back told said walk names points selection interrupt is said_is;
  }

-- or else refused
pub refused-so : (any : Bool) (old : RemoteState) (said : Said) (Run : Type 0) → any ≡ false → said ≡ refuses Malformed → IfAny any old said old Run
refused-so any old said Run is said_is = subst (λ (b : Bool). IfAny b old said old Run) (sym is) (refl, said_is)

-- a kept interrupt is told
module _ (old new : RemoteState) (told : Told) (said : Said) (held : old.has_interrupt ≡ true) where
  pub on-halted : (actions : List (Option Action)) (paused : Bool) → are_any actions ≡ true → told ≡ halted old actions → Halts old On told said new → RunsOn old actions paused said new
  on-halted actions paused any is halts =
      done-so (are_any actions) old new said _ any (halts-so old.has_interrupt _ (GoesTo old actions paused said new) held (subst (λ (t : Told). Halts old On t said new) is halts))

  pub back-halted : (actions : List (Option Action)) (paused : Bool) → are_any actions ≡ true → told ≡ halted old actions → Halts old Back told said new → BacksBy old actions paused said new
  back-halted actions paused any is halts =
      done-so (are_any actions) old new said _ any
      (halts-so old.has_interrupt _ (GoesBackTo old actions paused said new ⊎ LacksMemory old said new) held (subst (λ (t : Told). Halts old Back t said new) is halts))

  pub one-halted : is_listed old (stepped old) ≡ true → told.stop ≡ Interrupted → told.task ≡ stepped old → Halts old Back told said new → StepsOneBack old said new
  one-halted listed stop task halts =
      let is : told ≡ told_of (stepped old) Interrupted =
      ap (λ (s : Stop). told_of told.task s) stop ∙ ap (λ (i : ℕ). told_of i Interrupted) task in
      done-so (is_listed old (stepped old)) old new said _ listed
      (halts-so old.has_interrupt _ (GoesOneBack old said new ⊎ LacksMemory old said new) held (subst (λ (t : Told). Halts old Back t said new) is halts))
