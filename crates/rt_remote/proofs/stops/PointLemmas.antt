-- That no watchpoint is met where there is none.
use Rattle.rt_remote.proofs.Common.{◌≡◌, ℕ, Bool, true, false, true≢false, cond, eqb, List, [], ◌∷◌, Option, Some, None, refl, sym, ap, ◌∙◌, option_map, MachineState, Watched, lent, first_of, Told, Onward, Backward, told}
use Rattle.std.specs.Prelude.{◌&&◌, slice_get}
use Rattle.std.specs.List.{list_any}
use Rattle.std.specs.Option.{option_and_then, option_or}
use Rattle.std.proofs.lemmas.Bool.{or_parts}
use Rattle.rt_history.specs.OwnPart.{TaskState}
use Rattle.rt_points.specs.declared.access.Access.{Access}
use Rattle.rt_points.specs.declared.point.BreakKind.{BreakKind}
use Rattle.rt_points.specs.declared.point.BreakKind.TheVariants.{Software, Hardware}
use Rattle.rt_points.specs.declared.point.WatchKind.{WatchKind}
use Rattle.rt_points.specs.declared.point.WatchKind.TheVariants.{Write, Read}
use Rattle.rt_points.specs.declared.point.WatchKind.TheVariants as kinds
use Rattle.rt_points.specs.declared.point.PointKind.{PointKind}
use Rattle.rt_points.specs.declared.point.PointKind.TheVariants.{Break, Watch}
use Rattle.rt_points.specs.declared.point.Point.{Point}
use Rattle.rt_points.specs.Points.{kind_number}
use Rattle.rt_points.specs.Access.{access_of}
use Rattle.rt_points.specs.declared.points.Breaking.{Breaking}
use Rattle.rt_points.specs.Met.{BreaksAt, is_of, is_watch, watches_any, is_met_by, first_byte, lesser, least_byte, watched, watch_of, watch_at, break_at}
use Rattle.rt_packet.specs.declared.answer.stops.Stop.TheVariants as stops
use Rattle.rt_core.specs.declared.view.View.{View}
use Rattle.rt_core.specs.View.{TaskView, shown}
use Rattle.std.proofs.lemmas.Grind.{not_there}
use Rattle.rt_remote.proofs.stops.LookedLemmas.{settled}
use Rattle.rt_remote.specs.stops.Working.Looks.{BreaksAlone}
use Rattle.rt_remote.specs.stops.Working.Shown.{watch_of_word, watch_of_view}
use Rattle.rt_remote.specs.stops.Looked.{is_looked}
use Rattle.rt_remote.specs.stops.Onward.{met_on}
use Rattle.rt_remote.specs.stops.Backward.{left_back}
use Rattle.rt_remote.specs.stops.Ahead.{break_met, word_at, watch_of_task, watched_at, watch_met}

apart : (kind : WatchKind) (which : PointKind) → watches_any which ≡ false → eqb (kind_number which) (kind_number (Watch kind)) ≡ false
apart Write (Break Software) none = refl
apart Read (Break Software) none = refl
apart kinds.Access (Break Software) none = refl
apart Write (Break Hardware) none = refl
apart Read (Break Hardware) none = refl
apart kinds.Access (Break Hardware) none = refl
apart kind (Watch other) none = absurd (true≢false none)

no_byte : (points : List Point) (kind : WatchKind) (task : ℕ) (access : Access) → list_any is_watch points ≡ false → least_byte kind task access points ≡ None
no_byte [] kind task access none = refl
no_byte (p ∷ ps) kind task access none =
    let parts = or_parts (is_watch p) (list_any is_watch ps) none in
    ap (λ (b : Bool). lesser (cond (b && is_of task p.task) (first_byte access p) None) (least_byte kind task access ps)) (apart kind p.kind parts.0)
    ∙ no_byte ps kind task access parts.1

no_watch_of : (points : List Point) (kind : WatchKind) (task : ℕ) (access : Access) → list_any is_watch points ≡ false → watch_of kind points task access ≡ None
no_watch_of points kind task access none =
    ap (λ (byte : Option ℕ). cond (is_met_by kind access.is_store) (watched kind byte) None) (no_byte points kind task access none) ∙ either (is_met_by kind access.is_store)
  where
    either : (b : Bool) → ◌≡◌ {A = Option Watched} (cond b None None) None
    either true = refl
    either false = refl

no_watch : (points : List Point) (task : ℕ) (access : Access) → list_any is_watch points ≡ false → watch_at points task access ≡ None
no_watch points task access none =
    ap (λ (w : Option Watched). option_or w (option_or (watch_of Read points task access) (watch_of kinds.Access points task access))) (no_watch_of points Write task access none)
    ∙ ap (λ (w : Option Watched). option_or w (watch_of kinds.Access points task access)) (no_watch_of points Read task access none)
    ∙ no_watch_of points kinds.Access task access none

none_then : {A B : Type 0} (f : A → Option B) (o : Option A) → ((x : A) → f x ≡ None) → option_and_then f o ≡ None
none_then f None none = refl
none_then f (Some x) none = none x

no_watched : (points : List Point) (task pc : ℕ) (m : MachineState) → list_any is_watch points ≡ false → watched_at points task pc m ≡ None
no_watched points task pc m none =
    none_then (watch_of_task points task pc) (slice_get m.tasks task)
    (λ s. none_then (λ word. option_and_then (watch_at points task) (access_of word s.program.state.x)) (word_at s.program.state.ram pc)
    (λ word. none_then (watch_at points task) (access_of word s.program.state.x) (λ access. no_watch points task access none)))

pub none_watched : (points : List Point) (task pc : ℕ) (m : MachineState) → list_any is_watch points ≡ false → watch_met points task pc m ≡ None
none_watched points task pc m none = ap (λ (w : Option Watched). option_map (λ watched. told task (stops.Watch watched)) w) (no_watched points task pc m none)

-- nothing is met before an attempt, where no breakpoint is, and there is no watchpoint
or_none : (b : Bool) (x y : Option Told) → x ≡ None → y ≡ None → cond b (first_of x y) None ≡ None
or_none true x y first second = ap (λ (o : Option Told). first_of o y) first ∙ second
or_none false x y first second = refl

if_none : (b : Bool) (x : Option Told) → x ≡ None → cond b x None ≡ None
if_none true x none = none
if_none false x none = refl

pub none_on : (way : Onward) (task pc : ℕ) (m : MachineState) → break_at way.points.now task pc ≡ None → watch_met way.points.now task pc m ≡ None → met_on way false task pc m ≡ None
none_on way task pc m unbroken none =
    or_none (is_looked way.actions.now task) (break_met way.points.now task pc) (watch_met way.points.now task pc m)
    (ap (λ (kind : Option BreakKind). option_map (λ k. told task (stops.Break k)) kind) unbroken) none

pub none_left : (way : Backward) (task pc : ℕ) (m : MachineState) → watch_met way.points.now task pc m ≡ None → left_back way task pc m ≡ None
none_left way task pc m none = if_none (is_looked way.actions.now task) (watch_met way.points.now task pc m) none

-- nothing is met by what is shown of a task, or by the word there
pub shown_none : (v : View) (s : Option TaskState) (points : List Point) (task pc : ℕ) → option_map lent (Some v) ≡ option_map shown s → watch_of_view points task pc (lent v) ≡ None
    → option_and_then (watch_of_task points task pc) s ≡ None
shown_none v None points task pc is none = refl
shown_none v (Some s) points task pc is none =
    let e : lent v ≡ shown s = cc in ap (λ (t : TaskView). watch_of_view points task pc t) (sym e) ∙ none

pub unshown_none : (s : Option TaskState) (points : List Point) (task pc : ℕ) → option_map lent None ≡ option_map shown s → option_and_then (watch_of_task points task pc) s ≡ None
unshown_none None points task pc is = refl
unshown_none (Some s) points task pc is = absurd cc

pub word_none : (v : TaskView) (points : List Point) (task pc word : ℕ) → word_at v.state.ram pc ≡ Some word → watch_of_word points task word v.state.x ≡ None → watch_of_view points task pc v ≡ None
word_none v points task pc word is none = ap (λ (o : Option ℕ). option_and_then (λ w. watch_of_word points task w v.state.x) o) is ∙ none

-- nor by a word that accesses nothing
pub no_access_none : (points : List Point) (task word : ℕ) (x : List ℕ) → access_of word x ≡ None → watch_of_word points task word x ≡ None
no_access_none points task word x none = ap (λ (a : Option Access). option_and_then (watch_at points task) a) none

pub no_word_none : (v : TaskView) (points : List Point) (task pc : ℕ) → word_at v.state.ram pc ≡ None → watch_of_view points task pc v ≡ None
no_word_none v points task pc is = ap (λ (o : Option ℕ). option_and_then (λ w. watch_of_word points task w v.state.x) o) is

pub unwatched_none : (points : List Point) (task pc : ℕ) (m : MachineState) → watched_at points task pc m ≡ None → watch_met points task pc m ≡ None
unwatched_none points task pc m none = ap (λ (w : Option Watched). option_map (λ watched. told task (stops.Watch watched)) w) none

-- a place that is of another task, or has another pc
pub another_task : (owner task address pc : ℕ) → eqb owner task ≡ false → (eqb owner task && eqb address pc) ≡ false
another_task owner task address pc other = ap (λ (b : Bool). b && eqb address pc) other

pub another_pc : (owner task address pc : ℕ) → eqb address pc ≡ false → (eqb owner task && eqb address pc) ≡ false
another_pc owner task address pc elsewhere = ap (λ (b : Bool). eqb owner task && b) elsewhere ∙ either (eqb owner task)
  where
    either : (b : Bool) → (b && false) ≡ false
    either true = refl
    either false = refl

-- nothing is met where none of the few breakpoints is
pub none_alone : (way : Onward) (breaking : Breaking) (task pc : ℕ) (m : MachineState) → ∥ BreaksAlone breaking way ∥₁ → (BreaksAt way.points.now breaking → break_at way.points.now task pc ≡ None)
    → met_on way false task pc m ≡ None
none_alone way breaking task pc m alone elsewhere =
    settled (met_on way false task pc m)
    (λ some. not_there alone (λ a. some (none_on way task pc m (elsewhere a.breaks) (none_watched way.points.now task pc m a.unwatched))))
