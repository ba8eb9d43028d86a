-- An access that touches no watchpoint meets none.
use Rattle.std.proofs.Common.{◌≡◌, ℕ, Bool, true, false, true≢false, eqb, cond, List, [], ◌∷◌, Option, Some, None, refl, sym, ap, ◌∙◌}
use Rattle.std.specs.Prelude.{◌&&◌, ◌||◌}
use Rattle.std.specs.List.{list_any}
use Rattle.std.specs.Option.{is_some, option_or}
use Rattle.rt_points.specs.declared.point.BreakKind.TheVariants.{Software, Hardware}
use Rattle.rt_points.specs.declared.point.WatchKind.{WatchKind}
use Rattle.rt_points.specs.declared.point.WatchKind.TheVariants as kinds
use Rattle.rt_points.specs.declared.point.PointKind.{PointKind}
use Rattle.rt_points.specs.declared.point.PointKind.TheVariants.{Break, Watch}
use Rattle.rt_points.specs.declared.point.Point.{Point}
use Rattle.rt_points.specs.declared.access.Access.{Access}
use Rattle.rt_points.specs.declared.met.Watched.{Watched}
use Rattle.rt_points.specs.Points.{kind_number}
use Rattle.rt_points.specs.Met.{is_of, watches_any, watched_byte, first_byte, is_met_by, lesser, least_byte, watched, watch_of, watch_at}
use Rattle.rt_points.specs.Working.Touched.{is_touched}

neither : (a b : Bool) → (a || b) ≡ false → (a ≡ false) × (b ≡ false)
neither true b h = absurd (true≢false h)
neither false b h = (refl, h)

none-of : (b : Bool) (found : Option ℕ) → is_some found ≡ false → cond b found None ≡ None
none-of b (Some a) some = absurd (true≢false some)
none-of true None some = refl
none-of false None some = refl

byte-none : (kind : WatchKind) (which : PointKind) (of : Bool) (found : Option ℕ) → (watches_any which && is_some found) ≡ false → cond (eqb (kind_number which) (kind_number (Watch kind)) && of) found None ≡ None
byte-none kinds.Write (Break Software) of found untouched = refl
byte-none kinds.Write (Break Hardware) of found untouched = refl
byte-none kinds.Read (Break Software) of found untouched = refl
byte-none kinds.Read (Break Hardware) of found untouched = refl
byte-none kinds.Access (Break Software) of found untouched = refl
byte-none kinds.Access (Break Hardware) of found untouched = refl
byte-none kind (Watch which) of found untouched = none-of (eqb (kind_number (Watch which)) (kind_number (Watch kind)) && of) found untouched

least-none : (kind : WatchKind) (task : ℕ) (access : Access) (points : List Point) → list_any (is_touched access) points ≡ false → least_byte kind task access points ≡ None
least-none kind task access [] untouched = refl
least-none kind task access (p ∷ ps) untouched =
    let parts = neither (is_touched access p) (list_any (is_touched access) ps) untouched in
    ap (λ (b : Option ℕ). lesser b (least_byte kind task access ps)) (byte-none kind p.kind (is_of task p.task) (first_byte access p) parts.0)
    ∙ ap (lesser None) (least-none kind task access ps parts.1)

kind-none : (kind : WatchKind) (b : Bool) (byte : Option ℕ) → byte ≡ None → cond b (watched kind byte) None ≡ None
kind-none kind true byte none = ap (watched kind) none
kind-none kind false byte none = refl

pub untouched_none : (points : List Point) (access : Access) → list_any (is_touched access) points ≡ false → (task : ℕ) → watch_at points task access ≡ None
untouched_none points access untouched task =
    let of = λ (kind : WatchKind). kind-none kind (is_met_by kind access.is_store) (least_byte kind task access points) (least-none kind task access points untouched) in
    ap (λ (w : Option Watched). option_or w (option_or (watch_of kinds.Read points task access) (watch_of kinds.Access points task access))) (of kinds.Write)
    ∙ ap (λ (w : Option Watched). option_or w (watch_of kinds.Access points task access)) (of kinds.Read)
    ∙ of kinds.Access
