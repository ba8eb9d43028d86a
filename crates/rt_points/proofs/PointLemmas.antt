-- Which points have a mark after one is inserted or taken out, and what is left of them.
use Rattle.std.proofs.Common.{◌≡◌, inl, inr, ℕ, zero, suc, ◌<◌, Bool, true, false, true≢false, eqb, not, cond, List, [], ◌∷◌, ◌++◌, length, get_or, Option, Some, None, refl, sym, ap, ◌∙◌, arith}
use Rattle.std.specs.Prelude.{◌&&◌, ◌||◌}
use Rattle.std.specs.List.{list_all, list_any, remove}
use Rattle.std.proofs.lemmas.Bool.{cases_eq}
use Rattle.std.proofs.lemmas.List.Folds.{list_any-append}
use Rattle.rt_points.specs.declared.marks.Place.{Place}
use Rattle.rt_points.specs.declared.point.BreakKind.{BreakKind}
use Rattle.rt_points.specs.declared.point.BreakKind.TheVariants.{Software, Hardware}
use Rattle.rt_points.specs.declared.point.WatchKind.TheVariants.{Write, Read, Access}
use Rattle.rt_points.specs.declared.point.PointKind.{PointKind}
use Rattle.rt_points.specs.declared.point.PointKind.TheVariants.{Break, Watch}
use Rattle.rt_points.specs.declared.point.Point.{Point}
use Rattle.rt_points.specs.Marks.{is_marked, share_mark}
use Rattle.rt_points.specs.Points.{kind_number, without}
use Rattle.rt_points.specs.Met.{is_of, breaks, break_at}
use Rattle.rt_points.specs.Working.Marked.{breaks_all, is_general, place_for, place_of, is_place_marked, has_mark, HaveMarks, is_place_shared, shares}

both : (a b : Bool) → (a && b) ≡ true → (a ≡ true) × (b ≡ true)
both true b h = (refl, h)
both false b h = absurd (true≢false (sym h))

both_are : (a b : Bool) → a ≡ true → b ≡ true → (a && b) ≡ true
both_are a b first second = ap (λ (x : Bool). x && b) first ∙ second

neither : (a b : Bool) → (a || b) ≡ false → (a ≡ false) × (b ≡ false)
neither true b h = absurd (true≢false h)
neither false b h = (refl, h)

none_of : (a b : Bool) → a ≡ false → b ≡ false → (a || b) ≡ false
none_of a b first second = ap (λ (x : Bool). x || b) first ∙ second

-- more marks
still : (old new : List ℕ) (place : Option Place) → ((task pc : ℕ) → is_marked old task pc ≡ true → is_marked new task pc ≡ true)
    → is_place_marked old place ≡ true → is_place_marked new place ≡ true
still old new None more marked = refl
still old new (Some place) more marked = more place.task place.pc marked

pub all_marked_still : (old new : List ℕ) (points : List Point) → ((task pc : ℕ) → is_marked old task pc ≡ true → is_marked new task pc ≡ true)
    → HaveMarks old points → HaveMarks new points
all_marked_still old new [] more marked = refl
all_marked_still old new (p ∷ ps) more marked =
    let parts = both (has_mark old p) (list_all (has_mark old) ps) marked in
    both_are (has_mark new p) (list_all (has_mark new) ps) (still old new (place_of p) more parts.0) (all_marked_still old new ps more parts.1)

-- one point more
pub one_more_marked : (words : List ℕ) (points : List Point) (point : Point) → HaveMarks words points → has_mark words point ≡ true → HaveMarks words (points ++ point ∷ [])
one_more_marked words [] point marked one = both_are (has_mark words point) true one refl
one_more_marked words (p ∷ ps) point marked one =
    let parts = both (has_mark words p) (list_all (has_mark words) ps) marked in
    both_are (has_mark words p) (list_all (has_mark words) (ps ++ point ∷ [])) parts.0 (one_more_marked words ps point parts.1 one)

or_with : (a b c d : Bool) → a ≡ c → b ≡ d → (a || b) ≡ (c || d)
or_with a b c d first second = ap (λ (x : Bool). x || b) first ∙ ap (λ (x : Bool). c || x) second

or_false : (b : Bool) → b ≡ (b || false)
or_false true = refl
or_false false = refl

pub one_more_general : (every is : Bool) (points : List Point) (point : Point) → every ≡ list_any is_general points → is ≡ is_general point → (every || is) ≡ list_any is_general (points ++ point ∷ [])
one_more_general every is points point all one =
    or_with every is (list_any is_general points) (list_any is_general (point ∷ [])) all (one ∙ or_false (is_general point)) ∙ sym (list_any-append is_general points (point ∷ []))

-- a mark less that none of them has
apart : (gone : Place) (old new : List ℕ) (place : Option Place) → ((task pc : ℕ) → share_mark gone.task gone.pc task pc ≡ false → is_marked new task pc ≡ is_marked old task pc)
    → is_place_shared gone place ≡ false → is_place_marked old place ≡ true → is_place_marked new place ≡ true
apart gone old new None kept other marked = refl
apart gone old new (Some place) kept other marked = kept place.task place.pc other ∙ marked

pub all_marked_apart : (gone : Place) (old new : List ℕ) (points : List Point) → ((task pc : ℕ) → share_mark gone.task gone.pc task pc ≡ false → is_marked new task pc ≡ is_marked old task pc)
    → list_any (shares gone) points ≡ false → HaveMarks old points → HaveMarks new points
all_marked_apart gone old new [] kept other marked = refl
all_marked_apart gone old new (p ∷ ps) kept other marked =
    let parts = both (has_mark old p) (list_all (has_mark old) ps) marked in
    let others = neither (shares gone p) (list_any (shares gone) ps) other in
    both_are (has_mark new p) (list_all (has_mark new) ps) (apart gone old new (place_of p) kept others.0 parts.0) (all_marked_apart gone old new ps kept others.1 parts.1)

-- a point less
pub one_less_marked : (words : List ℕ) (points : List Point) (i : ℕ) → i < length points → HaveMarks words points → HaveMarks words (remove points i)
one_less_marked words [] i within marked = absurd (omega (arith, within))
one_less_marked words (p ∷ ps) zero within marked = (both (has_mark words p) (list_all (has_mark words) ps) marked).1
one_less_marked words (p ∷ ps) (suc i) within marked =
    let parts = both (has_mark words p) (list_all (has_mark words) ps) marked in
    both_are (has_mark words p) (list_all (has_mark words) (remove ps i)) parts.0 (one_less_marked words ps i (omega (arith, within)) parts.1)

-- a point that goes, and is taken out first
pub without_one : (f : Point → Bool) (points : List Point) (i : ℕ) (d : Point) → i < length points → f (get_or points i d) ≡ true → without f (remove points i) ≡ without f points
without_one f [] i d within is = absurd (omega (arith, within))
without_one f (p ∷ ps) zero d within is = ap (λ (b : Bool). cond (not b) (p ∷ without f ps) (without f ps)) (sym is)
without_one f (p ∷ ps) (suc i) d within is = ap (λ (rest : List Point). cond (not (f p)) (p ∷ rest) rest) (without_one f ps i d (omega (arith, within)) is)

-- none goes
pub without_none : (f : Point → Bool) (points : List Point) → list_any f points ≡ false → without f points ≡ points
without_none f [] none = refl
without_none f (p ∷ ps) none =
    let parts = neither (f p) (list_any f ps) none in
    ap (λ (b : Bool). cond (not b) (p ∷ without f ps) (without f ps)) parts.0 ∙ ap (λ (rest : List Point). p ∷ rest) (without_none f ps parts.1)

-- a place without a mark is no breakpoint's
at_place : (words : List ℕ) (owner address task pc : ℕ) → is_marked words owner address ≡ true → is_marked words task pc ≡ false → (eqb owner task && eqb address pc) ≡ false
at_place words owner address task pc marked unmarked = elim (cases_eq owner task) [
  | inr other ↦ grind (arith, other)
  | inl same ↦ elim (cases_eq address pc) [
    | inr other ↦ grind (arith, other)
    | inl here ↦ absurd (true≢false (sym marked ∙ ap (λ (t : ℕ). is_marked words t address) same ∙ ap (λ (a : ℕ). is_marked words task a) here ∙ unmarked))
  ]
]

not_both : (x a b : Bool) → (a && b) ≡ false → ((x && a) && b) ≡ false
not_both true a b h = h
not_both false a b h = refl

unbroken : (words : List ℕ) (kind : BreakKind) (which : PointKind) (owner : Option ℕ) (address task pc : ℕ)
    → is_place_marked words (place_for which owner address) ≡ true → breaks_all which owner ≡ false → is_marked words task pc ≡ false
    → ((eqb (kind_number which) (kind_number (Break kind)) && is_of task owner) && eqb address pc) ≡ false
unbroken words Software (Watch Write) owner address task pc marked own unmarked = refl
unbroken words Software (Watch Read) owner address task pc marked own unmarked = refl
unbroken words Software (Watch Access) owner address task pc marked own unmarked = refl
unbroken words Hardware (Watch Write) owner address task pc marked own unmarked = refl
unbroken words Hardware (Watch Read) owner address task pc marked own unmarked = refl
unbroken words Hardware (Watch Access) owner address task pc marked own unmarked = refl
unbroken words kind (Break which) None address task pc marked own unmarked = absurd (true≢false own)
unbroken words kind (Break which) (Some owner) address task pc marked own unmarked =
    not_both (eqb (kind_number (Break which)) (kind_number (Break kind))) (eqb owner task) (eqb address pc) (at_place words owner address task pc marked unmarked)

none_breaks : (words : List ℕ) (points : List Point) (kind : BreakKind) (task pc : ℕ) → HaveMarks words points → list_any is_general points ≡ false → is_marked words task pc ≡ false
    → list_any (breaks kind task pc) points ≡ false
none_breaks words [] kind task pc marked own unmarked = refl
none_breaks words (p ∷ ps) kind task pc marked own unmarked =
    let parts = both (has_mark words p) (list_all (has_mark words) ps) marked in
    let owns = neither (is_general p) (list_any is_general ps) own in
    none_of (breaks kind task pc p) (list_any (breaks kind task pc) ps)
    (unbroken words kind p.kind p.task p.address task pc parts.0 owns.0 unmarked)
    (none_breaks words ps kind task pc parts.1 owns.1 unmarked)

pub unmarked_meets_none : (words : List ℕ) (points : List Point) (task pc : ℕ) → HaveMarks words points → list_any is_general points ≡ false → is_marked words task pc ≡ false
    → break_at points task pc ≡ None
unmarked_meets_none words points task pc marked own unmarked =
    ap (λ (b : Bool). cond b (Some Software) (cond (list_any (breaks Hardware task pc) points) (Some Hardware) None)) (none_breaks words points Software task pc marked own unmarked)
    ∙ ap (λ (b : Bool). cond b (Some Hardware) None) (none_breaks words points Hardware task pc marked own unmarked)
