use Rattle.rt_profile.proofs.Common.{◌≡◌, ℕ, ◌+◌, ◌*◌, ◌<◌, ◌≤◌, List, [], ◌∷◌, length, drop, get_or, true, false, Option, sym, ap, ◌∙◌, arith, base, executed_from, with_outside}
use Rattle.std.proofs.lemmas.List.{drop_all}
use Rattle.rt_profile.specs.Working.Told.{is_below}
use Rattle.rt_profile.proofs.WalkLemmas.{skip, some-one, walk-outside, walk-below, walk-on}
use Rattle.rt_profile.proofs.walk.Walk.next.Goals as goal

-- the words that were skipped have no ticks
skipped : (old : List ℕ) (outside : Option ℕ) (words : List ℕ) (w v : ℕ) → with_outside outside (executed_from (base + 4 * w) (drop w words)) ≡ old → w ≤ v → v ≤ length words
    → ((j : ℕ) → w ≤ j → j < v → get_or words j 0 ≡ 0) → old ≡ with_outside outside (executed_from (base + 4 * v) (drop v words))
skipped old outside words w v is from within none = sym is ∙ ap (with_outside outside) (skip words w v from within none)

pub returns-then-word-self : goal.returns-then-word-self
returns-then-word-self c =
    let x = c.self.inside in
    let v = c.first_with_ticks-word.result in
    let f = c.first_with_ticks-word.ensures in
    let all : drop v x.words.now ≡ [] = drop_all v x.words.now (omega (arith, c.if-word-self.true)) in
    let none : executed_from (base + 4 * v) (drop v x.words.now) ≡ [] = ap (executed_from (base + 4 * v)) all in
    let is = skipped c.args.self.now x.outside x.words.now x.at v c.self.view_is f.from f.within f.none in
    rw (c.take.ensures.value, c.take.ensures.after) (walk-outside x.outside c.args.self.now (executed_from (base + 4 * v) (drop v x.words.now)) none is)

pub returns-then-stands_below : goal.returns-then-stands_below
returns-then-stands_below c =
    let x = c.self.inside in
    let v = c.first_with_ticks-word.result in
    let f = c.first_with_ticks-word.ensures in
    let inside : v < length x.words.now = omega (arith, f.within, c.if-word-self.false) in
    let rest = executed_from (base + 4 * (v + 1)) (drop (v + 1) x.words.now) in
    let first : executed_from (base + 4 * v) (drop v x.words.now) ≡ (base + 4 * v) ∷ rest = some-one x.words.now v inside (f.some inside) in
    let is : c.args.self.now ≡ with_outside x.outside ((base + 4 * v) ∷ rest) =
    skipped c.args.self.now x.outside x.words.now x.at v c.self.view_is f.from f.within f.none ∙ ap (with_outside x.outside) first in
    let below : is_below x.outside (base + 4 * v) ≡ true = sym c.stands_below.ensures ∙ c.if-stands_below.true in
    rw (c.take-then-stands_below.ensures.value, c.take-then-stands_below.ensures.after, first) (walk-below x.outside (base + 4 * v) c.args.self.now rest below is)

pub returns : goal.returns
returns c =
    let x = c.self.inside in
    let v = c.first_with_ticks-word.result in
    let f = c.first_with_ticks-word.ensures in
    let inside : v < length x.words.now = omega (arith, f.within, c.if-word-self.false) in
    let rest = executed_from (base + 4 * (v + 1)) (drop (v + 1) x.words.now) in
    let first : executed_from (base + 4 * v) (drop v x.words.now) ≡ (base + 4 * v) ∷ rest = some-one x.words.now v inside (f.some inside) in
    let later : is_below x.outside (base + 4 * v) ≡ false = sym c.stands_below.ensures ∙ c.if-stands_below.false in
    skipped c.args.self.now x.outside x.words.now x.at v c.self.view_is f.from f.within f.none ∙ ap (with_outside x.outside) first
    ∙ walk-on (length x.words.now) v x.outside rest inside c.self.invariant.apart later
