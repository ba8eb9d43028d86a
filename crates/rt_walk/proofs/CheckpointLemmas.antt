-- Positions that are kept on the way, and the search in parts.
use Rattle.rt_walk.proofs.Common.{◌≡◌, inl, inr, ℕ, ◌+◌, ◌-◌, ◌<◌, ◌≤◌, Bool, true, false, true≢false, List, [], ◌∷◌, ◌++◌, Option, None, refl, sym, subst, arith, min, cases_lt, tick_limit, Sought, PositionState, IsReached, AreReached}
use Rattle.std.specs.Prelude.{if◌then◌else◌}
use Rattle.std.proofs.lemmas.List.Elements.{All-push}
use Rattle.rt_walk.specs.declared.halt.Sought.TheVariants.{Met, Unmet, Paused}
use Rattle.rt_walk.specs.FirstMet.{SeeksOrPauses, IsNoneSoFar, Moves, is_unmet, is_paused}

-- a copy was kept, or there was no memory
pub kept_one : (first place copy : PositionState) (b : Bool) (old new : List PositionState) → new ≡ (if b then old ++ copy ∷ [] else old) → copy ≡ place
    → IsReached first place → AreReached first old → AreReached first new
kept_one first place copy true old new is same reached all =
    subst (AreReached first) (sym is) (All-push (IsReached first) old copy all (subst (IsReached first) (sym same) reached))
kept_one first place copy false old new is same reached all = subst (AreReached first) (sym is) all

-- ---- a search in parts

module _ {A : Type 0} (has_paused : Bool) (met : ℕ → Option A) (t0 n left t part m : ℕ) (few : left ≤ min n (tick_limit - t0)) (clock : t ≡ t0 + (min n (tick_limit - t0) - left)) (small : part ≤ left)
    (none : (u : ℕ) → t0 < u → u ≤ t → met u ≡ None) where
  none_later : ((u : ℕ) → t < u → u ≤ m → met u ≡ None) → (u : ℕ) → t0 < u → u ≤ m → met u ≡ None
  none_later more u after before = elim (cases_lt t u) [
    | inl later ↦ more u later before
    | inr early ↦ none u after early
  ]

  -- it went on from tick t, up to which nothing was met, and ended there
  pub seeks_on : (sought : Sought A) → is_unmet sought ≡ false → SeeksOrPauses has_paused met t part sought m → SeeksOrPauses has_paused met t0 n sought m
  seeks_on (Met a) ended first = record {
    later = omega (arith, first.later, clock);
    within = omega (arith, first.within, clock, few, small);
    here = first.here;
    none_before = λ u after before. elim (cases_lt t u) [
      | inl later ↦ first.none_before u later before
      | inr early ↦ none u after early
    ];
  }
  seeks_on Unmet ended first = absurd (true≢false ended)
  seeks_on Paused ended paused = (
    paused.0,
    record {
      later = omega (arith, paused.1.later, clock);
      before = omega (arith, paused.1.before, clock, few, small);
      none = none_later paused.1.none;
    },
  )

  -- or met nothing in a part
  pub none_to : (sought : Sought A) → is_unmet sought ≡ true → SeeksOrPauses has_paused met t part sought m → (u : ℕ) → t0 < u → u ≤ m → met u ≡ None
  none_to (Met a) unmet first = absurd (true≢false (sym unmet))
  none_to Unmet unmet part_none = none_later part_none.none
  none_to Paused unmet paused = absurd (true≢false (sym unmet))

  pub none_so_far : (sought : Sought A) → is_unmet sought ≡ true → 1 ≤ part → part < left → SeeksOrPauses has_paused met t part sought m → IsNoneSoFar met t0 n m
  none_so_far (Met a) unmet some more first = absurd (true≢false (sym unmet))
  none_so_far Unmet unmet some more part_none = record {
    later = omega (arith, part_none.end, some, clock, few, small);
    before = omega (arith, part_none.end, clock, few, more);
    none = none_later part_none.none;
  }
  none_so_far Paused unmet some more paused = absurd (true≢false (sym unmet))

-- then it didn't pause
pub unpaused_unmet : {A : Type 0} (sought : Sought A) → is_unmet sought ≡ true → is_paused sought ≡ false
unpaused_unmet (Met a) unmet = refl
unpaused_unmet Unmet unmet = refl
unpaused_unmet Paused unmet = absurd (true≢false (sym unmet))

-- how far it has come
pub moves_on : {A : Type 0} (t0 n left t part m : ℕ) → left ≤ min n (tick_limit - t0) → t ≡ t0 + (min n (tick_limit - t0) - left) → part ≤ left → (sought : Sought A) → is_unmet sought ≡ false → Moves t part sought m → Moves t0 n sought m
moves_on t0 n left t part m few clock small (Met a) ended moved = (omega (arith, moved.0, clock), omega (arith, moved.1, clock, few, small))
moves_on t0 n left t part m few clock small Unmet ended moved = absurd (true≢false ended)
moves_on t0 n left t part m few clock small Paused ended moved = (omega (arith, moved.0, clock), omega (arith, moved.1, clock, few, small))

pub ends_at : {A : Type 0} (t part m : ℕ) (sought : Sought A) → is_unmet sought ≡ true → Moves t part sought m → m ≡ t + min part (tick_limit - t)
ends_at t part m (Met a) unmet moved = absurd (true≢false (sym unmet))
ends_at t part m Unmet unmet moved = moved
ends_at t part m Paused unmet moved = absurd (true≢false (sym unmet))

pub part_end : (n t0 left t part due m : ℕ) → left ≤ min n (tick_limit - t0) → t ≡ t0 + (min n (tick_limit - t0) - left) → part ≡ min left due → 0 < left
    → m ≡ t + min part (tick_limit - t) → m ≡ t0 + (min n (tick_limit - t0) - (left - part))
part_end n t0 left t part due m few clock is some end = omega (arith, few, clock, is, some, end)
