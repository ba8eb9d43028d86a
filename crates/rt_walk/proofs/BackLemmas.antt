-- The last tick at which something is met on the way back, piece by piece.
use Rattle.rt_walk.proofs.Common.{◌≡◌, inl, inr, ℕ, ◌+◌, ◌-◌, ◌<◌, ◌≤◌, Bool, true, false, cond, Option, Some, None, refl, sym, ap, subst, ◌∙◌, arith, max, nat_lt, cases_lt, TaskSet, Entry, state_at, ahead_of, back_at, LastBefore}
use Rattle.std.specs.Prelude.{nat_le, not, ◌==◌, ◌&&◌}
use Rattle.std.proofs.lemmas.Bool.{lt-ltb, le-ltb, leb-true, leb-false}
use Rattle.rt_history.specs.MachineState.{MachineState}
use Rattle.rt_history.specs.declared.record.Entry.TheVariants.{Busy, Idle}
use Rattle.rt_history.specs.Entries.{ticks_of}
use Rattle.rt_core.specs.Advance.{Follows}
use Rattle.rt_history.specs.declared.record.Record.{Record}
use Rattle.rt_walk.specs.Jobs.{Stand, stand_at}
use Rattle.rt_walk.specs.Met.{ahead_at, behind_at, first_of, Meets}
use Rattle.rt_walk.specs.LastMet.{IsLastMet, left_at}
use Rattle.rt_walk.specs.Working.Piece.{noted}
use Rattle.rt_walk.proofs.GoingLemmas.{idle-from, behind-within, behind-entry}

neither : {A : Type 0} (b : Bool) → ◌≡◌ {A = Option A} (cond b None None) None
neither true = refl
neither false = refl

either : {A : Type 0} (b p q : Bool) (x y : Option A) → first_of (cond p (cond b x None) None) (cond q (cond b y None) None) ≡ cond b (first_of (cond p x None) (cond q y None)) None
either true p q x y = refl
either {A = A} false p q x y = ap (λ (l : Option A). first_of l (cond q None None)) (neither p) ∙ neither q

-- ---- the last so far

module _ {A : Type 0} (met : ℕ → Option A) where
  -- nothing more is met up to a later end
  pub extended : (low u v : ℕ) (last : Option (ℕ × A)) → u ≤ v → ((k : ℕ) → u ≤ k → k < v → met k ≡ None) → LastBefore met low u last → LastBefore met low v last
  extended low u v None later none before = λ k from within. elim (cases_lt k u) [
    | inl early ↦ before k from early
    | inr late ↦ none k late within
  ]
  extended low u v (Some last) later none before = record {
    from = before.from;
    before = omega (arith, before.before, later);
    here = before.here;
    none_after = λ k after within. elim (cases_lt k u) [
      | inl early ↦ before.none_after k after early
      | inr late ↦ none k late within
    ];
  }

  at_u : (u : ℕ) → met u ≡ None → (k : ℕ) → u ≤ k → k < u + 1 → met k ≡ None
  at_u u none k from within = let is : k ≡ u = omega (arith, from, within) in ap met is ∙ none

  below_low : (low first u : ℕ) (last : Option (ℕ × A)) → u < low → LastBefore met (max low first) u last → LastBefore met (max low first) (u + 1) last
  below_low low first u None early before = λ k from within. absurd (omega (arith, from, within, early))
  below_low low first u (Some last) early before = absurd (omega (arith, before.from, before.before, early))

  note : (b : Bool) (low first u : ℕ) (last : Option (ℕ × A)) (a : A) → nat_le low u ≡ b → first ≤ u → met u ≡ Some a → LastBefore met (max low first) u last
      → LastBefore met (max low first) (u + 1) (cond b (Some (u, a)) last)
  note true low first u last a is from here before = record {
    from = (let low-first : low ≤ u = leb-true low u is in omega (arith, low-first, from));
    before = omega arith;
    here = here;
    none_after = λ k after within. absurd (omega (arith, after, within));
  }
  note false low first u last a is from here before = below_low low first u last (leb-false low u is) before

  -- one tick more is looked at
  pub noted_one : (low first u : ℕ) (last : Option (ℕ × A)) (found : Option A) → first ≤ u → met u ≡ found → LastBefore met (max low first) u last → LastBefore met (max low first) (u + 1) (noted last low u found)
  noted_one low first u last None from here before = extended (max low first) u (u + 1) last (omega arith) (at_u u here) before
  noted_one low first u last (Some a) from here before = note (nat_le low u) low first u last a refl from here before

-- ---- what is met at a tick

module _ {A : Type 0} (here left : ℕ → ℕ → MachineState → Option A) (behind : MachineState → Record → Stand → Option A) (passes : Bool) (begin : Stand) (set : TaskSet) (now : ℕ) where
  abbrev pub back : ℕ → ℕ → Option A
  back first u = back_at here left behind passes begin set first now u

  -- by what is met before, and behind
  at_tick : (first u : ℕ) → Option A → Option A → Option A
  at_tick first u h l = first_of (cond (nat_lt u now) h None) (cond (nat_lt first u) l None)

  pub met_here : (first u : ℕ) (m : MachineState) (here_u left_u behind_u found : Option A) → m ≡ state_at set u → here_u ≡ ahead_of here m
      → left_u ≡ cond (nat_lt first u) (ahead_of left (state_at set (u - 1))) None → behind_u ≡ cond (nat_lt first u) (behind_at behind begin set u) None
      → found ≡ first_of (cond (nat_lt u now) here_u None) (first_of (cond (not (passes && (u == now))) left_u None) (cond (nat_lt u now) behind_u None)) → back first u ≡ found
  met_here first u m here_u left_u behind_u found stands here_is left_is behind_is is =
      let before : ahead_of here (state_at set u) ≡ here_u = ap (ahead_of here) (sym stands) ∙ sym here_is in
      ap (λ (h : Option A). first_of (cond (nat_lt u now) h None) (cond (nat_lt first u) (left_at left behind passes begin set now u) None)) before
      ∙ ap (first_of (cond (nat_lt u now) here_u None)) (sym (either (nat_lt first u) (not (passes && (u == now))) (nat_lt u now) (ahead_of left (state_at set (u - 1))) (behind_at behind begin set u)))
      ∙ ap (λ (l : Option A). first_of (cond (nat_lt u now) here_u None) (first_of (cond (not (passes && (u == now))) l None) (cond (nat_lt u now) (cond (nat_lt first u) (behind_at behind begin set u) None) None))) (sym left_is)
      ∙ ap (λ (b : Option A). first_of (cond (nat_lt u now) here_u None) (first_of (cond (not (passes && (u == now))) left_u None) (cond (nat_lt u now) b None))) (sym behind_is)
      ∙ sym is

  idle_none : (ahead : ℕ → ℕ → MachineState → Option A) (t start n : ℕ) (new : MachineState) → Follows set t (Idle start n) new → (u : ℕ) → t ≤ u → u < t + n → ahead_of ahead (state_at set u) ≡ None
  idle_none ahead t start n new follows u from before = ap (ahead_at ahead (state_at set u)) (idle-from set t start n new follows u from before)

  -- nothing is met within an entry
  pub none_within : (first t : ℕ) (entry : Entry) (new : MachineState) → Follows set t entry new → (u : ℕ) → t + 1 ≤ u → u < t + ticks_of entry → back first u ≡ None
  none_within first t (Busy start attempt) new follows u after before = absurd (omega (arith, after, before))
  none_within first t (Idle start n) new follows u after before =
      let coming = idle_none here t start n new follows u (omega (arith, after)) before in
      let left_none = idle_none left t start n new follows (u - 1) (omega (arith, after)) (omega (arith, before, after)) in
      let behind_none = behind-within behind begin set t start n new follows u (omega (arith, after)) before in
      ap (λ (h : Option A). first_of (cond (nat_lt u now) h None) (cond (nat_lt first u) (left_at left behind passes begin set now u) None)) coming
      ∙ ap (λ (h : Option A). first_of h (cond (nat_lt first u) (left_at left behind passes begin set now u) None)) (neither (nat_lt u now))
      ∙ ap (λ (l : Option A). cond (nat_lt first u) (first_of (cond (not (passes && (u == now))) l None) (cond (nat_lt u now) (behind_at behind begin set u) None)) None) left_none
      ∙ ap (λ (l : Option A). cond (nat_lt first u) (first_of l (cond (nat_lt u now) (behind_at behind begin set u) None)) None) (neither (not (passes && (u == now))))
      ∙ ap (λ (b : Option A). cond (nat_lt first u) (cond (nat_lt u now) b None) None) behind_none
      ∙ ap (λ (b : Option A). cond (nat_lt first u) b None) (neither (nat_lt u now))
      ∙ neither (nat_lt first u)

  later_than : (first end : ℕ) (x : Option A) → first < end → x ≡ cond (nat_lt first end) x None
  later_than first end x later = ap (λ (b : Bool). cond b x None) (sym (lt-ltb first end later))

  -- what the attempt of the tick before meets where an entry ends
  pub left_next : (first t end : ℕ) (entry : Entry) (new : MachineState) (left_t : Option A) → first ≤ t → 1 ≤ ticks_of entry → end ≡ t + ticks_of entry → Follows set t entry new
      → left_t ≡ ahead_of left (state_at set t) → left_t ≡ cond (nat_lt first end) (ahead_of left (state_at set (end - 1))) None
  left_next first t end entry new left_t from some is follows was =
      was ∙ same entry some follows ∙ ap (λ (k : ℕ). ahead_of left (state_at set (k - 1))) (sym is)
      ∙ later_than first end (ahead_of left (state_at set (end - 1))) (omega (arith, from, some, is))
    where
      same : (entry : Entry) → 1 ≤ ticks_of entry → Follows set t entry new → ahead_of left (state_at set t) ≡ ahead_of left (state_at set (t + ticks_of entry - 1))
      same (Busy start attempt) some follows = let at : t ≡ t + 1 - 1 = omega arith in ap (λ (k : ℕ). ahead_of left (state_at set k)) at
      same (Idle start n) some follows =
          idle_none left t start n new follows t (omega arith) (omega (arith, some)) ∙ sym (idle_none left t start n new follows (t + n - 1) (omega (arith, some)) (omega (arith, some)))

  -- and what is met behind it
  pub behind_next : (first : ℕ) (old : MachineState) (entry : Entry) (new : Stand) (found : Option A) → first ≤ old.tick → 1 ≤ ticks_of entry → new.machine.tick ≡ old.tick + ticks_of entry → Follows set old.tick entry new.machine
      → old ≡ state_at set old.tick → new ≡ stand_at begin set new.machine.tick → Meets behind old entry new found → found ≡ cond (nat_lt first new.machine.tick) (behind_at behind begin set new.machine.tick) None
  behind_next first old entry new found from some end follows stood stands meets =
      sym (behind-entry behind (λ task pc m. None) begin set old entry new found some end follows stood stands meets)
      ∙ later_than first new.machine.tick (behind_at behind begin set new.machine.tick) (omega (arith, from, some, end))

  -- ---- pieces

  -- behind its first tick a piece meets what the whole way does
  same_behind : (first floor u : ℕ) → first ≤ floor → floor < u → back first u ≡ back floor u
  same_behind first floor u begins later =
      ap (λ (b : Bool). first_of (cond (nat_lt u now) (ahead_of here (state_at set u)) None) (cond b (left_at left behind passes begin set now u) None))
      (lt-ltb first u (omega (arith, begins, later)) ∙ sym (lt-ltb floor u later))

  -- at its first tick it meets what comes alone
  at_floor : (floor : ℕ) → back floor floor ≡ cond (nat_lt floor now) (ahead_of here (state_at set floor)) None
  at_floor floor =
      ap (λ (b : Bool). first_of (cond (nat_lt floor now) (ahead_of here (state_at set floor)) None) (cond b (left_at left behind passes begin set now floor) None)) (le-ltb floor floor (omega arith))
      ∙ or_none (cond (nat_lt floor now) (ahead_of here (state_at set floor)) None)
    where
      or_none : (x : Option A) → first_of x None ≡ x
      or_none None = refl
      or_none (Some a) = refl

  some_first : (first floor : ℕ) (a : A) → back floor floor ≡ Some a → back first floor ≡ Some a
  some_first first floor a is =
      ap (λ (h : Option A). first_of h (cond (nat_lt first floor) (left_at left behind passes begin set now floor) None)) (sym (at_floor floor) ∙ is)

  pub found_in_piece : (first floor low top : ℕ) (last : ℕ × A) → first ≤ floor → top ≤ now → LastBefore (back floor) (max low floor) (top + 1) (Some last)
      → ((u : ℕ) → low ≤ u → top < u → u ≤ now → back first u ≡ None) → IsLastMet (back first) low now last.1 last.0
  found_in_piece first floor low top last begins ends met none = record {
    from = omega (arith, met.from);
    within = omega (arith, met.before, ends);
    here = elim (cases_lt floor last.0) [
      | inl later ↦ same_behind first floor last.0 begins later ∙ met.here
      | inr at ↦ let is : last.0 ≡ floor = omega (arith, at, met.from) in
          ap (back first) is ∙ some_first first floor last.1 (ap (back floor) (sym is) ∙ met.here)
    ];
    none_after = λ u after within. elim (cases_lt top u) [
      | inl later ↦ none u (omega (arith, met.from, after)) later within
      | inr early ↦ same_behind first floor u begins (omega (arith, met.from, after)) ∙ met.none_after u after (omega (arith, early))
    ];
  }

  pub none_in_piece : (first floor low top : ℕ) → first ≤ floor → LastBefore (back floor) (max low floor) (top + 1) None
      → ((u : ℕ) → low ≤ u → top < u → u ≤ now → back first u ≡ None) → (u : ℕ) → low ≤ u → floor < u → u ≤ now → back first u ≡ None
  none_in_piece first floor low top begins met none u from later_ within = elim (cases_lt top u) [
    | inl later ↦ none u from later within
    | inr early ↦ same_behind first floor u begins later_ ∙ met u (omega (arith, from, later_)) (omega (arith, early))
  ]

  pub none_at_floor : (floor low top : ℕ) → floor < top → LastBefore (back floor) (max low floor) (top + 1) None → low ≤ floor → back floor floor ≡ None
  none_at_floor floor low top below met from = met floor (omega (arith, from)) (omega (arith, below))

  -- where the way begins at its first tick, there is nothing to meet
  pub none_at_now : (first : ℕ) → first ≡ now → back first first ≡ None
  none_at_now first is = at_floor first ∙ ap (λ (b : Bool). cond b (ahead_of here (state_at set first)) None) (le-ltb first now (omega (arith, is)))

-- ---- the ends

pub three : (P : ℕ → ℕ → ℕ → Type 0) (a b c a' b' c' : ℕ) → a ≡ a' → b ≡ b' → c ≡ c' → P a b c → P a' b' c'
three P a b c a' b' c' one two last is = subst (λ (k : ℕ). P k b' c') one (subst (λ (k : ℕ). P a k c') two (subst (λ (k : ℕ). P a b k) last is))

-- a way that is looked through down to its bottom meets nothing
pub none_at_all : {A : Type 0} (here left : ℕ → ℕ → MachineState → Option A) (behind : MachineState → Record → Stand → Option A) (passes : Bool) (begin : Stand) (set : TaskSet) (now first low bottom top : ℕ) → first ≤ low → low ≤ now → bottom ≡ max (low - 1) first → bottom ≤ top → top ≤ bottom → top ≤ now
    → ((u : ℕ) → low ≤ u → top < u → u ≤ now → back_at here left behind passes begin set first now u ≡ None)
    → (top < now → low ≤ top → back_at here left behind passes begin set top now top ≡ None) → (u : ℕ) → low ≤ u → u ≤ now → back_at here left behind passes begin set first now u ≡ None
none_at_all here left behind passes begin set now first low bottom top begun ends is above done within none base u from before = elim (cases_lt top u) [
  | inl later ↦ none u from later before
  | inr early ↦
      let end : top ≡ bottom = omega (arith, above, done) in
      let last : u ≡ first = omega (arith, early, end, is, from, begun) in
      let at : first ≡ top = omega (arith, early, end, is, from, begun) in
      ap (back_at here left behind passes begin set first now) last ∙ elim (cases_lt top now) [
        | inl before-now ↦ ap (λ (k : ℕ). back_at here left behind passes begin set k now k) at ∙ base before-now (omega (arith, at, from, last))
        | inr at-now ↦ none_at_now here left behind passes begin set now first (omega (arith, at, at-now, within))
      ]
]
