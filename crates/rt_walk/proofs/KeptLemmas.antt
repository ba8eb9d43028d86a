-- Of positions that are kept every second one goes, or one more is kept.
use Rattle.rt_walk.proofs.Common.{◌≡◌, inl, inr, ℕ, ◌+◌, ◌-◌, ◌<◌, ◌≤◌, Bool, true, false, true≢false, cond, List, [], ◌∷◌, ◌++◌, refl, sym, ap, subst, ◌∙◌, arith, min, cases_lt, AreKept}
use Rattle.std.proofs.Common.{zero, suc, ◌*◌, ◌/◌, ◌%◌, ◌^◌, eqb, length, length-append}
use Rattle.std.specs.Prelude.{◌==◌, ◌&&◌, Result, Ok, Err, IfOk}
use Rattle.std.specs.Result.{is_ok}
use Rattle.std.specs.List.{filter}
use Rattle.std.proofs.Math.Nat.{mul-mod_left}
use Rattle.std.proofs.lemmas.Nat.{mod-mul-add}
use Rattle.std.proofs.lemmas.Bool.{ne_eqb, eq-eqb}
use Rattle.rt_walk.specs.Working.Kept.{AreSpaced, due_after}

module _ {P : Type 0} (tick : P → ℕ) where
  -- at a multiple of this number
  abbrev pub at_multiple : ℕ → P → Bool
  at_multiple n p = tick p % n == 0

  -- first is an even or an odd multiple of the distance
  abbrev pub parity : Bool → ℕ
  parity true = 1
  parity false = 0

  abbrev pub first_kept : Bool → ℕ → ℕ → ℕ
  first_kept true distance first = first + distance
  first_kept false distance first = first

  -- what is left of spaced positions, the first of which is kept or isn't
  pub record Thinned (odd : Bool) (distance first now : ℕ) (old new : List P) : Type 0 where
    pub spaced : AreSpaced tick (distance + distance) now new
    pub due : due_after distance first old ≤ due_after (distance + distance) now new
    pub end : due_after (distance + distance) now new ≤ due_after distance first old + distance
    pub few : 2 * length new + parity odd ≤ length old + 1
    pub many : length old ≤ 2 * length new + parity odd

  kept : (distance times first : ℕ) (p : P) → first ≡ (times + times) * distance → tick p ≡ first → at_multiple (distance + distance) p ≡ true
  kept distance times first p is at =
      let double : first ≡ times * (distance + distance) = omega (arith, is) in
      ap (λ (n : ℕ). eqb (n % (distance + distance)) 0) (at ∙ double) ∙ ap (λ (n : ℕ). eqb n 0) (mul-mod_left times (distance + distance))

  gone : (distance times first : ℕ) (p : P) → 1 ≤ distance → first ≡ (times + times + 1) * distance → tick p ≡ first → at_multiple (distance + distance) p ≡ false
  gone distance times first p some is at =
      let double : first ≡ times * (distance + distance) + distance = omega (arith, is) in
      ap (λ (n : ℕ). eqb (n % (distance + distance)) 0) (at ∙ double) ∙ ap (λ (n : ℕ). eqb n 0) (mod-mul-add times (distance + distance) distance (omega (arith, some))) ∙ ne_eqb distance 0 (λ is0. absurd (omega (arith, some, is0)))

  pub thins : (odd : Bool) (distance times first : ℕ) (ps : List P) → 1 ≤ distance → first ≡ (times + times + parity odd) * distance → AreSpaced tick distance first ps
      → Thinned odd distance first (first_kept odd distance first) ps (filter (at_multiple (distance + distance)) ps)
  thins true distance times first [] some is spaced = record { spaced = tt; due = omega arith; end = omega arith; few = omega arith; many = omega arith }
  thins false distance times first [] some is spaced = record { spaced = tt; due = omega arith; end = omega arith; few = omega arith; many = omega arith }
  thins true distance times first (p ∷ ps) some is spaced =
      let rest = thins false distance (times + 1) (first + distance) ps some (omega (arith, is)) spaced.1 in
      rw (gone distance times first p some is spaced.0) (record {
        spaced = rest.spaced;
        due = rest.due;
        end = rest.end;
        few = omega (arith, rest.few);
        many = omega (arith, rest.many);
      })
  thins false distance times first (p ∷ ps) some is spaced =
      let more : first + distance + distance ≡ first + (distance + distance) = omega arith in
      let rest : Thinned true distance (first + distance) (first + (distance + distance)) ps (filter (at_multiple (distance + distance)) ps) =
      subst (λ (n : ℕ). Thinned true distance (first + distance) n ps (filter (at_multiple (distance + distance)) ps)) more
      (thins true distance times (first + distance) ps some (omega (arith, is)) spaced.1) in
      rw (kept distance times first p (omega (arith, is)) spaced.0) (record {
        spaced = (spaced.0, rest.spaced);
        due = rest.due;
        end = rest.end;
        few = omega (arith, rest.few);
        many = omega (arith, rest.many);
      })

  -- ---- the two ways on

  halves : (n : ℕ) → (odd : Bool) × (half : ℕ) × (n ≡ half + half + parity odd)
  halves zero = (false, 0, refl)
  halves (suc n) = more (halves n)
    where
      more : (odd : Bool) × (half : ℕ) × (n ≡ half + half + parity odd) → (odd : Bool) × (half : ℕ) × (suc n ≡ half + half + parity odd)
      more (true, half, is) = (false, half + 1, omega (arith, is))
      more (false, half, is) = (true, half, omega (arith, is))

  -- the due tick is a multiple of the distance too
  due_is : (distance first : ℕ) (times : ℕ) (ps : List P) → first ≡ times * distance → due_after distance first ps ≡ (times + length ps) * distance
  due_is distance first times [] is = omega (arith, is)
  due_is distance first times (p ∷ ps) is = due_is distance (first + distance) (times + 1) ps (omega (arith, is)) ∙ ap (λ (n : ℕ). n * distance) (omega arith)

  low : (distance first : ℕ) (ps : List P) → first ≤ due_after distance first ps
  low distance first [] = omega arith
  low distance first (p ∷ ps) = let more = low distance (first + distance) ps in omega (arith, more)

  spaced_more : (distance first : ℕ) (ps : List P) (p : P) → AreSpaced tick distance first ps → tick p ≡ due_after distance first ps → AreSpaced tick distance first (ps ++ p ∷ [])
  spaced_more distance first [] p spaced is = (is, tt)
  spaced_more distance first (q ∷ ps) p spaced is = (spaced.0, spaced_more distance (first + distance) ps p spaced.1 is)

  due_more : (distance first : ℕ) (ps : List P) (p : P) → due_after distance first (ps ++ p ∷ []) ≡ due_after distance first ps + distance
  due_more distance first [] p = refl
  due_more distance first (q ∷ ps) p = due_more distance (first + distance) ps p

  -- one more is kept where it is due
  pub keeps : (start due distance most : ℕ) (ps : List P) (p : P) → AreKept tick start due distance most ps → tick p ≡ due → due ≤ 2 ^ 40
      → AreKept tick start (due + distance) distance most (ps ++ p ∷ [])
  keeps start due distance most ps p kept is limit = record {
    first = kept.first;
    times = kept.times;
    multiple = kept.multiple;
    above = kept.above;
    near = kept.near;
    spaced = spaced_more distance kept.first ps p kept.spaced (is ∙ kept.next);
    next = ap (λ (n : ℕ). n + distance) kept.next ∙ sym (due_more distance kept.first ps p);
    end = omega (arith, limit);
    many = elim kept.many [
      | inl is_first ↦ inl is_first
      | inr half ↦ inr (let size : length (ps ++ p ∷ []) ≡ length ps + 1 = length-append ps (p ∷ []) in omega (arith, half, size))
    ];
  }

  two : (distance first : ℕ) (ps : List P) → 2 ≤ length ps → first + distance + distance ≤ due_after distance first ps
  two distance first [] some = absurd (omega (arith, some))
  two distance first (p ∷ []) some = absurd (omega (arith, some))
  two distance first (p ∷ q ∷ ps) some = low distance (first + distance + distance) ps

  -- the distance is small where two are kept
  pub small : (start due distance most : ℕ) (ps : List P) → AreKept tick start due distance most ps → 2 ≤ length ps → distance ≤ 2 ^ 40
  small start due distance most ps kept some =
      let far = two distance kept.first ps some in
      omega (arith, far, kept.next, kept.end)

  -- the next multiple of twice the distance
  abbrev pub due_thinned : ℕ → ℕ → ℕ
  due_thinned distance due = cond (eqb (due % (distance + distance)) 0) due (due + distance)

  next_even : (distance due times end : ℕ) → 1 ≤ distance → due ≡ (times + times) * distance → due ≤ end → end ≤ due + distance → end % (distance + distance) ≡ 0 → end ≡ due_thinned distance due
  next_even distance due times end some is low high even =
      let double : due ≡ times * (distance + distance) = omega (arith, is) in
      let zero_at : due % (distance + distance) ≡ 0 = ap (λ (n : ℕ). n % (distance + distance)) double ∙ mul-mod_left times (distance + distance) in
      let at : end ≡ times * (distance + distance) + (end - due) = omega (arith, double, low) in
      let more : end % (distance + distance) ≡ end - due = ap (λ (n : ℕ). n % (distance + distance)) at ∙ mod-mul-add times (distance + distance) (end - due) (omega (arith, high, some, low)) in
      let same : end ≡ due = omega (arith, more, even, low) in
      same ∙ sym (ap (λ (b : Bool). cond b due (due + distance)) (eq-eqb (due % (distance + distance)) 0 zero_at))

  next_odd : (distance due times end : ℕ) → 1 ≤ distance → due ≡ (times + times + 1) * distance → due ≤ end → end ≤ due + distance → end % (distance + distance) ≡ 0 → end ≡ due_thinned distance due
  next_odd distance due times end some is low high even =
      let double : due ≡ times * (distance + distance) + distance = omega (arith, is) in
      let at_due : due % (distance + distance) ≡ distance = ap (λ (n : ℕ). n % (distance + distance)) double ∙ mod-mul-add times (distance + distance) distance (omega (arith, some)) in
      let not_zero : eqb (due % (distance + distance)) 0 ≡ false = ne_eqb (due % (distance + distance)) 0 (λ is0. absurd (omega (arith, some, is0, at_due))) in
      let same : end ≡ due + distance = elim (cases_lt end (due + distance)) [
        | inl before ↦
            let at : end ≡ times * (distance + distance) + (distance + (end - due)) = omega (arith, double, low) in
            let more : end % (distance + distance) ≡ distance + (end - due) = ap (λ (n : ℕ). n % (distance + distance)) at ∙ mod-mul-add times (distance + distance) (distance + (end - due)) (omega (arith, before, low)) in
            absurd (omega (arith, more, even, some))
        | inr there ↦ omega (arith, there, high)
      ] in
      same ∙ sym (ap (λ (b : Bool). cond b due (due + distance)) not_zero)

  next : (odd : Bool) (distance due times end : ℕ) → 1 ≤ distance → due ≡ (times + times + parity odd) * distance → due ≤ end → end ≤ due + distance → end % (distance + distance) ≡ 0 → end ≡ due_thinned distance due
  next true distance due times end some is low high even = next_odd distance due times end some is low high even
  next false distance due times end some is low high even = next_even distance due times end some (omega (arith, is)) low high even

  first_is : (odd : Bool) (distance first half : ℕ) → first ≡ (half + half + parity odd) * distance → first_kept odd distance first ≡ (half + parity odd) * (distance + distance)
  first_is true distance first half is = omega (arith, is)
  first_is false distance first half is = omega (arith, is)

  first_low : (odd : Bool) (distance first : ℕ) → first ≤ first_kept odd distance first
  first_low true distance first = omega arith
  first_low false distance first = omega arith

  first_high : (odd : Bool) (distance first : ℕ) → first_kept odd distance first ≤ first + distance
  first_high true distance first = omega arith
  first_high false distance first = omega arith

  parity_low : (odd : Bool) → parity odd ≤ 1
  parity_low true = omega arith
  parity_low false = omega arith

  due_end : (distance due : ℕ) → due_thinned distance due ≤ due + distance
  due_end distance due = go (eqb (due % (distance + distance)) 0)
    where
      go : (b : Bool) → cond b due (due + distance) ≤ due + distance
      go true = omega arith
      go false = omega arith

  -- every second one goes where as many are kept as may be
  pub thinned : (start due distance most : ℕ) (ps : List P) → AreKept tick start due distance most ps → 1 ≤ distance → 2 ≤ most → length ps ≡ most
      → AreKept tick start (due_thinned distance due) (distance + distance) most (filter (at_multiple (distance + distance)) ps) × (length (filter (at_multiple (distance + distance)) ps) < most)
  thinned start due distance most ps kept some enough full =
      let h = halves kept.times in
      let first_at : kept.first ≡ (h.1 + h.1 + parity h.0) * distance = kept.multiple ∙ ap (λ (n : ℕ). n * distance) h.2 in
      let t = thins h.0 distance h.1 kept.first ps some first_at kept.spaced in
      let d = halves (kept.times + length ps) in
      let due_at : due ≡ (d.1 + d.1 + parity d.0) * distance = kept.next ∙ due_is distance kept.first kept.times ps kept.multiple ∙ ap (λ (n : ℕ). n * distance) d.2 in
      let new = filter (at_multiple (distance + distance)) ps in
      let end : ℕ = due_after (distance + distance) (first_kept h.0 distance kept.first) new in
      let end_at : end ≡ (h.1 + parity h.0 + length new) * (distance + distance) = due_is (distance + distance) (first_kept h.0 distance kept.first) (h.1 + parity h.0) new (first_is h.0 distance kept.first h.1 first_at) in
      let even : end % (distance + distance) ≡ 0 = ap (λ (n : ℕ). n % (distance + distance)) end_at ∙ mul-mod_left (h.1 + parity h.0 + length new) (distance + distance) in
      let at : end ≡ due_thinned distance due = next d.0 distance due d.1 end some due_at (omega (arith, t.due, kept.next)) (omega (arith, t.end, kept.next)) even in
      let first_from = first_low h.0 distance kept.first in
      let first_to = first_high h.0 distance kept.first in
      let odd_to = parity_low h.0 in
      let due_to = due_end distance due in (
        record {
          first = first_kept h.0 distance kept.first;
          times = h.1 + parity h.0;
          multiple = first_is h.0 distance kept.first h.1 first_at;
          above = omega (arith, kept.above, first_from);
          near = omega (arith, kept.near, first_to);
          spaced = t.spaced;
          next = sym at;
          end = omega (arith, due_to, kept.end);
          many = inr (omega (arith, t.many, full, odd_to));
        },
        omega (arith, t.few, full, enough),
      )

  as_doubled : (start due distance most doubled later : ℕ) (ps : List P) → doubled ≡ distance + distance → later ≡ due_thinned distance due
      → AreKept tick start (due_thinned distance due) (distance + distance) most (filter (at_multiple (distance + distance)) ps) × (length (filter (at_multiple (distance + distance)) ps) < most)
      → AreKept tick start later doubled most (filter (at_multiple doubled) ps) × (length (filter (at_multiple doubled) ps) < most)
  as_doubled start due distance most doubled later ps is at both =
      subst (λ (n : ℕ). AreKept tick start later n most (filter (at_multiple n) ps) × (length (filter (at_multiple n) ps) < most)) (sym is)
      (subst (λ (n : ℕ). AreKept tick start n (distance + distance) most (filter (at_multiple (distance + distance)) ps) × (length (filter (at_multiple (distance + distance)) ps) < most)) (sym at) both)

  -- the same in numbers of 64 bits
  pub thins_out : (start due distance most doubled later : ℕ) (old new : List P) → AreKept tick start due distance most old → 1 ≤ distance → 2 ≤ most → most ≤ length old → length old ≤ most
      → doubled ≡ min (distance * 2) (2 ^ 64 - 1) → later ≡ cond (eqb (due % doubled) 0) due (min (due + distance) (2 ^ 64 - 1)) → new ≡ filter (at_multiple doubled) old
      → AreKept tick start later doubled most new × (length new < most)
  thins_out start due distance most doubled later old new kept some enough many few is at left =
      let low = small start due distance most old kept (omega (arith, enough, many)) in
      let twice : doubled ≡ distance + distance = omega (arith, is, low) in
      let sum : min (due + distance) (2 ^ 64 - 1) ≡ due + distance = omega (arith, kept.end, low) in
      let next : later ≡ due_thinned distance due = at ∙ ap (λ (n : ℕ). cond (eqb (due % n) 0) due (min (due + distance) (2 ^ 64 - 1))) twice ∙ ap (cond (eqb (due % (distance + distance)) 0) due) sum in
      subst (λ (l : List P). AreKept tick start later doubled most l × (length l < most)) (sym left)
      (as_doubled start due distance most doubled later old twice next (thinned start due distance most old kept some enough (omega (arith, many, few))))

  one : (distance first : ℕ) (ps : List P) → 1 ≤ length ps → first + distance ≤ due_after distance first ps
  one distance first [] some = absurd (omega (arith, some))
  one distance first (p ∷ ps) some = low distance (first + distance) ps

  -- the distance is small where the due tick is
  near : (start due distance most : ℕ) (ps : List P) → AreKept tick start due distance most ps → 2 ≤ most → due ≤ 2 ^ 40 → distance ≤ 2 ^ 40
  near start due distance most ps kept enough limit = elim kept.many [
    | inl first ↦ omega (arith, first)
    | inr half ↦ let far = one distance kept.first ps (omega (arith, half, enough)) in omega (arith, far, kept.next, limit)
  ]

  -- one was kept, or there was no memory
  pub keeps_one : {X E : Type 0} (start due distance most later distance' most' : ℕ) (ps qs : List P) (p : P) (was whole ok : Bool) (result : Result X E)
      → (was ≡ true → AreKept tick start due distance most ps × (length ps < most)) → (whole && ok) ≡ true → whole ≡ was → ok ≡ is_ok result → IfOk result (λ _. qs ≡ ps ++ p ∷ [])
      → later ≡ min (due + distance) (2 ^ 64 - 1) → distance' ≡ distance → most' ≡ most → tick p ≡ due → due ≤ 2 ^ 40 → 2 ≤ most → AreKept tick start later distance' most' qs
  keeps_one start due distance most later distance' most' ps qs p was true true (Ok x) before both is_was is_ok more at same_distance same_most here limit enough =
      let kept = (before (sym is_was)).0 in
      let bound = near start due distance most ps kept enough limit in
      let sum : later ≡ due + distance = omega (arith, at, limit, bound) in
      subst (λ (l : List P). AreKept tick start later distance' most' l) (sym more)
      (subst (λ (n : ℕ). AreKept tick start later distance' n (ps ++ p ∷ [])) (sym same_most)
      (subst (λ (n : ℕ). AreKept tick start later n most (ps ++ p ∷ [])) (sym same_distance)
      (subst (λ (n : ℕ). AreKept tick start n distance most (ps ++ p ∷ [])) (sym sum) (keeps start due distance most ps p kept here limit))))
  keeps_one start due distance most later distance' most' ps qs p was true true (Err e) before both is_was is_ok more at same_distance same_most here limit enough = absurd (true≢false is_ok)
  keeps_one start due distance most later distance' most' ps qs p was true false result before both is_was is_ok more at same_distance same_most here limit enough = absurd (true≢false (sym both))
  keeps_one start due distance most later distance' most' ps qs p was false ok result before both is_was is_ok more at same_distance same_most here limit enough = absurd (true≢false (sym both))

  -- none is kept yet
  pub none_kept : (start due distance most : ℕ) (ps : List P) → ps ≡ [] → start ≤ 2 ^ 40 → distance ≡ 65536 → due ≡ (start / 65536 + 1) * 65536 → AreKept tick start due distance most ps
  none_kept start due distance most ps none limit first at =
      let times : due ≡ (start / 65536 + 1) * distance = at ∙ ap (λ (n : ℕ). (start / 65536 + 1) * n) (sym first) in
      subst (λ (l : List P). AreKept tick start due distance most l) (sym none) (record {
        first = due;
        times = start / 65536 + 1;
        multiple = times;
        above = omega (arith, at);
        near = omega (arith, at, first);
        spaced = tt;
        next = refl;
        end = omega (arith, at, first, limit);
        many = inl first;
      })

  -- they are kept from the same tick on
  pub begun : (start first due distance most : ℕ) (ps : List P) → start ≡ first → AreKept tick start due distance most ps → AreKept tick first due distance most ps
  begun start first due distance most ps is kept = subst (λ (n : ℕ). AreKept tick n due distance most ps) is kept
