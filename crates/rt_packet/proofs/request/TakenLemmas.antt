-- What is read as an id, an action or a line is written for it.
use Rattle.rt_packet.proofs.Common.{◌≡◌, ◌≢◌, ℕ, suc, ◌+◌, ◌-◌, ◌%◌, ◌^◌, ◌<◌, ◌≤◌, Bool, true, false, cond, eqb, leb, ltb, List, [], ◌∷◌, ◌++◌, length, get_or, Option, Some, None, refl, sym, ap, subst, ◌∙◌, inl, inr, arith, eqb-true, eq-eqb, is_digit, AllByRecursion, list_all, position_or_len, option_map, is_some, bytes_eq, and_parts, both_ways, cases_Bool, cases_lt, bytes_eq-Decides, Tasks, is_mark, cut_at, long_number, two_numbers, part_of, parts, resumed, hex_bytes, hex_line}
use Rattle.std.proofs.Common.{◌⊎◌, ◌&&◌}
use Rattle.std.specs.Prelude.{codes, not}
use Rattle.std.specs.List.{list_any, filter_map, cons_option, before_first, after_first, slice_split, onto_first, join_with_byte}
use Rattle.std.specs.Str.Parse.{digits_value}
use Rattle.std.proofs.lemmas.Bool.{ltb-true, ltb-false, not-false}
use Rattle.std.proofs.lemmas.List.Splits.{join_with_byte-slice_split, length-slice_split}
use Rattle.std.proofs.lemmas.List.Sums.{split_at_first, prefix_len_stops}
use Rattle.rt_words.proofs.Founds.{bind_some, when_some, unless_some, some_is}
use Rattle.rt_token.specs.Number.{are_digits, value_up_to}
use Rattle.rt_packet.specs.declared.request.actions.Action.{Action}
use Rattle.rt_packet.specs.declared.request.actions.Action.TheVariants as actions
use Rattle.rt_packet.specs.declared.request.ids.Tasks.TheVariants.{All, One}
use Rattle.rt_packet.specs.request.Numbers.{hexadecimal, short_number}
use Rattle.rt_packet.specs.request.Ids.{id_part, numbered, of_both, both_parts, parts_or_one, in_process, tasks_of}
use Rattle.rt_packet.specs.request.Actions.{plain_action, signalled_action, action_text, with_or_without, are_actions, actions_of}
use Rattle.rt_packet.specs.request.HexLines.{are_pairs}
use Rattle.rt_packet.specs.request.SpelledParts.{Lacks, IsHexadecimal, IsTwo, IsPart, IsThread, IsBoth, IsId, IsAction, IsActionFor, AreActions, IsHexLine, IsFeatures}

-- what a choice found, and where
pub either_some : {A : Type 0} (b : Bool) (r s : Option A) (y : A) → cond b r s ≡ Some y
    → ((b ≡ true) × (r ≡ Some y)) ⊎ ((b ≡ false) × (s ≡ Some y))
either_some true r s y e = inl (refl, e)
either_some false r s y e = inr (refl, e)

pub mapped_some : {A B : Type 0} (f : A → B) (r : Option A) (y : B) → option_map f r ≡ Some y → (x : A) × (r ≡ Some x) × (f x ≡ y)
mapped_some f (Some x) y e = (x, refl, some_is (f x) y e)
mapped_some f None y e = absurd cc

-- ---- marks

pub cut_takes : (mark : ℕ) (text : List ℕ) (x : List ℕ × List ℕ) → cut_at mark text ≡ Some x → text ≡ x.0 ++ mark ∷ x.1
cut_takes mark text x e =
    let p = is_mark mark in
    let found = when_some (ltb (position_or_len p text) (length text)) (before_first p text, after_first p text) x e in
    let inside : position_or_len p text < length text = ltb-true _ _ found.0 in
    let at : get_or text (position_or_len p text) 0 ≡ mark =
    eqb-true _ mark (not-false _ (prefix_len_stops (λ b. not (is_mark mark b)) text 0 inside)) in
    let cut = split_at_first p text 0 inside in
    subst (λ (y : List ℕ × List ℕ). text ≡ y.0 ++ mark ∷ y.1) found.1 (cut ∙ ap (λ b. before_first p text ++ b ∷ after_first p text) at)

differs : (a b : ℕ) → eqb a b ≡ false → a ≢ b
differs a b e = λ same. both_ways (eqb a b) e (eq-eqb a b same)

before_case : (mark b : ℕ) (bs : List ℕ) (v : Bool) → eqb b mark ≡ v → Lacks mark (before_first (is_mark mark) bs)
    → Lacks mark (before_first (is_mark mark) (b ∷ bs))
before_case mark b bs true same more = rw same tt
before_case mark b bs false other more =
    let next : 1 + position_or_len (is_mark mark) bs ≡ suc (position_or_len (is_mark mark) bs) = omega arith in
    rw (other, next) (differs b mark other, more)

lacks_before : (mark : ℕ) (text : List ℕ) → Lacks mark (before_first (is_mark mark) text)
lacks_before mark [] = tt
lacks_before mark (b ∷ bs) = before_case mark b bs (eqb b mark) refl (lacks_before mark bs)

pub cut_lacks : (mark : ℕ) (text : List ℕ) (x : List ℕ × List ℕ) → cut_at mark text ≡ Some x → Lacks mark x.0
cut_lacks mark text x e =
    let p = is_mark mark in
    let found = when_some (ltb (position_or_len p text) (length text)) (before_first p text, after_first p text) x e in
    subst (λ (y : List ℕ × List ℕ). Lacks mark y.0) found.1 (lacks_before mark text)

onto_lacks : (mark b : ℕ) (texts : List (List ℕ)) → b ≢ mark → AllByRecursion (Lacks mark) texts
    → AllByRecursion (Lacks mark) (onto_first b texts)
onto_lacks mark b [] other h = ((other, tt), tt)
onto_lacks mark b (text ∷ texts) other h = ((other, h.0), h.1)

part_case : (mark b : ℕ) (bs : List ℕ) (v : Bool) → eqb b mark ≡ v → AllByRecursion (Lacks mark) (slice_split (is_mark mark) bs)
    → AllByRecursion (Lacks mark) (slice_split (is_mark mark) (b ∷ bs))
part_case mark b bs true same more = rw same (tt, more)
part_case mark b bs false other more = rw other (onto_lacks mark b (slice_split (is_mark mark) bs) (differs b mark other) more)

parts_lack : (mark : ℕ) (text : List ℕ) → AllByRecursion (Lacks mark) (slice_split (is_mark mark) text)
parts_lack mark [] = (tt, tt)
parts_lack mark (b ∷ bs) = part_case mark b bs (eqb b mark) refl (parts_lack mark bs)

-- ---- numbers

number_takes : (most limit : ℕ) (text : List ℕ) (n : ℕ) → hexadecimal most limit text ≡ Some n → IsHexadecimal most text n
number_takes most limit text n e =
    let short = unless_some (ltb most (length text)) (value_up_to limit 16 text) n e in
    let found = when_some (are_digits 16 text && leb (digits_value 16 text) limit) (digits_value 16 text) n short.1 in
    let tests = and_parts (are_digits 16 text) (leb (digits_value 16 text) limit) found.0 in
    (tests.0, ltb-false _ _ short.0, found.1)

pub long_takes : (text : List ℕ) (n : ℕ) → long_number text ≡ Some n → IsHexadecimal 16 text n
long_takes text n e = number_takes 16 (2 ^ 64 - 1) text n e

short_takes : (text : List ℕ) (n : ℕ) → short_number text ≡ Some n → IsHexadecimal 8 text n
short_takes text n e = number_takes 8 (2 ^ 32 - 1) text n e

pub two_takes : (text : List ℕ) (x : ℕ × ℕ) → two_numbers text ≡ Some x → IsTwo text x.0 x.1
two_takes text x e =
    let cut = bind_some (cut_at 44 text) _ x e in
    let one = bind_some (long_number cut.0.0) _ x cut.2 in
    let two = bind_some (long_number cut.0.1) _ x one.2 in
    let made : ℕ × ℕ = (one.0, two.0) in
    let same : made ≡ x = some_is made x two.2 in
    subst (λ (y : ℕ × ℕ). IsTwo text y.0 y.1) same
    (cut.0.0, cut.0.1, cut_takes 44 text cut.0 cut.1, long_takes cut.0.0 one.0 one.1, long_takes cut.0.1 two.0 two.1)

-- ---- ids

part_of_number : (text : List ℕ) (n : ℕ) → IsHexadecimal 8 text n → IsPart text (numbered n)
part_of_number text n h = elim (cases_Bool (eqb n 0)) [
  | inl same ↦ rw same (inr (subst (IsHexadecimal 8 text) (eqb-true n 0 same) h))
  | inr other ↦
      let some : 1 ≤ n = elim (cases_lt 0 n) [
        | inl above ↦ above
        | inr none ↦ absurd (both_ways (eqb n 0) other (eq-eqb n 0 (omega (arith, none))))
      ] in
      let back : n ≡ n - 1 + 1 = omega (arith, some) in
      rw other (subst (IsHexadecimal 8 text) back h)
]

part_takes : (text : List ℕ) (tasks : Tasks) → id_part text ≡ Some tasks → IsPart text tasks
part_takes text tasks e =
    elim (either_some (bytes_eq text (codes "-1")) (Some All) (option_map numbered (short_number text)) tasks e) [
      | inl found ↦ subst (IsPart text) (some_is All tasks found.1) (inl ((bytes_eq-Decides text (codes "-1")).0 found.0))
      | inr found ↦
          let number = mapped_some numbered (short_number text) tasks found.1 in
          subst (IsPart text) number.2 (part_of_number text number.0 (short_takes text number.0 number.1))
    ]

of_takes : (a b : List ℕ) (process thread tasks : Tasks) → IsPart a process → IsPart b thread → of_both process thread ≡ Some tasks
    → IsPart a tasks × IsThread b tasks
of_takes a b All thread tasks one two e =
    subst (λ (t : Tasks). IsPart a t × IsThread b t) (some_is All tasks e) (one, (thread, two))
of_takes a b (One i) All tasks one two e =
    subst (λ (t : Tasks). IsPart a t × IsThread b t) (some_is (One i) tasks e) (one, inl two)
of_takes a b (One i) (One j) tasks one two e =
    let found = when_some (eqb i j) (One i) tasks e in
    let own : IsPart b (One i) = subst (λ k. IsPart b (One k)) (sym (eqb-true i j found.0)) two in
    subst (λ (t : Tasks). IsPart a t × IsThread b t) found.1 (one, inr own)

both_takes : (x : List ℕ × List ℕ) (tasks : Tasks) → both_parts x ≡ Some tasks → IsPart x.0 tasks × IsThread x.1 tasks
both_takes x tasks e =
    let one = bind_some (id_part x.0) _ tasks e in
    let two = bind_some (id_part x.1) _ tasks one.2 in
    of_takes x.0 x.1 one.0 two.0 tasks (part_takes x.0 one.0 one.1) (part_takes x.1 two.0 two.1) two.2

process_takes : (text : List ℕ) (tasks : Tasks) (o : Option (List ℕ × List ℕ)) → cut_at 46 text ≡ o → parts_or_one text o ≡ Some tasks
    → IsPart text tasks ⊎ IsBoth text tasks
process_takes text tasks None cut e = inl (part_takes text tasks e)
process_takes text tasks (Some x) cut e =
    let both = both_takes x tasks e in inr (x.0, x.1, cut_takes 46 text x cut, both.0, both.1)

pub id_takes : (text : List ℕ) (tasks : Tasks) → tasks_of text ≡ Some tasks → IsId text tasks
id_takes [] tasks e = absurd cc
id_takes (b ∷ bs) tasks e = elim (either_some (eqb b 112) (in_process bs) (id_part (b ∷ bs)) tasks e) [
  | inl found ↦ inr (bs, ap (λ c. c ∷ bs) (eqb-true b 112 found.0), process_takes bs tasks (cut_at 46 bs) refl found.1)
  | inr found ↦ inl (part_takes (b ∷ bs) tasks found.1)
]

-- ---- actions

plain_takes : (b : ℕ) (action : Action) → plain_action b ≡ Some action → IsAction (b ∷ []) action
plain_takes b action e = elim (either_some (eqb b 99) (Some actions.Continue) (cond (eqb b 115) (Some actions.Step) None) action e) [
  | inl found ↦ subst (IsAction (b ∷ [])) (some_is actions.Continue action found.1) (inl (ap (λ c. c ∷ []) (eqb-true b 99 found.0)))
  | inr other ↦
      let found = when_some (eqb b 115) actions.Step action other.1 in
      subst (IsAction (b ∷ [])) found.1 (inl (ap (λ c. c ∷ []) (eqb-true b 115 found.0)))
]

signalled_takes : (b high low : ℕ) (action : Action) → is_digit high 16 ≡ true → is_digit low 16 ≡ true
    → signalled_action b ≡ Some action → IsAction (b ∷ high ∷ low ∷ []) action
signalled_takes b high low action one two e =
    elim (either_some (eqb b 67) (Some actions.Continue) (cond (eqb b 83) (Some actions.Step) None) action e) [
      | inl found ↦ subst (IsAction (b ∷ high ∷ low ∷ [])) (some_is actions.Continue action found.1)
          (inr (high, low, ap (λ c. c ∷ high ∷ low ∷ []) (eqb-true b 67 found.0), one, two))
      | inr other ↦
          let found = when_some (eqb b 83) actions.Step action other.1 in
          subst (IsAction (b ∷ high ∷ low ∷ [])) found.1
          (inr (high, low, ap (λ c. c ∷ high ∷ low ∷ []) (eqb-true b 83 found.0), one, two))
    ]

action_takes : (text : List ℕ) (action : Action) → action_text text ≡ Some action → IsAction text action
action_takes [] action e = absurd cc
action_takes (b ∷ []) action e = plain_takes b action e
action_takes (b ∷ high ∷ []) action e = absurd cc
action_takes (b ∷ high ∷ low ∷ []) action e =
    elim (either_some (is_digit high 16 && is_digit low 16) (signalled_action b) None action e) [
      | inl found ↦
          let digits = and_parts (is_digit high 16) (is_digit low 16) found.0 in
          signalled_takes b high low action digits.0 digits.1 found.1
      | inr found ↦ absurd (let none = found.1 in cc)
    ]
action_takes (b ∷ high ∷ low ∷ c ∷ more) action e = absurd cc

for_takes : (text : List ℕ) (part : Action × Tasks) (o : Option (List ℕ × List ℕ)) → cut_at 58 text ≡ o
    → with_or_without text o ≡ Some part → IsActionFor text part
for_takes text part None cut e =
    let one = bind_some (action_text text) _ part e in
    let made : Action × Tasks = (one.0, All) in
    subst (IsActionFor text) (some_is made part one.2) (inl (action_takes text one.0 one.1, refl))
for_takes text part (Some x) cut e =
    let one = bind_some (action_text x.0) _ part e in
    let two = bind_some (tasks_of x.1) _ part one.2 in
    let made : Action × Tasks = (one.0, two.0) in
    subst (IsActionFor text) (some_is made part two.2)
    (inr (x.0, x.1, cut_takes 58 text x cut, action_takes x.0 one.0 one.1, id_takes x.1 two.0 two.1))

is_one : (text : List ℕ) → is_some (part_of text) ≡ true → (part : Action × Tasks) × (part_of text ≡ Some part)
is_one text some = one (part_of text) refl some
  where
    one : (o : Option (Action × Tasks)) → part_of text ≡ o → is_some o ≡ true → (part : Action × Tasks) × (part_of text ≡ Some part)
    one None is some = absurd cc
    one (Some part) is some = (part, is)

join_more : (first rest : List ℕ) (part : Action × Tasks) (found : List (Action × Tasks)) → IsActionFor first part
    → AreActions rest found → AreActions (first ++ 59 ∷ rest) (part ∷ found)
join_more first rest part [] one others = absurd others
join_more first rest part (next ∷ found) one others = (first, rest, refl, one, others)

all_take : (text : List ℕ) (texts : List (List ℕ)) → list_all (λ part. is_some (part_of part)) (text ∷ texts) ≡ true
    → AreActions (join_with_byte 59 (text ∷ texts)) (filter_map part_of (text ∷ texts))
all_take text [] all =
    let tests = and_parts (is_some (part_of text)) (list_all (λ part. is_some (part_of part)) []) all in
    let one = is_one text tests.0 in
    subst (λ (o : Option (Action × Tasks)). AreActions text (cons_option o [])) (sym one.1)
    (for_takes text one.0 (cut_at 58 text) refl one.1)
all_take text (next ∷ texts) all =
    let tests = and_parts (is_some (part_of text)) (list_all (λ part. is_some (part_of part)) (next ∷ texts)) all in
    let one = is_one text tests.0 in
    let rest = all_take next texts tests.1 in
    subst (λ (o : Option (Action × Tasks)). AreActions (join_with_byte 59 (text ∷ next ∷ texts)) (cons_option o (filter_map part_of (next ∷ texts))))
    (sym one.1)
    (join_more text (join_with_byte 59 (next ∷ texts)) one.0 (filter_map part_of (next ∷ texts)) (for_takes text one.0 (cut_at 58 text) refl one.1) rest)

some_parts : (text : List ℕ) → 1 ≤ length (parts text)
some_parts text = omega (arith, length-slice_split (is_mark 59) text)

parts_take : (texts : List (List ℕ)) → 1 ≤ length texts → list_all (λ part. is_some (part_of part)) texts ≡ true
    → AreActions (join_with_byte 59 texts) (filter_map part_of texts)
parts_take [] some all = absurd (omega (arith, some))
parts_take (text ∷ texts) some all = all_take text texts all

pub actions_take : (text : List ℕ) (found : List (Action × Tasks)) → resumed text ≡ Some found → AreActions text found
actions_take text found e =
    let read = when_some (are_actions text) (actions_of text) found e in
    subst (AreActions text) read.1
    (subst (λ (t : List ℕ). AreActions t (actions_of text)) (join_with_byte-slice_split 59 text) (parts_take (parts text) (some_parts text) read.0))

-- ---- features

features_from : (text : List ℕ) (texts : List (List ℕ)) → parts text ≡ texts → 1 ≤ length texts
    → IsFeatures text (list_any (λ f. bytes_eq f (codes "multiprocess+")) texts)
features_from text [] is some = absurd (omega (arith, some))
features_from text (feature ∷ others) is some =
    let lacks : AllByRecursion (Lacks 59) (feature ∷ others) = subst (AllByRecursion (Lacks 59)) is (parts_lack 59 text) in
    (feature, others, sym (join_with_byte-slice_split 59 text) ∙ ap (join_with_byte 59) is, lacks, refl)

pub features_take : (text : List ℕ) → IsFeatures text (list_any (λ f. bytes_eq f (codes "multiprocess+")) (parts text))
features_take text = features_from text (parts text) refl (some_parts text)

-- ---- lines

digits_take : (text : List ℕ) → length text % 2 ≡ 0 → list_all (λ b. is_digit b 16) text ≡ true → IsHexLine text (hex_bytes text)
digits_take [] even all = refl
digits_take (high ∷ []) even all = absurd (omega (arith, even))
digits_take (high ∷ low ∷ rest) even all =
    let one = and_parts (is_digit high 16) (list_all (λ b. is_digit b 16) (low ∷ rest)) all in
    let two = and_parts (is_digit low 16) (list_all (λ b. is_digit b 16) rest) one.1 in
    (high, low, rest, refl, one.0, two.0, rw (one.0, two.0) refl, digits_take rest (omega (arith, even)) two.1)

pub line_takes : (text bytes : List ℕ) → hex_line text ≡ Some bytes → IsHexLine text bytes
line_takes text bytes e =
    let read = when_some (are_pairs text) (hex_bytes text) bytes e in
    let tests = and_parts (eqb (length text % 2) 0) (list_all (λ b. is_digit b 16) text) read.0 in
    subst (IsHexLine text) read.1 (digits_take text (eqb-true _ _ tests.0) tests.1)
