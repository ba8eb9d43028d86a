-- A reader of waves sees them.
use Rattle.rt_waves.proofs.Common.{◌≡◌, ℕ, zero, suc, ◌+◌, ◌-◌, ◌^◌, ◌≤◌, ◌==◌, Bool, true, false, cond, List, [], ◌∷◌, ◌++◌, length, codes, decimal, All, append_assoc, append-nil, Option, Some, None, refl, sym, ap, subst, ◌∙◌, arith, flat_map, enumerate_from, range_with_len, AllByRecursion, eq-eqb, eqb-true, nat_tests, length-map, length-enumerate_from, All-nil, All-cons, TaskSet, TaskWaves, task_waves, waves, Wave, wave, mode_number, is_same, task_values, idle_value, values, line, time_line, changed_lines, timed, block}
use Rattle.std.proofs.Common.{bytes_eq}
use Rattle.std.specs.List.{IsDistinct}
use Rattle.std.specs.Option.{option_or}
use Rattle.std.proofs.lemmas.Slice.Eq.{bytes_eq-Decides}
use Rattle.rt_waves.specs.Standing.{untold}
use Rattle.rt_waves.specs.WavesText.{first_block, later_block}
use Rattle.rt_waves.specs.laws.Reader.{changed, reported, block_reporting, last_of, known}
use Rattle.rt_waves.proofs.laws.CodeLaws.{codes_of, Apart, differ-bytes, codes-distinct}

-- ---- what is known of these codes

abbrev Knows : (List ℕ → Option Wave) → List Wave → Type 0
Knows f ws = AllByRecursion (λ w. f w.code ≡ Some w) ws

knows-same : (f g : List ℕ → Option Wave) (ws : List Wave) → ((c : List ℕ) → f c ≡ g c) → Knows g ws → Knows f ws
knows-same f g [] same knows = tt
knows-same f g (w ∷ ws) same knows = (same w.code ∙ knows.0, knows-same f g ws same knows.1)

or-none : (v : Option Wave) → option_or v None ≡ v
or-none None = refl
or-none (Some x) = refl

or-assoc : (u v w : Option Wave) → option_or (option_or u v) w ≡ option_or u (option_or v w)
or-assoc None v w = refl
or-assoc (Some x) v w = refl

-- more is reported before
knows-or : (f g : List ℕ → Option Wave) (ws : List Wave) → Knows f ws → Knows (λ c. option_or (f c) (g c)) ws
knows-or f g [] knows = tt
knows-or f g (w ∷ ws) knows = (let is = knows.0 in rw is refl, knows-or f g ws knows.1)

itself : (c : List ℕ) → bytes_eq c c ≡ true
itself c = (bytes_eq-Decides c c).1 refl

turned : (c d : List ℕ) → bytes_eq c d ≡ false → bytes_eq d c ≡ false
turned c d other = differ-bytes d c (λ is. let same : bytes_eq c d ≡ true = (bytes_eq-Decides c d).1 (sym is) in absurd cc)

last-append : (c : List ℕ) (xs ys : List Wave) → last_of c (xs ++ ys) ≡ option_or (last_of c ys) (last_of c xs)
last-append c [] ys = sym (or-none (last_of c ys))
last-append c (x ∷ xs) ys =
    ap (λ (v : Option Wave). option_or v (cond (bytes_eq c x.code) (Some x) None)) (last-append c xs ys)
    ∙ or-assoc (last_of c ys) (last_of c xs) (cond (bytes_eq c x.code) (Some x) None)

-- ---- the first time

none-reported : (c : List ℕ) (ws : List Wave) → Apart c (codes_of ws) → last_of c ws ≡ None
none-reported c [] apart = refl
none-reported c (w ∷ ws) apart = let rest = none-reported c ws apart.1 in let here = apart.0 in rw (rest, here) refl

all-known : (ws : List Wave) → IsDistinct bytes_eq (codes_of ws) → Knows (λ c. last_of c ws) ws
unfolding IsDistinct
all-known [] distinct = tt
all-known (w ∷ ws) distinct =
    let none = none-reported w.code ws distinct.0 in
    let same = itself w.code in
    let first : option_or (last_of w.code ws) (cond (bytes_eq w.code w.code) (Some w) None) ≡ Some w = rw (none, same) refl in
    (first, knows-or (λ c. last_of c ws) (λ c. cond (bytes_eq c w.code) (Some w) None) ws (all-known ws distinct.1))

-- ---- a later time

-- the same signals, where those that have the same value are the same
abbrev Alike : List Wave → List Wave → Type 0
Alike [] [] = Unit {0}
Alike [] (y ∷ ys) = ⊥
Alike (x ∷ xs) [] = ⊥
Alike (x ∷ xs) (y ∷ ys) = ((x.code ≡ y.code) × (is_same x.value y.value ≡ true → x ≡ y)) × Alike xs ys

alike-append : (vs ws xs ys : List Wave) → Alike vs ws → Alike xs ys → Alike (vs ++ xs) (ws ++ ys)
alike-append [] [] xs ys first second = second
alike-append [] (w ∷ ws) xs ys first second = absurd first
alike-append (v ∷ vs) [] xs ys first second = absurd first
alike-append (v ∷ vs) (w ∷ ws) xs ys first second = (first.0, alike-append vs ws xs ys first.1 second)

wire-alike : (c : List ℕ) (a b : Bool) → is_same (idle_value a).value (idle_value b).value ≡ true → wave c (idle_value a).value ≡ wave c (idle_value b).value
wire-alike c true true same = refl
wire-alike c true false same = absurd cc
wire-alike c false true same = absurd cc
wire-alike c false false same = refl

abbrev pub third : List Wave → Wave
third (a ∷ b ∷ c ∷ ws) = c
third ws = idle_value false

-- a number as a value
abbrev pub number : ℕ → Wave
number n = third (task_values 0 (record untold { pc = n }))

number-alike : (c : List ℕ) (m n : ℕ) → is_same (number m).value (number n).value ≡ true → wave c (number m).value ≡ wave c (number n).value
number-alike c m n same = ap (λ (k : ℕ). wave c (number k).value) (eqb-true m n same)

task-alike : (i : ℕ) (v w : TaskWaves) → Alike (task_values i v) (task_values i w)
task-alike i v w =
    let r = wire-alike (codes "r" ++ decimal i) v.running w.running in
    let m = number-alike (codes "m" ++ decimal i) (mode_number v.mode) (mode_number w.mode) in
    let p = number-alike (codes "p" ++ decimal i) v.pc w.pc in
    let s = number-alike (codes "s" ++ decimal i) v.part w.part in
    let c = number-alike (codes "c" ++ decimal i) v.c w.c in
    let d = number-alike (codes "d" ++ decimal i) v.d w.d in
    let o = number-alike (codes "o" ++ decimal i) v.out w.out in
    let f = wire-alike (codes "f" ++ decimal i) v.fresh w.fresh in
    let k = wire-alike (codes "k" ++ decimal i) v.kept w.kept in
    let x = wire-alike (codes "x" ++ decimal i) v.postponed w.postponed in
    let j = wire-alike (codes "j" ++ decimal i) v.finish w.finish in
    ((refl, r), ((refl, m), ((refl, p), ((refl, s), ((refl, c), ((refl, d), ((refl, o), ((refl, f), ((refl, k), ((refl, x), ((refl, j), tt)))))))))))

tasks-alike : (i : ℕ) (vs ws : List TaskWaves) → length vs ≡ length ws
    → Alike (flat_map (λ n. task_values n.0 n.1) (enumerate_from i vs)) (flat_map (λ n. task_values n.0 n.1) (enumerate_from i ws))
tasks-alike i [] [] same = tt
tasks-alike i [] (w ∷ ws) same = absurd (omega (arith, same))
tasks-alike i (v ∷ vs) [] same = absurd (omega (arith, same))
tasks-alike i (v ∷ vs) (w ∷ ws) same =
    alike-append (task_values i v) (task_values i w) (flat_map (λ n. task_values n.0 n.1) (enumerate_from (i + 1) vs)) (flat_map (λ n. task_values n.0 n.1) (enumerate_from (i + 1) ws))
    (task-alike i v w) (tasks-alike (i + 1) vs ws (omega (arith, same)))

count-tasks : (set : TaskSet) (u : ℕ) → length (waves set u).tasks ≡ length set.tasks
count-tasks set u = length-map (enumerate_from 0 set.tasks) (λ n. task_waves set u n.0 n.1) ∙ length-enumerate_from 0 set.tasks

values-alike : (set : TaskSet) (u v : ℕ) → Alike (values (waves set u)) (values (waves set v))
values-alike set u v =
    ((refl, wire-alike (codes "i") (waves set u).idle (waves set v).idle), tasks-alike 0 (waves set u).tasks (waves set v).tasks (count-tasks set u ∙ sym (count-tasks set v)))

none-changed : (c : List ℕ) (xs ys : List Wave) → Apart c (codes_of ys) → last_of c (changed xs ys) ≡ None
none-changed c [] ys apart = refl
none-changed c (x ∷ xs) [] apart = refl
none-changed c (x ∷ xs) (y ∷ ys) apart =
    let rest = none-changed c xs ys apart.1 in
    let here = apart.0 in
    elim (is_same x.value y.value) as (λ b. last_of c (cond b (changed xs ys) (y ∷ changed xs ys)) ≡ None) [
      | true ↦ rest
      | false ↦ rw (rest, here) refl
    ]

-- a value of another code changes nothing
knows-beside : (f g : List ℕ → Option Wave) (k : List ℕ) (v : Wave) (ws : List Wave) → Apart k (codes_of ws) → Knows (λ c. option_or (f c) (g c)) ws
    → Knows (λ c. option_or (option_or (f c) (cond (bytes_eq c k) (Some v) None)) (g c)) ws
knows-beside f g k v [] apart knows = tt
knows-beside f g k v (w ∷ ws) apart knows =
    let other : bytes_eq w.code k ≡ false = turned k w.code apart.0 in
    let plain : option_or (f w.code) (cond (bytes_eq w.code k) (Some v) None) ≡ f w.code = ap (λ (b : Bool). option_or (f w.code) (cond b (Some v) None)) other ∙ or-none (f w.code) in
    (ap (λ (z : Option Wave). option_or z (g w.code)) plain ∙ knows.0, knows-beside f g k v ws apart.1 knows.1)

knows-changed : (f : List ℕ → Option Wave) (xs ys : List Wave) → Alike xs ys → IsDistinct bytes_eq (codes_of ys) → Knows f xs
    → Knows (λ c. option_or (last_of c (changed xs ys)) (f c)) ys
unfolding IsDistinct
knows-changed f [] [] alike distinct knows = tt
knows-changed f [] (y ∷ ys) alike distinct knows = absurd alike
knows-changed f (x ∷ xs) [] alike distinct knows = tt
knows-changed f (x ∷ xs) (y ∷ ys) alike distinct knows = by (knows-changed f xs ys alike.1 distinct.1 knows.1) (is_same x.value y.value) refl
  where
    none : last_of y.code (changed xs ys) ≡ None
    none = none-changed y.code xs ys distinct.0

    by : Knows (λ c. option_or (last_of c (changed xs ys)) (f c)) ys → (b : Bool) → is_same x.value y.value ≡ b
        → Knows (λ c. option_or (last_of c (cond b (changed xs ys) (y ∷ changed xs ys))) (f c)) (y ∷ ys)
    by rest true is =
        let before : f y.code ≡ Some y = ap f (sym alike.0.0) ∙ knows.0 ∙ ap (λ (w : Wave). Some w) (alike.0.1 is) in
        (ap (λ (v : Option Wave). option_or v (f y.code)) none ∙ before, rest)
    by rest false is =
        let yes = itself y.code in
        let first : option_or (option_or (last_of y.code (changed xs ys)) (cond (bytes_eq y.code y.code) (Some y) None)) (f y.code) ≡ Some y = rw (none, yes) refl in
        (first, knows-beside (λ c. last_of c (changed xs ys)) f y.code y ys distinct.0 rest)

-- ---- all times

range-last : (f : ℕ → List Wave) (a n : ℕ) → flat_map f (range_with_len a (suc n)) ≡ flat_map f (range_with_len a n) ++ f (a + n)
range-last f a zero = let at : a + zero ≡ a = omega arith in append-nil (f a) ∙ ap f (sym at)
range-last f a (suc n) =
    let at : (a + 1) + n ≡ a + suc n = omega arith in
    ap (λ (ws : List Wave). f a ++ ws) (range-last f (a + 1) n ∙ ap (λ (k : ℕ). flat_map f (range_with_len (a + 1) n) ++ f k) at)
    ∙ sym (append_assoc (f a) (flat_map f (range_with_len (a + 1) n)) (f (a + suc n)))

reported-first : (set : TaskSet) (from : ℕ) → reported set from from ≡ values (waves set from)
reported-first set from = let same : (from == from) ≡ true = eq-eqb from from refl in rw same refl

reported-later : (set : TaskSet) (from k : ℕ) → reported set from (from + suc k) ≡ changed (values (waves set (from + k))) (values (waves set (from + suc k)))
reported-later set from k =
    let u = from + suc k in
    let other : (u == from) ≡ false = grind (arith, nat_tests) in
    let before : u - 1 ≡ from + k = omega arith in
    let is : reported set from u ≡ changed (values (waves set (u - 1))) (values (waves set u)) = rw other refl in
    is ∙ ap (λ (v : ℕ). changed (values (waves set v)) (values (waves set u))) before

knows-at : (set : TaskSet) (from k : ℕ) → length set.tasks ≤ 2 ^ 64 → Knows (λ c. last_of c (flat_map (reported set from) (range_with_len from (suc k)))) (values (waves set (from + k)))
knows-at set from zero limit =
    let at : from + zero ≡ from = omega arith in
    let only : flat_map (reported set from) (range_with_len from (suc zero)) ≡ values (waves set from) = append-nil (reported set from from) ∙ reported-first set from in
    let first : Knows (λ c. last_of c (flat_map (reported set from) (range_with_len from (suc zero)))) (values (waves set from)) =
    knows-same (λ c. last_of c (flat_map (reported set from) (range_with_len from (suc zero)))) (λ c. last_of c (values (waves set from))) (values (waves set from))
    (λ c. ap (last_of c) only) (all-known (values (waves set from)) (codes-distinct set from limit)) in
    subst (λ (u : ℕ). Knows (λ c. last_of c (flat_map (reported set from) (range_with_len from (suc zero)))) (values (waves set u))) (sym at) first
knows-at set from (suc k) limit =
    let xs = values (waves set (from + k)) in
    let ys = values (waves set (from + suc k)) in
    let before = flat_map (reported set from) (range_with_len from (suc k)) in
    let more : flat_map (reported set from) (range_with_len from (suc (suc k))) ≡ before ++ changed xs ys =
    range-last (reported set from) from (suc k) ∙ ap (λ (ws : List Wave). before ++ ws) (reported-later set from k) in
    knows-same (λ c. last_of c (flat_map (reported set from) (range_with_len from (suc (suc k))))) (λ c. option_or (last_of c (changed xs ys)) (last_of c before)) ys
    (λ c. ap (last_of c) more ∙ last-append c before (changed xs ys))
    (knows-changed (λ c. last_of c before) xs ys (values-alike set (from + k) (from + suc k)) (codes-distinct set (from + suc k) limit) (knows-at set from k limit))

all-of : (P : Wave → Type 0) (ws : List Wave) → AllByRecursion P ws → All P ws
all-of P [] each = All-nil P
all-of P (w ∷ ws) each = All-cons P w ws each.0 (all-of P ws each.1)

pub reader-sees : (set : TaskSet) (from k : ℕ) → length set.tasks ≤ 2 ^ 64 → All (λ w. known set from (from + k) w.code ≡ Some w) (values (waves set (from + k)))
reader-sees set from k limit =
    let times : from + k + 1 - from ≡ suc k = omega arith in
    let ws = values (waves set (from + k)) in
    all-of (λ w. known set from (from + k) w.code ≡ Some w) ws
    (knows-same (known set from (from + k)) (λ c. last_of c (flat_map (reported set from) (range_with_len from (suc k)))) ws
    (λ c. ap (λ (n : ℕ). last_of c (flat_map (reported set from) (range_with_len from n))) times) (knows-at set from k limit))

-- ---- the text

lines-changed : (xs ys : List Wave) → changed_lines xs ys ≡ flat_map line (changed xs ys)
lines-changed [] ys = refl
lines-changed (x ∷ xs) [] = refl
lines-changed (x ∷ xs) (y ∷ ys) =
    let rest = lines-changed xs ys in
    elim (is_same x.value y.value) as (λ b. cond b [] (line y) ++ changed_lines xs ys ≡ flat_map line (cond b (changed xs ys) (y ∷ changed xs ys))) [
      | true ↦ rest
      | false ↦ ap (λ (zs : List ℕ). line y ++ zs) rest
    ]

pub block-reports : (set : TaskSet) (from u : ℕ) → block set from u ≡ block_reporting from u (reported set from u)
block-reports set from u =
    let now = values (waves set u) in
    let before = values (waves set (u - 1)) in
    elim (u == from) as (λ b. cond b (first_block u now) (later_block u before now)
    ≡ cond b (time_line u ++ codes "$dumpvars\n" ++ flat_map line (cond b now (changed before now)) ++ codes "$end\n") (timed u (flat_map line (cond b now (changed before now))))) [
      | true ↦ refl
      | false ↦ ap (timed u) (lines-changed before now)
    ]
