-- Lines tell their values: the text of a line ends at the first newline, and the digits of a number at the first blank.
use Rattle.rt_waves.proofs.Common.{◌≡◌, ◌≢◌, ℕ, zero, suc, ◌+◌, ◌-◌, ◌^◌, ◌<◌, ◌≤◌, ◌==◌, nat_lt, Bool, true, false, cond, List, [], ◌∷◌, ◌++◌, take, drop, All, decimal, append_assoc, refl, sym, ap, ◌∙◌, arith, flat_map, enumerate_from, AllByRecursion, digits, TaskSet, TaskWaves, waves, Wave, wave, mode_number, is_same, task_values, idle_value, values, line}
use Rattle.std.proofs.Common.{◌/◌, ◌%◌}
use Rattle.std.specs.List.{AllZip}
use Rattle.std.specs.Fmt.{digit_glyph, digits_onto}
use Rattle.std.specs.Str.Parse.{IsNumeral, digits_value}
use Rattle.std.proofs.lemmas.Bool.{cond_both}
use Rattle.std.proofs.lemmas.Fmt.{digits_is_IsNumeral}
use Rattle.std.proofs.lemmas.List.{append_cancel_right}
use Rattle.std.proofs.lemmas.List.Elements.{All-from_recursion, recursion_from_All, All-contains, All-weaker, All-contains_itself}
use Rattle.rt_waves.specs.declared.signals.ModeSignal.{ModeSignal}
use Rattle.rt_waves.specs.declared.signals.ModeSignal.TheVariants.{Asleep, Active, Ended, Faulted}
use Rattle.rt_waves.specs.WavesText.{value_text}
use Rattle.rt_waves.specs.laws.Lines.{numbers, HasWords, IsSignal, IsBinary}
use Rattle.rt_waves.specs.laws.Reader.{changed, reported}
use Rattle.rt_waves.proofs.laws.ReaderLaws.{number}

-- ---- texts that lack a mark

abbrev Lacks : ℕ → List ℕ → Type 0
Lacks mark text = AllByRecursion (λ b. b ≢ mark) text

all-append : {A : Type 0} (P : A → Type 0) (xs ys : List A) → AllByRecursion P xs → AllByRecursion P ys → AllByRecursion P (xs ++ ys)
all-append P [] ys first second = second
all-append P (x ∷ xs) ys first second = (first.0, all-append P xs ys first.1 second)

-- up to the first mark, and behind it
cut-same : (mark : ℕ) (xs ys r q : List ℕ) → Lacks mark xs → Lacks mark ys → xs ++ mark ∷ r ≡ ys ++ mark ∷ q → (xs ≡ ys) × (r ≡ q)
cut-same mark [] [] r q none also same = (refl, cc)
cut-same mark [] (y ∷ ys) r q none also same = absurd (also.0 cc)
cut-same mark (x ∷ xs) [] r q none also same = absurd (none.0 cc)
cut-same mark (x ∷ xs) (y ∷ ys) r q none also same =
    let first : x ≡ y = cc in
    let others : xs ++ mark ∷ r ≡ ys ++ mark ∷ q = cc in
    let parts = cut-same mark xs ys r q none.1 also.1 others in
    (rw (first, parts.0) refl, parts.1)

-- ---- digits

glyph-above : (d : ℕ) → 48 ≤ digit_glyph false d
glyph-above d = cond_both (nat_lt d 10) (48 + d) (87 + d) (λ g. 48 ≤ g) (λ low. omega arith) (λ high. omega arith)

onto-lack : (mark k base n : ℕ) (rest : List ℕ) → mark < 48 → Lacks mark rest → Lacks mark (digits_onto k base false n rest)
onto-lack mark zero base n rest low none = none
onto-lack mark (suc k) base n rest low none =
    let g = digit_glyph false (n % base) in
    let other : g ≢ mark = λ is. absurd (omega (arith, low, is, glyph-above (n % base))) in
    elim (n / base == 0) as (λ b. Lacks mark (cond b (g ∷ rest) (digits_onto k base false (n / base) (g ∷ rest)))) [
      | true ↦ (other, none)
      | false ↦ onto-lack mark k base (n / base) (g ∷ rest) low (other, none)
    ]

digits-lack : (mark base n : ℕ) → mark < 48 → Lacks mark (digits base false n)
unfolding digits
digits-lack mark base n low = onto-lack mark 64 base n [] low tt

binary : (n : ℕ) → n < 2 ^ 64 → IsNumeral 2 (digits 2 false n) × (digits_value 2 (digits 2 false n) ≡ n)
binary n fits = digits_is_IsNumeral 2 false (omega arith) (omega arith) n fits

-- ---- values

-- a value, as a wire or a number: its own type can't be named here
data Shape : Type 0 where
  Bit : Bool → Shape
  Word : ℕ → Shape

abbrev Fits : Shape → Type 0
Fits (Bit b) = Unit {0}
Fits (Word n) = n < 2 ^ 64

abbrev shaped : Shape → Wave
shaped (Bit b) = idle_value b
shaped (Word n) = number n

abbrev text_of : Shape → List ℕ
text_of s = value_text (shaped s).value

first-same : (x y : ℕ) (xs ys : List ℕ) → x ∷ xs ≡ y ∷ ys → x ≡ y
first-same x y xs ys same = cc

shape-same : (a b : Shape) (c d : List ℕ) → Fits a → Fits b → text_of a ++ c ≡ text_of b ++ d → (a ≡ b) × (c ≡ d)
shape-same (Bit true) (Bit true) c d fits also same = (refl, cc)
shape-same (Bit false) (Bit false) c d fits also same = (refl, cc)
shape-same (Bit true) (Bit false) c d fits also same = absurd (omega (arith, first-same 49 48 _ _ same))
shape-same (Bit false) (Bit true) c d fits also same = absurd (omega (arith, first-same 48 49 _ _ same))
shape-same (Bit true) (Word n) c d fits also same = absurd (omega (arith, first-same 49 98 _ _ same))
shape-same (Bit false) (Word n) c d fits also same = absurd (omega (arith, first-same 48 98 _ _ same))
shape-same (Word m) (Bit true) c d fits also same = absurd (omega (arith, first-same 98 49 _ _ same))
shape-same (Word m) (Bit false) c d fits also same = absurd (omega (arith, first-same 98 48 _ _ same))
shape-same (Word m) (Word n) c d fits also same =
    let ms = digits 2 false m in
    let ns = digits 2 false n in
    let text : (ms ++ 32 ∷ []) ++ c ≡ (ns ++ 32 ∷ []) ++ d = cc in
    let cut = cut-same 32 ms ns c d (digits-lack 32 2 m (omega arith)) (digits-lack 32 2 n (omega arith))
    (sym (append_assoc ms (32 ∷ []) c) ∙ text ∙ append_assoc ns (32 ∷ []) d) in
    let equal : m ≡ n = sym (binary m fits).1 ∙ ap (digits_value 2) cut.0 ∙ (binary n also).1 in
    (ap Word equal, cut.1)

shape-lacks : (a : Shape) → Lacks 10 (text_of a)
shape-lacks (Bit true) = (λ is. absurd (omega (arith, is)), tt)
shape-lacks (Bit false) = (λ is. absurd (omega (arith, is)), tt)
shape-lacks (Word n) = (
  λ is. absurd (omega (arith, is)),
  all-append (λ b. b ≢ 10) (digits 2 false n) (32 ∷ []) (digits-lack 10 2 n (omega arith)) (λ is. absurd (omega (arith, is)), tt),
)

-- ---- signals

record Told (w : Wave) : Type 0 where
  code : Lacks 10 w.code
  shape : Shape
  fits : Fits shape
  value : w.value ≡ (shaped shape).value

signal-told : (l i : ℕ) (s : Shape) → 10 < l → Fits s → Told (wave (l ∷ decimal i) (shaped s).value)
signal-told l i s above fits = record {
  code = (λ is. absurd (omega (arith, above, is)), digits-lack 10 10 i (omega arith));
  shape = s;
  fits = fits;
  value = refl;
}

mode-fits : (m : ModeSignal) → mode_number m < 2 ^ 64
mode-fits Asleep = omega arith
mode-fits Active = omega arith
mode-fits Ended = omega arith
mode-fits Faulted = omega arith

bit-told : (l i : ℕ) (b : Bool) → 10 < l → Told (wave (l ∷ decimal i) (idle_value b).value)
bit-told l i b above = signal-told l i (Bit b) above tt

word-told : (l i n : ℕ) → 10 < l → n < 2 ^ 64 → Told (wave (l ∷ decimal i) (number n).value)
word-told l i n above fits = signal-told l i (Word n) above fits

task-told : (i : ℕ) (w : TaskWaves) → HasWords w → AllByRecursion Told (task_values i w)
task-told i w words =
    let fits = recursion_from_All (λ n. n < 2 ^ 64) (numbers w) words in
    let r = bit-told 114 i w.running (omega arith) in
    let m = word-told 109 i (mode_number w.mode) (omega arith) (mode-fits w.mode) in
    let p = word-told 112 i w.pc (omega arith) fits.0 in
    let s = word-told 115 i w.part (omega arith) fits.1.0 in
    let c = word-told 99 i w.c (omega arith) fits.1.1.0 in
    let d = word-told 100 i w.d (omega arith) fits.1.1.1.0 in
    let o = word-told 111 i w.out (omega arith) fits.1.1.1.1.0 in
    let f = bit-told 102 i w.fresh (omega arith) in
    let k = bit-told 107 i w.kept (omega arith) in
    let x = bit-told 120 i w.postponed (omega arith) in
    let j = bit-told 106 i w.finish (omega arith) in
    (r, (m, (p, (s, (c, (d, (o, (f, (k, (x, (j, tt)))))))))))

tasks-told : (i : ℕ) (ws : List TaskWaves) → AllByRecursion HasWords ws → AllByRecursion Told (flat_map (λ n. task_values n.0 n.1) (enumerate_from i ws))
tasks-told i [] words = tt
tasks-told i (w ∷ ws) words =
    all-append Told (task_values i w) (flat_map (λ n. task_values n.0 n.1) (enumerate_from (i + 1) ws)) (task-told i w words.0) (tasks-told (i + 1) ws words.1)

idle-told : (b : Bool) → Told (idle_value b)
idle-told b = record { code = (λ is. absurd (omega (arith, is)), tt); shape = Bit b; fits = tt; value = refl }

told : (s : Wave) → IsSignal s → Told s
told s signal =
    let w = signal.0 in
    All-contains Told (values w) s
    (All-from_recursion Told (values w) (idle-told w.idle, tasks-told 0 w.tasks (recursion_from_All HasWords w.tasks signal.1))) signal.2

-- ---- lines

-- what stands before the newline
abbrev front : Wave → List ℕ
front w = value_text w.value ++ w.code

front-same : (v w : Wave) → Told v → Told w → front v ≡ front w → v ≡ w
front-same v w one two same =
    let texts : text_of one.shape ++ v.code ≡ text_of two.shape ++ w.code = sym (ap (λ x. value_text x ++ v.code) one.value) ∙ same ∙ ap (λ x. value_text x ++ w.code) two.value in
    let parts = shape-same one.shape two.shape v.code w.code one.fits two.fits texts in
    ap (wave v.code) (one.value ∙ ap (λ (s : Shape). (shaped s).value) parts.0 ∙ sym two.value) ∙ ap (λ (c : List ℕ). wave c w.value) parts.1

front-lacks : (w : Wave) → Told w → Lacks 10 (front w)
front-lacks w one =
    all-append (λ b. b ≢ 10) (value_text w.value) w.code (rw one.value (shape-lacks one.shape)) one.code

pub line-tells : (v w : Wave) → IsSignal v → IsSignal w → line v ≡ line w → v ≡ w
line-tells v w one two same = front-same v w (told v one) (told w two) (append_cancel_right (front v) (front w) (10 ∷ []) same)

none-some : (xs r : List ℕ) (b : ℕ) → [] ≡ xs ++ b ∷ r → ⊥
none-some [] r b same = cc
none-some (x ∷ xs) r b same = cc

each-tells : (vs ws : List Wave) → AllByRecursion Told vs → AllByRecursion Told ws → flat_map line vs ≡ flat_map line ws → vs ≡ ws
each-tells [] [] one two same = refl
each-tells [] (w ∷ ws) one two same = absurd (none-some (front w) (flat_map line ws) 10 (same ∙ append_assoc (front w) (10 ∷ []) (flat_map line ws)))
each-tells (v ∷ vs) [] one two same = absurd (none-some (front v) (flat_map line vs) 10 (sym same ∙ append_assoc (front v) (10 ∷ []) (flat_map line vs)))
each-tells (v ∷ vs) (w ∷ ws) one two same =
    let cut = cut-same 10 (front v) (front w) (flat_map line vs) (flat_map line ws) (front-lacks v one.0) (front-lacks w two.0)
    (sym (append_assoc (front v) (10 ∷ []) (flat_map line vs)) ∙ same ∙ append_assoc (front w) (10 ∷ []) (flat_map line ws)) in
    let first : v ≡ w = front-same v w one.0 two.0 cut.0 in
    let others : vs ≡ ws = each-tells vs ws one.1 two.1 cut.1 in
    rw (first, others) refl

pub lines-tell : (vs ws : List Wave) → All IsSignal vs → All IsSignal ws → flat_map line vs ≡ flat_map line ws → vs ≡ ws
lines-tell vs ws one two same =
    each-tells vs ws (recursion_from_All Told vs (All-weaker IsSignal Told told vs one)) (recursion_from_All Told ws (All-weaker IsSignal Told told ws two)) same

pub numbers-binary : (i : ℕ) (w : TaskWaves) → HasWords w → AllZip (λ n s. IsBinary n (value_text s.value)) (numbers w) (take 5 (drop 2 (task_values i w)))
numbers-binary i w words =
    let fits = recursion_from_All (λ n. n < 2 ^ 64) (numbers w) words in
    (one w.pc fits.0, (one w.part fits.1.0, (one w.c fits.1.1.0, (one w.d fits.1.1.1.0, (one w.out fits.1.1.1.1.0, tt)))))
  where
    one : (n : ℕ) → n < 2 ^ 64 → IsBinary n (value_text (number n).value)
    one n fits = (digits 2 false n, refl, (binary n fits).0, (binary n fits).1)

-- ---- what is reported

signals-changed : (xs ys : List Wave) → AllByRecursion IsSignal ys → AllByRecursion IsSignal (changed xs ys)
signals-changed [] ys all = tt
signals-changed (x ∷ xs) [] all = tt
signals-changed (x ∷ xs) (y ∷ ys) all =
    elim (is_same x.value y.value) as (λ b. AllByRecursion IsSignal (cond b (changed xs ys) (y ∷ changed xs ys))) [
      | true ↦ signals-changed xs ys all.1
      | false ↦ (all.0, signals-changed xs ys all.1)
    ]

pub signals-reported : (set : TaskSet) (from u : ℕ) → All HasWords (waves set u).tasks → All IsSignal (reported set from u)
signals-reported set from u words =
    let ws = values (waves set u) in
    let all : All IsSignal ws = λ k d below. (waves set u, words, All-contains_itself ws k d below) in
    elim (u == from) as (λ b. All IsSignal (cond b ws (changed (values (waves set (u - 1))) ws))) [
      | true ↦ all
      | false ↦ All-from_recursion IsSignal (changed (values (waves set (u - 1))) ws) (signals-changed (values (waves set (u - 1))) ws (recursion_from_All IsSignal ws all))
    ]
