-- Symbols in the order of their addresses name the same parts, and each is found by its address.
use Rattle.rt_names.proofs.Common.{◌≡◌, ℕ, ◌+◌, ◌<◌, ◌≤◌, nat_le, Bool, true, false, cond, List, [], ◌∷◌, length, take, get_or, Some, IfSome, refl, sym, ap, ◌∙◌, arith, filter, reduce, option_map, Symbol, Label, label, labels, is_nearer, nearer, namer}
use Rattle.std.proofs.Common.{inl, inr, zero, suc, ◌-◌, ◌==◌, ◌&&◌, not, nat_lt, eqb, slice_get, Option, None, unwrap_or}
use Rattle.std.specs.List.{fold}
use Rattle.std.specs.List.Sorted.{IsNonDecreasingBy, IsStableByKey, ties}
use Rattle.std.specs.Ordering.{nat_cmp, is_lt}
use Rattle.std.proofs.lemmas.Bool.{cases_lt}
use Rattle.std.proofs.lemmas.Bool.Decides.{nat_tests}
use Rattle.rt_names.specs.Working.Nearest.{nearest}
use Rattle.rt_names.specs.Working.Rising.{last_of, AreSplit, AreNamers, Reduces}
use Rattle.rt_names.proofs.NamerLemmas.{labels-more, reduce-push}

-- ---- parts by the symbols at each address

-- the labels at an address, and those at it or below
abbrev at : ℕ → List Label → List Label
at a ls = filter (λ l. l.address == a) ls

abbrev to : ℕ → List Label → List Label
to a ls = filter (λ l. nat_le l.address a) ls

-- what a test says of one label decides whether it is kept
kept : (p : Label → Bool) (l : Label) (ls : List Label) → p l ≡ true → filter p (l ∷ ls) ≡ l ∷ filter p ls
kept p l ls is = rw is refl

dropped : (p : Label → Bool) (l : Label) (ls : List Label) → p l ≡ false → filter p (l ∷ ls) ≡ filter p ls
dropped p l ls is = rw is refl

-- where a label stands: below, there, or above
data Stands (a : ℕ) (l : Label) : Type 0 where
  Below : nat_le l.address (suc a) ≡ true → (l.address == suc a) ≡ false → nat_le l.address a ≡ true → l.address ≤ a → Stands a l
  There : nat_le l.address (suc a) ≡ true → (l.address == suc a) ≡ true → nat_le l.address a ≡ false → l.address ≡ suc a → Stands a l
  Above : nat_le l.address (suc a) ≡ false → (l.address == suc a) ≡ false → nat_le l.address a ≡ false → Stands a l

stands : (a : ℕ) (l : Label) → Stands a l
stands a l = elim (cases_lt l.address (suc a)) [
  | inl below ↦ Below (grind (arith, nat_tests, below)) (grind (arith, nat_tests, below)) (grind (arith, nat_tests, below)) (omega (arith, below))
  | inr above ↦ elim (cases_lt (suc a) l.address) [
    | inl over ↦ Above (grind (arith, nat_tests, over)) (grind (arith, nat_tests, over)) (grind (arith, nat_tests, over))
    | inr same ↦
        let is : l.address ≡ suc a = omega (arith, above, same) in
        There (grind (arith, nat_tests, is)) (grind (arith, nat_tests, is)) (grind (arith, nat_tests, is)) is
  ]
]

-- a label further on is nearer, and one further back isn't
further : (l m : Label) → l.address < m.address → nearer l m ≡ m
further l m less =
    let apart : (m.address == l.address) ≡ false = grind (arith, nat_tests, less) in
    let after : nat_lt l.address m.address ≡ true = grind (arith, nat_tests, less) in
    rw (apart, after) refl

further_back : (l m : Label) → m.address < l.address → nearer l m ≡ l
further_back l m less =
    let apart : (m.address == l.address) ≡ false = grind (arith, nat_tests, less) in
    let after : nat_lt l.address m.address ≡ false = grind (arith, nat_tests, less) in
    rw (apart, after) refl

either_address : (b : Bool) (l m : Label) (n : ℕ) → l.address ≡ n → m.address ≡ n → (cond b m l).address ≡ n
either_address true l m n one other = other
either_address false l m n one other = one

either_within : (b : Bool) (l m : Label) (n : ℕ) → l.address ≤ n → m.address ≤ n → (cond b m l).address ≤ n
either_within true l m n one other = other
either_within false l m n one other = one

-- where one at the address is found already, those below play no part
from_there : (a : ℕ) (l : Label) (ls : List Label) → l.address ≡ suc a → fold nearer l (to (suc a) ls) ≡ fold nearer l (at (suc a) ls)
from_there a l [] is = refl
from_there a l (m ∷ ls) is = elim (stands a m) [
  | Below to_next at_next to_this less ↦
      let same : nearer l m ≡ l = further_back l m (omega (arith, is, less)) in
      ap (fold nearer l) (kept (λ x. nat_le x.address (suc a)) m ls to_next) ∙ ap (λ (x : Label). fold nearer x (to (suc a) ls)) same ∙ from_there a l ls is
      ∙ sym (ap (fold nearer l) (dropped (λ x. x.address == suc a) m ls at_next))
  | There to_next at_next to_this here ↦
      ap (fold nearer l) (kept (λ x. nat_le x.address (suc a)) m ls to_next)
      ∙ from_there a (nearer l m) ls (either_address (is_nearer m l) l m (suc a) is here)
      ∙ sym (ap (fold nearer l) (kept (λ x. x.address == suc a) m ls at_next))
  | Above to_next at_next to_this ↦
      ap (fold nearer l) (dropped (λ x. nat_le x.address (suc a)) m ls to_next) ∙ from_there a l ls is
      ∙ sym (ap (fold nearer l) (dropped (λ x. x.address == suc a) m ls at_next))
]

-- where one below is found, it is the nearest but for those at the address
from_below : (a : ℕ) (l : Label) (ls : List Label) → l.address ≤ a
    → fold nearer l (to (suc a) ls) ≡ unwrap_or (reduce nearer (at (suc a) ls)) (fold nearer l (to a ls))
from_below a l [] less = refl
from_below a l (m ∷ ls) less = elim (stands a m) [
  | Below to_next at_next to_this below ↦
      ap (fold nearer l) (kept (λ x. nat_le x.address (suc a)) m ls to_next)
      ∙ from_below a (nearer l m) ls (either_within (is_nearer m l) l m a less below)
      ∙ sym (ap (λ (xs : List Label). unwrap_or (reduce nearer xs) (fold nearer l (to a (m ∷ ls)))) (dropped (λ x. x.address == suc a) m ls at_next)
      ∙ ap (λ (xs : List Label). unwrap_or (reduce nearer (at (suc a) ls)) (fold nearer l xs)) (kept (λ x. nat_le x.address a) m ls to_this))
  | There to_next at_next to_this here ↦
      ap (fold nearer l) (kept (λ x. nat_le x.address (suc a)) m ls to_next)
      ∙ ap (λ (x : Label). fold nearer x (to (suc a) ls)) (further l m (omega (arith, less, here)))
      ∙ from_there a m ls here
      ∙ sym (ap (λ (xs : List Label). unwrap_or (reduce nearer xs) (fold nearer l (to a (m ∷ ls)))) (kept (λ x. x.address == suc a) m ls at_next))
  | Above to_next at_next to_this ↦
      ap (fold nearer l) (dropped (λ x. nat_le x.address (suc a)) m ls to_next)
      ∙ from_below a l ls less
      ∙ sym (ap (λ (xs : List Label). unwrap_or (reduce nearer xs) (fold nearer l (to a (m ∷ ls)))) (dropped (λ x. x.address == suc a) m ls at_next)
      ∙ ap (λ (xs : List Label). unwrap_or (reduce nearer (at (suc a) ls)) (fold nearer l xs)) (dropped (λ x. nat_le x.address a) m ls to_this))
]

-- the one there is, or else another
abbrev or_else : Option Label → Option Label → Option Label
or_else None other = other
or_else (Some l) other = Some l

some_or : (found : Option Label) (l : Label) → Some (unwrap_or found l) ≡ or_else found (Some l)
some_or None l = refl
some_or (Some m) l = refl

-- the part of an address is that of the address before, unless a symbol stands there
namer-next : (a : ℕ) (ls : List Label) → namer ls (suc a) ≡ or_else (reduce nearer (at (suc a) ls)) (namer ls a)
namer-next a [] = refl
namer-next a (m ∷ ls) = elim (stands a m) [
  | Below to_next at_next to_this below ↦
      ap (reduce nearer) (kept (λ x. nat_le x.address (suc a)) m ls to_next)
      ∙ ap Some (from_below a m ls below) ∙ some_or (reduce nearer (at (suc a) ls)) (fold nearer m (to a ls))
      ∙ sym (ap (λ (xs : List Label). or_else (reduce nearer xs) (namer (m ∷ ls) a)) (dropped (λ x. x.address == suc a) m ls at_next)
      ∙ ap (λ (xs : List Label). or_else (reduce nearer (at (suc a) ls)) (reduce nearer xs)) (kept (λ x. nat_le x.address a) m ls to_this))
  | There to_next at_next to_this here ↦
      ap (reduce nearer) (kept (λ x. nat_le x.address (suc a)) m ls to_next)
      ∙ ap Some (from_there a m ls here)
      ∙ sym (ap (λ (xs : List Label). or_else (reduce nearer xs) (namer (m ∷ ls) a)) (kept (λ x. x.address == suc a) m ls at_next))
  | Above to_next at_next to_this ↦
      ap (reduce nearer) (dropped (λ x. nat_le x.address (suc a)) m ls to_next)
      ∙ namer-next a ls
      ∙ sym (ap (λ (xs : List Label). or_else (reduce nearer xs) (namer (m ∷ ls) a)) (dropped (λ x. x.address == suc a) m ls at_next)
      ∙ ap (λ (xs : List Label). or_else (reduce nearer (at (suc a) ls)) (reduce nearer xs)) (dropped (λ x. nat_le x.address a) m ls to_this))
]

none_below : (ls : List Label) → to 0 ls ≡ at 0 ls
none_below [] = refl
none_below (l ∷ ls) =
    let same : nat_le l.address 0 ≡ (l.address == 0) = grind (arith, nat_tests) in
    ap (λ (b : Bool). cond b (l ∷ to 0 ls) (to 0 ls)) same ∙ ap (λ (xs : List Label). cond (l.address == 0) (l ∷ xs) xs) (none_below ls)

-- labels that are the same at each address, in the same order, name the same parts
same_namers : (ls ms : List Label) → ((a : ℕ) → at a ls ≡ at a ms) → (a : ℕ) → namer ls a ≡ namer ms a
same_namers ls ms same zero = ap (reduce nearer) (none_below ls ∙ same 0 ∙ sym (none_below ms))
same_namers ls ms same (suc a) =
    namer-next a ls ∙ ap (λ (xs : List Label). or_else (reduce nearer xs) (namer ls a)) (same (suc a))
    ∙ ap (or_else (reduce nearer (at (suc a) ms))) (same_namers ls ms same a) ∙ sym (namer-next a ms)

-- ---- a stable sort by address

tie_is : (x y : ℕ) → (not (is_lt (nat_cmp x y)) && not (is_lt (nat_cmp y x))) ≡ eqb y x
tie_is x y = grind (arith, nat_tests)

abbrev by_key : Symbol → Symbol → Bool
by_key x y = is_lt (nat_cmp x.address y.address)

tied_step : (x s : Symbol) (ss : List Symbol) (v : Bool) → eqb s.address x.address ≡ v → labels (filter (ties by_key x) ss) ≡ at x.address (labels ss)
    → labels (cond v (s ∷ filter (ties by_key x) ss) (filter (ties by_key x) ss)) ≡ at x.address (labels (s ∷ ss))
tied_step x s ss true is rest = ap (λ (ls : List Label). label s ∷ ls) rest ∙ sym (kept (λ l. l.address == x.address) (label s) (labels ss) is)
tied_step x s ss false is rest = rest ∙ sym (dropped (λ l. l.address == x.address) (label s) (labels ss) is)

tied : (x : Symbol) (ss : List Symbol) → labels (filter (ties by_key x) ss) ≡ at x.address (labels ss)
tied x [] = refl
tied x (s ∷ ss) = rw (tie_is x.address s.address) (tied_step x s ss (eqb s.address x.address) refl (tied x ss))

abbrev moved : Symbol → ℕ → Symbol
moved s a = record { name = s.name; address = a }

same_there : (xs ys : List Symbol) → IsStableByKey (λ (s : Symbol). s.address) nat_cmp xs ys → (a : ℕ) → at a (labels ys) ≡ at a (labels xs)
same_there [] [] stable a = refl
same_there (s ∷ xs) ys stable a = sym (tied (moved s a) ys) ∙ ap labels (stable (moved s a)) ∙ tied (moved s a) (s ∷ xs)
same_there [] (s ∷ ys) stable a = sym (tied (moved s a) (s ∷ ys)) ∙ ap labels (stable (moved s a)) ∙ tied (moved s a) []

-- ---- the nearest of symbols whose addresses rise

on_level : (b : Bool) (l m : Label) → l.address ≡ m.address → (cond b m l).address ≡ m.address
on_level true l m same = refl
on_level false l m same = same

nearer_address : (l m : Label) → l.address ≤ m.address → (nearer l m).address ≡ m.address
nearer_address l m le = elim (cases_lt l.address m.address) [
  | inl less ↦ ap (λ (x : Label). x.address) (further l m less)
  | inr more ↦ on_level (is_nearer m l) l m (omega (arith, le, more))
]

-- it stands where the last does
pub next_address : (so_far : Option Symbol) (s r : Symbol) → IfSome so_far (λ m. m.address ≤ s.address) → label r ≡ nearest (option_map label so_far) (label s) → r.address ≡ s.address
next_address None s r le is = ap (λ (l : Label). l.address) is
next_address (Some m) s r le is = ap (λ (l : Label). l.address) is ∙ nearer_address (label m) (label s) le

pub next_nearest : (n : ℕ) (ss : List Symbol) (so_far : Option Symbol) (s r : Symbol) → n < length ss → s ≡ get_or ss n s
    → option_map label so_far ≡ reduce nearer (labels (take n ss)) → label r ≡ nearest (option_map label so_far) (label s)
    → reduce nearer (labels (take (n + 1) ss)) ≡ Some (label r)
next_nearest n ss so_far s r below here before is =
    ap (reduce nearer) (labels-more n ss s below here) ∙ reduce-push (labels (take n ss)) (label s)
    ∙ ap (λ (found : Option Label). Some (nearest found (label s))) (sym before) ∙ ap Some (sym is)

-- ---- the last symbol at an address or below it

all_to : (a : ℕ) (ss : List Symbol) → ((k : ℕ) (d : Symbol) → k < length ss → (get_or ss k d).address ≤ a) → to a (labels ss) ≡ labels ss
all_to a [] below = refl
all_to a (s ∷ ss) below =
    let first : s.address ≤ a = below 0 s (omega arith) in
    let is : nat_le s.address a ≡ true = grind (arith, nat_tests, first) in
    kept (λ l. nat_le l.address a) (label s) (labels ss) is ∙ ap (λ (ls : List Label). label s ∷ ls) (all_to a ss (λ k d less. below (suc k) d (omega (arith, less))))

none_to : (a : ℕ) (ss : List Symbol) → ((k : ℕ) (d : Symbol) → k < length ss → a < (get_or ss k d).address) → to a (labels ss) ≡ []
none_to a [] above = refl
none_to a (s ∷ ss) above =
    let first : a < s.address = above 0 s (omega arith) in
    let is : nat_le s.address a ≡ false = grind (arith, nat_tests, first) in
    dropped (λ l. nat_le l.address a) (label s) (labels ss) is ∙ none_to a ss (λ k d less. above (suc k) d (omega (arith, less)))

split_to : (a i : ℕ) (ss : List Symbol) → AreSplit a i ss → to a (labels ss) ≡ labels (take i ss)
split_to a zero ss split = none_to a ss (λ k d less. split.above k d (omega arith) less)
split_to a (suc i) [] split = refl
split_to a (suc i) (s ∷ ss) split =
    let first : s.address ≤ a = split.below 0 s (omega arith) in
    let is : nat_le s.address a ≡ true = grind (arith, nat_tests, first) in
    kept (λ l. nat_le l.address a) (label s) (labels ss) is
    ∙ ap (λ (ls : List Label). label s ∷ ls)
    (split_to a i ss (record { below = λ k d less. split.below (suc k) d (omega (arith, less)); above = λ k d more less. split.above (suc k) d (omega (arith, more)) (omega (arith, less)) }))

-- symbols that stand where others do are split alike
split_alike : (a i : ℕ) (rs ns : List Symbol) → Reduces rs ns → i ≤ length ns → AreSplit a i ns → AreSplit a i rs
split_alike a i rs ns same within split = record {
  below = λ k d less. let is = same.same k d (omega (arith, less, within)) in let it = split.below k d less in omega (arith, is, it);
  above = λ k d more less.
      let in_range : k < length ns = omega (arith, less, same.count) in
      let is = same.same k d in_range in
      let it = split.above k d more in_range in
      omega (arith, is, it);
}

got : (ns : List Symbol) (k : ℕ) (d : Symbol) → k < length ns → slice_get ns k ≡ Some (get_or ns k d)
got [] k d less = absurd (omega arith)
got (n ∷ ns) zero d less = refl
got (n ∷ ns) (suc k) d less = got ns k d (omega (arith, less))

first_of : (ns : List Symbol) → 0 < length ns → Symbol
first_of [] some = absurd (omega arith)
first_of (n ∷ ns) some = n

found_last : (a i : ℕ) (rs ns : List Symbol) → Reduces rs ns → i ≤ length ns → AreSplit a i ns → option_map label (last_of i ns) ≡ namer (labels rs) a
found_last a zero rs ns same within split = sym (ap (reduce nearer) (split_to a 0 rs (split_alike a 0 rs ns same within split)))
found_last a (suc k) rs ns same within split =
    let d = first_of ns (omega (arith, within)) in
    let less : k < length ns = omega (arith, within) in
    let next : k + 1 ≡ suc k = omega arith in
    ap (option_map label) (got ns k d less) ∙ sym (same.nearest k d less) ∙ ap (λ (n : ℕ). reduce nearer (labels (take n rs))) next
    ∙ sym (ap (reduce nearer) (split_to a (suc k) rs (split_alike a (suc k) rs ns same within split)))

-- so they name the parts of the symbols that were sorted
pub are-namers : (ss rs ns : List Symbol) → IsNonDecreasingBy (λ (s : Symbol). s.address) rs → IsStableByKey (λ (s : Symbol). s.address) nat_cmp ss rs → Reduces rs ns
    → AreNamers (labels ss) ns
are-namers ss rs ns sorted stable same = record {
  rising = λ i j d le less.
      let far : j < length rs = omega (arith, less, same.count) in
      let one = same.same i d (omega (arith, le, less)) in
      let other = same.same j d less in
      let it = sorted i j d le far in
      omega (arith, one, other, it);
  found = λ a i within split. found_last a i rs ns same within split ∙ same_namers (labels rs) (labels ss) (same_there ss rs stable) a;
}

-- and the symbol in front of those above an address is found
pub found-there : (ls : List Label) (ns : List Symbol) (a i : ℕ) (d : Symbol) → AreNamers ls ns → i ≤ length ns → AreSplit a i ns → 1 ≤ i
    → Some (label (get_or ns (i - 1) d)) ≡ namer ls a
found-there ls ns a zero d are within split some = absurd (omega (arith, some))
found-there ls ns a (suc k) d are within split some =
    let less : k < length ns = omega (arith, within) in
    let last : suc k - 1 ≡ k = omega arith in
    ap (λ (n : ℕ). Some (label (get_or ns n d))) last ∙ sym (ap (option_map label) (got ns k d less)) ∙ are.found a (suc k) within split

pub found-nowhere : (ls : List Label) (ns : List Symbol) (a i : ℕ) → AreNamers ls ns → AreSplit a i ns → i ≡ 0 → None ≡ namer ls a
found-nowhere ls ns a zero are split none = are.found a 0 (omega arith) split
found-nowhere ls ns a (suc k) are split none = absurd (omega (arith, none))
