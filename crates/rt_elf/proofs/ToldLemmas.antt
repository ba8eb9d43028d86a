-- The symbols that are kept are those of the entries.
use Rattle.rt_elf.proofs.Common.{◌≡◌, ℕ, zero, suc, ◌+◌, ◌&&◌, ◌⊎◌, inl, inr, not, Bool, true, false, List, [], ◌∷◌, ◌++◌, map, refl, sym, ap, subst, ◌∙◌, arith, true≢false, Some, Option, Contains, cond, if◌then◌else◌, filter, fold, bytes_eq, both_true, and_parts, bytes_eq-Decides, Label, is_before, Named, may_stand, has_name, put, SectionHeader, Entry, symbol_table, names_of, entries, tells, told, is_of, told_by, image_size, keep, kept_names}
use Rattle.std.proofs.Common.{All}
use Rattle.std.proofs.lemmas.Bool.{or_cases, or_left, or_right}
use Rattle.std.proofs.lemmas.List.Elements.{All-nil, All-cons, All-head, All-tail}
use Rattle.rt_elf.specs.Telling.{is_local, all_told}
use Rattle.rt_elf.specs.KeptNames.{nothing_kept, kept_of}
use Rattle.rt_elf.specs.ToldNames.{Tells, IsOfOther, AreTold}
use Rattle.rt_elf.proofs.NameLemmas.{fold_both}

pub later : {X : Type 0} → (x : X) (xs : List X) (y : X) → Contains xs y → Contains (x ∷ xs) y
later x xs y (k, low, is) = (suc k, omega arith, is)

pub first_one : {X : Type 0} → (x : X) (xs : List X) → Contains (x ∷ xs) x
first_one x xs = (0, omega arith, refl)

pub first_or_later : {X : Type 0} → (x : X) (xs : List X) (y : X) → Contains (x ∷ xs) y → (x ≡ y) ⊎ Contains xs y
first_or_later x xs y (zero, low, is) = inl is
first_or_later x xs y (suc k, low, is) = inr (k, omega arith, is)

pub none_there : {X : Type 0} → (y : X) → Contains [] y → ⊥
none_there y (k, low, is) = omega arith

among_front : {X : Type 0} → (xs ys : List X) (y : X) → Contains xs y → Contains (xs ++ ys) y
among_front [] ys y c = absurd (none_there y c)
among_front (x ∷ xs) ys y c = elim (first_or_later x xs y c) [
  | inl same ↦ subst (Contains (x ∷ (xs ++ ys))) same (first_one x (xs ++ ys))
  | inr behind ↦ later x (xs ++ ys) y (among_front xs ys y behind)
]

among_back : {X : Type 0} → (xs ys : List X) (y : X) → Contains ys y → Contains (xs ++ ys) y
among_back [] ys y c = c
among_back (x ∷ xs) ys y c = later x (xs ++ ys) y (among_back xs ys y c)

in_either : {X : Type 0} → (xs ys : List X) (y : X) → Contains (xs ++ ys) y → Contains xs y ⊎ Contains ys y
in_either [] ys y c = inr c
in_either (x ∷ xs) ys y c = elim (first_or_later x (xs ++ ys) y c) [
  | inl same ↦ inl (subst (Contains (x ∷ xs)) same (first_one x xs))
  | inr behind ↦ elim (in_either xs ys y behind) [
    | inl front ↦ inl (later x xs y front)
    | inr back ↦ inr back
  ]
]

-- a symbol that is put among others is there, and so are they
put_this : (l : Label) (ms : List Label) → Contains (put l ms) l
put_this l [] = first_one l []
put_this l (m ∷ ms) = by (is_before m.name l.name) (put_this l ms)
  where
    by : (b : Bool) → Contains (put l ms) l → Contains (if b then m ∷ put l ms else l ∷ m ∷ ms) l
    by true again = later m (put l ms) l again
    by false again = first_one l (m ∷ ms)

put_others : (l : Label) (ms : List Label) (x : Label) → Contains ms x → Contains (put l ms) x
put_others l [] x c = absurd (none_there x c)
put_others l (m ∷ ms) x c = by (is_before m.name l.name) (first_or_later m ms x c) (put_others l ms x)
  where
    by : (b : Bool) → (m ≡ x) ⊎ Contains ms x → (Contains ms x → Contains (put l ms) x) → Contains (if b then m ∷ put l ms else l ∷ m ∷ ms) x
    by true (inl same) again = subst (Contains (m ∷ put l ms)) same (first_one m (put l ms))
    by true (inr behind) again = later m (put l ms) x (again behind)
    by false either again = later l (m ∷ ms) x c

all_put : (P : Label → Type 0) (l : Label) (ms : List Label) → P l → All P ms → All P (put l ms)
all_put P l [] one all = All-cons P l [] one all
all_put P l (m ∷ ms) one all = by (is_before m.name l.name) (all_put P l ms one (All-tail P m ms all))
  where
    by : (b : Bool) → All P (put l ms) → All P (if b then m ∷ put l ms else l ∷ m ∷ ms)
    by true again = All-cons P m (put l ms) (All-head P m ms all) again
    by false again = All-cons P l (m ∷ ms) one all

-- a name is there where a symbol has it
name_of : (name : List ℕ) (ms : List Label) (m : Label) → Contains ms m → m.name ≡ name → has_name name ms ≡ true
name_of name [] m c same = absurd (none_there m c)
name_of name (x ∷ ms) m c same = elim (first_or_later x ms m c) [
  | inl this ↦ or_left (bytes_eq name x.name) (has_name name ms) ((bytes_eq-Decides name x.name).1 (sym (ap (λ (l : Label). l.name) this ∙ same)))
  | inr behind ↦ or_right (bytes_eq name x.name) (has_name name ms) (name_of name ms m behind same)
]

owner : (name : List ℕ) (ms : List Label) → has_name name ms ≡ true → (m : Label) × Contains ms m × (m.name ≡ name)
owner name [] there = absurd (true≢false (sym there))
owner name (x ∷ ms) there = elim (or_cases (bytes_eq name x.name) (has_name name ms) there) [
  | inl this ↦ (x, first_one x ms, sym ((bytes_eq-Decides name x.name).0 this))
  | inr behind ↦ (let found = owner name ms behind in (found.0, later x ms found.0 found.1, found.2))
]

-- what one symbol does, where it passes a test
record Step (P : Label → Type 0) (n : ℕ) (d e : Named) : Type 0 where
  keeps : (m : Label) → Contains d.symbols m → Contains e.symbols m
  only : All P d.symbols → All P e.symbols

abbrev kept_if : Bool → Named → Label → Named
kept_if new d l = if new then record { symbols = put l d.symbols; left_out = d.left_out } else record { symbols = d.symbols; left_out = d.left_out + 1 }

one_step : (P : Label → Type 0) (n : ℕ) (d : Named) (l : Label) → (may_stand n l ≡ true → P l) → Step P n d (keep n d l) × (may_stand n l ≡ true → has_name l.name (keep n d l).symbols ≡ true)
one_step P n d l one = by (may_stand n l) (has_name l.name d.symbols) refl refl
  where
    by : (stands known : Bool) → may_stand n l ≡ stands → has_name l.name d.symbols ≡ known
        → Step P n d (kept_if (stands && not known) d l) × (may_stand n l ≡ true → has_name l.name (kept_if (stands && not known) d l).symbols ≡ true)
    by true true s k = (record { keeps = λ m c. c; only = λ all. all }, λ may. k)
    by true false s k = (record { keeps = λ m c. put_others l d.symbols m c; only = λ all. all_put P l d.symbols (one s) all }, λ may. name_of l.name (put l d.symbols) l (put_this l d.symbols) refl)
    by false known s k = (record { keeps = λ m c. c; only = λ all. all }, λ may. absurd (true≢false (sym may ∙ s)))

-- and many, one after the other
record Steps (P : Label → Type 0) (n : ℕ) (d e : Named) (ls : List Label) : Type 0 where
  step : Step P n d e
  there : (l : Label) → Contains ls l → may_stand n l ≡ true → has_name l.name e.symbols ≡ true

kept_name : (P : Label → Type 0) (n : ℕ) (d e : Named) (name : List ℕ) → Step P n d e → has_name name d.symbols ≡ true → has_name name e.symbols ≡ true
kept_name P n d e name step there =
    let found = owner name d.symbols there in
    name_of name e.symbols found.0 (step.keeps found.0 found.1) found.2

steps : (P : Label → Type 0) (n : ℕ) (d : Named) (ls : List Label) → ((l : Label) → Contains ls l → may_stand n l ≡ true → P l) → Steps P n d (fold (keep n) d ls) ls
steps P n d [] one = record { step = record { keeps = λ m c. c; only = λ all. all }; there = λ l c may. absurd (none_there l c) }
steps P n d (x ∷ ls) one =
    let here = one_step P n d x (one x (first_one x ls)) in
    let rest = steps P n (keep n d x) ls (λ l c. one l (later x ls l c)) in
    record {
      step = record { keeps = λ m c. rest.step.keeps m (here.0.keeps m c); only = λ all. rest.step.only (here.0.only all) };
      there = λ l c may. elim (first_or_later x ls l c) [
        | inl same ↦ kept_name P n (keep n d x) (fold (keep n) (keep n d x) ls) l.name rest.step
            (subst (λ (y : Label). may_stand n y ≡ true → has_name y.name (keep n d x).symbols ≡ true) same here.1 may)
        | inr behind ↦ rest.there l behind may
      ];
    }

-- what entries of one kind tell
teller : (local : Bool) (names : List ℕ) (es : List Entry) (l : Label) → Contains (told_by local names es) l → (e : Entry) × Contains es e × ((is_of local e && tells names e) ≡ true) × (told names e ≡ l)
teller local names [] l c = absurd (none_there l c)
teller local names (e ∷ es) l c = by (is_of local e && tells names e) refl c (teller local names es l)
  where
    by : (b : Bool) → (is_of local e && tells names e) ≡ b → Contains (map (told names) (cond b (e ∷ filter (λ x. is_of local x && tells names x) es) (filter (λ x. is_of local x && tells names x) es))) l
        → (Contains (told_by local names es) l → (f : Entry) × Contains es f × ((is_of local f && tells names f) ≡ true) × (told names f ≡ l))
        → (f : Entry) × Contains (e ∷ es) f × ((is_of local f && tells names f) ≡ true) × (told names f ≡ l)
    by true is c again = elim (first_or_later (told names e) (told_by local names es) l c) [
      | inl same ↦ (e, first_one e es, is, same)
      | inr behind ↦ (let found = again behind in (found.0, later e es found.0 found.1, found.2, found.3))
    ]
    by false is c again = (let found = again c in (found.0, later e es found.0 found.1, found.2, found.3))

is_told : (local : Bool) (names : List ℕ) (es : List Entry) (e : Entry) → Contains es e → (is_of local e && tells names e) ≡ true → Contains (told_by local names es) (told names e)
is_told local names [] e c is = absurd (none_there e c)
is_told local names (f ∷ es) e c is = by (is_of local f && tells names f) refl (first_or_later f es e c) (λ behind. is_told local names es e behind is)
  where
    by : (b : Bool) → (is_of local f && tells names f) ≡ b → (f ≡ e) ⊎ Contains es e → (Contains es e → Contains (told_by local names es) (told names e))
        → Contains (map (told names) (cond b (f ∷ filter (λ x. is_of local x && tells names x) es) (filter (λ x. is_of local x && tells names x) es))) (told names e)
    by true here (inl same) again = subst (λ (l : Label). Contains (told names f ∷ told_by local names es) l) (ap (told names) same) (first_one (told names f) (told_by local names es))
    by true here (inr behind) again = later (told names f) (told_by local names es) (told names e) (again behind)
    by false here (inl same) again = absurd (true≢false (sym is ∙ sym (ap (λ (x : Entry). is_of local x && tells names x) same) ∙ here))
    by false here (inr behind) again = again behind

-- each entry is of one kind
in_all : (names : List ℕ) (es : List Entry) (e : Entry) → Contains es e → tells names e ≡ true → Contains (all_told names es) (told names e)
in_all names es e c tells_one = by (is_local e) refl
  where
    by : (b : Bool) → is_local e ≡ b → Contains (all_told names es) (told names e)
    by true is = among_back (told_by false names es) (told_by true names es) (told names e) (is_told true names es e c (both_true is tells_one))
    by false is = among_front (told_by false names es) (told_by true names es) (told names e) (is_told false names es e c (both_true (ap not is) tells_one))

abbrev is_any : ℕ → List ℕ → List Entry → Label → Type 0
is_any n names es l = (e : Entry) × Contains es e × Tells n names e l

abbrev is_other : ℕ → List ℕ → List Entry → Label → Type 0
is_other n names es l = (e : Entry) × Contains es e × (is_local e ≡ false) × Tells n names e l

of_any : (n : ℕ) (local : Bool) (names : List ℕ) (es : List Entry) (l : Label) → Contains (told_by local names es) l → may_stand n l ≡ true → is_any n names es l
of_any n local names es l c may =
    let found = teller local names es l c in
    (found.0, found.1, record { tells_one = (and_parts (is_of local found.0) (tells names found.0) found.2).1; this = found.3; stands = may })

of_all : (n : ℕ) (names : List ℕ) (es : List Entry) (l : Label) → Contains (all_told names es) l → may_stand n l ≡ true → is_any n names es l
of_all n names es l c may = elim (in_either (told_by false names es) (told_by true names es) l c) [
  | inl front ↦ of_any n false names es l front may
  | inr back ↦ of_any n true names es l back may
]

not_true : (b : Bool) → not b ≡ true → b ≡ false
not_true true e = sym e
not_true false e = refl

of_other : (n : ℕ) (names : List ℕ) (es : List Entry) (l : Label) → Contains (told_by false names es) l → may_stand n l ≡ true → is_other n names es l
of_other n names es l c may =
    let found = teller false names es l c in
    let parts = and_parts (is_of false found.0) (tells names found.0) found.2 in
    (found.0, found.1, not_true (is_local found.0) parts.0, record { tells_one = parts.1; this = found.3; stands = may })

abbrev first_round : ℕ → List ℕ → List Entry → Named
first_round n names es = fold (keep n) nothing_kept (told_by false names es)

abbrev both_rounds : ℕ → List ℕ → List Entry → Named
both_rounds n names es = fold (keep n) nothing_kept (all_told names es)

stays : (n : ℕ) (names : List ℕ) (es : List Entry) (m : Label) → Contains (first_round n names es).symbols m → Contains (both_rounds n names es).symbols m
stays n names es m c =
    let second = steps (λ l. Unit {0}) n (first_round n names es) (told_by true names es) (λ l there may. tt) in
    subst (λ (d : Named). Contains d.symbols m) (sym (fold_both (keep n) nothing_kept (told_by false names es) (told_by true names es))) (second.step.keeps m c)

other_first : (n : ℕ) (names : List ℕ) (es : List Entry) (e : Entry) (l : Label) → Contains es e → is_local e ≡ false → Tells n names e l → IsOfOther n names es (both_rounds n names es).symbols l
other_first n names es e l c other t =
    let first = steps (is_other n names es) n nothing_kept (told_by false names es) (λ m there may. of_other n names es m there may) in
    let there = first.there (told names e) (is_told false names es e c (both_true (ap not other) t.tells_one)) (subst (λ (m : Label). may_stand n m ≡ true) (sym t.this) t.stands) in
    let found = owner (told names e).name (first_round n names es).symbols there in
    let by = subst (is_other n names es) found.1.2 (first.step.only (All-nil (is_other n names es)) found.1.0 found.0 found.1.1) in
    record {
      entry = by.0;
      symbol = found.0;
      there = by.1;
      other = by.2;
      told = by.3;
      kept = stays n names es found.0 found.1;
      named = found.2 ∙ ap (λ (m : Label). m.name) t.this;
    }

-- the symbols of a table
two_kinds : (n : ℕ) (names : List ℕ) (es : List Entry) → AreTold n names es (both_rounds n names es).symbols
two_kinds n names es =
    let s = steps (is_any n names es) n nothing_kept (all_told names es) (λ l c may. of_all n names es l c may) in
    record {
      only = λ l c. subst (is_any n names es) c.2 (s.step.only (All-nil (is_any n names es)) c.0 l c.1);
      all = λ e l c t. subst (λ (m : Label). has_name m.name (both_rounds n names es).symbols ≡ true) t.this
          (s.there (told names e) (in_all names es e c t.tells_one) (subst (λ (m : Label). may_stand n m ≡ true) (sym t.this) t.stands));
      others_first = λ e l c other t. other_first n names es e l c other t;
    }

pub are_told : (file : List ℕ) (t : SectionHeader) → symbol_table file ≡ Some t → AreTold (image_size file) (names_of file t) (entries file t) (kept_names file).symbols
are_told file t is =
    subst (λ (o : Option SectionHeader). AreTold (image_size file) (names_of file t) (entries file t) (kept_of file o).symbols) (sym is)
    (two_kinds (image_size file) (names_of file t) (entries file t))
