-- The symbols that are kept are those of the lines.
use Rattle.rt_elf.proofs.Common.{◌≡◌, ℕ, zero, suc, ◌+◌, ◌||◌, ◌&&◌, ◌⊎◌, inl, inr, not, Bool, true, false, List, [], ◌∷◌, length, Option, Some, None, Ok, refl, sym, subst, ◌∙◌, arith, true≢false, Contains, ◌==◌, if◌then◌else◌, nat_lt, bytes_eq, bytes_eq-Decides, Label, is_before, Named, may_stand, has_name, put, after_symbol, names_from, name_lines}
use Rattle.std.proofs.Common.{Result, All}
use Rattle.std.proofs.lemmas.Bool.{eqb-true}
use Rattle.std.proofs.lemmas.List.Elements.{All-nil, All-cons, All-head, All-tail}
use Rattle.rt_words.specs.Found.{◌>>=◌, when}
use Rattle.rt_words.specs.Run.{next}
use Rattle.rt_elf.specs.flat.Shown.{is_shown}
use Rattle.rt_elf.specs.flat.FlatNames.{symbol_of, after_shown, after_line, or_faulty, names_of}
use Rattle.rt_elf.specs.flat.Kept.{Says, AreThoseOf}

or_true : (a : Bool) → (a || true) ≡ true
or_true true = refl
or_true false = refl

same_name : (l : Label) (ms : List Label) → has_name l.name (l ∷ ms) ≡ true
same_name l ms = rw ((bytes_eq-Decides l.name l.name).1 refl) refl

-- a symbol that is put among others is there
put_there : (l : Label) (ms : List Label) → has_name l.name (put l ms) ≡ true
put_there l [] = same_name l []
put_there l (m ∷ ms) = by (is_before m.name l.name) (put_there l ms)
  where
    by : (b : Bool) → has_name l.name (put l ms) ≡ true → has_name l.name (if b then m ∷ put l ms else l ∷ m ∷ ms) ≡ true
    by true again = rw again (or_true (bytes_eq l.name m.name))
    by false again = same_name l (m ∷ ms)

-- and the others still are
put_keeps : (name : List ℕ) (l : Label) (ms : List Label) → has_name name ms ≡ true → has_name name (put l ms) ≡ true
put_keeps name l [] h = absurd (true≢false (sym h))
put_keeps name l (m ∷ ms) h = by (is_before m.name l.name) (bytes_eq name m.name) refl h (put_keeps name l ms)
  where
    by : (b t : Bool) → bytes_eq name m.name ≡ t → (t || has_name name ms) ≡ true → (has_name name ms ≡ true → has_name name (put l ms) ≡ true)
        → has_name name (if b then m ∷ put l ms else l ∷ m ∷ ms) ≡ true
    by true true e h again = rw e refl
    by true false e h again = rw (e, again h) refl
    by false true e h again = rw e (or_true (bytes_eq name l.name))
    by false false e h again = rw (e, h) (or_true (bytes_eq name l.name))

all_put : (P : Label → Type 0) (l : Label) (ms : List Label) → P l → All P ms → All P (put l ms)
all_put P l [] one all = All-cons P l [] one all
all_put P l (m ∷ ms) one all = by (is_before m.name l.name) (all_put P l ms one (All-tail P m ms all))
  where
    by : (b : Bool) → All P (put l ms) → All P (if b then m ∷ put l ms else l ∷ m ∷ ms)
    by true again = All-cons P m (put l ms) (All-head P m ms all) again
    by false again = All-cons P l (m ∷ ms) one all

-- what one line does, where each symbol that it says passes a test
record Step (P : Label → Type 0) (d e : Named) : Type 0 where
  keeps : (name : List ℕ) → has_name name d.symbols ≡ true → has_name name e.symbols ≡ true
  only : All P d.symbols → All P e.symbols

no_step : (P : Label → Type 0) (d : Named) → Step P d d
no_step P d = record { keeps = λ name here. here; only = λ all. all }

same_step : (d e : Named) → Some d ≡ Some e → d ≡ e
same_step d e h = cc

symbol_step : (P : Label → Type 0) (n : ℕ) (d e : Named) (l : Label) → (may_stand n l ≡ true → P l) → after_symbol n d l ≡ Some e → Step P d e × (may_stand n l ≡ true → has_name l.name e.symbols ≡ true)
unfolding after_symbol
symbol_step P n d e l one h = by (may_stand n l) (has_name l.name d.symbols) (nat_lt (length d.symbols) 65536) refl refl h
  where
    by : (stands known room : Bool) → may_stand n l ≡ stands → has_name l.name d.symbols ≡ known
        → (if stands && not known then when room (record { symbols = put l d.symbols; left_out = d.left_out }) else Some (record { symbols = d.symbols; left_out = d.left_out + 1 })) ≡ Some e
        → Step P d e × (may_stand n l ≡ true → has_name l.name e.symbols ≡ true)
    by true true room s k is =
        subst (λ (x : Named). Step P d x × (may_stand n l ≡ true → has_name l.name x.symbols ≡ true)) (same_step _ e is) (record { keeps = λ name here. here; only = λ all. all }, λ may. k)
    by false known room s k is =
        subst (λ (x : Named). Step P d x × (may_stand n l ≡ true → has_name l.name x.symbols ≡ true)) (same_step _ e is)
        (record { keeps = λ name here. here; only = λ all. all }, λ may. absurd (true≢false (sym may ∙ s)))
    by true false true s k is =
        subst (λ (x : Named). Step P d x × (may_stand n l ≡ true → has_name l.name x.symbols ≡ true)) (same_step _ e is)
        (record { keeps = λ name here. put_keeps name l d.symbols here; only = λ all. all_put P l d.symbols (one s) all }, λ may. put_there l d.symbols)
    by true false false s k is = absurd cc

nothing : (line : List ℕ) → length line ≡ 0 → symbol_of line ≡ None
unfolding symbol_of
nothing [] e = refl
nothing (b ∷ bs) e = absurd (omega arith)

none_or_some : (o : Option Label) (l : Label) → o ≡ None → o ≡ Some l → ⊥
none_or_some o l e f = cc

one_symbol : (o : Option Label) (m l : Label) → o ≡ Some m → o ≡ Some l → m ≡ l
one_symbol o m l e f = cc

-- the symbol of a line, and how a line is taken that says it
line_step : (P : Label → Type 0) (n : ℕ) (d e : Named) (line : List ℕ) → ((l : Label) → Says n line l → P l) → after_line n d line ≡ Some e
    → Step P d e × ((l : Label) → Says n line l → has_name l.name e.symbols ≡ true)
line_step P n d e line one h = by (length line == 0) (symbol_of line) refl refl h
  where
    shown : (m : Label) (t : Bool) → is_shown m.name ≡ t → symbol_of line ≡ Some m → (if t then after_symbol n d m else Some d) ≡ Some e
        → Step P d e × ((l : Label) → Says n line l → has_name l.name e.symbols ≡ true)
    shown m true t f is =
        let step = symbol_step P n d e m (λ stands. one m (record { said = f; shown = t; stands = stands })) is in (
          step.0,
          λ l says. let same = one_symbol (symbol_of line) m l f says.said in
              subst (λ (x : Label). may_stand n x ≡ true → has_name x.name e.symbols ≡ true) same step.1 says.stands,
        )
    shown m false t f is = (
      subst (Step P d) (same_step d e is) (no_step P d),
      λ l says. let same = one_symbol (symbol_of line) m l f says.said in
          absurd (true≢false (sym says.shown ∙ subst (λ (x : Label). is_shown x.name ≡ false) same t)),
    )

    by : (empty : Bool) (found : Option Label) → (length line == 0) ≡ empty → symbol_of line ≡ found → (if empty then Some d else (found >>= after_shown n d)) ≡ Some e
        → Step P d e × ((l : Label) → Says n line l → has_name l.name e.symbols ≡ true)
    by true found s f is = (subst (Step P d) (same_step d e is) (no_step P d), λ l says. absurd (none_or_some (symbol_of line) l (nothing line (eqb-true (length line) 0 s)) says.said))
    by false None s f is = absurd cc
    by false (Some m) s f is = shown m (is_shown m.name) refl f is

-- what the lines do, one after the other
record Steps (P : Label → Type 0) (n : ℕ) (d e : Named) (lines : List (List ℕ)) : Type 0 where
  step : Step P d e
  there : (line : List ℕ) (l : Label) → Contains lines line → Says n line l → has_name l.name e.symbols ≡ true

abbrev done : Named → Result Named ℕ
done d = Ok d

later : {X : Type 0} → (x : X) (xs : List X) (y : X) → Contains xs y → Contains (x ∷ xs) y
later x xs y (k, low, is) = (suc k, omega arith, is)

pub first_or_later : {X : Type 0} → (x : X) (xs : List X) (y : X) → Contains (x ∷ xs) y → (x ≡ y) ⊎ Contains xs y
first_or_later x xs y (zero, low, is) = inl is
first_or_later x xs y (suc k, low, is) = inr (k, omega arith, is)

ok_is : (d e : Named) → done d ≡ done e → d ≡ e
ok_is d e h = cc

steps : (P : Label → Type 0) (n : ℕ) (lines : List (List ℕ)) (k : ℕ) (d e : Named) → ((line : List ℕ) (l : Label) → Contains lines line → Says n line l → P l) → names_from n k d lines ≡ Ok e → Steps P n d e lines
steps P n [] k d e one h = record { step = subst (Step P d) (ok_is d e h) (no_step P d); there = λ line l c says. absurd (omega (arith, c.1)) }
steps P n (line ∷ lines) k d e one h = by (after_line n d line) refl h (λ f is. steps P n lines (k + 1) f e (λ x l c. one x l (later line lines x c)) is)
  where
    by : (o : Option Named) → after_line n d line ≡ o → next (λ (line : ℕ) (_ : Unit {0}). line) k (or_faulty o) (λ f. names_from n (k + 1) f lines) ≡ Ok e
        → ((f : Named) → names_from n (k + 1) f lines ≡ Ok e → Steps P n f e lines) → Steps P n d e (line ∷ lines)
    by None taken is again = absurd cc
    by (Some f) taken is again =
        let here = line_step P n d f line (λ l says. one line l (0, omega arith, refl) says) taken in
        let rest = again f is in
        record {
          step = record { keeps = λ name there. rest.step.keeps name (here.0.keeps name there); only = λ all. rest.step.only (here.0.only all) };
          there = λ x l c says. elim (first_or_later line lines x c) [
            | inl same ↦ rest.step.keeps l.name (here.1 l (subst (λ (y : List ℕ). Says n y l) (sym same) says))
            | inr c ↦ rest.there x l c says
          ];
        }

-- the symbols of a text
pub are_those : (n : ℕ) (text : List ℕ) (named : Named) → names_of n text ≡ Ok named → AreThoseOf n (name_lines text) named.symbols
are_those n text named h =
    let P : Label → Type 0 = λ l. (line : List ℕ) × Contains (name_lines text) line × Says n line l in
    let s = steps P n (name_lines text) 1 (record { symbols = []; left_out = 0 }) named (λ line l c says. (line, c, says)) h in
    record { only = λ l c. subst P c.2 (s.step.only (All-nil P) c.0 l c.1); all = s.there }
