-- What the layout of a source says of its lines and its labels.
use Rattle.rt_asm.proofs.Common.{◌≡◌, ℕ, ◌+◌, ◌≤◌, Bool, true, false, List, [], ◌∷◌, ◌++◌, length, Some, Result, Ok, Err, refl, sym, subst, ◌∙◌, append_assoc, arith, true≢false, ◌≢◌, is_some, if◌then◌else◌, All, append-nil, bytes_eq-Decides, bytes_eq, Label, SourceLine, next, Slice, address_in, labels_at, Layout, with_labels, within_limits, line_layout, layout_from, fault_at, AreApart, statement_size, ◌>>=◌, AsmKind, DuplicateLabel}
use Rattle.std.proofs.Common.{nat_lt}
use Rattle.std.specs.Prelude.{◌||◌}
use Rattle.std.proofs.lemmas.List.Elements.{All-nil, All-cons, All-head, All-tail, All-push}
use borrow.Author.Tests.{ltb-false}
use Rattle.rt_asm.specs.declared.fault.AsmKind.TheVariants.{TooLarge}

-- a label added last
abbrev pub at_end : ℕ → List Label → List ℕ → List Label
at_end place ls name = ls ++ record { name = name; address = place } ∷ []

-- the labels of a line go behind those before it
pub names_behind : (place : ℕ) (ls : List Label) (names : List Slice) (more : List Label) → with_labels place ls names ≡ Ok more → more ≡ ls ++ labels_at place names
names_behind place ls [] more h = let e : ls ≡ more = cc in sym e ∙ sym (append-nil ls)
names_behind place ls (s ∷ ss) more h = by (is_some (address_in ls s.text)) (λ e. names_behind place (at_end place ls s.text) ss more e) h
  where
    by : (b : Bool) → (with_labels place (at_end place ls s.text) ss ≡ Ok more → more ≡ at_end place ls s.text ++ labels_at place ss)
        → ◌>>=◌ (if b then Err DuplicateLabel else Ok (at_end place ls s.text)) (λ found. with_labels place found ss) ≡ Ok more
        → more ≡ ls ++ labels_at place (s ∷ ss)
    by true each e = cc
    by false each e = each e ∙ append_assoc ls (record { name = s.text; address = place } ∷ []) (labels_at place ss)

-- what a line adds to a layout
pub record LineLaid (before mid : Layout) (line : SourceLine) : Type 0 where
  pub size : ℕ
  pub sized : statement_size before.place line.statement ≡ Ok size
  pub place : mid.place ≡ before.place + size
  pub added : with_labels before.place before.labels line.labels ≡ Ok mid.labels
  pub low : mid.place ≤ 0x80100000
  pub few : length mid.labels ≤ 65536

pub line_laid : (before : Layout) (line : SourceLine) (mid : Layout) → line_layout before line ≡ Ok mid → LineLaid before mid line
line_laid before line mid h = by_labels (with_labels before.place before.labels line.labels) refl h
  where
    by_limits : (ls : List Label) (size : ℕ) (b c : Bool) → nat_lt 0x80100000 (before.place + size) ≡ b → nat_lt 65536 (length ls) ≡ c
        → with_labels before.place before.labels line.labels ≡ Ok ls → statement_size before.place line.statement ≡ Ok size
        → (if b || c then Err TooLarge else Ok (record { place = before.place + size; labels = ls })) ≡ Ok mid → LineLaid before mid line
    by_limits ls size true c p q l s e = cc
    by_limits ls size false true p q l s e = cc
    by_limits ls size false false p q l s e =
        let m : record { place = before.place + size; labels = ls } ≡ mid = cc in
        subst (λ k. LineLaid before k line) m (record { size = size; sized = s; place = refl; added = l; low = ltb-false 0x80100000 (before.place + size) p; few = ltb-false 65536 (length ls) q })

    by_size : (ls : List Label) (r : Result ℕ AsmKind) → with_labels before.place before.labels line.labels ≡ Ok ls → statement_size before.place line.statement ≡ r
        → ◌>>=◌ r (λ size. within_limits (before.place + size) ls) ≡ Ok mid → LineLaid before mid line
    by_size ls (Ok size) l s e = by_limits ls size (nat_lt 0x80100000 (before.place + size)) (nat_lt 65536 (length ls)) refl refl l s e
    by_size ls (Err k) l s e = cc

    by_labels : (r : Result (List Label) AsmKind) → with_labels before.place before.labels line.labels ≡ r
        → ◌>>=◌ r (λ labels. ◌>>=◌ (statement_size before.place line.statement) (λ size. within_limits (before.place + size) labels)) ≡ Ok mid → LineLaid before mid line
    by_labels (Ok ls) l e = by_size ls (statement_size before.place line.statement) l refl e
    by_labels (Err k) l e = cc

-- the first of lines, and the others
pub record Laid (n : ℕ) (before : Layout) (line : SourceLine) (lines : List SourceLine) (plan : Layout) : Type 0 where
  pub mid : Layout
  pub first : line_layout before line ≡ Ok mid
  pub others : layout_from (n + 1) mid lines ≡ Ok plan

pub laid : (n : ℕ) (before : Layout) (line : SourceLine) (lines : List SourceLine) (plan : Layout) → layout_from n before (line ∷ lines) ≡ Ok plan → Laid n before line lines plan
laid n before line lines plan h = by (line_layout before line) refl h
  where
    by : (r : Result Layout AsmKind) → line_layout before line ≡ r → next fault_at n r (λ mid. layout_from (n + 1) mid lines) ≡ Ok plan → Laid n before line lines plan
    by (Ok mid) f e = record { mid = mid; first = f; others = e }
    by (Err k) f e = cc

-- what a name that is not there differs from
unlike : (ls : List Label) (name : List ℕ) → is_some (address_in ls name) ≡ false → All (λ l. l.name ≢ name) ls
unlike [] name h = All-nil (λ l. l.name ≢ name)
unlike (l ∷ ls) name h = by (bytes_eq name l.name) refl (λ e. unlike ls name e) h
  where
    by : (b : Bool) → bytes_eq name l.name ≡ b → (is_some (address_in ls name) ≡ false → All (λ m. m.name ≢ name) ls)
        → is_some (if b then Some l.address else address_in ls name) ≡ false → All (λ m. m.name ≢ name) (l ∷ ls)
    by true q each e = absurd (true≢false e)
    by false q each e =
        All-cons (λ m. m.name ≢ name) l ls (λ same. true≢false (sym ((bytes_eq-Decides name l.name).1 (sym same)) ∙ q)) (each e)

apart_push : (ls : List Label) (l : Label) → AreApart ls → All (λ m. m.name ≢ l.name) ls → AreApart (ls ++ l ∷ [])
apart_push [] l a h = (All-nil (λ n. l.name ≢ n.name), tt)
apart_push (m ∷ ms) l a h =
    (All-push (λ n. m.name ≢ n.name) ms l a.0 (All-head (λ n. n.name ≢ l.name) m ms h), apart_push ms l a.1 (All-tail (λ n. n.name ≢ l.name) m ms h))

-- no name of a line is there before it
pub still_apart : (place : ℕ) (ls : List Label) (names : List Slice) (more : List Label) → with_labels place ls names ≡ Ok more → AreApart ls → AreApart more
still_apart place ls [] more h a = let e : ls ≡ more = cc in subst AreApart e a
still_apart place ls (s ∷ ss) more h a = by (is_some (address_in ls s.text)) refl (λ e b. still_apart place (at_end place ls s.text) ss more e b) h
  where
    by : (b : Bool) → is_some (address_in ls s.text) ≡ b → (with_labels place (at_end place ls s.text) ss ≡ Ok more → AreApart (at_end place ls s.text) → AreApart more)
        → ◌>>=◌ (if b then Err DuplicateLabel else Ok (at_end place ls s.text)) (λ found. with_labels place found ss) ≡ Ok more → AreApart more
    by true q each e = cc
    by false q each e = each e (apart_push ls (record { name = s.text; address = place }) a (unlike ls s.text q))

-- what the lines of a source keep
pub record Kept (before plan : Layout) : Type 0 where
  pub grows : before.place ≤ plan.place
  pub low : before.place ≤ 0x80100000 → plan.place ≤ 0x80100000
  pub few : length before.labels ≤ 65536 → length plan.labels ≤ 65536
  pub apart : AreApart before.labels → AreApart plan.labels

pub kept : (n : ℕ) (before : Layout) (lines : List SourceLine) (plan : Layout) → layout_from n before lines ≡ Ok plan → Kept before plan
kept n before [] plan h =
    let e : before ≡ plan = cc in subst (Kept before) e (record { grows = omega arith; low = λ q. q; few = λ q. q; apart = λ q. q })
kept n before (line ∷ lines) plan h =
    let here : Laid n before line lines plan = laid n before line lines plan h in
    let one : LineLaid before here.mid line = line_laid before line here.mid here.first in
    let rest : Kept here.mid plan = kept (n + 1) here.mid lines plan here.others in
    record {
      grows = omega (arith, one.place, rest.grows);
      low = λ q. rest.low one.low;
      few = λ q. rest.few one.few;
      apart = λ q. rest.apart (still_apart before.place before.labels line.labels here.mid.labels one.added q);
    }
