-- How the symbols that entries tell are listed.
use Rattle.rt_elf.proofs.Common.{◌≡◌, ℕ, ◌-◌, ◌+◌, ◌<◌, ◌&&◌, Bool, true, false, List, [], ◌∷◌, ◌++◌, map, Option, Some, None, refl, sym, ap, ◌∙◌, cond, filter, Label, label, labels, Symbol, Entry, numbered, tells, told, is_of, told_by}
use Rattle.std.proofs.lemmas.List.{append_assoc, map-append}
use Rattle.rt_words.specs.Found.{when}
use Rattle.rt_elf.specs.ToldSymbols.{shortened, told_at}
use Rattle.rt_elf.proofs.NumberedLemmas.{numbered_first}

-- a list of one, or of none
abbrev pub found : Option Label → List Label
found None = []
found (Some l) = l ∷ []

abbrev listed : Bool → List ℕ → List Entry → List Label
listed local names es = map shortened (told_by local names es)

one_more : (local : Bool) (names : List ℕ) (e : Entry) (es : List Entry) → listed local names (e ∷ es) ≡ found (told_at local names e) ++ listed local names es
one_more local names e es = by (is_of local e && tells names e)
  where
    by : (b : Bool) → map shortened (map (told names) (cond b (e ∷ filter (λ x. is_of local x && tells names x) es) (filter (λ x. is_of local x && tells names x) es)))
        ≡ found (when b (shortened (told names e))) ++ listed local names es
    by true = refl
    by false = refl

pub listed_more : (local : Bool) (names : List ℕ) (f : ℕ → Entry) (k m : ℕ) (so_far all : List Label) (o : Option Label) → k < m → told_at local names (f k) ≡ o
    → so_far ++ map shortened (told_by local names (numbered f k (m - k))) ≡ all
    → (so_far ++ found o) ++ map shortened (told_by local names (numbered f (k + 1) (m - (k + 1)))) ≡ all
listed_more local names f k m so_far all o low is before =
    append_assoc so_far (found o) (listed local names (numbered f (k + 1) (m - (k + 1))))
    ∙ ap (λ (l : List Label). so_far ++ l)
    (ap (λ (p : Option Label). found p ++ listed local names (numbered f (k + 1) (m - (k + 1)))) (sym is)
    ∙ sym (one_more local names (f k) (numbered f (k + 1) (m - (k + 1)))) ∙ ap (listed local names) (sym (numbered_first f k m low)))
    ∙ before

pub one_behind : (ss : List Symbol) (s : Symbol) → labels (ss ++ s ∷ []) ≡ labels ss ++ label s ∷ []
one_behind ss s = map-append label ss (s ∷ [])
