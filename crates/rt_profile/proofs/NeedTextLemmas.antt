-- The text of needs, one bracket more.
use Rattle.rt_profile.proofs.Common.{◌≡◌, ℕ, ◌+◌, ◌<◌, ◌==◌, true, false, List, ◌∷◌, ◌++◌, length, drop, get_or, refl, sym, ap, ◌∙◌, arith, append_assoc, flat_map, nat_tests, flat_map-cons, need_text, kept_need, kept_needs_from}
use Rattle.std.proofs.lemmas.List.{drop_more}

-- the lines from bracket b on, m needs being in those before
abbrev pub lines_from : ℕ → ℕ → ℕ → List ℕ → List ℕ
lines_from i b m ns = flat_map need_text (kept_needs_from i b m ns)

some-needs : (i b m n : ℕ) (ns : List ℕ) → 0 < n → lines_from i b m (n ∷ ns) ≡ need_text (kept_need i b n (m + n)) ++ lines_from i (b + 1) (m + n) ns
some-needs i b m n ns some =
    let is : (n == 0) ≡ false = grind (arith, nat_tests) in
    let one : kept_needs_from i b m (n ∷ ns) ≡ kept_need i b n (m + n) ∷ kept_needs_from i (b + 1) (m + n) ns = rw is refl in
    ap (flat_map need_text) one ∙ flat_map-cons need_text (kept_need i b n (m + n)) (kept_needs_from i (b + 1) (m + n) ns)

no-needs : (i b m n : ℕ) (ns : List ℕ) → n ≡ 0 → lines_from i b m (n ∷ ns) ≡ lines_from i (b + 1) m ns
no-needs i b m n ns none = let is : (n == 0) ≡ true = grind (arith, nat_tests) in rw is refl

pub lines-some : (i b m : ℕ) (ns done all : List ℕ) → b < length ns → 0 < get_or ns b 0 → done ++ lines_from i b m (drop b ns) ≡ all
    → (done ++ need_text (kept_need i b (get_or ns b 0) (m + get_or ns b 0))) ++ lines_from i (b + 1) (m + get_or ns b 0) (drop (b + 1) ns) ≡ all
lines-some i b m ns done all below some is =
    let n = get_or ns b 0 in
    let rest = drop (b + 1) ns in
    let text : lines_from i b m (drop b ns) ≡ need_text (kept_need i b n (m + n)) ++ lines_from i (b + 1) (m + n) rest =
    ap (lines_from i b m) (drop_more ns b 0 below) ∙ some-needs i b m n rest some in
    append_assoc done (need_text (kept_need i b n (m + n))) (lines_from i (b + 1) (m + n) rest) ∙ ap (λ (t : List ℕ). done ++ t) (sym text) ∙ is

pub lines-none : (i b m : ℕ) (ns done all : List ℕ) → b < length ns → get_or ns b 0 ≡ 0 → done ++ lines_from i b m (drop b ns) ≡ all
    → done ++ lines_from i (b + 1) m (drop (b + 1) ns) ≡ all
lines-none i b m ns done all below none is =
    let text : lines_from i b m (drop b ns) ≡ lines_from i (b + 1) m (drop (b + 1) ns) =
    ap (lines_from i b m) (drop_more ns b 0 below) ∙ no-needs i b m (get_or ns b 0) (drop (b + 1) ns) none in
    ap (λ (t : List ℕ). done ++ t) (sym text) ∙ is
