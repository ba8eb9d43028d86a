-- Where a symbol comes to stand among others.
use Rattle.rt_elf.proofs.Common.{◌≡◌, ℕ, zero, suc, ◌<◌, true, false, true≢false, sym, List, [], ◌∷◌, ◌++◌, length, take, drop, get_or, refl, ap, arith, insert, Symbol, Label, labels, is_before, put}
use Rattle.std.specs.Ordering.{is_lt, is_ge}
use Rattle.std.specs.declared.cmp.Ordering.{Ordering}
use Rattle.std.specs.declared.cmp.Ordering.TheVariants.{Less, Equal, Greater}

-- those from place k on stay where they are but for the first of them, whose name stands before its own
pub step : (x : Label) (ss : List Symbol) (k : ℕ) (d : Symbol) → k < length ss → is_before (get_or ss k d).name.now x.name ≡ true
    → labels (take k ss) ++ put x (labels (drop k ss)) ≡ labels (take (suc k) ss) ++ put x (labels (drop (suc k) ss))
step x [] k d low before = absurd (omega (arith, low))
step x (s ∷ ss) zero d low before = rw before refl
step x (s ∷ ss) (suc k) d low before = ap (λ (ls : List Label). record { name = s.name.now; address = s.address } ∷ ls) (step x ss k d (omega (arith, low)) before)

-- it stands before the first of them, whose name doesn't
pub stop : (x : Label) (ss : List Symbol) (k : ℕ) (d : Symbol) → k < length ss → is_before (get_or ss k d).name.now x.name ≡ false
    → labels (take k ss) ++ put x (labels (drop k ss)) ≡ insert (labels ss) k x
stop x [] k d low before = absurd (omega (arith, low))
stop x (s ∷ ss) zero d low before = rw before refl
stop x (s ∷ ss) (suc k) d low before = ap (λ (ls : List Label). record { name = s.name.now; address = s.address } ∷ ls) (stop x ss k d (omega (arith, low)) before)

pub not_less : (o : Ordering) → is_ge o ≡ true → is_lt o ≡ false
not_less Less e = absurd (true≢false (sym e))
not_less Equal e = refl
not_less Greater e = refl

pub less : (o : Ordering) → is_ge o ≡ false → is_lt o ≡ true
less Less e = refl
less Equal e = absurd (true≢false e)
less Greater e = absurd (true≢false e)
