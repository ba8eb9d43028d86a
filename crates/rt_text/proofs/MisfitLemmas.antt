-- What the loops over the operands of a refused statement need.
use Rattle.rt_text.proofs.Common.{◌≡◌, ◌+◌, suc, arith, Bool, true, false, List, [], ◌∷◌, drop, refl, Option, Some, None, cond, position_or_len, is_comma, Token}
use Rattle.std.proofs.Common.{Bor}
use Rattle.std.specs.Prelude.{not}
use Rattle.rt_text.specs.Misfits.{behind_commas}

-- the tokens from each operand on that is left
abbrev pub rests_left : Option (Bor (List Token)) → List (List Token)
rests_left None = []
rests_left (Some ts) = ts.now ∷ behind_commas ts.now

-- what stands behind the first comma
pub comma_found : (ts after : List Token) (comma : Token) → drop (position_or_len is_comma ts) ts ≡ comma ∷ after → behind_commas ts ≡ after ∷ behind_commas after
comma_found [] after comma found = absurd cc
comma_found (t ∷ ts) after comma found = step (is_comma t) found (λ later. comma_found ts after comma later)
  where
    step : (b : Bool) → drop (cond (not b) (1 + position_or_len is_comma ts) 0) (t ∷ ts) ≡ comma ∷ after
        → (drop (position_or_len is_comma ts) ts ≡ comma ∷ after → behind_commas ts ≡ after ∷ behind_commas after)
        → cond b (ts ∷ behind_commas ts) (behind_commas ts) ≡ after ∷ behind_commas after
    step true found later = let same : ts ≡ after = cc in rw same refl
    step false found later = let s : 1 + position_or_len is_comma ts ≡ suc (position_or_len is_comma ts) = omega arith in later (rw s at found)

pub no_comma : (ts : List Token) → drop (position_or_len is_comma ts) ts ≡ [] → behind_commas ts ≡ []
no_comma [] none = refl
no_comma (t ∷ ts) none = step (is_comma t) none (λ later. no_comma ts later)
  where
    step : (b : Bool) → drop (cond (not b) (1 + position_or_len is_comma ts) 0) (t ∷ ts) ≡ []
        → (drop (position_or_len is_comma ts) ts ≡ [] → behind_commas ts ≡ []) → cond b (ts ∷ behind_commas ts) (behind_commas ts) ≡ []
    step true none later = absurd cc
    step false none later = let s : 1 + position_or_len is_comma ts ≡ suc (position_or_len is_comma ts) = omega arith in later (rw s at none)
