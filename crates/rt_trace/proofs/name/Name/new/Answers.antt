use Rattle.rt_trace.proofs.Common.{List, ℕ, ◌∷◌, [], ◌++◌, sym, ap, arith, decimal_digit}
use Rattle.rt_trace.proofs.name.Name.new.Goals as goal

pub returns : goal.returns
returns c = ap (λ (digits : List ℕ). 32 ∷ (digits ++ 32 ∷ [])) (sym (decimal_digit 0 (omega arith)))
