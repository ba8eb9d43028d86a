-- A later tick lies no further left.
use Rattle.rt_chart.proofs.Common.{ℕ, zero, suc, ◌-◌, ◌*◌, ◌/◌, ◌≤◌, min, arith, Style, Window, ticks_in}
use Rattle.std.proofs.Math.Nat.{div-mul-le_self, div-le_of_le-mul, mul-le-mul_right, div-zero}
use Rattle.std.proofs.lemmas.Nat.{le-div}
use Rattle.rt_chart.specs.Scale.{width, place}

-- as a number grows, so does what it is divided by n
div-rises : (a b n : ℕ) → a ≤ b → a / n ≤ b / n
div-rises a b zero below = omega (arith, div-zero a, div-zero b)
div-rises a b (suc n) below = le-div (a / suc n) b (suc n) (omega arith) (omega (arith, div-mul-le_self a (suc n)))

pub place-rises : (w : Window) (s : Style) (t u : ℕ) → t ≤ u → place w s t ≤ place w s u
place-rises w s t u before =
    let n = ticks_in w in
    let behind : min (t - w.from) n ≤ min (u - w.from) n = omega arith in
    div-rises (min (t - w.from) n * width w s) (min (u - w.from) n * width w s) n (mul-le-mul_right (width w s) behind)

pub place-within : (w : Window) (s : Style) (t : ℕ) → place w s t ≤ width w s
place-within w s t =
    let n = ticks_in w in
    let m : ℕ = min (t - w.from) n in
    let fits : m ≤ n = omega arith in
    div-le_of_le-mul n (mul-le-mul_right (width w s) fits)
