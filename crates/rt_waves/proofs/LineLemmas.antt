-- Parts of a text, one behind the other.
use Rattle.rt_waves.proofs.Common.{◌≡◌, ℕ, List, [], ◌∷◌, ◌++◌, length, length-append, take, append_assoc, append-nil, refl, sym, ap, ◌∙◌, arith, time_line, timed}
use Rattle.std.proofs.Math.Seq.{take-append_seam}

pub eleven : (o a b c d e f g h i j k : List ℕ) → ((((((((((o ++ a) ++ b) ++ c) ++ d) ++ e) ++ f) ++ g) ++ h) ++ i) ++ j) ++ k ≡ o ++ (a ++ (b ++ (c ++ (d ++ (e ++ (f ++ (g ++ (h ++ (i ++ (j ++ (k ++ [])))))))))))
eleven o a b c d e f g h i j k = simp (append_assoc, append-nil) refl

pub four : (o a b c d : List ℕ) → (((o ++ a) ++ b) ++ c) ++ d ≡ o ++ (((a ++ b) ++ c) ++ d)
four o a b c d = simp append_assoc refl

pub pairs : (o a b c d : List ℕ) → (((o ++ a) ++ b) ++ c) ++ d ≡ o ++ ((a ++ b) ++ (c ++ d))
pairs o a b c d = simp append_assoc refl

-- where there are no lines, there is no time
pub timed-none : (u : ℕ) (o lines : List ℕ) → length ((o ++ time_line u) ++ lines) ≡ length (o ++ time_line u) → take (length o) ((o ++ time_line u) ++ lines) ≡ o ++ timed u lines
timed-none u o [] none = ap (take (length o)) (append-nil (o ++ time_line u)) ∙ take-append_seam o (time_line u) ∙ sym (append-nil o)
timed-none u o (x ∷ xs) none = absurd (omega (arith, length-append (o ++ time_line u) (x ∷ xs)))

pub timed-some : (u : ℕ) (o lines : List ℕ) → (length ((o ++ time_line u) ++ lines) ≡ length (o ++ time_line u) → ⊥) → (o ++ time_line u) ++ lines ≡ o ++ timed u lines
timed-some u o [] some = absurd (some (ap length (append-nil (o ++ time_line u))))
timed-some u o (x ∷ xs) some = append_assoc o (time_line u) (x ∷ xs)

pub twelve : (o a1 a2 a3 a4 a5 a6 a7 a8 a9 a10 a11 a12 : List ℕ) → (((((((((((o ++ a1) ++ a2) ++ a3) ++ a4) ++ a5) ++ a6) ++ a7) ++ a8) ++ a9) ++ a10) ++ a11) ++ a12 ≡ o ++ (((((((((((a1 ++ a2) ++ a3) ++ a4) ++ a5) ++ a6) ++ a7) ++ a8) ++ a9) ++ a10) ++ a11) ++ a12)
twelve o a1 a2 a3 a4 a5 a6 a7 a8 a9 a10 a11 a12 = simp append_assoc refl
