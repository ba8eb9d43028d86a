-- Of which certificates a line is written, and why there is none.
use Rattle.rt_programs.proofs.Common.{◌≡◌, ℕ, List, length, Option, Some, None, Err, refl, ap, ◌∙◌, tick_limit, TaskSet, legal, Seen, Spells, Ends, SimFault, Admit, Load, Memory}
use Rattle.std.proofs.Common.{IfSome, ◌⊎◌, inl, inr}
use Rattle.rt_image.specs.ObjectFile.{ObjectValue}
use Rattle.rt_history.specs.OwnPart.{own}
use Rattle.rt_programs.specs.Certify.{CertifyMeans}
use Rattle.rt_programs.specs.Working.LoneCertified.{Certifies}
use Rattle.rt_programs.specs.declared.question.Question.{Question}

-- where a job is still to come at the last tick, the program has made as many attempts as in the whole history
pub at-last : (set : TaskSet) (A : Type 0) (next : Option ℕ) (k u : ℕ) → A ⊎ ((next ≡ None) ⊎ (u ≡ tick_limit))
    → IfSome next (λ w. k ≡ length (own 0 (legal set u))) → A ⊎ ((next ≡ None) ⊎ (k ≡ length (own 0 (legal set tick_limit))))
at-last set A None k u all made = inr (inl refl)
at-last set A (Some w) k u all made =
    elim all [
      | inl first ↦ inl first
      | inr other ↦ elim other [
        | inl none ↦ inr (inl none)
        | inr last ↦ inr (inr (made ∙ ap (λ (t : ℕ). length (own 0 (legal set t))) last))
      ]
    ]

-- a program that isn't run ends without a text
pub ends-unloaded : {S : Type 0} (seen : S → Seen) (file : List ℕ) (o : ObjectValue) (q : Question) (old : S) (fault : SimFault) → Spells file o → Certifies o q (Err fault)
    → Ends seen (CertifyMeans file q) old (Err fault) old
ends-unloaded seen file o q old Memory spells is = refl
ends-unloaded seen file o q old (Admit fault) spells is = ((o, spells, is), refl)
ends-unloaded seen file o q old (Load fault) spells is = ((o, spells, is), refl)
ends-unloaded seen file o q old fault spells is = absurd is
