use Rattle.rt_profile.proofs.Common.{List, ℕ, length, ap, arith, base}
use Rattle.rt_profile.proofs.NameLemmas.{length-executed}
use Rattle.rt_profile.proofs.task_profile.TaskProfile.walk.Goals as goal

pub returns-clause-few : goal.returns-clause-few
returns-clause-few c =
    omega (
      arith,
      ap (λ (xs : List ℕ). length xs) c.new.ensures,
      length-executed c.self.inside.outside base c.deref.result.now,
      ap (λ (xs : List ℕ). length xs) c.deref.ensures.value,
      c.self.invariant.words,
    )
