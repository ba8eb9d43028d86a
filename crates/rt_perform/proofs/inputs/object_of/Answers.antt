use Rattle.rt_perform.proofs.Common.{ℕ, List, subst}
use Rattle.rt_perform.specs.Objects.{GivesObject}
use Rattle.rt_perform.proofs.inputs.object_of.Goals as goal

pub returns-in-Ok : goal.returns-in-Ok
returns-in-Ok c =
    let made = c.in-Ok.made in
    subst (λ (path : List ℕ). GivesObject path c.args.read.now.first.items made.bytes made.left_out) c.path.ensures
    (subst (λ (file : List ℕ). GivesObject c.path.result.now file made.bytes made.left_out) c.deref.ensures.value c.in-Ok.ensures.means)
