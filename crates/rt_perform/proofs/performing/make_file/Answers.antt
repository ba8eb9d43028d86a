use Rattle.rt_perform.proofs.Common.{ℕ, List, Option, Some, inr, subst, sym}
use Rattle.rt_desk.specs.Desk.{Makes}
use Rattle.rt_perform.specs.Produced.{IsUnmade}
use Rattle.rt_perform.proofs.performing.make_file.Goals as goal

pub returns-in-Ok-clause-produces : goal.returns-in-Ok-clause-produces
returns-in-Ok-clause-produces g c =
    let files = g.D.Desk.files in (
      c.args.path.now,
      c.in_ok-produced.produced.bytes,
      c.requires,
      c.in_ok-produced.ensures,
      subst (λ (bytes : List ℕ). Makes (files c.args.desk.now) c.args.path.now bytes (files c.make.new.desk)) c.deref.ensures.value c.in-Ok.ensures.made,
    )

pub returns-clause-produces : goal.returns-clause-produces
returns-clause-produces g c =
    let produced = c.in_ok-produced.produced in
    let fault = c.in-Err.fault in
    let unmade = subst (λ (bytes : List ℕ). IsUnmade (Some c.args.path.now) bytes fault) c.deref.ensures.value c.in-Err.ensures.unmade in (
      inr (
        produced.bytes,
        produced.left_out,
        c.in_ok-produced.ensures,
        subst (λ (path : Option (List ℕ)). IsUnmade path produced.bytes.items fault) (sym c.requires) unmade,
      ),
      c.in-Err.ensures.kept,
    )
