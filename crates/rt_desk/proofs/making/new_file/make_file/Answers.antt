use Rattle.std.proofs.Common.{◌≡◌, subst, rules}
use Rattle.rt_desk.specs.making.Making.{MakesFile}
use Rattle.rt_desk.proofs.making.Steps.{file_made}
use Rattle.rt_desk.proofs.making.new_file.make_file.Goals as goal

pub returns-in-Ok-Replace-clause-made : goal.returns-in-Ok-Replace-clause-made
returns-in-Ok-Replace-clause-made g c = λ target tells place.
    let old = g.D.Disk.standing c.args.disk.now in
    let new = g.D.Disk.standing c.replace.new.disk in
    let made = file_made c.args.path.now c.deref.result.now c.args.bytes.now c.replace.result old new (g.met.D.Disk.clock c.args.disk.now) c.replace.ensures.calls c.replace.ensures.removed c.replace.ensures.cause tells in
    let is : c.deref.result.now ≡ target = grind (rules, place, tells) in
    subst (λ t. MakesFile c.args.path.now t c.args.bytes.now c.replace.result old new) is made
