use Rattle.rt_asm.proofs.ObjectLemmas.{whole}
use Rattle.rt_asm.proofs.assembling.assemble.Goals as goal

pub new-requires : goal.new-requires
new-requires c =
    whole c.args.lines.now c.in_ok-plan.plan c.labels.result.now c.in_ok-bytes.bytes.items c.in_ok-plan.ensures.exact c.in_ok-plan.ensures.names c.in_ok-bytes.ensures.placed c.in_ok-bytes.ensures.low c.labels.ensures
