use Rattle.std.proofs.Common.{◌∙◌}
use Rattle.rt_desk.proofs.making.Steps.{part_put}
use Rattle.rt_desk.proofs.making.new_file.put_part.Goals as goal

pub returns-in-Ok-clause-calls : goal.returns-in-Ok-clause-calls
returns-in-Ok-clause-calls g c =
    part_put c.args.path.now c.args.bytes.now c.args.part.now c.requires.apart _ _ _ c.requires.empty c.in_ok-fill.ensures.calls c.in_ok-fill.ensures.durable c.in-Ok.ensures.calls
    (λ whole same moved. (moved.0 ∙ whole, moved.1 c.requires.apart, λ other path part. moved.2 other part path ∙ same other part))

pub returns-in-Err-clause-calls : goal.returns-in-Err-clause-calls
returns-in-Err-clause-calls g c =
    part_put c.args.path.now c.args.bytes.now c.args.part.now c.requires.apart _ _ _ c.requires.empty c.in_ok-fill.ensures.calls c.in_ok-fill.ensures.durable c.in-Err.ensures.calls
    (λ _ same kept other ne. kept other ∙ same other ne)
