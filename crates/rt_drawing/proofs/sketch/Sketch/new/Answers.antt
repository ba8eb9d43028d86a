use Rattle.rt_drawing.proofs.Common.{refl}
use Rattle.rt_image.specs.SystemFile.{set_task}
use Rattle.rt_drawing.proofs.sketch.Sketch.new.Goals as goal

pub returns : goal.returns
returns c =
    rw (
      c.allowed_of.ensures (set_task c.args.task.now) refl,
      c.of.ensures,
      c.new.ensures,
      c.from.ensures,
      c.new-2.ensures.items,
      c.new-3.ensures.items,
      c.new-4.ensures.items,
    ) refl
