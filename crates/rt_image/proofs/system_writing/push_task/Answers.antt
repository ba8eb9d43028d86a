use Rattle.rt_image.proofs.Common.{set_task}
use Rattle.rt_image.proofs.Pushes.{task_parts}
use Rattle.rt_image.proofs.system_writing.push_task.Goals as goal

pub returns : goal.returns
returns c =
    task_parts c.extend_from_slice.result c.args.out.now.items c.args.version (set_task c.args.task.now) c.new-file.result.items c.push_object.new.out.items c.as_slice-object.result.now c.push_front.new.out.items
    c.extend_from_slice.new.self.items c.new-file.ensures.items c.in_ok-push_object.ensures c.as_slice-object.ensures.value c.in_ok-push_front.ensures c.extend_from_slice.ensures.items
