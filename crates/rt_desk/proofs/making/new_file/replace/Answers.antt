use Rattle.std.proofs.Common.{string_bytes}
use Rattle.rt_desk.proofs.making.Steps.{replaced_whole, replaced_not, is_removed}
use Rattle.rt_desk.proofs.making.new_file.replace.Goals as goal

pub returns-in-Ok-clause-calls : goal.returns-in-Ok-clause-calls
returns-in-Ok-clause-calls g c =
    replaced_whole c.args.path.now c.args.bytes.now (string_bytes c.in-Ok-Some.part) _ _ _ (rw c.in-Ok-Some.field-0-is at c.in-Ok-Some.ensures.name) (rw c.in-Ok-Some.field-0-is at c.in-Ok-Some.ensures.calls)
    (rw c.deref.ensures at c.in-Ok.ensures.calls)

pub returns-clause-calls : goal.returns-clause-calls
returns-clause-calls g c =
    replaced_not c.args.path.now c.args.bytes.now (string_bytes c.in-Ok-Some.part) c.in-Err-put_part.fault c.remove.result _ _ _ _ (rw c.in-Ok-Some.field-0-is at c.in-Ok-Some.ensures.name)
    (rw c.in-Ok-Some.field-0-is at c.in-Ok-Some.ensures.calls) (rw c.deref.ensures at c.in-Err-put_part.ensures.calls) (rw c.deref-in-Err-put_part.ensures at c.remove.ensures.calls)

pub returns-clause-removed : goal.returns-clause-removed
returns-clause-removed g c =
    is_removed (string_bytes c.in-Ok-Some.part) c.remove.result _ _ _ _ (rw c.in-Ok-Some.field-0-is at c.in-Ok-Some.ensures.calls) (rw c.deref.ensures at c.in-Err-put_part.ensures.calls)
    c.in-Err-put_part.ensures.fails (rw c.deref-in-Err-put_part.ensures at c.remove.ensures.calls) c.remove.ensures.fails
