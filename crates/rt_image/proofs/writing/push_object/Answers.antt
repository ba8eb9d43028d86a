use Rattle.rt_image.proofs.Common.{subst, ◌≡◌, ◌++◌, labels, spelling}
use Rattle.std.proofs.Common.{OnOk}
use Rattle.rt_image.proofs.Pushes.{object_parts}
use Rattle.rt_image.proofs.writing.push_object.Goals as goal

pub returns : goal.returns
returns c =
    subst
    (λ ss. OnOk c.push_symbols.result (c.push_symbols.new.out.items ≡ c.args.out.now.items ++ spelling (record { entry = c.args.object.now.entry; bytes = c.args.object.now.bytes.now; labels = labels ss })))
    c.as_slice-symbols.ensures.value
    (object_parts c.push_symbols.result c.args.out.now.items c.args.object.now.bytes.now c.args.object.now.entry c.as_slice-symbols.result.now c.push_header.new.out.items c.extend_from_slice.new.self.items
    c.push_symbols.new.out.items c.in_ok-push_header.ensures c.in_ok-extend_from_slice.ensures.items c.push_symbols.ensures)
