use Rattle.rt_asm.proofs.Common.{arith, rules, ap, length, length-append}
use Rattle.std.proofs.lemmas.List.{drop_all}
use Rattle.rt_asm.proofs.DraftLemmas.{draft_low, Room, fill_room, fill_more, fill_refused, fill_all}
use Rattle.rt_asm.proofs.KeptLemmas.{Ended}
use Rattle.rt_asm.proofs.texts.filled.Goals as goal

pub overflow_sub-place : goal.overflow_sub-place
overflow_sub-place c =
    omega (arith, draft_low c.args.plan.now.labels c.args.plan.now.place c.requires.drafted.0 c.args.known.now c.args.left.now c.requires.drafted.1, c.place.ensures)

pub overflow_sub-item : goal.overflow_sub-item
overflow_sub-item c =
    let r : Room c.args.plan.now.place c.loop-item.taken c.item-item.result.before c.loop-item.rest.now c.loop-item.bytes.items =
    fill_room c.args.plan.now.labels c.args.plan.now.place c.requires.drafted.0 c.args.left.now c.loop-item.item-index c.loop-item.taken c.loop-item.rest.now c.loop-item.bytes.items c.item-item.result
    c.loop-item-test.true c.item-item.is (c.loop-item.invariant c.requires.drafted.0 c.requires.drafted.1) in
    r.forward

pub split_at-requires : goal.split_at-requires
split_at-requires c =
    let r : Room c.args.plan.now.place c.loop-item.taken c.item-item.result.before c.loop-item.rest.now c.loop-item.bytes.items =
    fill_room c.args.plan.now.labels c.args.plan.now.place c.requires.drafted.0 c.args.left.now c.loop-item.item-index c.loop-item.taken c.loop-item.rest.now c.loop-item.bytes.items c.item-item.result
    c.loop-item-test.true c.item-item.is (c.loop-item.invariant c.requires.drafted.0 c.requires.drafted.1) in
    r.within

pub overflow_cast-place-in-loop-item : goal.overflow_cast-place-in-loop-item
overflow_cast-place-in-loop-item c =
    let r : Room c.args.plan.now.place c.loop-item.taken c.item-item.result.before c.loop-item.rest.now c.loop-item.bytes.items =
    fill_room c.args.plan.now.labels c.args.plan.now.place c.requires.drafted.0 c.args.left.now c.loop-item.item-index c.loop-item.taken c.loop-item.rest.now c.loop-item.bytes.items c.item-item.result
    c.loop-item-test.true c.item-item.is (c.loop-item.invariant c.requires.drafted.0 c.requires.drafted.1) in
    omega (
      arith,
      r.low,
      c.len.ensures,
      ap length c.in_ok-extend_from_slice.ensures.items,
      length-append c.loop-item.bytes.items c.split_at.result.0.now,
      c.split_at.ensures.front_len,
      c.requires.low,
    )

pub overflow_add-place : goal.overflow_add-place
overflow_add-place c =
    let r : Room c.args.plan.now.place c.loop-item.taken c.item-item.result.before c.loop-item.rest.now c.loop-item.bytes.items =
    fill_room c.args.plan.now.labels c.args.plan.now.place c.requires.drafted.0 c.args.left.now c.loop-item.item-index c.loop-item.taken c.loop-item.rest.now c.loop-item.bytes.items c.item-item.result
    c.loop-item-test.true c.item-item.is (c.loop-item.invariant c.requires.drafted.0 c.requires.drafted.1) in
    omega (
      arith,
      r.low,
      c.len.ensures,
      ap length c.in_ok-extend_from_slice.ensures.items,
      length-append c.loop-item.bytes.items c.split_at.result.0.now,
      c.split_at.ensures.front_len,
      c.requires.low,
    )

pub returns-in-Err-clause-exact : goal.returns-in-Err-clause-exact
returns-in-Err-clause-exact c = λ kept d.
    rw (c.at_line.ensures)
    (fill_refused c.args.plan.now.labels c.labels.result.now c.args.plan.now.place c.len.result kept c.args.left.now c.loop-item.item-index c.loop-item.taken c.loop-item.rest.now c.loop-item.bytes.items
    c.split_at.result.0.now c.split_at.result.1.now c.extend_from_slice.new.self.items c.item-item.result c.in-Err.fault c.loop-item-test.true c.item-item.is c.labels.ensures
    c.split_at.ensures.front c.split_at.ensures.back c.in_ok-extend_from_slice.ensures.items (search rules) c.in-Err.ensures (c.loop-item.invariant kept d))

pub loop-item-preserved : goal.loop-item-preserved
loop-item-preserved c = λ kept d.
    fill_more c.args.plan.now.labels c.labels.result.now c.args.plan.now.place c.len.result kept c.args.left.now c.loop-item.item-index c.loop-item.taken c.loop-item.rest.now c.loop-item.bytes.items
    c.split_at.result.0.now c.split_at.result.1.now c.extend_from_slice.new.self.items c.push_meaning.new.out.items c.item-item.result c.loop-item-test.true c.item-item.is c.labels.ensures
    c.split_at.ensures.front c.split_at.ensures.back c.in_ok-extend_from_slice.ensures.items (search rules) (c.in_default.ensures {u = tt}) (c.loop-item.invariant kept d)

pub returns-clause-bytes : goal.returns-clause-bytes
returns-clause-bytes c = λ kept d.
    (fill_all c.args.plan.now.labels c.args.plan.now.place kept c.args.left.now c.loop-item.item-index c.loop-item.taken c.loop-item.rest.now c.loop-item.bytes.items c.extend_from_slice-2.new.self.items
    (drop_all c.loop-item.item-index c.args.left.now c.loop-item-test.false) c.in_ok-extend_from_slice-2.ensures.items (c.loop-item.invariant kept d)).bytes

pub returns-clause-low : goal.returns-clause-low
returns-clause-low c =
    let e : Ended c.args.plan.now.labels c.args.plan.now.place c.requires.drafted.0 c.extend_from_slice-2.new.self.items =
    fill_all c.args.plan.now.labels c.args.plan.now.place c.requires.drafted.0 c.args.left.now c.loop-item.item-index c.loop-item.taken c.loop-item.rest.now c.loop-item.bytes.items c.extend_from_slice-2.new.self.items
    (drop_all c.loop-item.item-index c.args.left.now c.loop-item-test.false) c.in_ok-extend_from_slice-2.ensures.items (c.loop-item.invariant c.requires.drafted.0 c.requires.drafted.1) in
    omega (arith, e.size, c.requires.low)

pub returns-clause-exact : goal.returns-clause-exact
returns-clause-exact c = λ kept d.
    (fill_all c.args.plan.now.labels c.args.plan.now.place kept c.args.left.now c.loop-item.item-index c.loop-item.taken c.loop-item.rest.now c.loop-item.bytes.items c.extend_from_slice-2.new.self.items
    (drop_all c.loop-item.item-index c.args.left.now c.loop-item-test.false) c.in_ok-extend_from_slice-2.ensures.items (c.loop-item.invariant kept d)).checked
