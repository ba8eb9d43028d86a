use Rattle.rt_desk.proofs.Common.{refl, subst, arith, IsEnough}
use Rattle.rt_desk.proofs.reading.BlockLemmas.{read_end, read_cut}
use Rattle.rt_desk.proofs.reading.blocks.read_blocks.Goals as goal

pub returns-then-branch : goal.returns-then-branch
returns-then-branch g c =
    read_end c.args.kind (g.F.Read.remaining c.args.file) (g.F.Read.remaining c.loop.file) (g.F.Read.remaining c.read_more.new.file) c.loop.bytes.items
    c.read_more.new.bytes.items c.in_ok-read_more.field-0 c.loop.invariant.read c.in_ok-read_more.ensures.gains c.if-branch.true

pub returns-then-not-goes_on : goal.returns-then-not-goes_on
returns-then-not-goes_on g c =
    read_cut c.args.kind (g.F.Read.remaining c.args.file) (g.F.Read.remaining c.loop.file) (g.F.Read.remaining c.read_more.new.file) c.loop.bytes.items
    c.read_more.new.bytes.items c.in_ok-read_more.field-0 c.loop.invariant.read c.in_ok-read_more.ensures.gains
    (omega (arith, c.loop.invariant.later, c.if-len-next.true, c.len.ensures))
    (subst (IsEnough c.args.kind) c.deref.ensures.value (c.if-not-goes_on.ensures refl))
