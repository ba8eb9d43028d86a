use Rattle.rt_asm.proofs.Common.{◌≤◌, ◌+◌, length, subst, Program}
use Rattle.rt_asm.proofs.ObjectLemmas.{entry_placed}
use Rattle.rt_asm.proofs.assembled.Assembled.entry.Goals as goal

pub returns-clause-low : goal.returns-clause-low
returns-clause-low c = (entry_placed _ c.self.invariant).0

pub returns-clause-high : goal.returns-clause-high
returns-clause-high c =
    let P : Program → Type 0 = λ p. c.self.inside.entry ≤ 0x80000000 + length p.bytes in
    subst P c.self.view_is (entry_placed _ c.self.invariant).1
