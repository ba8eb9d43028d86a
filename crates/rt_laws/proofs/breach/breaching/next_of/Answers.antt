use Rattle.rt_laws.proofs.Common.{◌≡◌, length, get_or, None, subst, arith, IsFirstBest, Account}
use Rattle.rt_laws.proofs.breach.Firsts.{goes_before, next-first}
use Rattle.rt_laws.proofs.breach.breaching.next_of.Goals as goal

pub returns-clause-least : goal.returns-clause-least
returns-clause-least c =
    let none : Account = record { q = 0; p = 0; c = 0; d = 0; pending = None } in
    let servers = c.args.servers.now in
    let all : c.loop-i.i ≡ length servers = omega (arith, c.loop-i.invariant.within, c.loop-i-test.false) in
    let best : IsFirstBest goes_before servers (length servers) c.loop-i.next = subst (λ i. IsFirstBest goes_before servers i c.loop-i.next) all c.loop-i.invariant.best in
    ((get_or servers c.loop-i.next none).d, next-first servers c.loop-i.next none best)
