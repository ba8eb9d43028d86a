use Rattle.rt_walk.proofs.Common.{◌≡◌, ◌+◌, arith, sym, subst, min, tick_limit, met_at}
use Rattle.rt_walk.specs.FirstMet.{SeeksOrPauses, Moves}
use Rattle.rt_walk.proofs.GoingLemmas.{searches-first, goes-at, ends-by, ends-there, moves-there}
use Rattle.rt_walk.proofs.position.Position.seek.Goals as goal

pub returns-in-Some-clause-seeks : goal.returns-in-Some-clause-seeks
returns-in-Some-clause-seeks g c = λ begin set is.
    let old = c.args.self.now in
    let end-is : c.min-end.result ≡ min (old.machine.tick + c.args.n) tick_limit = omega (arith, c.min-end.ensures, c.saturating_add.ensures, c.now.ensures.value, c.now.ensures.limit) in
    ends-by (g.H.Halt.behind c.args.halt) (g.H.Halt.ahead c.args.halt) begin set _ _ old.machine.tick c.args.n c.min-end.result old c.go_on_once.new.self c.in-Some.sought (omega arith)
    end-is (omega (arith, end-is, c.now.ensures.value, c.now.ensures.limit)) (λ none. omega (arith, none, end-is, c.now.ensures.value, c.now.ensures.limit)) c.in-Some.ensures.goes is (λ u after before. absurd (omega (arith, after, before)))

pub returns-in-Some-go_by-clause-seeks : goal.returns-in-Some-go_by-clause-seeks
returns-in-Some-go_by-clause-seeks g c = λ begin set is.
    let behind = g.H.Halt.behind c.args.halt in
    let ahead = g.H.Halt.ahead c.args.halt in
    let old = c.args.self.now in
    let end-is : c.min-end.result ≡ min (old.machine.tick + c.args.n) tick_limit = omega (arith, c.min-end.ensures, c.saturating_add.ensures, c.now.ensures.value, c.now.ensures.limit) in
    c.in-Some-go_by.ensures.seeks begin set old.machine.tick c.args.n end-is (searches-first behind ahead begin set _ old c.go_on_once.new.self c.in_default.ensures.goes is)

pub returns-in-Some-go_by-clause-reached : goal.returns-in-Some-go_by-clause-reached
returns-in-Some-go_by-clause-reached g c = λ first at. c.in-Some-go_by.ensures.reached first (c.go_on_once.ensures.reached first at)

pub returns-clause-seeks : goal.returns-clause-seeks
returns-clause-seeks g c = λ begin set is.
    let behind = g.H.Halt.behind c.args.halt in
    let ahead = g.H.Halt.ahead c.args.halt in
    let old = c.args.self.now in
    let new = c.go_by.new.self.machine in
    let end-is : c.min-end.result ≡ min (old.machine.tick + c.args.n) tick_limit = omega (arith, c.min-end.ensures, c.saturating_add.ensures, c.now.ensures.value, c.now.ensures.limit) in
    let by = c.in_default-go_by.ensures in
    let search = by.seeks begin set old.machine.tick c.args.n end-is (searches-first behind ahead begin set _ old c.go_on_once.new.self c.in_default.ensures.goes is) in
    subst (λ sought. SeeksOrPauses (g.P.Pace.has_paused c.go_by.new.pace) (met_at behind ahead begin set) old.machine.tick c.args.n sought new.tick) (sym c.end_of.ensures)
    (ends-there _ (met_at behind ahead begin set) old.machine.tick c.args.n c.min-end.result new.tick _ search.later by.end by.within end-is search.here search.none)

pub returns-clause-moves : goal.returns-clause-moves
returns-clause-moves g c =
    let old = c.args.self.now in
    let new = c.go_by.new.self.machine in
    let end-is : c.min-end.result ≡ min (old.machine.tick + c.args.n) tick_limit = omega (arith, c.min-end.ensures, c.saturating_add.ensures, c.now.ensures.value, c.now.ensures.limit) in
    let by = c.in_default-go_by.ensures in
    let one = c.in_default.ensures.goes in
    let later = by.moves old.machine.tick c.args.n end-is (omega (arith, one.goes.end, one.goes.some)) in
    subst (λ sought. Moves old.machine.tick c.args.n sought new.tick) (sym c.end_of.ensures)
    (moves-there old.machine.tick c.args.n c.min-end.result new.tick _ later by.end by.within end-is)

pub returns-clause-reached : goal.returns-clause-reached
returns-clause-reached g c = λ first at. c.in_default-go_by.ensures.reached first (c.go_on_once.ensures.reached first at)

pub returns-in-Some-clause-stands : goal.returns-in-Some-clause-stands
returns-in-Some-clause-stands g c = λ begin set is. goes-at (g.H.Halt.behind c.args.halt) _ begin set c.args.self.now c.go_on_once.new.self _ c.go_on_once.ensures.goes is

pub returns-in-Some-go_by-clause-stands : goal.returns-in-Some-go_by-clause-stands
returns-in-Some-go_by-clause-stands g c = λ begin set is.
    c.in-Some-go_by.ensures.stands begin set (goes-at (g.H.Halt.behind c.args.halt) _ begin set c.args.self.now c.go_on_once.new.self _ c.go_on_once.ensures.goes is)

pub returns-clause-stands : goal.returns-clause-stands
returns-clause-stands g c = λ begin set is.
    c.in_default-go_by.ensures.stands begin set (goes-at (g.H.Halt.behind c.args.halt) _ begin set c.args.self.now c.go_on_once.new.self _ c.go_on_once.ensures.goes is)
