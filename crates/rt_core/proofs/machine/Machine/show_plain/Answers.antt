use Rattle.rt_core.proofs.Common.{◌≤◌, ◌*◌, arith, safe_at}
use Rattle.rt_core.proofs.PlainLemmas.{stands-still, tells-plainly, shows-plainly, goes-plainly, runs-tick, runs-keep, runs-say}
use Rattle.rt_core.proofs.machine.Machine.show_plain.Goals as goal

pub returns-in_default-clause-legal : goal.returns-in_default-clause-legal
returns-in_default-clause-legal g c = λ set t is.
    let says = g.W.Watcher.says in
    let said = g.W.Watcher.said c.args.watcher.now in
    let old = c.args.self.now in
    goes-plainly says set t c.new.result said said old old
    (tells-plainly says 0 0 c.new.result said said old old c.new.ensures.task c.new.ensures.count (stands-still says 0 said old)) is

pub returns-in_default-clause-said : goal.returns-in_default-clause-said
returns-in_default-clause-said g c = λ set t is.
    let says = g.W.Watcher.says in
    let said = g.W.Watcher.said c.args.watcher.now in
    let old = c.args.self.now in
    runs-say says set t c.new.result.task c.new.result.count said said old old
    (tells-plainly says 0 0 c.new.result said said old old c.new.ensures.task c.new.ensures.count (stands-still says 0 said old)) is

pub returns-in_default-clause-safe : goal.returns-in_default-clause-safe
returns-in_default-clause-safe g c = λ set t ok stands. safe_at set t c.args.self.now ok stands

pub go_named-count-requires-clause-room : goal.go_named-count-requires-clause-room
go_named-count-requires-clause-room g c =
    let more : g.W.Watcher.width * c.turn_of-turn.result ≤ g.W.Watcher.width * c.begin_plain-most.result = grind (arith, c.turn_of-turn.ensures.within) in
    omega (arith, more, c.begin_plain-most.ensures.room)

pub returns-clause-clock : goal.returns-clause-clock
returns-clause-clock g c =
    let says = g.W.Watcher.says in
    let ticks = c.new-2.result in
    let before = g.W.Watcher.said c.args.watcher.now in
    let after = g.W.Watcher.said c.go_named-count.new.watcher in
    let old = c.args.self.now in
    let new = c.go_named-count.new.self in
    let runs = shows-plainly says c.in-Some.least.1 c.go_named-count.result ticks (g.W.Watcher.said c.begin_plain-most.new.watcher) before after old new
    c.new-2.ensures.task c.new-2.ensures.count c.begin_plain-most.ensures.same c.go_named-count.ensures.runs in
    runs-tick says ticks.task ticks.count before after old new runs

pub returns-clause-keeps : goal.returns-clause-keeps
returns-clause-keeps g c =
    let says = g.W.Watcher.says in
    let ticks = c.new-2.result in
    let before = g.W.Watcher.said c.args.watcher.now in
    let after = g.W.Watcher.said c.go_named-count.new.watcher in
    let old = c.args.self.now in
    let new = c.go_named-count.new.self in
    let runs = shows-plainly says c.in-Some.least.1 c.go_named-count.result ticks (g.W.Watcher.said c.begin_plain-most.new.watcher) before after old new
    c.new-2.ensures.task c.new-2.ensures.count c.begin_plain-most.ensures.same c.go_named-count.ensures.runs in
    runs-keep says ticks.task ticks.count before after old new runs

pub returns-clause-legal : goal.returns-clause-legal
returns-clause-legal g c = λ set t is.
    let says = g.W.Watcher.says in
    let ticks = c.new-2.result in
    let before = g.W.Watcher.said c.args.watcher.now in
    let after = g.W.Watcher.said c.go_named-count.new.watcher in
    let old = c.args.self.now in
    let new = c.go_named-count.new.self in
    let runs = shows-plainly says c.in-Some.least.1 c.go_named-count.result ticks (g.W.Watcher.said c.begin_plain-most.new.watcher) before after old new
    c.new-2.ensures.task c.new-2.ensures.count c.begin_plain-most.ensures.same c.go_named-count.ensures.runs in
    goes-plainly says set t ticks before after old new runs is

pub returns-clause-said : goal.returns-clause-said
returns-clause-said g c = λ set t is.
    let says = g.W.Watcher.says in
    let ticks = c.new-2.result in
    let before = g.W.Watcher.said c.args.watcher.now in
    let after = g.W.Watcher.said c.go_named-count.new.watcher in
    let old = c.args.self.now in
    let new = c.go_named-count.new.self in
    let runs = shows-plainly says c.in-Some.least.1 c.go_named-count.result ticks (g.W.Watcher.said c.begin_plain-most.new.watcher) before after old new
    c.new-2.ensures.task c.new-2.ensures.count c.begin_plain-most.ensures.same c.go_named-count.ensures.runs in
    runs-say says set t ticks.task ticks.count before after old new runs is

pub returns-clause-safe : goal.returns-clause-safe
returns-clause-safe g c = λ set t ok stands.
    let says = g.W.Watcher.says in
    let ticks = c.new-2.result in
    let before = g.W.Watcher.said c.args.watcher.now in
    let after = g.W.Watcher.said c.go_named-count.new.watcher in
    let old = c.args.self.now in
    let new = c.go_named-count.new.self in
    let runs = shows-plainly says c.in-Some.least.1 c.go_named-count.result ticks (g.W.Watcher.said c.begin_plain-most.new.watcher) before after old new
    c.new-2.ensures.task c.new-2.ensures.count c.begin_plain-most.ensures.same c.go_named-count.ensures.runs in
    safe_at set _ new ok (goes-plainly says set t ticks before after old new runs stands).stands
