use Rattle.rt_history.proofs.Common.{◌≡◌, ◌∙◌, sym, ap, Option, Some, None, Entry}
use Rattle.circular_buffer.specs.Buffer.{last_item}
use Rattle.rt_history.specs.ring.Pushed.{joined_to}
use Rattle.rt_history.proofs.ring.PushedLemmas.{pushed-joined, pushed-apart, held-with-room}
use Rattle.rt_history.proofs.ring.ring.Ring.push_any.Goals as goal

pub returns-in-Some-clause-exact : goal.returns-in-Some-clause-exact
returns-in-Some-clause-exact c =
    let items = c.self.inside.entries.items in
    let found : joined_to (last_item items) c.args.entry.now ≡ Some c.in-Some.stretch =
    ap (λ (o : Option Entry). joined_to o c.args.entry.now) (sym c.back.ensures) ∙ sym c.joined_to.ensures ∙ c.in-Some.is in
    rw (rw c.pop_back.ensures.items at c.push_back.ensures.items)
    (held-with-room c.self.inside.capacity c.self.inside.entries.capacity items _ c.args.entry.now c.args.self.now c.self.invariant.0 c.self.invariant.1
    c.self.view_is (pushed-joined items c.args.entry.now c.in-Some.stretch found))

pub returns-in-None-clause-exact : goal.returns-in-None-clause-exact
returns-in-None-clause-exact c =
    let items = c.self.inside.entries.items in
    let found : joined_to (last_item items) c.args.entry.now ≡ None =
    ap (λ (o : Option Entry). joined_to o c.args.entry.now) (sym c.back.ensures) ∙ sym c.joined_to.ensures ∙ c.in-None.is in
    rw c.push_back-in-None.ensures.items
    (held-with-room c.self.inside.capacity c.self.inside.entries.capacity items _ c.args.entry.now c.args.self.now c.self.invariant.0 c.self.invariant.1
    c.self.view_is (pushed-apart items c.args.entry.now found))
