use Rattle.rt_history.proofs.Common.{◌≡◌, ◌∙◌, ap, Entry}
use Rattle.std.proofs.Common.{rules}
use Rattle.circular_buffer.specs.Buffer.{Buffer, buffer, keep_last}
use Rattle.rt_history.specs.ring.Pushed.{pushed}
use Rattle.rt_history.proofs.ring.PushedLemmas.{follows}
use Rattle.rt_history.proofs.ring.ring.Ring.push.Goals as goal

-- a ring that has taken an entry
abbrev Takes : Buffer Entry → Entry → Buffer Entry → Type 0
Takes old entry new = new ≡ buffer (keep_last old.capacity (pushed old.items entry)) old.capacity

pub returns-in-Next-clause-follows : goal.returns-in-Next-clause-follows
returns-in-Next-clause-follows c = λ u records is at ticks.
    let exact : Takes c.args.self.now c.args.entry c.push_next.new.self = search rules in
    ap (λ (b : Buffer Entry). b.items) exact ∙ follows c.args.self.now.capacity c.args.self.now.items c.args.entry u records c.push_next.ensures.some is at ticks

pub returns-in_default-clause-follows : goal.returns-in_default-clause-follows
returns-in_default-clause-follows c = λ u records is at ticks.
    let exact : Takes c.args.self.now c.args.entry c.push_other.new.self = search rules in
    ap (λ (b : Buffer Entry). b.items) exact ∙ follows c.args.self.now.capacity c.args.self.now.items c.args.entry u records c.push_other.ensures.some is at ticks

pub returns-in-Idle-clause-follows : goal.returns-in-Idle-clause-follows
returns-in-Idle-clause-follows c = λ u records is at ticks.
    ap (λ (b : Buffer Entry). b.items) c.push_other-in-Idle.ensures.exact ∙ follows c.args.self.now.capacity c.args.self.now.items c.args.entry u records c.push_other-in-Idle.ensures.some is at ticks
