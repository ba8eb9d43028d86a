use Rattle.rt_dialogue.proofs.Common.{ℕ, Option, Some, sym, ap, subst, ◌∙◌, rules, IsNextByte}
use Rattle.rt_dialogue.proofs.KeptLemmas.{none_read, ends_with_input, goes_on, ends_here}
use Rattle.rt_dialogue.proofs.line.keep_line.Goals as goal

pub loop-init : goal.loop-init
loop-init g c = λ bytes unread. (bytes, unread, none_read bytes _ (search rules))

pub returns-in-None-clause-kept : goal.returns-in-None-clause-kept
returns-in-None-clause-kept g c = λ bytes unread.
    let (left, here, so_far) = c.loop.invariant bytes unread in
    let none = subst (λ (b : Option ℕ). IsNextByte left b (g.I.Read.remaining c.next_byte.new.input)) c.in-None.is (c.in_ok-byte.ensures.byte left here) in
    let line = ends_with_input bytes c.loop.line.items left none.0 so_far in
    (line.0, none.1 ∙ ap Some (sym line.1))

pub returns-then-byte-eq10-clause-kept : goal.returns-then-byte-eq10-clause-kept
returns-then-byte-eq10-clause-kept g c = λ bytes unread.
    let (left, here, so_far) = c.loop.invariant bytes unread in
    let next = subst (λ (b : Option ℕ). IsNextByte left b (g.I.Read.remaining c.next_byte.new.input)) c.in-Some.is (c.in_ok-byte.ensures.byte left here) in
    let line = ends_here bytes c.loop.line.items left next.0 c.keep.new.line.items c.in-Some.byte next.1 c.keep.ensures c.if-byte-eq10.true so_far in
    (line.0, next.2 ∙ ap Some (sym line.1))

pub loop-preserved : goal.loop-preserved
loop-preserved g c = λ bytes unread.
    let (left, here, so_far) = c.loop.invariant bytes unread in
    let next = subst (λ (b : Option ℕ). IsNextByte left b (g.I.Read.remaining c.next_byte.new.input)) c.in-Some.is (c.in_ok-byte.ensures.byte left here) in
    (next.0, next.2, goes_on bytes c.loop.line.items left next.0 c.keep.new.line.items c.in-Some.byte next.1 c.keep.ensures c.if-byte-eq10.false so_far)
