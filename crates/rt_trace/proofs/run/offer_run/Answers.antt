use Rattle.rt_trace.proofs.Common.{◌≡◌, ℕ, List, ◌∙◌, sym, true, legal, state_at, history_text}
use Rattle.std.proofs.Common.{false, true≢false, Result, Ok, Err, IfOk}
use Rattle.rt_sink.specs.Seen.{Seen}
use Rattle.rt_sink.specs.Sink.{Counts}
use Rattle.rt_sink.specs.declared.sink.DeviceFault.{DeviceFault}
use Rattle.rt_sink.proofs.Parts.{Offers-then, Offers-failed}
use Rattle.rt_trace.specs.RunText.{end_text}
use Rattle.rt_trace.proofs.run.offer_run.Goals as goal

-- what holds anyway holds where there is an answer
if_ok : {X : Type 0} (result : Result ℕ DeviceFault) → X → IfOk result (λ n. X)
if_ok (Ok n) x = x
if_ok (Err e) x = tt

-- a sink that has failed gives no answer
no_answer : {S : Type 0} (X : Type 0) (seen : S → Seen) (old : S) (text : List ℕ) (result : Result ℕ DeviceFault) (new : S) → (seen new).failed ≡ true → Counts seen old text result new → IfOk result (λ n. X)
no_answer X seen old text (Ok n) new shut counts = absurd (true≢false (sym shut ∙ counts.1.is_open))
no_answer X seen old text (Err e) new shut counts = tt

pub returns-then-has_failed-clause-counts : goal.returns-then-has_failed-clause-counts
returns-then-has_failed-clause-counts g c = λ set start.
    let seen = g.S.Sink.seen in
    let a = c.args.writer.now.sink.now in
    let b = c.offer_history.new.writer.sink.now in
    let k = c.offer_history.new.writer.written in
    let shut : (seen b).failed ≡ true = sym c.has_failed.ensures ∙ c.if-has_failed.true in
    let lines = rw c.requires.count at (c.offer_history.ensures.offers set start) in
    c.end.ensures a _ c.requires.is_open
    (Offers-failed seen 0 a (history_text (legal set c.args.n)) (end_text c.args.telling (state_at set c.args.n)) k b shut lines)

pub returns-clause-counts : goal.returns-clause-counts
returns-clause-counts g c = λ set start.
    let seen = g.S.Sink.seen in
    let a = c.args.writer.now.sink.now in
    let opened : (seen c.offer_history.new.writer.sink.now).failed ≡ false = sym c.has_failed.ensures ∙ c.if-has_failed.false in
    let stands = c.offer_history.ensures.stands set start opened in
    let lines = rw c.requires.count at (c.offer_history.ensures.offers set start) in
    let rest = rw stands at c.offer_to.ensures.offers in
    c.end-2.ensures a _ c.requires.is_open (Offers-then seen _ _ _ _ _ _ _ _ lines rest)

pub returns-then-has_failed-clause-stands : goal.returns-then-has_failed-clause-stands
returns-then-has_failed-clause-stands g c = λ set start.
    let shut : (g.S.Sink.seen c.offer_history.new.writer.sink.now).failed ≡ true = sym c.has_failed.ensures ∙ c.if-has_failed.true in
    no_answer _ g.S.Sink.seen _ _ _ _ shut (returns-then-has_failed-clause-counts g c set start)

pub returns-clause-stands : goal.returns-clause-stands
returns-clause-stands g c = λ set start.
    let opened : (g.S.Sink.seen c.offer_history.new.writer.sink.now).failed ≡ false = sym c.has_failed.ensures ∙ c.if-has_failed.false in
    if_ok _ (c.offer_history.ensures.stands set start opened)
