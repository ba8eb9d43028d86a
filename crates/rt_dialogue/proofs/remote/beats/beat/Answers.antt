use Rattle.rt_dialogue.proofs.Common.{◌++◌, ℕ, List, Option, subst, sym, ◌∙◌, refl, inl, err_from_is_err_and, HasSaid, SaysLess, IsNextByte, OneBeat}
use Rattle.rt_dialogue.proofs.remote.AskLemmas.{passed_on, never_ended, runs_at, first_in, ended, failing, answered, passed_failing, failing_at_once}
use Rattle.rt_dialogue.proofs.FaultLemmas.{no_device}
use Rattle.rt_dialogue.proofs.remote.beats.beat.Goals as goal

pub returns-in_err-say-clause-runs : goal.returns-in_err-say-clause-runs
returns-in_err-say-clause-runs g c = λ bytes text unread said.
    runs_at g.S.Sink.seen OneBeat bytes text _ _ _ _ (err_from_is_err_and c.from_residual.result c.from_residual.ensures.1)
    (failing_at_once g.S.Sink.seen bytes text _ c.say.new.out c.in_err-say.field-0.0 (subst (λ (l : List ℕ). SaysLess g.S.Sink.seen (text ++ l) c.in_err-say.field-0.0 c.say.new.out) c.beat_text.ensures (c.in_err-say.ensures.says text said)))

pub loop-init : goal.loop-init
loop-init g c = λ bytes text unread said. first_in g.S.Sink.seen bytes text _ _ unread said

pub returns-in_err-byte-clause-runs : goal.returns-in_err-byte-clause-runs
returns-in_err-byte-clause-runs g c = λ bytes text unread said.
    runs_at g.S.Sink.seen OneBeat bytes text _ _ _ _ (err_from_is_err_and c.from_residual-in_err-byte.result c.from_residual-in_err-byte.ensures.1)
    (failing g.S.Sink.seen bytes text _ _ (c.loop.invariant bytes _ unread (subst (λ (l : List ℕ). HasSaid g.S.Sink.seen (text ++ l) c.say.new.out) c.beat_text.ensures (c.in_ok-say.ensures.says text said))) _ _ c.in_err-byte.ensures.fault)

pub returns-in_err-byte-clause-fails : goal.returns-in_err-byte-clause-fails
returns-in_err-byte-clause-fails g c = λ fault is. no_device _ _ fault (err_from_is_err_and c.from_residual-in_err-byte.result c.from_residual-in_err-byte.ensures.1) c.in_err-byte.ensures.fault is

pub returns-in-None-clause-runs : goal.returns-in-None-clause-runs
returns-in-None-clause-runs g c = λ bytes text unread said.
    ended g.S.Sink.seen bytes text _ _ (c.loop.invariant bytes _ unread (subst (λ (l : List ℕ). HasSaid g.S.Sink.seen (text ++ l) c.say.new.out) c.beat_text.ensures (c.in_ok-say.ensures.says text said))) _
    (λ rest is. subst (λ (o : Option ℕ). IsNextByte rest o (g.I.Read.remaining c.next_byte.new.input)) c.in-None.is (c.in_ok-byte.ensures.byte rest is))

pub returns-in-Some-beaten_by-clause-runs : goal.returns-in-Some-beaten_by-clause-runs
returns-in-Some-beaten_by-clause-runs g c = λ bytes text unread said.
    let is = sym c.beaten_by.ensures ∙ c.in-Some-beaten_by.is in
    answered g.S.Sink.seen bytes text _ _ (c.loop.invariant bytes _ unread (subst (λ (l : List ℕ). HasSaid g.S.Sink.seen (text ++ l) c.say.new.out) c.beat_text.ensures (c.in_ok-say.ensures.says text said))) _ _
    (λ rest is. subst (λ (o : Option ℕ). IsNextByte rest o (g.I.Read.remaining c.next_byte.new.input)) c.in-Some.is (c.in_ok-byte.ensures.byte rest is)) c.in-Some-beaten_by.beaten is (never_ended c.in-Some.byte c.in-Some-beaten_by.beaten is)

pub returns-in_err-say-2-clause-runs : goal.returns-in_err-say-2-clause-runs
returns-in_err-say-2-clause-runs g c = λ bytes text unread said.
    let i = c.loop.invariant bytes _ unread (subst (λ (l : List ℕ). HasSaid g.S.Sink.seen (text ++ l) c.say.new.out) c.beat_text.ensures (c.in_ok-say.ensures.says text said)) in
    runs_at g.S.Sink.seen OneBeat bytes text _ _ _ _ (err_from_is_err_and c.from_residual-in_err-say-2.result c.from_residual-in_err-say-2.ensures.1)
    (passed_failing g.S.Sink.seen bytes text _ _ i _ _
    (λ rest is. subst (λ (o : Option ℕ). IsNextByte rest o (g.I.Read.remaining c.next_byte.new.input)) c.in-Some.is (c.in_ok-byte.ensures.byte rest is)) _ c.say-in-loop.new.out c.in_err-say-2.field-0.0 (sym c.beaten_by.ensures ∙ c.in_default.is) c.said_to.ensures
    (c.in_err-say-2.ensures.says _ i.said))

pub loop-preserved : goal.loop-preserved
loop-preserved g c = λ bytes text unread said.
    passed_on g.S.Sink.seen bytes text _ _ (c.loop.invariant bytes text unread said) _ _
    (λ rest is. subst (λ (o : Option ℕ). IsNextByte rest o (g.I.Read.remaining c.next_byte.new.input)) c.in-Some.is (c.in_ok-byte.ensures.byte rest is)) _ _ (sym c.beaten_by.ensures ∙ c.in_default.is) c.said_to.ensures
    (c.in_ok-say-2.ensures.says _ (c.loop.invariant bytes text unread said).said)

pub returns-clause-runs : goal.returns-clause-runs
returns-clause-runs g c = λ bytes text unread said.
    failing g.S.Sink.seen bytes text _ _ (c.loop.invariant bytes _ unread (subst (λ (l : List ℕ). HasSaid g.S.Sink.seen (text ++ l) c.say.new.out) c.beat_text.ensures (c.in_ok-say.ensures.says text said))) _ _ (inl refl)
