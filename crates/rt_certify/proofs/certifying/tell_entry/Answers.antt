use Rattle.rt_certify.proofs.Common.{◌≡◌, ◌+◌, ap, subst, ◌∙◌, length, arith, origin}
use Rattle.rt_history.specs.declared.record.Entry.{Entry}
use Rattle.rt_history.specs.declared.record.Entry.TheVariants.{Busy, Idle}
use Rattle.rt_history.specs.Entries.{ticks_of, IsEntryOf, GoesOnBy}
use Rattle.rt_certify.proofs.Answered.{ok_map, err_map}
use Rattle.rt_certify.proofs.Along.{program_at, attempts_at, entry-added, stands-added, stands-idle}
use Rattle.rt_certify.proofs.certifying.tell_entry.Goals as goal

pub returns-in-Busy-clause-stands : goal.returns-in-Busy-clause-stands
returns-in-Busy-clause-stands g c =
    ok_map c.add.result _ _
    (λ step set s stands only st.
    let t = c.args.machine.now.tick in
    let goes : GoesOnBy set t (Busy c.in-Busy.t c.in-Busy.rec) = subst (GoesOnBy set t) c.in-Busy.is (c.in-Some.ensures.legal set t stands).history in
    let task : IsEntryOf (length c.args.machine.now.tasks) (Busy c.in-Busy.t c.in-Busy.rec) =
    subst (IsEntryOf (length c.args.machine.now.tasks)) c.in-Busy.is c.in-Some.ensures.task in
    let at : c.advance.new.self.tick ≡ t + 1 = c.in-Some.ensures.goes.end ∙ ap (λ (e : Entry). t + ticks_of e) c.in-Busy.is in
    stands-added set t c.advance.new.self.tick s c.in-Busy.rec c.args.trial.now.limits c.args.trial.now c.add.new.self at
    (entry-added set t c.in-Busy.t s c.in-Busy.rec only (omega (arith, task, c.requires.one)) goes) step st)
    c.add.ensures.stands

pub returns-in-Busy-clause-stops : goal.returns-in-Busy-clause-stops
returns-in-Busy-clause-stops g c =
    err_map c.add.result _ _
    (λ stop told set s stands only st.
    let t = c.args.machine.now.tick in
    let goes : GoesOnBy set t (Busy c.in-Busy.t c.in-Busy.rec) = subst (GoesOnBy set t) c.in-Busy.is (c.in-Some.ensures.legal set t stands).history in
    let task : IsEntryOf (length c.args.machine.now.tasks) (Busy c.in-Busy.t c.in-Busy.rec) =
    subst (IsEntryOf (length c.args.machine.now.tasks)) c.in-Busy.is c.in-Some.ensures.task in
    let added = entry-added set t c.in-Busy.t s c.in-Busy.rec only (omega (arith, task, c.requires.one)) goes in
    (attempts_at set t, told (origin s) s.start (attempts_at set t) (program_at set t s) (program_at set (t + 1) s) st added.told added.pc))
    c.add.ensures.stops

pub returns-in-Idle-clause-stands : goal.returns-in-Idle-clause-stands
returns-in-Idle-clause-stands g c = λ set s stands only st.
    let t = c.args.machine.now.tick in
    let goes : GoesOnBy set t (Idle c.in-Idle.t c.in-Idle.n) = subst (GoesOnBy set t) c.in-Idle.is (c.in-Some.ensures.legal set t stands).history in
    let at : c.advance.new.self.tick ≡ t + c.in-Idle.n = c.in-Some.ensures.goes.end ∙ ap (λ (e : Entry). t + ticks_of e) c.in-Idle.is in
    stands-idle set t c.advance.new.self.tick c.in-Idle.t c.in-Idle.n s c.args.trial.now.limits c.args.trial.now at goes st
