use Rattle.rt_dialogue.proofs.Common.{◌++◌, ℕ, List, [], Some, Ok, Err, sym, ap, subst, ◌∙◌, refl, append-nil, true≢false, err_from_is_err_and, Flushes, TaskSet, task_set, IsNext, SaysOn}
use Rattle.std.specs.Io.BufRead.{drop_through}
use Rattle.rt_debug.specs.Stopping.{stopping}
use Rattle.rt_debug.specs.Answer.{answer_text}
use Rattle.rt_dialogue.proofs.FaultLemmas.{by_device}
use Rattle.rt_dialogue.proofs.ConversationLemmas.{responds_failing, responds_without_input, responds_unless_last}
use Rattle.rt_dialogue.proofs.LineLemmas.{none_there, says_more, says_last, says_first, answer_spoken, is_last, is_not_last}
use Rattle.rt_dialogue.proofs.talk.SessionTournamentPredecodedResponder.respond.Goals as goal

pub returns-in_err-read_line-clause-responds : goal.returns-in_err-read_line-clause-responds
returns-in_err-read_line-clause-responds g c = λ bytes text unread said.
    responds_without_input g.S.Sink.seen (SaysOn (task_set c.args.self.now.system.now) c.args.self.now.walk (stopping c.args.self.now.stops.slots.items c.args.self.now.events) bytes) text _ _ (SaysOn (task_set c.args.self.now.system.now) c.args.self.now.walk (stopping c.args.self.now.stops.slots.items c.args.self.now.events)) _ _ (err_from_is_err_and c.from_residual.result c.from_residual.ensures.1) c.in_err-read_line.ensures.fault said
    (λ places are. (0, (refl, λ all. absurd (true≢false (sym all)))))

pub returns-then-not-branch-clause-responds : goal.returns-then-not-branch-clause-responds
returns-then-not-branch-clause-responds g c = λ bytes text unread said. (
  [],
  λ places are. (0, (refl, λ _. none_there _ c.if-not-branch.true bytes (c.in_ok-read_line.ensures.line bytes unread).0.there)),
  said.arrived ∙ ap Some (sym (append-nil text)),
)

pub returns-in_err-flush-clause-responds : goal.returns-in_err-flush-clause-responds
returns-in_err-flush-clause-responds g c = λ bytes text unread said.
    let (answer, obeys, tells) = c.run_line-ran.ensures.runs in
    let next = subst (λ (l : List ℕ). IsNext bytes l c.in_ok-read_line.field-0) (sym c.deref.ensures.0) (c.in_ok-read_line.ensures.line bytes unread).0 in
    let flushed : Flushes {X = Unit {0}} g.S.Sink.seen c.run_line-ran.new.sink (Err c.in_err-flush.field-0.0) c.flush.new.self = c.in_err-flush.ensures.steps in
    responds_failing g.S.Sink.seen (SaysOn (task_set c.args.self.now.system.now) c.args.self.now.walk (stopping c.args.self.now.stops.slots.items c.args.self.now.events) bytes) text _ c.flush.new.self (SaysOn (task_set c.run_line-ran.new.self.system.now) c.run_line-ran.new.self.walk (stopping c.run_line-ran.new.self.stops.slots.items c.run_line-ran.new.self.events)) _ _ (err_from_is_err_and c.from_residual-in_err-flush.result c.from_residual-in_err-flush.ensures.1) (answer_text answer) (says_first _ (task_set c.args.self.now.system.now) _ _ _ _ _ _ _ bytes next c.if-not-branch.false obeys)
    (by_device g.S.Sink.seen (text ++ answer_text answer) c.in_err-flush.field-0.0 c.flush.new.self
    (answer_spoken g.S.Sink.seen _ _ c.flush.new.self answer text c.run_line-ran.result (Err c.in_err-flush.field-0.0) said tells flushed))

pub returns-clause-responds : goal.returns-clause-responds
returns-clause-responds g c = λ bytes text unread said.
    let (answer, obeys, tells) = c.run_line-ran.ensures.runs in
    let (next, behind) = c.in_ok-read_line.ensures.line bytes unread in
    let next = subst (λ (l : List ℕ). IsNext bytes l c.in_ok-read_line.field-0) (sym c.deref.ensures.0) next in
    let flushed : Flushes g.S.Sink.seen c.run_line-ran.new.sink (Ok c.in_ok-flush.field-0) c.flush.new.self = c.in_ok-flush.ensures.steps in
    let spoken = answer_spoken g.S.Sink.seen _ _ c.flush.new.self answer text c.run_line-ran.result (Ok c.in_ok-flush.field-0) said tells flushed in
    responds_unless_last g.S.Sink.seen (SaysOn (task_set c.args.self.now.system.now) c.args.self.now.walk (stopping c.args.self.now.stops.slots.items c.args.self.now.events) bytes) text _ c.flush.new.self
    (SaysOn (task_set c.run_line-ran.new.self.system.now) c.run_line-ran.new.self.walk (stopping c.run_line-ran.new.self.stops.slots.items c.run_line-ran.new.self.events)) c.is_end.result
    (λ goes. record {
      left = drop_through 10 bytes;
      more = answer_text answer;
      unread = behind;
      said = spoken;
      leads = λ rest is_all says. says_more _ (task_set c.args.self.now.system.now) _ _ _ _ _ _ _ bytes next c.if-not-branch.false obeys
          (is_not_last g.S.Sink.seen _ _ _ answer c.run_line-ran.result c.in_ok-flush.field-0 tells flushed (λ end. true≢false (sym (c.is_end.ensures.0 end) ∙ goes))) rest is_all
          (subst (λ (set : TaskSet). SaysOn set c.run_line-ran.new.self.walk (stopping c.run_line-ran.new.self.stops.slots.items c.run_line-ran.new.self.events) (drop_through 10 bytes) rest is_all) (ap task_set c.run_line-ran.ensures.system) says);
    })
    (λ ends. (answer_text answer, says_last _ (task_set c.args.self.now.system.now) _ _ _ _ _ _ _ bytes next c.if-not-branch.false obeys (is_last g.S.Sink.seen _ _ c.flush.new.self answer c.run_line-ran.result tells (c.is_end.ensures.1 ends)), spoken.arrived))
