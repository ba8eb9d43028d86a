use Rattle.rt_dialogue.proofs.Common.{inr, ap, subst, said_nothing, TaskSet, task_set, SaysOn}
use Rattle.rt_opening.proofs.SystemLemmas.{sizes_fit}
use Rattle.rt_debug.specs.Stopping.{stopping}
use Rattle.rt_dialogue.specs.Dialogue.{Replies}
use Rattle.rt_dialogue.proofs.ConversationLemmas.{ends_as}
use Rattle.rt_dialogue.proofs.LineLemmas.{says_from_begin}
use Rattle.rt_dialogue.proofs.OpenLemmas.{refused, not_loaded, opened}
use Rattle.rt_dialogue.proofs.talk.debug.Goals as goal

pub returns-in-Err-clause-session : goal.returns-in-Err-clause-session
returns-in-Err-clause-session g c = λ lines unread none. refused g.S.Sink.seen (λ set machine. Replies set machine lines) _ _ _ _ _ c.in-Err.ensures.exact c.from.ensures (said_nothing g.S.Sink.seen c.args.out.now none).arrived

pub load_under-requires : goal.load_under-requires
load_under-requires g c = sizes_fit c.in-Ok.system.version c.in-Ok.system.tasks.items c.in-Ok.ensures.found.0.tasks_fit

pub returns-in-Err-load_under-clause-session : goal.returns-in-Err-load_under-clause-session
returns-in-Err-load_under-clause-session g c = λ lines unread none.
    not_loaded g.S.Sink.seen (λ set machine. Replies set machine lines) _ _ _ _ _ _ (record { valid = c.in-Ok.ensures.found.0; bytes = c.in-Ok.ensures.found.1 }) c.in-Err-load_under.ensures c.from-in-Err-load_under.ensures
    (said_nothing g.S.Sink.seen c.args.out.now none).arrived

pub returns-in-Err-new-clause-session : goal.returns-in-Err-new-clause-session
returns-in-Err-new-clause-session g c = λ lines unread none. inr (said_nothing g.S.Sink.seen c.args.out.now none).arrived

pub returns-clause-session : goal.returns-clause-session
returns-clause-session g c = λ lines unread none.
    let session = c.in-Ok-new.session in
    let set = task_set c.in-Ok.system in
    opened g.S.Sink.seen (λ set machine. Replies set machine lines) _ _ _ _ c.in-Ok-load_under.machine _ (record { valid = c.in-Ok.ensures.found.0; bytes = c.in-Ok.ensures.found.1 }) c.in-Ok-load_under.ensures.0 c.in-Ok-load_under.ensures.1
    (ends_as g.S.Sink.seen (SaysOn (task_set session.system.now) session.walk (stopping session.stops.slots.items session.events) lines) (Replies set c.in-Ok-load_under.machine lines)
    (λ text is_all says. says_from_begin set c.in-Ok-load_under.machine session.walk session.stops.slots.items session.events lines c.in-Ok-new.ensures.first c.in-Ok-new.ensures.shown c.in-Ok-new.ensures.stops c.in-Ok-new.ensures.events text is_all
    (subst (λ (s : TaskSet). SaysOn s session.walk (stopping session.stops.slots.items session.events) lines text is_all) (ap task_set c.in-Ok-new.ensures.system) says))
    c.converse.result c.converse.new.out.inner (c.converse.ensures.session lines unread none))
