use Rattle.rt_dialogue.proofs.Common.{◌∙◌, List, [], None, ap, subst, inr, said_nothing, Ends, DialogueState, RepliesFrom}
use Rattle.rt_packet.specs.Frame.{Outside}
use Rattle.rt_opening.proofs.SystemLemmas.{sizes_fit}
use Rattle.rt_dialogue.proofs.OpenLemmas.{refused, not_loaded, opened}
use Rattle.rt_image.specs.SystemFile.{set_tasks}
use Rattle.rt_image.specs.declared.system.Task.{Task}
use Rattle.rt_names.specs.TaskNames.{names_from}
use Rattle.rt_remote.specs.Remote.{RemoteState, opening}
use Rattle.rt_dialogue.specs.remote.Dialogue.{Replies}
use Rattle.rt_dialogue.proofs.remote.serving.serve.Goals as goal

pub returns-in-Err-clause-session : goal.returns-in-Err-clause-session
returns-in-Err-clause-session g c = λ read unread none.
    refused g.S.Sink.seen (λ set machine. Replies set machine read) _ _ _ _ _ c.in-Err.ensures.exact c.from.ensures (said_nothing g.S.Sink.seen c.args.out.now none).arrived

pub load_under-requires : goal.load_under-requires
load_under-requires g c = sizes_fit c.in-Ok.system.version c.in-Ok.system.tasks.items c.in-Ok.ensures.found.0.tasks_fit

pub returns-in-Err-load_under-clause-session : goal.returns-in-Err-load_under-clause-session
returns-in-Err-load_under-clause-session g c = λ read unread none.
    not_loaded g.S.Sink.seen (λ set machine. Replies set machine read) _ _ _ _ _ _ (record { valid = c.in-Ok.ensures.found.0; bytes = c.in-Ok.ensures.found.1 }) c.in-Err-load_under.ensures c.from-in-Err-load_under.ensures
    (said_nothing g.S.Sink.seen c.args.out.now none).arrived

pub returns-in-Err-new-clause-session : goal.returns-in-Err-new-clause-session
returns-in-Err-new-clause-session g c = λ read unread none. inr (said_nothing g.S.Sink.seen c.args.out.now none).arrived

pub returns-clause-session : goal.returns-clause-session
returns-clause-session g c = λ read unread none.
    let named = ap (λ (ts : List Task). opening (names_from 0 (set_tasks ts)) c.in-Ok-load_under.machine) c.deref.ensures.value in
    let begun = c.new-2.ensures ∙ ap (λ (s : RemoteState). record { frame = Outside []; last = None; session = s }) (c.in-Ok-new.ensures.made ∙ named) in
    opened g.S.Sink.seen (λ set machine. Replies set machine read) _ _ _ _ c.in-Ok-load_under.machine _ (record { valid = c.in-Ok.ensures.found.0; bytes = c.in-Ok.ensures.found.1 }) c.in-Ok-load_under.ensures.0 c.in-Ok-load_under.ensures.1
    (subst (λ (now : DialogueState). Ends g.S.Sink.seen (RepliesFrom now read) c.converse.result c.converse.new.out.inner) begun (c.converse.ensures.session read unread none))
