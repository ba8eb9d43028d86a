use Rattle.std.proofs.Common.{◌≡◌, Result, Ok, List, ℕ, sym, ◌∙◌}
use Rattle.rt_image.specs.SystemFile.{set_tasks, task_set}
use Rattle.rt_command.specs.declared.refusal.Refusal.{Refusal}
use Rattle.rt_debug.specs.reply.ShownText.{shown_text}
use Rattle.rt_debug.specs.declared.reply.reply.Reply.TheVariants.{Text}
use Rattle.rt_debug.specs.Stopping.{stopping}
use Rattle.rt_debug.specs.Looking.{looked}
use Rattle.rt_debug.proofs.AnswerLemmas.{lines_shown}
use Rattle.rt_debug.proofs.session.Session.exec.Goals as goal

pub returns-then-shows-clause-executes : goal.returns-then-shows-clause-executes
returns-then-shows-clause-executes g c =
    let walk = c.args.self.now.walk in
    let lines = shown_text c.in_ok-shown.shown in
    let looks : ◌≡◌ {A = Result (List ℕ) Refusal} (Ok lines) (looked (set_tasks c.args.self.now.system.now.tasks.items) walk.shown.machine walk.shown.ring.items c.args.command) =
    rw (sym c.deref.ensures.value, sym c.shown.ensures, sym c.ring.ensures) c.in_ok-shown.ensures.text in
    (Ok (Text lines), lines_shown _ (task_set c.args.self.now.system.now) walk (stopping c.args.self.now.stops.slots.items c.args.self.now.events) c.args.command lines (sym c.shows.ensures ∙ c.if-shows.true) looks, c.gathered.ensures)
