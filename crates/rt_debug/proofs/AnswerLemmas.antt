-- The answer to a command that shows.
use Rattle.std.proofs.Common.{◌≡◌, ℕ, Bool, true, List, Result, Ok, refl, ap}
use Rattle.rt_words.specs.Chain.{mapped}
use Rattle.rt_image.specs.SystemFile.{TaskSet}
use Rattle.rt_command.specs.declared.command.Command.{Command}
use Rattle.rt_command.specs.declared.command.Command.TheVariants as commands
use Rattle.rt_command.specs.declared.refusal.Refusal.{Refusal}
use Rattle.rt_debug.specs.declared.reply.reply.Reply.TheVariants as replies
use Rattle.rt_walk.specs.Position.{WalkState}
use Rattle.rt_debug.specs.Stopping.{Stopping}
use Rattle.rt_debug.specs.Looking.{shows, looked}
use Rattle.rt_debug.specs.Session.{Executes}

module _ {B : Type 0} (meets : B → ℕ → ℕ → Bool) (set : TaskSet) (old : WalkState) (stops : Stopping B) where
  -- the lines of what it shows
  pub lines_shown : (command : Command) (lines : List ℕ) → shows command ≡ true → ◌≡◌ {A = Result (List ℕ) Refusal} (Ok lines) (looked set.tasks old.shown.machine old.shown.ring.items command)
      → Executes meets set old stops command (Ok (replies.Text lines)) old stops
  lines_shown (commands.Regs i) lines is looks = (refl, refl, ap (mapped replies.Text) looks)
  lines_shown (commands.Server i) lines is looks = (refl, refl, ap (mapped replies.Text) looks)
  lines_shown (commands.Mem i a n) lines is looks = (refl, refl, ap (mapped replies.Text) looks)
  lines_shown (commands.List i a n) lines is looks = (refl, refl, ap (mapped replies.Text) looks)
  lines_shown (commands.Out i) lines is looks = (refl, refl, ap (mapped replies.Text) looks)
  lines_shown (commands.Trace n) lines is looks = (refl, refl, ap (mapped replies.Text) looks)
  lines_shown (commands.Step n) lines is looks = absurd cc
  lines_shown (commands.Back n) lines is looks = absurd cc
  lines_shown (commands.Continue n) lines is looks = absurd cc
  lines_shown commands.Shown lines is looks = absurd cc
  lines_shown (commands.Break i place) lines is looks = absurd cc
  lines_shown (commands.Delete k) lines is looks = absurd cc
  lines_shown (commands.Events event whose is_asked) lines is looks = absurd cc
  lines_shown commands.Quit lines is looks = absurd cc
