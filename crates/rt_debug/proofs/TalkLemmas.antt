-- What every command keeps, and so every session.
use Rattle.std.proofs.Common.{◌≡◌, ℕ, Bool, List, [], ◌∷◌, Result, Ok, Err, sym, ap, subst, ◌∙◌}
use Rattle.rt_image.specs.SystemFile.{TaskSet}
use Rattle.rt_history.specs.MachineState.{MachineState}
use Rattle.rt_history.specs.Legal.{state_at}
use Rattle.rt_command.specs.declared.command.Command.{Command}
use Rattle.rt_command.specs.declared.command.Command.TheVariants as commands
use Rattle.rt_command.specs.declared.refusal.Refusal.{Refusal}
use Rattle.rt_command.specs.declared.refusal.Refusal.TheVariants.{NoMemory, UnknownCommand, UnknownTask, UnknownSymbol, BadAddress, BeforeStart, NoSuchStop, TooManyStops}
use Rattle.rt_debug.specs.declared.reply.reply.Reply.{Reply}
use Rattle.rt_walk.specs.Position.{PositionState, WalkState, IsReached}
use Rattle.rt_walk.specs.Jobs.{first_jobs}
use Rattle.rt_walk.specs.Walking.{IsWalk, Backs}
use Rattle.rt_debug.specs.Stopping.{Stopping, no_stopping}
use Rattle.rt_debug.specs.Session.{Executes}
use Rattle.rt_debug.specs.Talk.{Act, Obey, Add, Acts, Talks, fresh, IsFaithful}
use Rattle.rt_walk.proofs.GoingLemmas.{begins}

-- the first place stays, and what is shown is reached from there
abbrev Keeps : WalkState → WalkState → Type 0
Keeps old new = (new.first ≡ old.first) × IsReached new.first new.shown

stays : (old new : WalkState) → IsReached old.first old.shown → new ≡ old → Keeps old new
stays old new reached is = (ap (λ (w : WalkState). w.first) is, subst (λ (w : WalkState). IsReached w.first w.shown) (sym is) reached)

walks : (old new : WalkState) → IsWalk old new → Keeps old new
walks old new walk = (walk.first, walk.reached)

backs : (old new : WalkState) (n : ℕ) (result : Result Reply Refusal) → IsReached old.first old.shown → Backs old n result new → Keeps old new
backs old new n (Ok reply) reached back = walks old new back.walk
backs old new n (Err NoMemory) reached back = stays old new reached back.1
backs old new n (Err BeforeStart) reached back = stays old new reached back.1
backs old new n (Err UnknownCommand) reached back = absurd back
backs old new n (Err UnknownTask) reached back = absurd back
backs old new n (Err UnknownSymbol) reached back = absurd back
backs old new n (Err BadAddress) reached back = absurd back
backs old new n (Err NoSuchStop) reached back = absurd back
backs old new n (Err TooManyStops) reached back = absurd back

module _ {B : Type 0} (meets : B → ℕ → ℕ → Bool) (set : TaskSet) where
  executes : (old new : WalkState) (stops later : Stopping B) (command : Command) (result : Result Reply Refusal) → IsReached old.first old.shown
      → Executes meets set old stops command result new later → Keeps old new
  executes old new stops later (commands.Step n) result reached did = walks old new did.0.walk
  executes old new stops later (commands.Back n) result reached did = backs old new n result reached did.0
  executes old new stops later (commands.Continue n) result reached did = walks old new did.1.walk
  executes old new stops later commands.Shown result reached did = stays old new reached did.0
  executes old new stops later (commands.Regs i) result reached did = stays old new reached did.0
  executes old new stops later (commands.Server i) result reached did = stays old new reached did.0
  executes old new stops later (commands.Mem i a n) result reached did = stays old new reached did.0
  executes old new stops later (commands.List i a n) result reached did = stays old new reached did.0
  executes old new stops later (commands.Out i) result reached did = stays old new reached did.0
  executes old new stops later (commands.Trace n) result reached did = stays old new reached did.0
  executes old new stops later (commands.Break i place) result reached did = stays old new reached did.0
  executes old new stops later (commands.Delete k) result reached did = stays old new reached did.0
  executes old new stops later (commands.Events event whose is_asked) result reached did = stays old new reached did.0
  executes old new stops later commands.Quit result reached did = stays old new reached did.0

  acts_keep : (old new : WalkState) (stops later : Stopping B) (act : Act B) → IsReached old.first old.shown → Acts meets set old stops act new later → Keeps old new
  acts_keep old new stops later (Obey command) reached did = executes old new stops later command did.0 reached did.1
  acts_keep old new stops later (Add stop) reached did = stays old new reached did.2

  talks_keep : (old new : WalkState) (stops later : Stopping B) (acts : List (Act B)) → IsReached old.first old.shown → Talks meets set old stops acts new later → Keeps old new
  talks_keep old new stops later [] reached talk = stays old new reached talk.0
  talks_keep old new stops later (act ∷ acts) reached talk =
      let one = acts_keep old talk.0 stops talk.1 act reached talk.2 in
      let others = talks_keep talk.0 new talk.1 later acts one.1 talk.3 in
      (others.0 ∙ one.0, others.1)

  pub faithful : (machine : MachineState) (acts : List (Act B)) (new : WalkState) (later : Stopping B) → machine ≡ state_at set machine.tick
      → Talks meets set (fresh machine) no_stopping acts new later → IsFaithful set machine new.shown
  faithful machine acts new later is talk =
      let kept = talks_keep (fresh machine) new no_stopping later acts (begins machine (first_jobs machine)) talk in
      let reached = subst (λ (p : PositionState). IsReached p new.shown) kept.0 kept.1 in
      record { later = reached.later; stands = reached.stands set is; kept = reached.kept set is }
