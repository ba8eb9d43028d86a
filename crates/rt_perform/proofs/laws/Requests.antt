-- What is done of a request stays with a file that means the same.
use Rattle.rt_perform.proofs.Common.{◌≡◌, ℕ, Bool, true, false, List, Option, Some, None, Result, Ok, Err, ◌∙◌, inl, inr, Vec, Seen, Admission, TaskSet, set_of, Files, ProgramFault, Request, first_kind, Replies, Answers, Works}
use Rattle.rt_sink.specs.Buffered.{BufferedSink}
use Rattle.rt_history.specs.MachineState.{MachineState}
use Rattle.rt_text.specs.Text.{text_lines}
use Rattle.rt_names.specs.declared.task_word.TaskFault.{TaskFault}
use Rattle.rt_opening.specs.declared.fault.SimFault.{SimFault}
use Rattle.rt_opening.specs.declared.fault.SimFault.TheVariants as sims
use Rattle.rt_programs.specs.Asm.{AsmMeans}
use Rattle.rt_programs.specs.Convert.{ConvertMeans}
use Rattle.rt_programs.specs.Makes.{Makes}
use Rattle.rt_dialogue.specs.Conversed.{Comes}
use Rattle.rt_dialogue.specs.Dialogue.{Replies as Said}
use Rattle.rt_dialogue.specs.declared.fault.DebugFault.{DebugFault}
use Rattle.rt_dialogue.specs.declared.fault.DebugFault.TheVariants as debugs
use Rattle.rt_dialogue.specs.remote.Dialogue.{Replies as Answered}
use Rattle.rt_programs.specs.printing.Prints.{Prints}
use Rattle.rt_programs.specs.declared.printing.judging.Finding.{Finding}
use Rattle.rt_programs.specs.declared.printing.judging.Finding.TheVariants as finds
use Rattle.rt_perform.specs.declared.program.ProgramFault.TheVariants as faults
use Rattle.rt_perform.specs.declared.request.Request.TheVariants.{Print, Debug, Gdb, Asm, Elf, Image, Pack, Convert}
use Rattle.rt_perform.specs.Packed.{RefusesSet}
use Rattle.rt_perform.specs.Produced.{GivesUnnamed, RefusesUnnamed, Gives, Refuses}
use Rattle.rt_perform.specs.Performs.{PrintsText, Produces}
use Rattle.rt_perform.proofs.laws.Wholes.{Systems, Same}
use Rattle.rt_perform.proofs.laws.Texts.{stays, fails, misnames}
use Rattle.rt_perform.proofs.laws.Made.{of_image, of_elf, no_object, set_stays, set_refused}

-- ---- what is printed

prints : {S X : Type 0} (seen : S → Seen) (M N : List ℕ → Option SimFault → Type 0) → ((text : List ℕ) (fault : Option SimFault) → M text fault → N text fault)
    → (result : Result X SimFault) (sink : S) → Prints seen M result sink → Prints seen N result sink
prints seen M N same (Ok x) sink (text, means, is) = (text, same text None means, is)
prints seen M N same (Err (sims.Device fault)) sink (text, means, is) = (text, same text None means, is)
prints seen M N same (Err sims.Memory) sink is = is
prints seen M N same (Err fault) sink (text, means, is) = (text, same text (Some fault) means, is)

prints_text : {S : Type 0} (seen : S → Seen) (M N : List ℕ → Option SimFault → Type 0) (F G : Option Finding → Type 0) (D E : TaskFault → Type 0) → ((text : List ℕ) (fault : Option SimFault) → M text fault → N text fault)
    → ((found : Option Finding) → F found → G found) → ((fault : TaskFault) → D fault → E fault) → (less : ℕ) (result : Result ℕ ProgramFault) (sink : S) → PrintsText seen M F D less result sink → PrintsText seen N G E less result sink
prints_text seen M N F G D E same alike named less (Ok left_out) sink (is, none, found) = (prints {X = Unit {0}} seen M N same (Ok tt) sink is, none, alike None found)
prints_text seen M N F G D E same alike named less (Err (faults.Failed failure)) sink (is, found) = (prints {X = Unit {0}} seen M N same (Ok tt) sink is, alike (Some (finds.Failed failure)) found)
prints_text seen M N F G D E same alike named less (Err (faults.Uncertified task)) sink (is, found) = (prints {X = Unit {0}} seen M N same (Ok tt) sink is, alike (Some (finds.Uncertified task)) found)
prints_text seen M N F G D E same alike named less (Err (faults.NotNamed fault)) sink (silent, is) = (silent, named fault is)
prints_text seen M N F G D E same alike named less (Err (faults.Sim fault)) sink is = prints {X = Unit {0}} seen M N same (Err fault) sink is
prints_text seen M N F G D E same alike named less (Err fault) sink is = absurd is

-- ---- what a session says

module _ {S : Type 0} (seen : S → Seen) (a b : List ℕ) (like : Systems a b) (admission : Admission) where
  comes : (Says : TaskSet → MachineState → List ℕ → Bool → Type 0) (result : Result (Unit {0}) DebugFault) (sink : S) → Comes seen Says a admission result sink → Comes seen Says b admission result sink
  comes Says (Err (debugs.Sim (sims.Image fault))) sink is = (like.read ∙ is.0, is.1)
  comes Says (Err (debugs.Sim sims.Memory)) sink (inl opens) = absurd (like.none opens.0 opens.1)
  comes Says (Err (debugs.Sim sims.Memory)) sink (inr silent) = inr silent
  comes Says (Err (debugs.Sim (sims.Device fault))) sink opens = absurd (like.none opens.0 opens.1)
  comes Says (Err (debugs.Sim fault)) sink is = absurd (like.none is.0.0 is.0.1)
  comes Says result sink opens = absurd (like.none opens.0 opens.1)

  replies : (lines : List ℕ) (less : ℕ) (result : Result ℕ ProgramFault) (sink : S) → Replies seen a admission lines less result sink → Replies seen b admission lines less result sink
  replies lines less (Ok left_out) sink (is, none) = (comes (λ set machine. Said set machine lines) (Ok tt) sink is, none)
  replies lines less (Err (faults.Sim fault)) sink is = comes (λ set machine. Said set machine lines) (Err (debugs.Sim fault)) sink is
  replies lines less (Err faults.Input) sink is = comes (λ set machine. Said set machine lines) (Err debugs.Input) sink is
  replies lines less (Err fault) sink is = absurd is

  answers : (bytes : List ℕ) (less : ℕ) (result : Result ℕ ProgramFault) (sink : S) → Answers seen a admission bytes less result sink → Answers seen b admission bytes less result sink
  answers bytes less (Ok left_out) sink (is, none) = (comes (λ set machine. Answered set machine bytes) (Ok tt) sink is, none)
  answers bytes less (Err (faults.Sim fault)) sink is = comes (λ set machine. Answered set machine bytes) (Err (debugs.Sim fault)) sink is
  answers bytes less (Err faults.Input) sink is = comes (λ set machine. Answered set machine bytes) (Err debugs.Input) sink is
  answers bytes less (Err fault) sink is = absurd is

-- ---- what is made

assembles : (a b : List ℕ) → text_lines b ≡ text_lines a → (answer : Result (Vec ℕ) SimFault) → Makes (AsmMeans a) answer → Makes (AsmMeans b) answer
assembles a b like (Ok file) (lines, is, made) = (lines, like ∙ is, made)
assembles a b like (Err sims.Memory) means = tt
assembles a b like (Err (sims.Text fault)) refused = like ∙ refused
assembles a b like (Err (sims.Source fault)) (lines, is, refused) = (lines, like ∙ is, refused)
assembles a b like (Err fault) means = absurd means

converts : (a b : List ℕ) → Systems a b → (answer : Result (Vec ℕ) SimFault) → Makes (ConvertMeans a) answer → Makes (ConvertMeans b) answer
converts a b like (Ok file) means = absurd (like.none means.0 means.1)
converts a b like (Err sims.Memory) means = tt
converts a b like (Err (sims.Image fault)) refused = like.read ∙ refused
converts a b like (Err fault) means = absurd means

pub refuses_set : (a b : List ℕ) → set_of b ≡ set_of a → (files : Option Files) (made : Option (List ℕ)) (fault : ProgramFault) → RefusesSet files made a fault → RefusesSet files made b fault
refuses_set a b like files made (faults.Set fault) is = set_refused a b like fault is
refuses_set a b like files made (faults.Pack fault task) (set, tasks, is, read, packs) = (set, tasks, set_stays a b like set is, read, packs)
refuses_set a b like files made (faults.Elf fault task) (set, tasks, is, read, faulty) = (set, tasks, set_stays a b like set is, read, faulty)
refuses_set a b like files made fault is = (is.0, set_stays a b like is.0 is.1, is.2)

module _ (a b : List ℕ) (files : Option Files) (names : List ℕ) (less : ℕ) where
  gives_unnamed : (request : Request) → Same (first_kind request) a b → (file : Vec ℕ) (left_out : ℕ) → GivesUnnamed files request a names less file left_out → GivesUnnamed files request b names less file left_out
  gives_unnamed (Asm source object true name) like file left_out (makes, none) = (assembles a b like (Ok file) makes, none)
  gives_unnamed (Asm source object false name) like file left_out (makes, none) = (assembles a b like (Ok file) makes, none)
  gives_unnamed (Elf path object name laid) like file left_out (made, means, are_laid) = absurd (no_object a like.0 (record { bytes = made; left_out = left_out }) means)
  gives_unnamed (Image image object entry list name laid) like file left_out (made, means, are_laid) = (made, of_image a b like entry names (Ok (record { bytes = made; left_out = left_out })) means, are_laid)
  gives_unnamed (Pack set system) like file left_out (lines, tasks, objects, is, read, stand, packs) = (lines, tasks, objects, set_stays a b like lines is, read, stand, packs)
  gives_unnamed (Convert system converted) like file left_out (makes, none) = (converts a b like (Ok file) makes, none)
  gives_unnamed request like file left_out means = absurd means

  refuses_unnamed : (request : Request) → Same (first_kind request) a b → (fault : ProgramFault) → RefusesUnnamed files request a names fault → RefusesUnnamed files request b names fault
  refuses_unnamed (Asm source object true name) like (faults.Sim fault) means = assembles a b like (Err fault) means
  refuses_unnamed (Asm source object false name) like (faults.Sim fault) means = assembles a b like (Err fault) means
  refuses_unnamed (Elf path object name laid) like (faults.Elf fault task) (inl means) = inl (of_elf a b like (Err fault) means)
  refuses_unnamed (Elf path object name laid) like fault (inl none) = absurd none
  refuses_unnamed (Elf path object name laid) like fault (inr (made, means, unlaid)) = absurd (no_object a like.0 made means)
  refuses_unnamed (Image image object entry list name laid) like (faults.Flat fault) (inl means) = inl (of_image a b like entry names (Err fault) means)
  refuses_unnamed (Image image object entry list name laid) like fault (inl none) = absurd none
  refuses_unnamed (Image image object entry list name laid) like fault (inr (made, means, unlaid)) = inr (made, of_image a b like entry names (Ok made) means, unlaid)
  refuses_unnamed (Pack set system) like fault means = refuses_set a b like files (Some system.now) fault means
  refuses_unnamed (Convert system converted) like (faults.Sim fault) means = converts a b like (Err fault) means
  refuses_unnamed request like fault means = absurd means

  gives : (request : Request) → Same (first_kind request) a b → (file : Vec ℕ) (left_out : ℕ) → Gives files request a names less file left_out → Gives files request b names less file left_out
  gives request like file left_out (unnamed, given, named) = (unnamed, gives_unnamed request like unnamed left_out given, named)

  refuses : (request : Request) → Same (first_kind request) a b → (fault : ProgramFault) → Refuses files request a names less fault → Refuses files request b names less fault
  unfolding Refuses
  refuses request like fault (inl means) = inl (refuses_unnamed request like fault means)
  refuses request like fault (inr (unnamed, left_out, given, named)) = inr (unnamed, left_out, gives_unnamed request like unnamed left_out given, named)

  produces : (request : Request) → Same (first_kind request) a b → (result : Result ℕ ProgramFault) (new : Option Files) → Produces request a names less files result new → Produces request b names less files result new
  produces request like (Ok left_out) new (path, file, is, given, makes) = (path, file, is, gives request like file left_out given, makes)
  produces request like (Err fault) new (inl means, keeps) = (inl (refuses request like fault means), keeps)
  produces request like (Err fault) new (inr (file, left_out, given, unmade), keeps) = (inr (file, left_out, gives request like file left_out given, unmade), keeps)

-- ---- what is done

pub works : {S : Type 0} (seen : S → Seen) (request : Request) (names : List ℕ) (less : ℕ) (input : Option (List ℕ)) (old : Option Files) (out : BufferedSink S) (result : Result ℕ ProgramFault) (new : Option Files)
    (after : BufferedSink S) (a b : List ℕ) → Same (first_kind request) a b → Works seen request a names less input old out result new after → Works seen request b names less input old out result new after
works seen (Print file text admission asked) names less input old out result new after a b like (keeps, printed) =
    (keeps, λ first. prints_text seen _ _ _ _ _ _ (stays a b admission asked.except.now text like) (fails a b text like asked.fail_on.now asked.except.now) (misnames a b text like asked.except.now) less result after.inner (printed first))
works seen (Debug system admission) names less input old out result new after a b like (keeps, said) =
    (keeps, λ lines is first. replies seen a b like admission lines less result after.inner (said lines is first))
works seen (Gdb system admission) names less input old out result new after a b like (keeps, said) =
    (keeps, λ bytes is first. answers seen a b like admission bytes less result after.inner (said bytes is first))
works seen request names less input old out result new after a b like (produced, silent) = (produces a b old names less request like result new produced, silent)
