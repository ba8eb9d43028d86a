-- A file is refused, or its set is loaded and a session of it goes on.
use Rattle.rt_dialogue.proofs.Common.{◌≡◌, inl, inr, ℕ, Bool, List, [], Some, None, Result, Ok, Err, sym, ap, subst, Seen, TaskSet, task_set, DebugFault, Sim, Input, Ends}
use Rattle.std.specs.Prelude.{option_map}
use Rattle.rt_admit.specs.declared.admission.Admission.{Admission}
use Rattle.rt_image.specs.SystemReading.{system_of}
use Rattle.rt_image.specs.ObjectReading.{Gives}
use Rattle.rt_image.specs.ReadFaults.{ReadFault}
use Rattle.rt_words.specs.declared.or_memory.OrMemory.TheVariants as read
use Rattle.rt_history.specs.MachineState.{MachineState}
use Rattle.rt_history.specs.Legal.{state_at}
use Rattle.rt_core.specs.Loading.{load_fault_under, LoadsUnder}
use Rattle.rt_core.specs.declared.fault.LoadFault.{LoadFault}
use Rattle.rt_core.specs.declared.fault.LoadFault.TheVariants as load
use Rattle.rt_opening.specs.Faults.{sim_fault, sim_load_fault}
use Rattle.rt_opening.specs.Sets.{SpellsSet}
use Rattle.rt_opening.specs.declared.fault.SimFault.{SimFault}
use Rattle.rt_opening.specs.declared.fault.SimFault.TheVariants as faults
use Rattle.rt_dialogue.specs.Conversed.{Comes}

module _ {S : Type 0} (seen : S → Seen) (Says : TaskSet → MachineState → List ℕ → Bool → Type 0) (file : List ℕ) (admission : Admission) (sink : S) where
  -- the bytes of the file spell nothing, or there is no memory
  pub refused : (fault : ReadFault) (e : SimFault) → Gives task_set (Err fault) (system_of file) → e ≡ sim_fault fault → (seen sink).contents ≡ Some [] → Comes seen Says file admission (Err (Sim e)) sink
  refused fault e gives is none = subst (λ (e : SimFault). Comes seen Says file admission (Err (Sim e)) sink) (sym is) (at fault gives)
    where
      at : (fault : ReadFault) → Gives task_set (Err fault) (system_of file) → Comes seen Says file admission (Err (Sim (sim_fault fault))) sink
      at read.Memory gives = inr none
      at (read.Fault fault) gives = (gives, none)

  -- the set can't be loaded, or there is no memory
  pub not_loaded : (set : TaskSet) (fault : LoadFault) (e : SimFault) → SpellsSet file set → LoadsUnder admission set (Err fault) → e ≡ sim_load_fault fault → (seen sink).contents ≡ Some [] → Comes seen Says file admission (Err (Sim e)) sink
  not_loaded set fault e spells loads is none = subst (λ (e : SimFault). Comes seen Says file admission (Err (Sim e)) sink) (sym is) (at fault loads)
    where
      at : (fault : LoadFault) → LoadsUnder admission set (Err fault) → Comes seen Says file admission (Err (Sim (sim_load_fault fault))) sink
      at load.Memory loads = inr none
      at (load.Admit fault) loads = ((set, spells, ap (option_map sim_load_fault) loads), none)
      at (load.ImageTooBig task) loads = ((set, spells, ap (option_map sim_load_fault) loads), none)
      at (load.BadEntry task) loads = ((set, spells, ap (option_map sim_load_fault) loads), none)

  -- the session went so
  pub opened : (set : TaskSet) (machine : MachineState) (result : Result (Unit {0}) DebugFault) → SpellsSet file set → load_fault_under admission set ≡ None → machine ≡ state_at set 0
      → Ends seen (Says set machine) result sink → Comes seen Says file admission result sink
  opened set machine result spells loads is went = at result (subst (λ (m : MachineState). Ends seen (Says set m) result sink) is went)
    where
      at : (result : Result (Unit {0}) DebugFault) → Ends seen (Says set (state_at set 0)) result sink → Comes seen Says file admission result sink
      at (Ok x) went = (set, spells, loads, went)
      at (Err Input) went = (set, spells, loads, went)
      at (Err (Sim faults.Memory)) went = inl (set, spells, loads, went)
      at (Err (Sim (faults.Device fault))) went = (set, spells, loads, went)
      at (Err (Sim (faults.Image fault))) went = absurd went.2
      at (Err (Sim (faults.Admit fault))) went = absurd went.2
      at (Err (Sim (faults.Load fault))) went = absurd went.2
      at (Err (Sim (faults.Text fault))) went = absurd went.2
      at (Err (Sim (faults.Source fault))) went = absurd went.2
      at (Err (Sim (faults.NotCertified e))) went = absurd went.2
      at (Err (Sim (faults.NoTask i k))) went = absurd went.2
