-- What a text that is told beside a refusal leaves at a sink.
use Rattle.rt_programs.proofs.Common.{◌≡◌, ℕ, List, [], false, Result, Ok, Err, refl, subst, sym, Seen, Counts, DeviceFault, task_set, EndsTelling, SimFault}
use Rattle.rt_image.specs.ReadFaults.{ReadFault}
use Rattle.rt_words.specs.declared.or_memory.OrMemory.TheVariants as read
use Rattle.rt_image.specs.SystemReading.{system_of}
use Rattle.rt_image.specs.ObjectReading.{Gives}
use Rattle.rt_programs.specs.Check.{CheckMeans}
use Rattle.rt_opening.specs.Ends.{IsTold}
use Rattle.rt_opening.specs.Faults.{sim_fault}
use Rattle.rt_programs.proofs.SinkLemmas.{took-nothing}

module _ {S : Type 0} (seen : S → Seen) where
  -- a text that isn't empty, whole or cut short
  pub told-text : (old new : S) (text : List ℕ) (written : Result ℕ DeviceFault) → (text ≡ [] → ⊥) → Counts seen old text written new → IsTold seen old text new
  told-text old new text (Ok n) some w = (Ok tt, w.1, λ none. absurd (some none))
  told-text old new text (Err e) some w = (Err e, w, λ none. absurd (some none))

  -- no text
  pub told-nothing : (old : S) → (seen old).failed ≡ false → IsTold seen old [] old
  told-nothing old opened = (Ok tt, took-nothing seen old old opened refl, λ none. refl)

  -- a file that is refused, or no memory to read it
  pub told-of-a-file : (file : List ℕ) (old : S) (fault : ReadFault) (result : Result ℕ SimFault) → (seen old).failed ≡ false → result ≡ Err (sim_fault fault)
      → Gives task_set (Err fault) (system_of file) → EndsTelling seen (CheckMeans file) old result old
  told-of-a-file file old read.Memory result opened is refused = subst (λ (r : Result ℕ SimFault). EndsTelling seen (CheckMeans file) old r old) (sym is) refl
  told-of-a-file file old (read.Fault fault) result opened is refused =
      subst (λ (r : Result ℕ SimFault). EndsTelling seen (CheckMeans file) old r old) (sym is) ([], (refused, refl), told-nothing old opened)
