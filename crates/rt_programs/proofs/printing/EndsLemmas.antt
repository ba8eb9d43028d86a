-- A program that has a text or a refusal ends as one that tells a text beside a refusal, which is empty here.
use Rattle.rt_programs.proofs.Common.{◌≡◌, ℕ, List, [], false, Result, Ok, Err, refl, sym, subst, Seen, Ends, EndsTelling, Apart, SimFault, Image, Admit, Load, Text, Source, NotCertified, NoTask, Memory, Device}
use Rattle.rt_opening.specs.Ends.{IsTold}
use Rattle.rt_programs.proofs.ReasonLemmas.{told-nothing}

module _ {S : Type 0} (seen : S → Seen) where
  still : (old new : S) → (seen old).failed ≡ false → new ≡ old → IsTold seen old [] new
  still old new opened same = subst (λ (s : S). IsTold seen old [] s) (sym same) (told-nothing seen old opened)

  pub ends-apart : (Means : Result (List ℕ) SimFault → Type 0) (old new : S) (result : Result ℕ SimFault) → (seen old).failed ≡ false → Ends seen Means old result new
      → EndsTelling seen (Apart Means) old result new
  ends-apart Means old new (Ok n) opened e = e
  ends-apart Means old new (Err (Device d)) opened e = e
  ends-apart Means old new (Err Memory) opened e = e
  ends-apart Means old new (Err (Image d)) opened e = ([], (e.0, refl), still old new opened e.1)
  ends-apart Means old new (Err (Admit d)) opened e = ([], (e.0, refl), still old new opened e.1)
  ends-apart Means old new (Err (Load d)) opened e = ([], (e.0, refl), still old new opened e.1)
  ends-apart Means old new (Err (Text d)) opened e = ([], (e.0, refl), still old new opened e.1)
  ends-apart Means old new (Err (Source d)) opened e = ([], (e.0, refl), still old new opened e.1)
  ends-apart Means old new (Err (NotCertified d)) opened e = ([], (e.0, refl), still old new opened e.1)
  ends-apart Means old new (Err (NoTask i k)) opened e = ([], (e.0, refl), still old new opened e.1)
