-- All faults of a text, and the one that it is refused for.
use Rattle.rt_text.proofs.Common.{◌≡◌, ℕ, ◌+◌, List, [], ◌∷◌, ◌++◌, Result, Ok, Err, refl, ap, result_err, SourceLine, line_at, TextKind}
use Rattle.rt_text.specs.AllFaults.{told, faults_from}
use Rattle.rt_text.specs.Text.{appended, fault_at, read_from}
use Rattle.rt_words.specs.Run.{next}
use Rattle.rt_text.specs.declared.fault.TextFault.{TextFault}

-- a text that is read has none
pub no_faults : (n : ℕ) (before : List SourceLine) (rest : List (ℕ × List ℕ)) (lines : List SourceLine) → read_from n before rest ≡ Ok lines → faults_from n rest ≡ []
no_faults n before [] lines h = refl
no_faults n before (l ∷ ls) lines h = by (line_at l.0 l.1) (λ more e. no_faults (n + 1) more ls lines e) h
  where
    by : (r : Result SourceLine TextKind) → ((more : List SourceLine) → read_from (n + 1) more ls ≡ Ok lines → faults_from (n + 1) ls ≡ [])
        → next fault_at n (appended before r) (λ t. read_from (n + 1) t ls) ≡ Ok lines → told fault_at n (result_err r) ++ faults_from (n + 1) ls ≡ []
    by (Ok line) each e = each (before ++ line ∷ []) e
    by (Err kind) each e = cc

-- a list that begins so
pub record Begins {F : Type 0} (fault : F) (faults : List F) : Type 0 where
  pub rest : List F
  pub is : faults ≡ fault ∷ rest

pub first_fault : (n : ℕ) (before : List SourceLine) (rest : List (ℕ × List ℕ)) (fault : TextFault) → read_from n before rest ≡ Err fault → Begins fault (faults_from n rest)
first_fault n before [] fault h = cc
first_fault n before (l ∷ ls) fault h = by (line_at l.0 l.1) (λ more e. first_fault (n + 1) more ls fault e) h
  where
    by : (r : Result SourceLine TextKind) → ((more : List SourceLine) → read_from (n + 1) more ls ≡ Err fault → Begins fault (faults_from (n + 1) ls))
        → next fault_at n (appended before r) (λ t. read_from (n + 1) t ls) ≡ Err fault → Begins fault (told fault_at n (result_err r) ++ faults_from (n + 1) ls)
    by (Ok line) each e = each (before ++ line ∷ []) e
    by (Err kind) each e = let s : fault_at n kind ≡ fault = cc in record { rest = faults_from (n + 1) ls; is = ap (λ (f : TextFault). f ∷ faults_from (n + 1) ls) s }
