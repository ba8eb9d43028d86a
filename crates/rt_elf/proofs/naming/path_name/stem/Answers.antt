use Rattle.rt_elf.proofs.Common.{◌≡◌, ℕ, Bool, List, length, ap, sym, ◌∙◌, arith}
use Rattle.std.specs.Prelude.{◌==◌}
use Rattle.std.specs.List.{before_first, position_or_len}
use Rattle.std.proofs.Math.Seq.{take-length}
use Rattle.std.proofs.lemmas.Str.Pattern.{split_once_first}
use Rattle.rt_elf.proofs.naming.path_name.stem.Goals as goal

pub returns-in-Some : goal.returns-in-Some
returns-in-Some c =
    let first = rw c.in-Some.is at (split_once_first 46 c.file_name-name.result.now _ c.split_once.ensures.cases (omega arith)) in
    first.1 ∙ ap (before_first (λ (b : ℕ). b == 46)) c.file_name-name.ensures

-- what stands before a dot that isn't there is all
whole : (p : ℕ → Bool) (name : List ℕ) → position_or_len p name ≡ length name → before_first p name ≡ name
whole p name none = rw none (take-length name)

pub returns-in-None : goal.returns-in-None
returns-in-None c =
    let none = rw c.in-None.is at (split_once_first 46 c.file_name-name.result.now _ c.split_once.ensures.cases (omega arith)) in
    sym (whole (λ b. b == 46) c.file_name-name.result.now none) ∙ ap (before_first (λ (b : ℕ). b == 46)) c.file_name-name.ensures
