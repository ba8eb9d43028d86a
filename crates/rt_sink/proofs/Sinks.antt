-- Texts that a sink takes in several pieces.
use Rattle.std.proofs.Common.{ℕ, ◌+◌, ◌-◌, List, length, take, drop, Option, subst, sym}
use Rattle.std.proofs.Math.Seq.{take-add}
use Rattle.std.proofs.lemmas.List.{take_rest}
use Rattle.std.proofs.KnownBytes.{Appends-trans}
use Rattle.std.specs.Io.KnownBytes.{Appends}

-- the first bytes, and then the first of the rest
pub Appends-more : (a b c : Option (List ℕ)) (bytes : List ℕ) (done taken : ℕ) → Appends a b (take done bytes)
    → Appends b c (take taken (take (length bytes - done) (drop done bytes))) → Appends a c (take (done + taken) bytes)
Appends-more a b c bytes done taken first second =
    let rest = take_rest bytes done in
    subst (Appends a c) (sym (take-add done taken bytes)) (Appends-trans a b c (take done bytes) (take taken (drop done bytes)) first (rw rest at second))
