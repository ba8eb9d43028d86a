-- The object files that requests make, before their entries get names.
use Rattle.rt_perform.proofs.Common.{◌≡◌, ℕ, List, Option, Some, Result, sym, ap, subst, ◌∙◌, Files, ProgramFault, Request}
use Rattle.std.proofs.Common.{Bor}
use Rattle.std.specs.Prelude.{MatchResult}
use Rattle.rt_elf.specs.declared.flat.entry.Entry.{Entry}
use Rattle.rt_elf.specs.declared.naming.entry_name.EntryName.{EntryName}
use Rattle.rt_perform.specs.declared.producing.Produced.{Produced}
use Rattle.rt_perform.specs.declared.request.LaidFile.{LaidFile}
use Rattle.rt_perform.specs.declared.request.Request.TheVariants.{Elf, Image}
use Rattle.rt_perform.specs.Paths.{made_path}
use Rattle.rt_perform.specs.Produced.{GivesElf, RefusesElf, GivesImage, RefusesImage, GivesUnnamed, RefusesUnnamed}

module _ (files : Option Files) (request : Request) (object : Bor (List ℕ)) (name : Option EntryName) (laid : Bor (List LaidFile)) (path first names : List ℕ) (less : ℕ) (r : Result Produced ProgramFault) where
  -- what a request that is this one gives
  as_asked : (asked : Request) → request ≡ asked → MatchResult r (λ p. GivesUnnamed files asked first names less p.bytes p.left_out) (λ fault. RefusesUnnamed files asked first names fault)
      → MatchResult r (λ p. GivesUnnamed files request first names less p.bytes p.left_out) (λ fault. RefusesUnnamed files request first names fault)
  as_asked asked is given = subst (λ (q : Request). MatchResult r (λ p. GivesUnnamed files q first names less p.bytes p.left_out) (λ fault. RefusesUnnamed files q first names fault)) (sym is) given

  pub of_elf : (file : Bor (List ℕ)) → request ≡ Elf file object name laid → made_path request ≡ Some path
      → MatchResult r (λ p. GivesElf files path laid.now first p.bytes p.left_out) (λ fault. RefusesElf files path laid.now first fault)
      → MatchResult r (λ p. GivesUnnamed files request first names less p.bytes p.left_out) (λ fault. RefusesUnnamed files request first names fault)
  of_elf file is at given =
      let both : Some object.now ≡ Some path = ap made_path (sym is) ∙ at in
      let same : path ≡ object.now = cc in
      as_asked (Elf file object name laid) is (subst (λ (p : List ℕ). MatchResult r (λ made. GivesElf files p laid.now first made.bytes made.left_out) (λ fault. RefusesElf files p laid.now first fault)) same given)

  pub of_image : (image : Bor (List ℕ)) (entry : Entry) (list : Option (Bor (List ℕ))) → request ≡ Image image object entry list name laid → made_path request ≡ Some path
      → MatchResult r (λ p. GivesImage files path laid.now first entry names p.bytes p.left_out) (λ fault. RefusesImage files path laid.now first entry names fault)
      → MatchResult r (λ p. GivesUnnamed files request first names less p.bytes p.left_out) (λ fault. RefusesUnnamed files request first names fault)
  of_image image entry list is at given =
      let both : Some object.now ≡ Some path = ap made_path (sym is) ∙ at in
      let same : path ≡ object.now = cc in
      as_asked (Image image object entry list name laid) is
      (subst (λ (p : List ℕ). MatchResult r (λ made. GivesImage files p laid.now first entry names made.bytes made.left_out) (λ fault. RefusesImage files p laid.now first entry names fault)) same given)
