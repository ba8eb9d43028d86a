use Rattle.std.proofs.Common.{◌≡◌, ◌∙◌, ap, sym, refl, false, find, List, ℕ}
use Rattle.std.specs.Option.{option_map_or}
use Rattle.rt_set.specs.SetFile.{says_something}
use Rattle.rt_set.specs.SetLines.{begins_set}
use Rattle.rt_set.proofs.LineLemmas.{first_line}
use Rattle.rt_set.proofs.reading.is_set.Goals as goal

pub loop-rest-preserved : goal.loop-rest-preserved
loop-rest-preserved c =
    let line = c.cut_line.result.0.now in
    let silent : says_something line ≡ false = sym c.says_something.ensures ∙ c.if-says_something.false in
    record {
      same =
          c.loop-rest.invariant.same
          ∙ ap (λ (ls : List (List ℕ)). option_map_or begins_set (find says_something ls) false) (first_line c.loop-rest.rest.now line c.cut_line.result.1.now c.cut_line.ensures.first)
          ∙ rw silent refl;
    }
