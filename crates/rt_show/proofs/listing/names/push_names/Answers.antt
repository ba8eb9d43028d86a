use Rattle.std.proofs.Common.{◌≡◌, [], ◌∙◌, arith}
use Rattle.rt_image.specs.ObjectFile.{labels}
use Rattle.rt_show.specs.listing.Listing.{names_at}
use Rattle.rt_show.proofs.listing.NameLemmas.{left_out, first_above, first_listed, rest_sorted, all_listed, no_symbols}
use Rattle.rt_show.proofs.listing.names.push_names.Goals.{in-Some+then-symbol-address, in_default}
use Rattle.rt_show.proofs.listing.names.push_names.Goals as goal

pub loop-symbol-preserved : goal.loop-symbol-preserved
loop-symbol-preserved c =
    let is = c.in-Some.ensures.cases.0 in
    record {
      listed = first_listed c.args.address c.in-Some.symbol.now c.in-Some.after.now c.loop-symbol.rest.now _ _ _ is c.in_ok-push_name.ensures c.loop-symbol.invariant.listed;
      above = λ a higher. left_out a c.in-Some.symbol.now c.in-Some.after.now c.loop-symbol.rest.now is (omega arith) ∙ c.loop-symbol.invariant.above a higher;
      sorted = rest_sorted c.in-Some.symbol.now c.in-Some.after.now c.loop-symbol.rest.now is c.loop-symbol.invariant.sorted;
    }

pub returns-clause-lines : goal.returns-clause-lines
returns-clause-lines c =
    let none : names_at c.args.address (labels c.loop-symbol.rest.now) ≡ [] = elim c.match-split_first.branch [
      | in-Some+then-symbol-address w ↦ first_above c.args.address w.in-Some.symbol.now w.in-Some.after.now c.loop-symbol.rest.now w.in-Some.ensures.cases.0 (omega arith) c.loop-symbol.invariant.sorted
      | in_default w ↦ no_symbols c.args.address c.loop-symbol.rest.now w.in_default.ensures.cases
    ] in
    all_listed c.args.address c.loop-symbol.rest.now _ _ none c.loop-symbol.invariant.listed
