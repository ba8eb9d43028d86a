use Rattle.std.proofs.Common.{ℕ, List, [], Option, sym, ap, ◌∙◌, unwrap_or}
use Rattle.rt_arguments.proofs.OptionLemmas.{words-are}
use Rattle.rt_arguments.proofs.requests.words_of.Goals as goal

pub returns : goal.returns
returns c =
    ap (λ (o : Option (List (List ℕ))). unwrap_or o []) c.get_strs.ensures
    ∙ sym (words-are c.args.option.now c.args.matches.now c.in_ok-matches.matches.now c.in_ok-matches.ensures.rows)
