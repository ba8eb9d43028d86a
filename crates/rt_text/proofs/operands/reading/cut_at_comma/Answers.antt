use Rattle.rt_text.proofs.Common.{◌≡◌, [], ◌∷◌, drop, sym, ◌∙◌, ap, position_or_len, is_comma}
use Rattle.rt_text.proofs.MisfitLemmas.{comma_found, no_comma}
use Rattle.rt_token.proofs.PartLemmas.{first_part, last_part, no_item}
use Rattle.rt_text.proofs.operands.reading.cut_at_comma.Goals as goal

pub returns-in-Some-clause-parts : goal.returns-in-Some-clause-parts
returns-in-Some-clause-parts c =
    let rest : drop (position_or_len is_comma c.args.tokens.now) c.args.tokens.now ≡ c.in-Some._comma.now ∷ c.in-Some.after.now = ap (λ n. drop n c.args.tokens.now) (sym c.comma_place.ensures.value) ∙ sym c.split_at.ensures.back ∙ c.in-Some.ensures.cases.0 in
    rw (c.split_at.ensures.front, c.comma_place.ensures.value) (first_part is_comma c.args.tokens.now _ _ rest)

pub returns-in-Some-clause-behind : goal.returns-in-Some-clause-behind
returns-in-Some-clause-behind c =
    comma_found c.args.tokens.now _ c.in-Some._comma.now (ap (λ n. drop n c.args.tokens.now) (sym c.comma_place.ensures.value) ∙ sym c.split_at.ensures.back ∙ c.in-Some.ensures.cases.0)

pub returns-in-None-clause-parts : goal.returns-in-None-clause-parts
returns-in-None-clause-parts c =
    let rest : drop (position_or_len is_comma c.args.tokens.now) c.args.tokens.now ≡ [] = ap (λ n. drop n c.args.tokens.now) (sym c.comma_place.ensures.value) ∙ sym c.split_at.ensures.back ∙ no_item _ c.in-None.ensures.cases in
    rw (c.split_at.ensures.front, c.comma_place.ensures.value) (last_part is_comma c.args.tokens.now rest)

pub returns-in-None-clause-behind : goal.returns-in-None-clause-behind
returns-in-None-clause-behind c =
    no_comma c.args.tokens.now (ap (λ n. drop n c.args.tokens.now) (sym c.comma_place.ensures.value) ∙ sym c.split_at.ensures.back ∙ no_item _ c.in-None.ensures.cases)
