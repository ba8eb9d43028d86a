use Rattle.std.proofs.Common.{arith, rules, sym, ◌∙◌}
use Rattle.rt_token.proofs.TokenLemmas.{token_kept}
use Rattle.rt_token.proofs.tokens.cutting.cut_tokens.Goals as goal

pub loop-first-preserved : goal.loop-first-preserved
loop-first-preserved c = record {
  places = omega (arith, c.split_at.ensures.back_len, c.loop-first.invariant.places);
  same =
      token_kept c.loop-first.found.items _ c.loop-first.start c.in-Some.first.now c.in-Some-token_at.len c.in-Some-token_at.kind c.in-Some.after.now c.loop-first.rest.now _ _ _ c.in-Some.ensures.cases.0 c.split_at.ensures.front c.split_at.ensures.back c.in-Some-token_at.ensures.within.0 (sym c.is_blank.ensures ∙ c.if-is_blank.false) (search rules) c.in-Some-token_at.ensures.value c.in_ok-push.ensures.items c.loop-first.invariant.same;
}
