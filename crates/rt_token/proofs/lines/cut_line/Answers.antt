use Rattle.rt_token.proofs.SourceLineLemmas.{ended_line, open_line}
use Rattle.rt_token.proofs.lines.cut_line.Goals as goal

pub returns-in-Some-clause-first : goal.returns-in-Some-clause-first
returns-in-Some-clause-first c =
    ended_line _ _ _ _ _ _ _ c.line_feed_place.ensures.value c.line_feed_place.ensures.within c.split_at.ensures.front c.split_at.ensures.back c.in-Some.ensures.cases.0 c.without_carriage_return.ensures.value

pub returns-in-None-clause-first : goal.returns-in-None-clause-first
returns-in-None-clause-first c =
    open_line _ _ _ _ c.line_feed_place.ensures.value c.split_at.ensures.front c.split_at.ensures.back c.in-None.ensures.cases c.requires c.line_feed_place.ensures.within
