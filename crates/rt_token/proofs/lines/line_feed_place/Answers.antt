use Rattle.std.proofs.Common.{◌∙◌}
use Rattle.rt_token.proofs.SourceLineLemmas.{first_line_feed, first_line_feed_within}
use Rattle.rt_token.proofs.lines.line_feed_place.Goals as goal

pub returns-clause-value : goal.returns-clause-value
returns-clause-value c = c.unwrap_or.ensures ∙ first_line_feed c.args.text.now c.memchr.result c.memchr.ensures

pub returns-clause-within : goal.returns-clause-within
returns-clause-within c = rw c.unwrap_or.ensures (first_line_feed_within c.args.text.now c.memchr.result c.memchr.ensures)
