use Rattle.std.proofs.Common.{arith}
use Rattle.rt_show.proofs.listing.ItemLemmas.{first_byte, first_word}
use Rattle.rt_show.proofs.listing.lines.push_item.Goals as goal

pub returns-then-bytes-lt4-clause-line : goal.returns-then-bytes-lt4-clause-line
returns-then-bytes-lt4-clause-line c =
    (_, c.in_ok-push_last_byte.ensures, λ symbols. first_byte c.args.bytes.now c.requires (omega arith) symbols c.args.address)

pub returns-clause-line : goal.returns-clause-line
returns-clause-line c =
    (_, c.in_ok-push_word.ensures, λ symbols. rw c.read_u32.ensures (first_word c.args.bytes.now (omega arith) symbols c.args.address))
