use Rattle.rt_packet.proofs.Common.{◌≡◌, ◌++◌, ap, ◌∙◌, codes, arith, slice_index, flat_map, id_text, other_text}
use Rattle.rt_packet.proofs.answer.TaskLemmas.{named_all}
use Rattle.rt_packet.proofs.answer.ids.tasks_answer.Goals as goal

pub returns-in-len1-up : goal.returns-in-len1-up
returns-in-len1-up c =
    let ids = c.args.ids in
    let tasks = c.args.tasks.now in
    let front : c.push_id.new.out.items ≡ codes "m" ++ id_text ids (slice_index tasks 0) = grind arith in
    c.push_others.ensures ∙ ap (λ l. c.push_id.new.out.items ++ flat_map (other_text ids) l) c.first_of.ensures.value
    ∙ rw front (named_all ids tasks c.in-len1-up.len_at_least)
