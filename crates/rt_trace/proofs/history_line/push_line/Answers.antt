use Rattle.rt_trace.proofs.Common.{◌≡◌, ◌++◌, ℕ, List, decimal, ap, ◌∙◌, line, rest_text}
use Rattle.rt_trace.proofs.Places.{Placed-then, line_from}
use Rattle.rt_trace.proofs.history_line.push_line.Goals as goal

pub returns-clause-text : goal.returns-clause-text
returns-clause-text g c =
    let entry = c.args.entry.now in
    let whole : decimal c.start.result ++ rest_text entry ≡ line entry = ap (λ (t : ℕ). decimal t ++ rest_text entry) c.start.ensures ∙ line_from entry in
    let placed = Placed-then c.place_decimal-at.ensures.text c.place_rest-end.ensures.text in
    c.push_text.ensures.text ∙ ap (λ (xs : List ℕ). c.args.out.now.items ++ xs) (placed.bytes ∙ whole)
