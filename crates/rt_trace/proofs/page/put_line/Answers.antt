use Rattle.rt_trace.proofs.Common.{◌≡◌, ◌++◌, ℕ, List, decimal, ap, ◌∙◌, subst, line, Placed, rest_text}
use Rattle.rt_trace.proofs.Places.{Placed-then, line_from}
use Rattle.rt_trace.proofs.page.put_line.Goals as goal

pub returns-clause-text : goal.returns-clause-text
returns-clause-text c =
    let entry = c.args.entry.now in
    let whole : decimal c.start.result ++ rest_text entry ≡ line entry = ap (λ (t : ℕ). decimal t ++ rest_text entry) c.start.ensures ∙ line_from entry in
    subst (λ (x : List ℕ). Placed c.args.bytes.now c.place_rest.new.bytes c.args.at x c.place_rest.result) whole
    (Placed-then c.place_start-at.ensures.text c.place_rest.ensures.text)
