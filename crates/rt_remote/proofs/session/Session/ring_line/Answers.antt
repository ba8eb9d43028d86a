use Rattle.rt_remote.proofs.Common.{◌≡◌, ◌++◌, ◌-◌, ◌+◌, List, [], ◌∷◌, length, drop, ℕ, Some, sym, ap, ◌∙◌}
use Rattle.std.proofs.Common.{slice_get, append-nil, rules}
use Rattle.std.specs.List.{flat_map}
use Rattle.std.specs.Option.{option_copied}
use Rattle.circular_buffer.specs.Buffer.{keep_last}
use Rattle.rt_history.specs.declared.record.Entry.{Entry}
use Rattle.rt_trace.specs.HistoryText.{line}
use Rattle.arrayvec.specs.ArrayVec.{ArrayVec}
use Rattle.rt_remote.proofs.RunLemmas.{last-alone, long-by, none-by}
use Rattle.rt_remote.proofs.session.Session.ring_line.Goals as goal
use Rattle.rt_remote.proofs.session.Session.ring_line.Goals.{then-not-is_empty, else-not-is_empty}

pub returns : goal.returns
returns g c =
    let same : c.ring-ring.result.now.items ≡ c.args.self.now.walk.shown.ring.items = search rules in
    elim c.if-not-is_empty.branch [
      | then-not-is_empty w ↦
          let entry = w.unwrap.result.now in
          let long : length c.ring-ring.result.now.items ≡ (w.len.result - 1) + 1 = long-by c.ring-ring.result.now.items w.len.result w.len.ensures (sym c.is_empty.ensures ∙ w.if-not-is_empty.true) in
          let there : slice_get c.ring-ring.result.now.items (w.len.result - 1) ≡ Some entry = sym w.get.ensures ∙ ap option_copied w.unwrap.ensures in
          let last : drop (w.len.result - 1) c.ring-ring.result.now.items ≡ entry ∷ [] = last-alone c.ring-ring.result.now.items (w.len.result - 1) entry long there in
          let kept : keep_last 1 c.args.self.now.walk.shown.ring.items ≡ entry ∷ [] = ap (λ (l : List Entry). keep_last 1 l) (sym same) ∙ ap (λ (n : ℕ). drop (n - 1) c.ring-ring.result.now.items) (sym w.len.ensures) ∙ last in
          let text : c.line.result ≡ line entry = c.line.ensures ∙ ap (λ (v : ArrayVec ℕ). v.items) w.text-is ∙ w.push_line.ensures.text ∙ ap (λ (l : List ℕ). l ++ line entry) c.new-text.ensures in
          text ∙ sym (append-nil (line entry)) ∙ sym (ap (flat_map line) kept)
      | else-not-is_empty w ↦
          let none : c.ring-ring.result.now.items ≡ [] = none-by c.ring-ring.result.now.items (sym c.is_empty.ensures ∙ w.if-not-is_empty.false) in
          let text : c.line.result ≡ [] = c.line.ensures ∙ ap (λ (v : ArrayVec ℕ). v.items) w.text-is ∙ c.new-text.ensures in
          text ∙ sym (ap (λ (l : List Entry). flat_map line (keep_last 1 l)) (sym same ∙ none))
    ]
