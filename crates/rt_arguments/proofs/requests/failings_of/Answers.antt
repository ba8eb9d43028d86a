use Rattle.std.proofs.Common.{ℕ, List, Bor, get_or, [], ap, sym, ◌∙◌}
use Rattle.std.specs.List.{list_any}
use Rattle.rt_arguments.proofs.FailingLemmas.{failings-more, asks, asks-nothing, asks-again, asks-more}
use Rattle.rt_arguments.proofs.requests.failings_of.Goals.{then-not-contains+in_ok-push, else-not-contains}
use Rattle.rt_arguments.proofs.requests.failings_of.Goals as goal

abbrev nothing : Bor (List ℕ)
nothing = record { ref_ptr = (0, 0); now = [] }

pub loop-word-preserved-in_default : goal.loop-word-preserved-in_default
loop-word-preserved-in_default c =
    let words = c.unwrap_or-word-items.result.now in
    let word = (get_or words c.loop-word.word-index nothing).now in
    let asked = asks word c.failing_of.result c.failing_of.ensures.spells c.failing_of.ensures.whole ∙ c.in_default.is in
    asks-nothing _ _ word c.loop-word.invariant asked ∙ sym (failings-more words c.loop-word.word-index nothing c.loop-word-test.true)

pub loop-word-preserved : goal.loop-word-preserved
loop-word-preserved c =
    let words = c.unwrap_or-word-items.result.now in
    let word = (get_or words c.loop-word.word-index nothing).now in
    let asked = asks word c.failing_of.result c.failing_of.ensures.spells c.failing_of.ensures.whole ∙ c.in-Some.is in
    let among = c.contains.ensures.value ∙ ap (list_any _) c.deref.ensures.value in
    let more = failings-more words c.loop-word.word-index nothing c.loop-word-test.true in
    elim c.if-not-contains.branch [
      | then-not-contains+in_ok-push w ↦
          ap (λ v. v.items) w.fail_on-is ∙ w.in_ok-push.ensures.items
          ∙ asks-more _ _ _ word c.contains.result c.loop-word.invariant asked among w.if-not-contains.true ∙ sym more
      | else-not-contains w ↦
          ap (λ v. v.items) w.fail_on-is
          ∙ asks-again _ _ _ word c.contains.result c.loop-word.invariant asked among w.if-not-contains.false ∙ sym more
    ]
