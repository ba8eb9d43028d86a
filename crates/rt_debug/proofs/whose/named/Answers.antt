use Rattle.std.proofs.Common.{◌+◌, ◌<◌, ◌≤◌, ℕ, List, ◌∷◌, length, drop, sym, ap, ◌∙◌, arith}
use Rattle.std.specs.Str.{bytes_eq}
use Rattle.std.proofs.lemmas.List.{at_drop_more, at_drop_all}
use Rattle.rt_image.specs.declared.system.Task.{Task}
use Rattle.rt_image.specs.SystemFile.{set_tasks}
use Rattle.rt_names.specs.TaskNames.{names_from}
use Rattle.rt_debug.proofs.NamedLemmas.{lone, lone-end, lone-second, lone-is}
use Rattle.rt_debug.proofs.whose.named.Goals as goal

pub returns-then-is_some : goal.returns-then-is_some
returns-then-is_some c =
    let ts = c.args.tasks.now in
    let n = c.loop-number.number in
    let p = λ (name : List ℕ). bytes_eq name c.args.name.now in
    let inside : n < length ts = omega (arith, c.loop-number-test.true) in
    let rest = λ (xs : List Task). lone p c.loop-number.found n (names_from n (set_tasks xs)) in
    sym (lone-second p c.loop-number.found n _ _ (sym c.is_some.ensures ∙ c.if-is_some.true) (sym c.has_name.ensures ∙ c.if-has_name.true))
    ∙ sym (at_drop_more rest ts n c.index-tasks-number.result inside ∙ ap (λ (t : Task). rest (t ∷ drop (n + 1) ts)) (sym c.index-tasks-number.is))
    ∙ sym c.loop-number.invariant ∙ lone-is p (names_from 0 (set_tasks ts))

pub returns : goal.returns
returns c =
    let ts = c.args.tasks.now in
    let n = c.loop-number.number in
    let p = λ (name : List ℕ). bytes_eq name c.args.name.now in
    let behind : length ts ≤ n = omega (arith, c.loop-number-test.false) in
    sym (at_drop_all (λ (xs : List Task). lone p c.loop-number.found n (names_from n (set_tasks xs))) ts n behind ∙ lone-end p c.loop-number.found n)
    ∙ sym c.loop-number.invariant ∙ lone-is p (names_from 0 (set_tasks ts))
