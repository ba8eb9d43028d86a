use Rattle.rt_effects.proofs.Common.{◌≡◌, ◌+◌, ◌++◌, ℕ, List, length, nat_lt, slice_get, Some, sym, ap, ◌∙◌, option_map, TaskWords, words_of, state_before}
use Rattle.rt_exec.specs.State.{Registers}
use Rattle.rt_core.specs.View.{lent, shown}
use Rattle.rt_trace.proofs.TaskLemmas.{some_shown}
use Rattle.rt_effects.specs.TraceText.{registers_of, busy_line}
use Rattle.rt_effects.proofs.WordLemmas.{words-of-task, words-count, registers-shown}
use Rattle.rt_effects.proofs.window.put_attempt.Goals as goal

pub unwrap-view-requires : goal.unwrap-view-requires
unwrap-view-requires g c = some_shown lent shown c.view.result c.args.machine.now.tasks c.args.rec.task c.requires.task c.view.ensures.shown

pub returns-clause-text : goal.returns-clause-text
returns-clause-text g c = λ set s words there is registers.
    let i = c.args.rec.task in
    let t = c.args.t in
    let a = c.args.rec in
    let old = c.args.page.now in
    let view = c.unwrap-view.result in
    let x = c.args.scratch.now.before in
    let shows : option_map lent (Some view) ≡ option_map shown (slice_get c.args.machine.now.tasks i) = sym (ap (option_map lent) c.unwrap-view.ensures) ∙ c.view.ensures.shown in
    let after : record { pc = view.pc; x = view.x.now } ≡ registers_of (state_before set (t + 1) i s) = registers-shown set (t + 1) i s c.args.machine.now view there is shows in
    let found : slice_get c.args.teller.now i ≡ Some (words_of i s) = ap (λ (ws : List TaskWords). slice_get ws i) words ∙ words-of-task set i s there in
    let count : length c.args.teller.now ≡ length set.tasks = ap (λ (ws : List TaskWords). length ws) words ∙ words-count set in
    c.put_tick.ensures.text (words_of i s) found
    ∙ ap (λ (k : ℕ). old ++ busy_line (nat_lt 1 k) (words_of i s) x (record { pc = view.pc; x = view.x.now }) t a) count
    ∙ ap (λ (r : Registers). old ++ busy_line (nat_lt 1 (length set.tasks)) (words_of i s) x r t a) after
    ∙ ap (λ (xs : List ℕ). old ++ busy_line (nat_lt 1 (length set.tasks)) (words_of i s) xs (registers_of (state_before set (t + 1) i s)) t a) registers
