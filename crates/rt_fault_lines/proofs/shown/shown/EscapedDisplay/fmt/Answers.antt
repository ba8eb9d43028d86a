use Rattle.std.proofs.Common.{ℕ, List, ◌++◌, chars, sym, ap, ◌∙◌, append_assoc, append-nil, rules}
use Rattle.std.proofs.Output.{has_written_append, has_written_of_eq}
use Rattle.std.proofs.lemmas.List.{nil_from_length}
use Rattle.std.proofs.lemmas.Str.{chars-nil, chars_past_char, IsUtf8-past_char}
use Rattle.std.specs.List.{flat_map}
use Rattle.rt_fault_lines.specs.shown.Escaped.{shown}
use Rattle.rt_fault_lines.proofs.shown.shown.EscapedDisplay.fmt.Goals as goal

pub loop-letter-preserved : goal.loop-letter-preserved
loop-letter-preserved g c =
    let step = c.in-Some.ensures.steps.0 in
    let keeps = c.args.self.now.keeps_lines in
    let spelt = c.loop-letter.invariant.2 in (
      tt,
      tt,
      IsUtf8-past_char _ _ _ spelt step,
      λ plain.
          let so_far = c.loop-letter.invariant.3 plain in (
            so_far.0 ++ shown keeps c.in-Some.letter,
            has_written_append _ _ _ _ _ _ so_far.1 (search rules),
            append_assoc so_far.0 _ _ ∙ ap (λ (cs : List ℕ). so_far.0 ++ flat_map (shown keeps) cs) (sym (chars_past_char _ _ _ spelt step)) ∙ so_far.2,
          ),
    )

pub returns-clause-writes : goal.returns-clause-writes
returns-clause-writes g c = λ plain ok.
    let so_far = c.loop-letter.invariant.3 plain in
    let keeps = c.args.self.now.keeps_lines in
    let none = ap chars (nil_from_length _ c.in-None.ensures.steps.0.0) ∙ chars-nil in
    has_written_of_eq _ _ _ _ _ (sym (append-nil _) ∙ ap (λ (cs : List ℕ). so_far.0 ++ flat_map (shown keeps) cs) (sym none) ∙ so_far.2) so_far.1
