use Rattle.rt_elf.proofs.Common.{◌∙◌, sym, kept}
use Rattle.rt_elf.proofs.NameLemmas.{told_kept, on_ok, same_kind}
use Rattle.rt_elf.proofs.names.Kept.take_entry.Goals as goal

pub returns-clause-kept : goal.returns-clause-kept
returns-clause-kept c =
    on_ok c.keep.result
    (λ one. one ∙ told_kept c.args.size c.args.names.now c.args.local (kept c.args.self.now) c.args.entry.now c.name_at-name.result.now
    (sym c.is_local.ensures ∙ same_kind c.is_local.result c.args.local c.if-is_local-local.false) (sym c.may_tell.ensures ∙ c.if-not-may_tell.false) (sym c.is_shown.ensures ∙ c.if-not-is_shown.false) c.name_at-name.ensures)
    c.keep.ensures.kept
