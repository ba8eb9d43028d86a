use Rattle.rt_elf.proofs.Common.{◌≡◌, ◌∙◌, List, [], false, true, sym, ap, subst, not, both_true, and_left, and_right, Label, label, are_labels, has_name, may_stand, entry_labels, kept}
use Rattle.rt_elf.proofs.flat.NameLemmas.{known, placed, in_order, behind_none}
use Rattle.rt_elf.proofs.NameLemmas.{keep_new, keep_none}
use Rattle.rt_elf.proofs.names.Kept.keep.Goals as goal
use Rattle.rt_elf.proofs.names.Kept.keep.Goals.{else-may_stand-via-then-may_stand+else-not-contains_key, else-may_stand-via-else-may_stand}

pub returns-in_ok-insert-clause-kept : goal.returns-in_ok-insert-clause-kept
returns-in_ok-insert-clause-kept c =
    let es = c.args.self.now.symbols.entries in
    let l = label c.args.symbol in
    let new : has_name l.name (entry_labels es) ≡ false = sym (known l.name es) ∙ sym c.contains_key.ensures ∙ c.if-not-contains_key.true in
    let stands : may_stand c.args.size l ≡ true = sym c.may_stand.ensures ∙ c.if-may_stand.true in
    let there = ap entry_labels c.in_ok-insert.ensures.entries ∙ placed c.args.symbol.name c.args.symbol.address es new in
    ap (λ (ls : List Label). record { symbols = ls; left_out = c.args.self.now.left_out }) there
    ∙ sym (keep_new c.args.size (kept c.args.self.now) l (both_true stands (ap not new)))

pub returns-in_ok-insert-clause-fit : goal.returns-in_ok-insert-clause-fit
returns-in_ok-insert-clause-fit c =
    let es = c.args.self.now.symbols.entries in
    let l = label c.args.symbol in
    let new : has_name l.name (entry_labels es) ≡ false = sym (known l.name es) ∙ sym c.contains_key.ensures ∙ c.if-not-contains_key.true in
    let stands : may_stand c.args.size l ≡ true = sym c.may_stand.ensures ∙ c.if-may_stand.true in
    let there = ap entry_labels c.in_ok-insert.ensures.entries ∙ placed c.args.symbol.name c.args.symbol.address es new in
    subst (λ (ls : List Label). are_labels c.args.size [] ls ≡ true) (sym there)
    (in_order c.args.size [] l (entry_labels es) stands (behind_none c.args.size l stands) new c.requires.fit)

pub returns-else-may_stand-clause-kept : goal.returns-else-may_stand-clause-kept
returns-else-may_stand-clause-kept c =
    let es = c.args.self.now.symbols.entries in
    let l = label c.args.symbol in
    sym (keep_none c.args.size (kept c.args.self.now) l
    (elim c.else-may_stand.branch [
      | else-may_stand-via-then-may_stand+else-not-contains_key w ↦
          and_right (may_stand c.args.size l) (not (has_name l.name (entry_labels es))) (ap not (sym (known l.name es) ∙ sym w.contains_key.ensures ∙ w.if-not-contains_key.false))
      | else-may_stand-via-else-may_stand w ↦ and_left (may_stand c.args.size l) (not (has_name l.name (entry_labels es))) (sym c.may_stand.ensures ∙ w.if-may_stand.false)
    ]))
