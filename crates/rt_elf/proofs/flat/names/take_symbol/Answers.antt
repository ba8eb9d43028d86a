use Rattle.rt_elf.proofs.Common.{◌≡◌, ◌<◌, ◌≤◌, ◌∙◌, List, length, Some, false, refl, sym, ap, subst, arith, Label, label, after_symbol, has_name, entry_labels, AreListed}
use Rattle.rt_elf.proofs.flat.NameLemmas.{listed, kept, unkept, full, known, placed, length-entries}
use Rattle.rt_elf.proofs.flat.names.take_symbol.Goals as goal
use Rattle.rt_elf.proofs.flat.names.take_symbol.Goals.{then-not-may_stand-via-then-not-may_stand, then-not-may_stand-via-else-not-may_stand+then-contains_key}

pub returns-then-not-may_stand-clause-taken : goal.returns-then-not-may_stand-clause-taken
returns-then-not-may_stand-clause-taken c =
    let es = c.args.names.now.symbols.entries in
    let l = label c.args.symbol in
    unkept c.args.size c.args.names.now.left_out l (entry_labels es)
    (elim c.then-not-may_stand.branch [
      | then-not-may_stand-via-then-not-may_stand w ↦ rw (sym c.may_stand.ensures ∙ w.if-not-may_stand.true) refl
      | then-not-may_stand-via-else-not-may_stand+then-contains_key w ↦ rw (sym c.may_stand.ensures ∙ w.if-not-may_stand.false, sym (known c.args.symbol.name.now es) ∙ sym w.contains_key.ensures ∙ w.if-contains_key.true) refl
    ])

pub returns-then-len-clause-taken : goal.returns-then-len-clause-taken
returns-then-len-clause-taken c =
    let es = c.args.names.now.symbols.entries in
    let many : 65536 ≤ length (entry_labels es) = omega (arith, length-entries es, c.len.ensures.len, c.if-len.true) in
    full c.args.size c.args.names.now.left_out (label c.args.symbol) (entry_labels es) (sym c.if-not-may_stand.ensures)
    (sym (known c.args.symbol.name.now es) ∙ sym c.if-contains_key.ensures) many

pub returns-clause-taken : goal.returns-clause-taken
returns-clause-taken c =
    let es = c.args.names.now.symbols.entries in
    let l = label c.args.symbol in
    let new : has_name l.name (entry_labels es) ≡ false = sym (known l.name es) ∙ sym c.if-contains_key.ensures in
    let few : length (entry_labels es) < 65536 = omega (arith, length-entries es, c.len.ensures.len, c.if-len.false) in
    let there = ap entry_labels c.in_ok-insert.ensures.entries ∙ placed c.args.symbol.name c.args.symbol.address es new in
    subst (λ (ls : List Label). after_symbol c.args.size (record { symbols = entry_labels es; left_out = c.args.names.now.left_out }) l ≡ Some (record { symbols = ls; left_out = c.args.names.now.left_out })) (sym there)
    (kept c.args.size c.args.names.now.left_out l (entry_labels es) (sym c.if-not-may_stand.ensures) new few)

pub returns-clause-listed : goal.returns-clause-listed
returns-clause-listed c =
    let es = c.args.names.now.symbols.entries in
    let l = label c.args.symbol in
    let new : has_name l.name (entry_labels es) ≡ false = sym (known l.name es) ∙ sym c.if-contains_key.ensures in
    let few : length (entry_labels es) < 65536 = omega (arith, length-entries es, c.len.ensures.len, c.if-len.false) in
    let there = ap entry_labels c.in_ok-insert.ensures.entries ∙ placed c.args.symbol.name c.args.symbol.address es new in
    subst (λ (ls : List Label). AreListed c.args.size ls) (sym there) (listed c.args.size l (entry_labels es) (sym c.if-not-may_stand.ensures) new few c.requires.listed)
