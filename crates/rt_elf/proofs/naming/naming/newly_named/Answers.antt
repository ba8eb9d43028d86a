use Rattle.rt_elf.proofs.Common.{◌≡◌, Ok, sym, ap, ◌∙◌, subst, refl, List, arith, insert, Symbol, Label, label, labels, put}
use Rattle.rt_image.specs.ObjectFile.{IsObject, object_value}
use Rattle.rt_elf.specs.naming.NamedEntry.{newly_named}
use Rattle.rt_elf.proofs.naming.NamingLemmas.{few, labels_insert, one_more}
use Rattle.rt_elf.proofs.naming.naming.newly_named.Goals as goal

pub returns : goal.returns
returns c =
    let object = object_value c.args.object in
    let name = c.args.name.word.now in
    let spelled = c.as_bytes-name.ensures.value ∙ c.word.ensures.value in
    let namer : Symbol = record { name = c.as_bytes-name.result; address = c.args.object.entry } in
    let joined =
    ap labels c.in_ok-insert.ensures.items
    ∙ (labels_insert c.args.object.symbols.items c.place_of-at.result namer
    ∙ (ap (λ (ss : List Symbol). insert (labels ss) c.place_of-at.result (label namer)) (sym c.deref.ensures.value)
    ∙ (sym (c.place_of-at.ensures.value (label namer) refl)
    ∙ (ap (λ (ss : List Symbol). put (label namer) (labels ss)) c.deref.ensures.value
    ∙ ap (λ n. put (record { name = n; address = c.args.object.entry }) object.labels) spelled)))) in
    subst (λ (ls : List Label). (newly_named name object ≡ Ok (record { entry = object.entry; bytes = object.bytes; labels = ls }))
    × IsObject (record { entry = object.entry; bytes = object.bytes; labels = ls })) (sym joined)
    (one_more object name c.requires.spelled c.requires.new c.args.name.is_word c.args.name.short (sym c.is_placed.ensures ∙ search) (few c.args.object.symbols.items (omega (arith, c.if-len.false))))
