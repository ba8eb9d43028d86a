use Rattle.rt_elf.proofs.Common.{◌≡◌, ℕ, ◌+◌, ◌≤◌, ◌<◌, List, length, subst, sym, ◌∙◌, arith, base, labels}
use Rattle.std.proofs.Common.{All, Bor}
use Rattle.std.specs.Option.{option_map}
use Rattle.std.specs.Prelude.{MatchResult}
use Rattle.std.proofs.lemmas.List.Elements.{All-from_get_or}
use Rattle.rt_image.specs.ObjectFile.{IsObject, object_value}
use Rattle.rt_elf.specs.declared.laying.fault.NotLaid.TheVariants.{Memory}
use Rattle.rt_elf.specs.Working.Making.{Spells}
use Rattle.rt_elf.specs.laying.LaidData.{with_bytes, Lays, LaysNone}
use Rattle.rt_elf.specs.laying.Room.{room_of}
use Rattle.rt_elf.proofs.laying.LaidLemmas.{found, laid_object, within_ram, laid_is, outcome}
use Rattle.rt_elf.proofs.laying.laid.lay_data.Goals as goal

pub room_of-room-requires-clause-high : goal.room_of-room-requires-clause-high
room_of-room-requires-clause-high c =
    let valid = c.in-Ok.ensures.found.0 in
    let stands = (found c.in-Ok.object c.deref.result.now c.as_bytes-name.result.now c.address_in.result c.in-Some.address valid c.deref.ensures.value c.address_in.ensures c.in-Some.is).1 in
    omega (arith, stands.high, valid.size)

pub room_of-room-requires-clause-short : goal.room_of-room-requires-clause-short
room_of-room-requires-clause-short c =
    (found c.in-Ok.object c.deref.result.now c.as_bytes-name.result.now c.address_in.result c.in-Some.address c.in-Ok.ensures.found.0 c.deref.ensures.value c.address_in.ensures c.in-Some.is).1.short

pub overflow_sub-address : goal.overflow_sub-address
overflow_sub-address c =
    (found c.in-Ok.object c.deref.result.now c.as_bytes-name.result.now c.address_in.result c.in-Some.address c.in-Ok.ensures.found.0 c.deref.ensures.value c.address_in.ensures c.in-Some.is).1.low

pub laid_over-requires : goal.laid_over-requires
laid_over-requires c =
    let stands = (found c.in-Ok.object c.deref.result.now c.as_bytes-name.result.now c.address_in.result c.in-Some.address c.in-Ok.ensures.found.0 c.deref.ensures.value c.address_in.ensures c.in-Some.is).1 in
    omega (arith, stands.high)

pub spelled-requires : goal.spelled-requires
spelled-requires c =
    let valid = c.in-Ok.ensures.found.0 in
    let name = c.as_bytes-name.result.now in
    let address = c.in-Some.address in
    let bytes = c.args.bytes.now in
    let elf = option_map (λ (file : Bor (List ℕ)). file.now) c.args.elf in
    let stands = (found c.in-Ok.object c.deref.result.now name c.address_in.result address valid c.deref.ensures.value c.address_in.ensures c.in-Some.is).1 in
    let fit : All (λ b. b < 256) bytes = All-from_get_or (λ b. b < 256) bytes 0 (λ i _. omega (arith, c.type_inv.bytes i)) in
    let room : address + length bytes ≤ base + 1048576 = omega (arith, within_ram elf (record { name = name; address = address }), c.room_of-room.ensures, c.if-len-room.false, stands.low, stands.high, valid.size) in
    let laid = laid_object (object_value c.in-Ok.object) address bytes stands.low stands.high valid fit room in
    subst (λ (image : List ℕ). IsObject (record { entry = c.in-Ok.object.entry; bytes = image; labels = labels c.in-Ok.object.symbols.items })) (sym (c.deref-2.ensures.value ∙ c.in_ok-image.ensures)) laid

pub returns : goal.returns
returns c =
    let object = object_value c.in-Ok.object in
    let name = c.as_bytes-name.result.now in
    let address = c.in-Some.address in
    let bytes = c.args.bytes.now in
    let elf = option_map (λ (file : Bor (List ℕ)). file.now) c.args.elf in
    let found = found c.in-Ok.object c.deref.result.now name c.address_in.result address c.in-Ok.ensures.found.0 c.deref.ensures.value c.address_in.ensures c.in-Some.is in
    let fits : length bytes ≤ room_of elf (record { name = name; address = address }) = omega (arith, c.room_of-room.ensures, c.if-len-room.false) in
    let spells = subst (λ (image : List ℕ). MatchResult c.spelled.result (λ new. Spells new.items (record { entry = object.entry; bytes = image; labels = object.labels })) (λ fault. fault ≡ Memory))
    (c.deref-2.ensures.value ∙ c.in_ok-image.ensures) c.spelled.ensures in
    subst (λ (symbol : List ℕ). MatchResult c.spelled.result (λ new. Lays elf symbol bytes c.args.file.now new.items) (λ fault. LaysNone elf symbol bytes c.args.file.now fault)) c.as_bytes-name.ensures.value
    (outcome elf name bytes c.args.file.now object (with_bytes address bytes object) c.in-Ok.ensures.exact (laid_is elf name bytes c.args.file.now object address found.0 fits) c.spelled.result spells)
