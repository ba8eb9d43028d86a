use Rattle.rt_perform.proofs.Common.{ℕ, List, Option, inr, subst, sym}
use Rattle.std.proofs.Common.{rules}
use Rattle.std.specs.Borrow.{Bor}
use Rattle.std.specs.Option.{option_map}
use Rattle.rt_elf.specs.declared.naming.entry_name.EntryName.{EntryName}
use Rattle.rt_perform.specs.Produced.{IsNamed, RefusesName, Refuses, entry_name}
use Rattle.rt_perform.specs.Working.Naming.{MayBeNamed}
use Rattle.rt_perform.proofs.ObjectLemmas.{may_be_named}
use Rattle.rt_perform.proofs.producing.produce.Goals as goal

pub named-requires : goal.named-requires
named-requires g c =
    let inputs = c.args.inputs.now in
    let unnamed = c.in_ok-unnamed.unnamed in
    subst (λ (path : Option (List ℕ)). MayBeNamed path unnamed.bytes.items) (sym c.naming_path.ensures)
    (may_be_named (g.D.Desk.files c.args.desk.now) c.args.request inputs.first.items inputs.names.items inputs.left_out unnamed.bytes unnamed.left_out c.in_ok-unnamed.ensures)

pub returns-in-Ok : goal.returns-in-Ok
returns-in-Ok g c =
    let unnamed = c.in_ok-unnamed.unnamed in
    let path = option_map (λ (p : Bor (List ℕ)). p.now) c.naming_path.result in (
      unnamed.bytes,
      c.in_ok-unnamed.ensures,
      subst (λ (at : Option (List ℕ)). IsNamed (entry_name c.args.request) at unnamed.bytes.items c.in-Ok.bytes) c.naming_path.ensures
          (subst (λ (name : Option EntryName). IsNamed name path unnamed.bytes.items c.in-Ok.bytes) c.entry_name.ensures c.in-Ok.ensures),
    )

pub returns-in-Err : goal.returns-in-Err
unfolding Refuses
returns-in-Err g c =
    let unnamed = c.in_ok-unnamed.unnamed in
    let path = option_map (λ (p : Bor (List ℕ)). p.now) c.naming_path.result in
    inr (
      unnamed.bytes,
      unnamed.left_out,
      c.in_ok-unnamed.ensures,
      subst (λ (at : Option (List ℕ)). RefusesName (entry_name c.args.request) at unnamed.bytes.items c.in-Err.fault) c.naming_path.ensures
          (subst (λ (name : Option EntryName). RefusesName name path unnamed.bytes.items c.in-Err.fault) c.entry_name.ensures c.in-Err.ensures),
    )

pub returns-in_err-unnamed : goal.returns-in_err-unnamed
unfolding Refuses
returns-in_err-unnamed g c = search rules
