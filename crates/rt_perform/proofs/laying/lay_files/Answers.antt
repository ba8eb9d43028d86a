use Rattle.rt_perform.proofs.Common.{◌≡◌, ℕ, List, [], subst, sym, refl, arith}
use Rattle.std.proofs.Common.{Bor, drop}
use Rattle.std.specs.Option.{option_map}
use Rattle.std.specs.Prelude.{slice_index_or}
use Rattle.std.proofs.lemmas.List.{drop_all}
use Rattle.rt_perform.specs.declared.request.LaidFile.{LaidFile}
use Rattle.rt_perform.specs.Laid.{AreLaid}
use Rattle.rt_perform.proofs.LayLemmas.{one_spells, laid_first, unlaid_first, unlaid_later}
use Rattle.rt_perform.proofs.laying.lay_files.Goals as goal

pub returns-in-Err : goal.returns-in-Err
returns-in-Err g c =
    let files = g.D.Desk.files c.args.desk.now in
    let elf = option_map (λ (elf : Bor (List ℕ)). elf.now) c.args.elf in
    c.loop-file.invariant.unlaid c.in-Err.fault
    (unlaid_first files c.args.made.now elf c.args.files.now c.loop-file.file-index _ c.deref.result.now c.loop-file.laid.items c.in-Err.fault c.loop-file-test.true c.deref.ensures.value c.in-Err.ensures)

pub loop-file-preserved : goal.loop-file-preserved
loop-file-preserved g c =
    let files = g.D.Desk.files c.args.desk.now in
    let elf = option_map (λ (elf : Bor (List ℕ)). elf.now) c.args.elf in
    let made = c.args.made.now in
    let all = c.args.files.now in
    let i = c.loop-file.file-index in
    let from = c.deref.result.now in
    let old = c.loop-file.laid.items in
    let mid = c.in-Ok.new.items in
    record {
      spelled = one_spells files made elf (slice_index_or all i _) from mid c.in-Ok.ensures;
      laid = λ new later. c.loop-file.invariant.laid new (laid_first files made elf all i _ from old mid new c.loop-file-test.true c.deref.ensures.value c.in-Ok.ensures later);
      unlaid = λ fault later. c.loop-file.invariant.unlaid fault (unlaid_later files made elf all i _ from old mid fault c.loop-file-test.true c.deref.ensures.value c.in-Ok.ensures later);
    }

pub returns : goal.returns
returns g c =
    let files = g.D.Desk.files c.args.desk.now in
    let elf = option_map (λ (elf : Bor (List ℕ)). elf.now) c.args.elf in
    let made = c.args.made.now in
    let i = c.loop-file.file-index in
    let laid = c.loop-file.laid.items in
    let none : drop i c.args.files.now ≡ [] = drop_all i c.args.files.now (omega (arith, c.loop-file-test.false)) in
    c.loop-file.invariant.laid laid (subst (λ (l : List LaidFile). AreLaid files made elf l laid laid) (sym none) refl)
