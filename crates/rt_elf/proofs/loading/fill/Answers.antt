use Rattle.rt_elf.proofs.Common.{◌≡◌, ◌+◌, ◌-◌, ◌<◌, ◌≤◌, arith, ◌∙◌, ap, sym, ℕ, base, numbered, e_phnum, program_header, byte_for, image_size}
use Rattle.rt_elf.proofs.NumberedLemmas.{numbered_none}
use Rattle.rt_elf.proofs.ImageLemmas.{zeros, layer_more}
use Rattle.rt_elf.proofs.loading.fill.Goals as goal

pub loop-number-init : goal.loop-number-init
loop-number-init c =
    let file = c.args.file.now in
    let m = c.header_count-number.result in
    let high : e_phnum file ≤ m = omega arith in
    record {
      within = omega arith;
      bytes = c.requires.zeros ∙ zeros file base (image_size file)
          ∙ ap (λ hs. numbered (byte_for file hs) base (image_size file)) (sym (numbered_none (program_header file) m (e_phnum file) high));
    }

pub loop-number-preserved : goal.loop-number-preserved
loop-number-preserved c =
    let file = c.args.file.now in
    let k = c.loop-number.number - 1 in
    let low : k < e_phnum file = omega arith in
    let next : c.loop-number.number ≡ k + 1 = omega arith in
    record {
      within = omega arith;
      bytes = layer_more file (program_header file) k (e_phnum file) (image_size file) c.loop-number.image c.lay_header.new.image low c.lay_header.ensures
          (c.loop-number.invariant.bytes ∙ ap (λ (i : ℕ). numbered (byte_for file (numbered (program_header file) i (e_phnum file - i))) base (image_size file)) next);
    }

pub returns : goal.returns
returns c =
    let file = c.args.file.now in
    let none : c.loop-number.number ≡ 0 = omega arith in
    let all : e_phnum file - 0 ≡ e_phnum file = omega arith in
    c.loop-number.invariant.bytes ∙ ap (λ (i : ℕ). numbered (byte_for file (numbered (program_header file) i (e_phnum file - i))) base (image_size file)) none
    ∙ ap (λ (m : ℕ). numbered (byte_for file (numbered (program_header file) 0 m)) base (image_size file)) all
