use Rattle.rt_elf.proofs.Common.{◌≡◌, ℕ, ◌<◌, ◌-◌, ◌+◌, ◌∙◌, ap, sym, arith, max, numbered, e_phnum, program_header, program_headers, reach, greatest_reach}
use Rattle.rt_elf.proofs.ImageLemmas.{reach_more}
use Rattle.rt_elf.proofs.loading.image_size.Goals as goal

pub loop-number-preserved : goal.loop-number-preserved
loop-number-preserved c =
    let file = c.args.file.now in
    let k = c.loop-number.number in
    let low : k < e_phnum file = omega arith in
    let one : max c.loop-number.end (reach (program_header file k)) ≡ c.max-end.result = sym (c.max-end.ensures ∙ ap (λ (r : ℕ). max c.loop-number.end r) (c.reach.ensures ∙ ap reach c.program_header.ensures)) in
    reach_more (program_header file) k (e_phnum file) c.loop-number.end (greatest_reach (program_headers file)) low c.loop-number.invariant
    ∙ ap (λ (end : ℕ). max end (greatest_reach (numbered (program_header file) (k + 1) (e_phnum file - (k + 1))))) one
