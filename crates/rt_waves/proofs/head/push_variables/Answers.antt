use Rattle.rt_waves.proofs.Common.{[], codes}
use Rattle.rt_waves.specs.WavesText.{variable}
use Rattle.rt_waves.proofs.LineLemmas.{twelve}
use Rattle.rt_waves.proofs.head.push_variables.Goals as goal

pub returns : goal.returns
returns c =
    rw (
      c.push_text.ensures.text,
      c.push_variable-11.ensures.text,
      c.push_variable-10.ensures.text,
      c.push_variable-9.ensures.text,
      c.push_variable-8.ensures.text,
      c.push_variable-7.ensures.text,
      c.push_variable-6.ensures.text,
      c.push_variable-5.ensures.text,
      c.push_variable-4.ensures.text,
      c.push_variable-3.ensures.text,
      c.push_variable-2.ensures.text,
      c.push_variable.ensures.text,
    )
    (twelve c.args.out.now.items
    (variable (codes "wire 1 r") (codes "running") c.args.number [])
    (variable (codes "reg 2 m") (codes "mode") c.args.number (codes " [1:0]"))
    (variable (codes "reg 32 p") (codes "pc") c.args.number (codes " [31:0]"))
    (variable (codes "reg 32 s") (codes "part") c.args.number (codes " [31:0]"))
    (variable (codes "integer 32 c") (codes "c") c.args.number [])
    (variable (codes "integer 64 d") (codes "d") c.args.number [])
    (variable (codes "integer 32 o") (codes "out") c.args.number [])
    (variable (codes "wire 1 f") (codes "fresh") c.args.number [])
    (variable (codes "wire 1 k") (codes "kept") c.args.number [])
    (variable (codes "wire 1 x") (codes "postponed") c.args.number [])
    (variable (codes "wire 1 j") (codes "finish") c.args.number [])
    (codes "$upscope $end\n"))
