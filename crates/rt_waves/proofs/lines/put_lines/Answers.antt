use Rattle.rt_waves.proofs.Common.{◌++◌, codes, decimal, Wire, Number, wave, mode_number, told_line}
use Rattle.rt_waves.proofs.LineLemmas.{eleven}
use Rattle.rt_waves.proofs.lines.put_lines.Goals as goal

pub returns-clause-text : goal.returns-clause-text
returns-clause-text c =
    rw (
      c.put_wire-5.ensures.text,
      c.put_wire-4.ensures.text,
      c.put_wire-3.ensures.text,
      c.put_wire-2.ensures.text,
      c.put_number-5.ensures.text,
      c.put_number-4.ensures.text,
      c.put_number-3.ensures.text,
      c.put_number-2.ensures.text,
      c.put_pc.ensures.text,
      c.put_number.ensures.text,
      c.put_wire.ensures.text,
      c.number.ensures,
      c.number-2.ensures,
      c.from.ensures,
      c.from-2.ensures,
      c.from-3.ensures,
      c.from-4.ensures,
      c.from-5.ensures,
      c.from-6.ensures,
    )
    (eleven c.args.page.now
    (told_line c.args.telling (Wire c.args.before.now.running) (wave (codes "r" ++ decimal c.args.number) (Wire c.args.now.now.running)))
    (told_line c.args.telling (Number (mode_number c.args.before.now.mode)) (wave (codes "m" ++ decimal c.args.number) (Number (mode_number c.args.now.now.mode))))
    (told_line c.args.telling (Number c.args.before.now.pc) (wave (codes "p" ++ decimal c.args.number) (Number c.args.now.now.pc)))
    (told_line c.args.telling (Number c.args.before.now.part) (wave (codes "s" ++ decimal c.args.number) (Number c.args.now.now.part)))
    (told_line c.args.telling (Number c.args.before.now.c) (wave (codes "c" ++ decimal c.args.number) (Number c.args.now.now.c)))
    (told_line c.args.telling (Number c.args.before.now.d) (wave (codes "d" ++ decimal c.args.number) (Number c.args.now.now.d)))
    (told_line c.args.telling (Number c.args.before.now.out) (wave (codes "o" ++ decimal c.args.number) (Number c.args.now.now.out)))
    (told_line c.args.telling (Wire c.args.before.now.fresh) (wave (codes "f" ++ decimal c.args.number) (Wire c.args.now.now.fresh)))
    (told_line c.args.telling (Wire c.args.before.now.kept) (wave (codes "k" ++ decimal c.args.number) (Wire c.args.now.now.kept)))
    (told_line c.args.telling (Wire c.args.before.now.postponed) (wave (codes "x" ++ decimal c.args.number) (Wire c.args.now.now.postponed)))
    (told_line c.args.telling (Wire c.args.before.now.finish) (wave (codes "j" ++ decimal c.args.number) (Wire c.args.now.now.finish))))
