use Rattle.rt_drawing.proofs.Common.{◌≡◌, ◌++◌, length, ap, ◌∙◌, arith, IsBounded, TaskDrawing}
use Rattle.std.proofs.Common.{length-append}
use Rattle.rt_drawing.proofs.SoundLemmas.{bounded-after, numbers-after, ticks-after}
use Rattle.rt_drawing.proofs.sketch.Sketch.take.Goals as goal

pub returns-clause-sound : goal.returns-clause-sound
returns-clause-sound c =
    let before : c.self.inside.serving ≡ c.args.self.now.serving = ap (λ (x : TaskDrawing). x.serving) c.self.view_is in
    let bounded : IsBounded c.args.u c.self.inside.serving.account = rw before c.requires.sound.account in
    let job : c.self-2.inside.job ≡ c.args.self.now.job = ap (λ (x : TaskDrawing). x.job) c.self-2.view_is ∙ ap (λ (x : TaskDrawing). x.job) c.in_ok-draw.ensures.ok in
    let waits : c.self-2.inside.waits.items ≡ c.draw.new.self.waits = ap (λ (x : TaskDrawing). x.waits) c.self-2.view_is in
    let stretches : c.self-2.inside.stretches.items ≡ c.draw.new.self.stretches = ap (λ (x : TaskDrawing). x.stretches) c.self-2.view_is in
    let marks : c.self-2.inside.marks.items ≡ c.args.self.now.marks ++ c.deref.result.now =
    ap (λ (x : TaskDrawing). x.marks) c.self-2.view_is ∙ ap (λ (x : TaskDrawing). x.marks) c.in_ok-draw.ensures.ok in
    record {
      account = rw c.push_record-after.ensures.stands (bounded-after c.args.u c.args.outcome c.self.inside.serving bounded);
      behind = omega arith;
      number = rw (c.behind-self-inside.ensures, job) (numbers-after c.args.u c.args.self.now.job c.args.outcome c.requires.sound.number);
      ticks = rw (c.behind-self-inside.ensures, job) (ticks-after c.args.u c.args.self.now.job c.args.outcome c.requires.sound.ticks);
      waits = omega (arith, ap length waits, c.in_ok-draw.ensures.waits, c.requires.sound.waits);
      stretches = omega (arith, ap length stretches, c.in_ok-draw.ensures.stretches, c.requires.sound.stretches);
      marks = omega (arith, ap length marks, length-append c.args.self.now.marks c.deref.result.now, c.deref.ensures.1, c.requires.sound.marks);
    }
