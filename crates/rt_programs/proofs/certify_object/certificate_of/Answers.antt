use Rattle.rt_programs.proofs.Common.{◌≡◌, true, None, length, refl, sym, ap, ◌∙◌, option_map, is_ram_size, object_value, TaskSet, MachineState, state_at, tasks-count, load_fault, sim_load_fault}
use Rattle.rt_programs.specs.Certify.{lone_task, lone_set, lone_fault}
use Rattle.rt_programs.proofs.CertifyLemmas.{at-last}
use Rattle.rt_programs.proofs.certify_object.certificate_of.Goals as goal

pub certify_where-requires : goal.certify_where-requires
certify_where-requires g c =
    let s = lone_set (object_value c.args.object) c.args.question.now in
    let stands : c.in_ok-machine.machine ≡ state_at s 0 = c.in_ok-machine.ensures.1 ∙ ap (λ (x : TaskSet). state_at x 0) c.in_ok-system.ensures.set in
    ap (λ (m : MachineState). length m.tasks) stands ∙ tasks-count s 0

pub returns-clause-certifies : goal.returns-clause-certifies
returns-clause-certifies g c =
    let o = object_value c.args.object in
    let q = c.args.question.now in
    let s = lone_set o q in
    let size : is_ram_size c.args.question.now.ram ≡ true = sym c.is_ram_size.ensures ∙ cc in
    let loaded : load_fault s ≡ None = ap load_fault (sym c.in_ok-system.ensures.set) ∙ c.in_ok-machine.ensures.0 in
    let fault : lone_fault o q ≡ None = rw size (ap (option_map sim_load_fault) loaded) in
    let stands : c.in_ok-machine.machine ≡ state_at s 0 = c.in_ok-machine.ensures.1 ∙ ap (λ (x : TaskSet). state_at x 0) c.in_ok-system.ensures.set in
    (fault, c.in-Err.ensures.refused s (lone_task o q) stands refl refl)

pub returns-in-Ok-clause-certifies : goal.returns-in-Ok-clause-certifies
returns-in-Ok-clause-certifies g c =
    let o = object_value c.args.object in
    let q = c.args.question.now in
    let s = lone_set o q in
    let certificate = c.in-Ok.placed.certificate in
    let size : is_ram_size c.args.question.now.ram ≡ true = sym c.is_ram_size.ensures ∙ cc in
    let loaded : load_fault s ≡ None = ap load_fault (sym c.in_ok-system.ensures.set) ∙ c.in_ok-machine.ensures.0 in
    let fault : lone_fault o q ≡ None = rw size (ap (option_map sim_load_fault) loaded) in
    let stands : c.in_ok-machine.machine ≡ state_at s 0 = c.in_ok-machine.ensures.1 ∙ ap (λ (x : TaskSet). state_at x 0) c.in_ok-system.ensures.set in
    let told = c.in-Ok.ensures.certified s (lone_task o q) stands refl refl in (
      fault,
      (
        record {
          attempts = told.0;
          is = told.1.0;
          jobs = c.in-Ok.ensures.jobs;
          all = at-last s _ certificate.next told.0 c.certify_where.new.machine.tick c.in-Ok.ensures.all told.2;
        },
        told.1.1,
      ),
    )
