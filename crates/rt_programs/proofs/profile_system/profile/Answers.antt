use Rattle.rt_programs.proofs.Common.{◌≡◌, ◌^◌, ℕ, min, ap, subst, sym, task_set, legal, ends-written, sizes_fit, own-state}
use Rattle.rt_profile.specs.ProfileText.{profile_text}
use Rattle.rt_profile.specs.Standing.{profile_at}
use Rattle.rt_programs.specs.Profiling.{ProfileMeans}
use Rattle.rt_programs.proofs.profile_system.profile.Goals as goal

pub open_set-requires-clause-sizes : goal.open_set-requires-clause-sizes
open_set-requires-clause-sizes g c = sizes_fit c.in_ok-system.system.version c.in_ok-system.system.tasks.items c.in_ok-system.ensures.found.0.tasks_fit

pub returns : goal.returns
returns g c =
    let set = task_set c.in_ok-system.system in
    let o = c.in_ok-opened.ensures in
    let machine = c.in_ok-opened.opened.machine in
    let told : c.in_ok-profile.profile ≡ profile_at set machine.tick = subst (λ (u : ℕ). c.in_ok-profile.profile ≡ profile_at set u) (sym o.start) c.in_ok-profile.ensures.stands in
    let after : c.tell_entries.new.profile ≡ profile_at set c.min.result = c.tell_entries.ensures set (own-state set 0 machine o.stands) told in
    let text = profile_text c.args.form set (legal set c.min.result) in
    let is : text ≡ profile_text c.args.form set (legal set (min c.args.n (2 ^ 40))) = ap (λ (n : ℕ). profile_text c.args.form set (legal set n)) c.min.ensures in
    ends-written g.S.Sink.seen (ProfileMeans c.args.bytes.now c.args.admission c.args.n c.args.form) c.args.out.now c.write_text.new.out text c.write_text.result c.answer.result c.answer.ensures
    (set, record { valid = c.in_ok-system.ensures.found.0; bytes = c.in_ok-system.ensures.found.1 }, o.loads, is) (c.write_text.ensures set c.min.result after)
