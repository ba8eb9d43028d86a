use Rattle.rt_profile.proofs.Common.{◌≡◌, ◌-◌, ap, ◌∙◌, ProfileState}
use Rattle.rt_profile.proofs.profile.Profile.write_form.Goals as goal

pub returns-in-Rows : goal.returns-in-Rows
returns-in-Rows g c =
    let items = c.deref-items.ensures.value ∙ ap (λ (p : ProfileState). p.tasks) c.self.view_is in
    let idle = ap (λ (p : ProfileState). p.idle) c.self.view_is in
    rw c.in-Rows.is (rw (c.plain.ensures, items, idle) at c.write.ensures)

pub returns-in-Needs : goal.returns-in-Needs
returns-in-Needs g c =
    let items = c.deref-items.ensures.value ∙ ap (λ (p : ProfileState). p.tasks) c.self.view_is in
    rw c.in-Needs.is (rw (c.plain-in-Needs.ensures, items) at c.write-in-Needs.ensures)

pub returns-in-Callgrind : goal.returns-in-Callgrind
returns-in-Callgrind g c =
    let items = c.deref-items.ensures.value ∙ ap (λ (p : ProfileState). p.tasks) c.self.view_is in
    let busy : c.self.inside.clock - c.self.inside.idle ≡ c.args.self.now.tick - c.args.self.now.idle = ap (λ (p : ProfileState). p.tick - p.idle) c.self.view_is in
    rw c.in-Callgrind.is (rw (c.plain-in-Callgrind.ensures, items, busy) at c.write-in-Callgrind.ensures)
