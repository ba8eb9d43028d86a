use Rattle.rt_profile.proofs.Common.{◌≡◌, ℕ, ◌≤◌, List, ap, subst, ◌∙◌, arith, tick_limit, legal, ProfileState}
use Rattle.rt_sink.specs.Sink.{Counts}
use Rattle.rt_profile.specs.ProfileText.{profile_text}
use Rattle.rt_profile.specs.Working.Told.{kept_form}
use Rattle.rt_profile.proofs.TextLaws.{text-is, tick-at}
use Rattle.rt_profile.proofs.profile.Profile.write_text.Goals as goal

pub returns : goal.returns
returns g c = λ set t stands.
    let m = c.args.self.now in
    let form = c.args.form in
    let tick : m.tick ≡ t = ap (λ (p : ProfileState). p.tick) stands ∙ tick-at set t in
    let clock : c.self.inside.clock ≡ m.tick = ap (λ (p : ProfileState). p.tick) c.self.view_is in
    let limit : t ≤ tick_limit = omega (arith, tick, clock, c.self.invariant.limit) in
    let same : kept_form form m ≡ profile_text form set (legal set t) = ap (kept_form form) stands ∙ text-is form set t limit in
    subst (λ (text : List ℕ). Counts g.S.Sink.seen c.args.out.now text c.write_form.result c.write_form.new.out) same c.write_form.ensures
