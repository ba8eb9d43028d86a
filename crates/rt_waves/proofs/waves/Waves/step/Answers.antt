use Rattle.rt_waves.proofs.Common.{◌≡◌, ◌<◌, ◌+◌, ℕ, List, ◌++◌, length, slice_get, slice_set, Some, refl, sym, ap, subst, ◌∙◌, arith, slice_get_read, Active, Next, Busy, Changes, time_line, TaskStanding, WavesState, seen, visited, lines_of, gone_by, offered, block_by}
use Rattle.rt_waves.specs.Working.Going.{Goes}
use Rattle.rt_waves.proofs.SoundLemmas.{Bounded, all-found, bounded-visited}
use Rattle.rt_waves.proofs.NewLemmas.{gone-bounded}
use Rattle.rt_waves.proofs.LineLemmas.{timed-some}
use Rattle.rt_waves.proofs.GoingLaws.{going-block, going-stands, going-sound, going-on, plain-stands, plain-block}
use Rattle.rt_waves.proofs.waves.Waves.step.Goals as goal

pub invariant_of-self : goal.invariant_of-self
invariant_of-self c =
    let w = c.self.inside in
    let u = w.clock in
    let xs = w.tasks.items in
    let a = c.args.attempt.now in
    let x = c.index_mut.result.now in
    let tasks : length xs ≡ length c.args.self.now.tasks = ap (λ (v : WavesState). length v.tasks) c.self.view_is in
    let there : slice_get xs a.task ≡ Some x = slice_get_read xs (length xs) a.task x refl (omega (arith, c.requires.task, tasks)) c.index_mut.ensures.value in
    let goes = c.self.invariant.1 a.task (c.keeps_going.ensures.going c.if-keeps_going.true) in
    let y = c.keep_going-is_going.new.self in
    let keep = c.keep_going-is_going.ensures in
    let early : u < w.next_wake = c.keeps_going.ensures.early c.if-keeps_going.true in
    let plain = c.keeps_going.ensures.plain c.if-keeps_going.true in
    let sound = c.self.invariant.0 in
    let tick : u ≡ c.args.self.now.tick = ap (λ (v : WavesState). v.tick) c.self.view_is in
    let before : Bounded u x = all-found (Bounded u) xs a.task x sound.tasks there in
    let bounded : Bounded (u + 1) y = subst (Bounded (u + 1)) (sym (keep.stands u)) (gone-bounded u Next c.args.place (visited u (Some Next) x) (bounded-visited u (Some Next) x before)) in
    let active : y.serving.mode ≡ Active = ap (λ (z : TaskStanding). z.serving.mode) (keep.stands u) in (
      going-sound w.from u w.next_wake w.idle w.unsettled w.last xs a x sound goes early plain there y (omega (arith, tick, c.requires.limit)) bounded active,
      λ k is.
          let going = c.keep_if.ensures k is in
          let same : Some a.task ≡ Some k = sym (c.keeps_going.ensures.going c.if-keeps_going.true) ∙ going.1 in
          let equal : a.task ≡ k = cc in
          subst (Goes w.from (u + 1) w.idle w.unsettled w.last (slice_set xs a.task y)) equal
          (going-on w.from u w.next_wake w.idle w.unsettled w.last xs a x sound goes early plain there y (keep.going going.0)),
    )

pub returns-then-keeps_going-clause-stands : goal.returns-then-keeps_going-clause-stands
returns-then-keeps_going-clause-stands c =
    let w = c.self.inside in
    let u = w.clock in
    let xs = w.tasks.items in
    let a = c.args.attempt.now in
    let x = c.index_mut.result.now in
    let tasks : length xs ≡ length c.args.self.now.tasks = ap (λ (v : WavesState). length v.tasks) c.self.view_is in
    let there : slice_get xs a.task ≡ Some x = slice_get_read xs (length xs) a.task x refl (omega (arith, c.requires.task, tasks)) c.index_mut.ensures.value in
    let goes = c.self.invariant.1 a.task (c.keeps_going.ensures.going c.if-keeps_going.true) in
    let early : u < w.next_wake = c.keeps_going.ensures.early c.if-keeps_going.true in
    let plain = c.keeps_going.ensures.plain c.if-keeps_going.true in
    let made : TaskStanding → WavesState = λ z. record { from = w.from; tick = u + 1; idle = w.idle; tasks = slice_set xs a.task z } in
    let P : WavesState → Type 0 = λ v. made c.keep_going-is_going.new.self ≡ gone_by a c.args.place (offered (Busy a) v) in
    subst P c.self.view_is
    (ap made (c.keep_going-is_going.ensures.stands u)
    ∙ sym (going-stands w.from u w.next_wake w.idle w.unsettled w.last xs a x c.self.invariant.0 goes early plain there c.args.place))

pub returns-then-keeps_going-clause-text : goal.returns-then-keeps_going-clause-text
returns-then-keeps_going-clause-text c =
    let w = c.self.inside in
    let u = w.clock in
    let xs = w.tasks.items in
    let a = c.args.attempt.now in
    let x = c.index_mut.result.now in
    let tasks : length xs ≡ length c.args.self.now.tasks = ap (λ (v : WavesState). length v.tasks) c.self.view_is in
    let there : slice_get xs a.task ≡ Some x = slice_get_read xs (length xs) a.task x refl (omega (arith, c.requires.task, tasks)) c.index_mut.ensures.value in
    let goes = c.self.invariant.1 a.task (c.keeps_going.ensures.going c.if-keeps_going.true) in
    let page = c.args.page.now in
    let keep = c.keep_going-is_going.ensures in
    let lines : List ℕ = lines_of Changes a.task x.told (seen u (Some Next) x) in
    let early : u < w.next_wake = c.keeps_going.ensures.early c.if-keeps_going.true in
    let plain = c.keeps_going.ensures.plain c.if-keeps_going.true in
    let whole : c.keep_going-is_going.new.page ≡ (page ++ time_line u) ++ lines = keep.text u ∙ ap (λ (p : List ℕ). p ++ lines) c.put_time.ensures.text in
    let more : length (page ++ time_line u) < length ((page ++ time_line u) ++ lines) =
    subst (λ (p : List ℕ). length p < length ((page ++ time_line u) ++ lines)) c.put_time.ensures.text (subst (λ (p : List ℕ). length c.put_time.new.self < length p) whole keep.more) in
    let P : WavesState → Type 0 = λ v. c.keep_going-is_going.new.page ≡ page ++ block_by (Busy a) v in
    subst P c.self.view_is
    (whole ∙ timed-some u page lines (λ same. omega (arith, same, more))
    ∙ ap (λ (l : List ℕ). page ++ l) (sym (going-block w.from u w.next_wake w.idle w.unsettled w.last xs a x c.self.invariant.0 goes early plain there)))

pub returns-then-is_plain_within-clause-stands : goal.returns-then-is_plain_within-clause-stands
returns-then-is_plain_within-clause-stands c =
    c.step_plain.ensures.stands ∙ plain-stands c.args.attempt.now c.args.place c.args.self.now (c.is_plain_within.ensures.plain c.if-is_plain_within.true)

pub returns-then-is_plain_within-clause-text : goal.returns-then-is_plain_within-clause-text
returns-then-is_plain_within-clause-text c =
    c.step_plain.ensures.text ∙ ap (λ (l : List ℕ). c.args.page.now ++ l) (plain-block c.args.attempt.now c.args.self.now (c.is_plain_within.ensures.plain c.if-is_plain_within.true))
