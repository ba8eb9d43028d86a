use Rattle.rt_laws.proofs.Common.{◌≡◌, ◌+◌, ◌-◌, ◌≤◌, List, get_or, slice_get, slice_set, Some, subst, sym, ap, ◌∙◌, arith, Account, after_ticks, spent_times, HasRoom}
use Rattle.std.proofs.lemmas.List.{length-set}
use Rattle.std.proofs.lemmas.List.Elements.{All-set, All-weaker, All-get_or}
use Rattle.std.proofs.lemmas.Option.{slice_get-get_or}
use Rattle.rt_laws.proofs.breach.Budgets.{after-times, after-add, after-none}
use Rattle.rt_laws.proofs.breach.Rooms.{room-less, room-spent}
use Rattle.rt_laws.proofs.breach.breaching.run.Goals as goal

pub loop-left-init : goal.loop-left-init
loop-left-init c =
    let none : c.args.ticks - c.args.ticks ≡ 0 = omega arith in
    record {
      within = omega arith;
      some = c.requires.some;
      room = c.requires.room;
      so_far = sym (after-none c.args.servers.now) ∙ ap (λ t. after_ticks t c.args.servers.now) (sym none);
    }

pub loop-left-preserved : goal.loop-left-preserved
loop-left-preserved c =
    let servers : List Account = c.loop-left.servers in
    let next = c.next_of-next.result in
    let v = c.loop-left.invariant in
    let a = get_or servers next c.index-servers-next.result in
    let there : slice_get servers next ≡ Some a = slice_get-get_or servers next c.index-servers-next.result c.next_of-next.ensures.below in
    let n = c.args.ticks - c.loop-left.left in
    let k = c.min-spent.result in
    let new = c.spend.new.self in
    let ok : HasRoom c.loop-left.left a = All-get_or (HasRoom c.loop-left.left) servers next c.index-servers-next.result c.next_of-next.ensures.below v.room in
    let least = c.next_of-next.ensures.least in
    let within : k ≤ a.c = omega (arith, c.min-spent.ensures) in
    let low : k ≤ c.loop-left.left = omega (arith, c.min-spent.ensures) in
    let turned : k + n ≡ c.args.ticks - (c.loop-left.left - k) = omega (arith, v.within, low) in
    let spent : new ≡ spent_times k a = cc in
    let room : HasRoom (c.loop-left.left - k) new = subst (HasRoom (c.loop-left.left - k)) (sym spent) (room-spent k c.loop-left.left a within low ok) in
    let ran : after_ticks k servers ≡ slice_set servers next (spent_times k a) = after-times k servers (least.0, next) a least.1 there within in
    record {
      within = omega (arith, v.within);
      some = omega (arith, length-set servers next new, v.some);
      room = All-set (HasRoom (c.loop-left.left - k)) servers next new room
          (All-weaker (HasRoom c.loop-left.left) (HasRoom (c.loop-left.left - k)) (λ b. room-less (c.loop-left.left - k) c.loop-left.left b (omega arith)) servers v.room);
      so_far = ap (λ (s : Account). slice_set servers next s) spent ∙ sym ran ∙ ap (after_ticks k) v.so_far ∙ sym (after-add k n c.args.servers.now)
          ∙ ap (λ m. after_ticks m c.args.servers.now) turned;
    }
