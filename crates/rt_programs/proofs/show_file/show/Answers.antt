use Rattle.rt_programs.proofs.Common.{◌≡◌, Bool, true, false, sym, subst, ◌∙◌, Ends}
use Rattle.rt_programs.specs.Showing.{is_object, ShowsAs}
use Rattle.rt_programs.proofs.show_file.show.Goals as goal

pub returns-then-is_object : goal.returns-then-is_object
returns-then-is_object g c =
    let file = c.args.bytes.now in
    let is : is_object file ≡ true = sym c.is_object.ensures ∙ c.if-is_object.true in
    subst (λ (b : Bool). Ends g.S.Sink.seen (ShowsAs b file) c.args.out.now c.show_object.result c.show_object.new.out) (sym is) c.show_object.ensures

pub returns : goal.returns
returns g c =
    let file = c.args.bytes.now in
    let is : is_object file ≡ false = sym c.is_object.ensures ∙ c.if-is_object.false in
    subst (λ (b : Bool). Ends g.S.Sink.seen (ShowsAs b file) c.args.out.now c.show_set.result c.show_set.new.out) (sym is) c.show_set.ensures
