use Rattle.std.proofs.lemmas.Result.{err_from_is_err_and}
use Rattle.rt_asm.proofs.ObjectLemmas.{whole}
use Rattle.rt_asm.proofs.TextLemmas.{within, Within, Built, built, bytes_refused, start_refused, answered}
use Rattle.rt_asm.proofs.texts.assemble_text.Goals as goal

pub finished-requires : goal.finished-requires
finished-requires c =
    let s = c.in_ok-plan.ensures in
    let w : Within c.in_ok-plan.plan s.kept = within c.args.text.now c.in_ok-plan.plan s.kept s.laid in
    record { drafted = (s.kept, s.draft); low = w.low }

pub returns-in_err-bytes-clause-exact : goal.returns-in_err-bytes-clause-exact
returns-in_err-bytes-clause-exact c =
    let s = c.in_ok-plan.ensures in
    let p = err_from_is_err_and c.from_residual-in_err-bytes.result c.from_residual-in_err-bytes.ensures.1 in
    rw (p.1, p.2) (bytes_refused c.args.text.now c.in_ok-plan.plan s.kept _ s.laid (c.in_err-bytes.ensures.exact s.kept s.draft))

pub new-requires : goal.new-requires
new-requires c =
    let s = c.in_ok-plan.ensures in
    let b : Built c.in_ok-plan.plan s.laid.lines c.in_ok-bytes.bytes.items =
    built c.args.text.now c.in_ok-plan.plan s.kept c.in_ok-bytes.bytes.items s.laid (c.in_ok-bytes.ensures.bytes s.kept s.draft) (c.in_ok-bytes.ensures.exact s.kept s.draft) in
    whole s.laid.lines c.in_ok-plan.plan c.labels.result.now c.in_ok-bytes.bytes.items s.laid.laid s.laid.named b.placed c.in_ok-bytes.ensures.low c.labels.ensures

pub returns-in_err-new-clause-exact : goal.returns-in_err-new-clause-exact
returns-in_err-new-clause-exact c =
    let s = c.in_ok-plan.ensures in
    let b : Built c.in_ok-plan.plan s.laid.lines c.in_ok-bytes.bytes.items =
    built c.args.text.now c.in_ok-plan.plan s.kept c.in_ok-bytes.bytes.items s.laid (c.in_ok-bytes.ensures.bytes s.kept s.draft) (c.in_ok-bytes.ensures.exact s.kept s.draft) in
    let p = err_from_is_err_and c.from_residual-in_err-new.result c.from_residual-in_err-new.ensures.1 in
    rw (p.1, p.2)
    (start_refused c.args.text.now c.in_ok-plan.plan s.kept c.in_ok-bytes.bytes.items c.labels.result.now _ s.laid b c.labels.ensures c.in_err-new.ensures.exact)

pub returns-clause-exact : goal.returns-clause-exact
returns-clause-exact c =
    let s = c.in_ok-plan.ensures in
    let b : Built c.in_ok-plan.plan s.laid.lines c.in_ok-bytes.bytes.items =
    built c.args.text.now c.in_ok-plan.plan s.kept c.in_ok-bytes.bytes.items s.laid (c.in_ok-bytes.ensures.bytes s.kept s.draft) (c.in_ok-bytes.ensures.exact s.kept s.draft) in
    answered c.args.text.now c.in_ok-plan.plan s.kept c.in_ok-bytes.bytes.items c.labels.result.now c.in_ok-new.field-0 s.laid b c.labels.ensures
    c.in_ok-new.ensures.labels c.in_ok-new.ensures.bytes c.in_ok-new.ensures.exact
