use Rattle.rt_programs.proofs.Common.{◌≡◌, Bool, false, Err, sym, ap, subst, ◌∙◌, told, EndsTelling, gathering}
use Rattle.rt_programs.specs.Showing.{is_object}
use Rattle.rt_programs.specs.declared.printing.file_text.FileText.TheVariants.{Certificates}
use Rattle.rt_programs.specs.printing.TextMeans.{CertificatesMean}
use Rattle.rt_programs.proofs.printing.judging.print_certificates.Goals as goal

pub returns-in-Ok-clause-judges : goal.returns-in-Ok-clause-judges
returns-in-Ok-clause-judges g c = λ admission fail_on none.
    let seen = g.S.Sink.seen in
    let file = c.args.bytes.now in
    let no : is_object file ≡ false = sym c.is_object.ensures ∙ c.if-is_object.false in
    c.print_outcomes.ensures.judges admission file fail_on no c.in-Ok.ensures.opens.1 (ap (told seen) c.in-Ok.ensures.opens.2 ∙ none)

pub returns-in-Err-clause-judges : goal.returns-in-Err-clause-judges
returns-in-Err-clause-judges g c = λ admission fail_on none.
    let seen = g.S.Sink.seen in
    let file = c.args.bytes.now in
    let q = c.args.question in
    let words = c.args.except.now in
    let no : is_object file ≡ false = sym c.is_object.ensures ∙ c.if-is_object.false in
    let ends = subst (λ (b : Bool). EndsTelling (gathering seen) (CertificatesMean b q words file) c.args.out.now (Err c.in-Err.fault) c.open.new.out) (sym no) (c.in-Err.ensures.refused q.jobs words) in
    c.refuse.ensures.judges c.args.out.now admission (Certificates q) file fail_on words c.requires.is_open none ends
