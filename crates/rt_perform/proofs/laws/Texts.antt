-- Of a file that spells nothing only its refusal is left, and one that is read alike has the same.
use Rattle.rt_perform.proofs.Common.{ℕ, Bool, true, false, List, [], ◌∷◌, Option, Some, None, Result, sym, subst, ◌∙◌, inl, inr, Admission, TaskSet, IsOverload, Fails, Misnames}
use Rattle.std.proofs.Common.{IsErr}
use Rattle.rt_image.specs.declared.fault.ImageFault.{ImageFault}
use Rattle.rt_report.specs.declared.failing.Failing.{Failing}
use Rattle.rt_names.specs.declared.task_word.TaskWord.{TaskWord}
use Rattle.rt_names.specs.declared.task_word.TaskFault.{TaskFault}
use Rattle.rt_opening.specs.Ends.{Apart}
use Rattle.rt_opening.specs.declared.overloading.Overload.{Overload}
use Rattle.rt_opening.specs.declared.fault.SimFault.{SimFault}
use Rattle.rt_opening.specs.declared.fault.SimFault.TheVariants.{Image, Admit, Load}
use Rattle.rt_programs.specs.Showing.{is_object, ShowsAs}
use Rattle.rt_programs.specs.printing.TextKind.{text_kind}
use Rattle.rt_programs.specs.printing.TextMeans.{CertificatesMean, TextMeans, EndsCalmly}
use Rattle.rt_programs.specs.printing.Fails.{LacksIn, MisnamesIn}
use Rattle.rt_programs.specs.declared.question.Question.{Question}
use Rattle.rt_programs.specs.declared.printing.judging.Finding.{Finding}
use Rattle.rt_programs.specs.declared.printing.file_text.FileText.{FileText}
use Rattle.rt_programs.specs.declared.printing.file_text.FileText.TheVariants.{Solo, SoloPart, Run, RunPart, Report, Jobs, Chart, Trace, Certificate, Certificates, Listing, Contents, Admitted}
use Rattle.rt_perform.proofs.laws.Wholes.{Objects, Systems, Same}

shown : (a b : List ℕ) → Objects a b → Systems a b → (is : Bool) (said : List ℕ) (fault : Option SimFault) → Apart (ShowsAs is a) said fault → Apart (ShowsAs is b) said fault
shown a b object system true said None means = absurd (object.none means.0 means.1)
shown a b object system true said (Some (Image fault)) means = (object.read ∙ means.0, means.1)
shown a b object system false said None means = absurd (system.none means.0 means.1)
shown a b object system false said (Some (Image fault)) means = (system.read ∙ means.0, means.1)
shown a b object system is said (Some fault) means = absurd means.0

certificates : (a b : List ℕ) → Objects a b → Systems a b → (is : Bool) (question : Question) (except : List TaskWord) (said : List ℕ) (fault : Option SimFault) → CertificatesMean is question except a said fault
    → CertificatesMean is question except b said fault
certificates a b object system true question except said None means = absurd (object.none means.0 means.1)
certificates a b object system true question except said (Some (Image fault)) means = (object.read ∙ means.0, means.1)
certificates a b object system true question except said (Some fault) means = absurd (object.none means.0.0 means.0.1)
certificates a b object system false question except said None means = absurd (system.none means.0 means.2.spells)
certificates a b object system false question except said (Some (Image fault)) means = (system.read ∙ means.0, means.1)
certificates a b object system false question except said (Some (Admit fault)) means = absurd (system.none means.0 means.1)
certificates a b object system false question except said (Some (Load fault)) means = absurd (system.none means.0 means.1)
certificates a b object system false question except said (Some fault) means = absurd means

pub stays : (a b : List ℕ) (admission : Admission) (except : List TaskWord) (text : FileText) → Same (text_kind text) a b → (said : List ℕ) (fault : Option SimFault) → TextMeans admission except text a said fault → TextMeans admission except text b said fault
stays a b admission except Contents like said fault means =
    subst (λ (is : Bool). Apart (ShowsAs is b) said fault) (sym like.2) (shown a b like.0 like.1 (is_object a) said fault means)
stays a b admission except (Certificates question) like said fault means =
    subst (λ (is : Bool). CertificatesMean is question except b said fault) (sym like.2) (certificates a b like.0 like.1 (is_object a) question except said fault means)
stays a b admission except text like said None means = absurd (like.none means.0 means.1)
stays a b admission except text like said (Some (Image fault)) means = (like.read ∙ means.0, means.1)
stays a b admission except Admitted like said (Some (Admit fault)) means = absurd (like.none means.0 means.1)
stays a b admission except Admitted like said (Some fault) means = absurd means
stays a b admission except Listing like said (Some fault) means = absurd means.0
stays a b admission except text like said (Some fault) means = absurd (like.none means.0.0 means.0.1)

pub calm : (a b : List ℕ) (text : FileText) → Same (text_kind text) b a → EndsCalmly text a → EndsCalmly text b
calm a b (Solo ticks task) like is = λ o spells. absurd (like.none o spells)
calm a b (SoloPart ticks task part) like is = λ o spells. absurd (like.none o spells)
calm a b (Run ticks) like is = λ s spells. absurd (like.none s spells)
calm a b (RunPart ticks part) like is = λ s spells. absurd (like.none s spells)
calm a b (Certificate question) like is = λ o spells. absurd (like.none o spells)
calm a b (Certificates question) like is = λ o spells. absurd (like.0.none o spells)
calm a b text like is = is

lacks : (a b : List ℕ) → Systems a b → (is : Bool) (jobs : ℕ) (except : List TaskWord) (found : Option Finding) → LacksIn is a jobs except found → LacksIn is b jobs except found
lacks a b system true jobs except found none = none
lacks a b system false jobs except found lacking = absurd (system.none lacking.1.0 lacking.1.2.spells)

misnamed : (a b : List ℕ) → Systems a b → (is : Bool) (except : List TaskWord) (fault : TaskFault) → MisnamesIn is a except fault → MisnamesIn is b except fault
misnamed a b system true except fault named = named
misnamed a b system false except fault named = absurd (system.none named.0 named.1)

pub fails : (a b : List ℕ) (text : FileText) → Same (text_kind text) a b → (fail_on : List Failing) (except : List TaskWord) (found : Option Finding) → Fails text a fail_on except found → Fails text b fail_on except found
fails a b (Certificates question) like fail_on except found lacking =
    subst (λ (is : Bool). LacksIn is b question.jobs except found) (sym like.2) (lacks a b like.1 (is_object a) question.jobs except found lacking)
fails a b text like [] except found none = none
fails a b (Solo ticks task) like (f ∷ fs) except found run = absurd (like.none run.2.0 run.2.1)
fails a b (SoloPart ticks task part) like (f ∷ fs) except found run = absurd (like.none run.2.0 run.2.1)
fails a b (Run ticks) like (f ∷ fs) except found run = absurd (like.none run.0 run.2)
fails a b (RunPart ticks part) like (f ∷ fs) except found run = absurd (like.none run.0 run.2)
fails a b (Report ticks width) like (f ∷ fs) except found run = absurd (like.none run.0 run.2)
fails a b (Jobs ticks form) like (f ∷ fs) except found run = absurd (like.none run.0 run.2)
fails a b (Chart window style) like (f ∷ fs) except found run = absurd (like.none run.0 run.2)
fails a b (Trace from ticks word) like (f ∷ fs) except found run = absurd (like.none run.0 run.2)
fails a b text like (f ∷ fs) except found none = none

pub misnames : (a b : List ℕ) (text : FileText) → Same (text_kind text) a b → (except : List TaskWord) (fault : TaskFault) → Misnames text a except fault → Misnames text b except fault
misnames a b (Certificates question) like except fault named =
    subst (λ (is : Bool). MisnamesIn is b except fault) (sym like.2) (misnamed a b like.1 (is_object a) except fault named)
misnames a b (Solo ticks task) like except fault run = absurd (like.none run.3.0 run.3.1)
misnames a b (SoloPart ticks task part) like except fault run = absurd (like.none run.3.0 run.3.1)
misnames a b (Run ticks) like except fault run = absurd (like.none run.2 run.3)
misnames a b (RunPart ticks part) like except fault run = absurd (like.none run.2 run.3)
misnames a b (Report ticks width) like except fault run = absurd (like.none run.2 run.3)
misnames a b (Jobs ticks form) like except fault run = absurd (like.none run.2 run.3)
misnames a b (Chart window style) like except fault run = absurd (like.none run.2 run.3)
misnames a b (Trace from ticks word) like except fault run = absurd (like.none run.2 run.3)
misnames a b text like except fault (ticks, is, set, runs, named) = absurd cc

pub overloaded : (a b : List ℕ) → Systems a b → (found : Option Overload) → IsOverload a found → IsOverload b found
overloaded a b like (Some o) is = absurd (like.none is.0 is.1)
overloaded a b like None (inl refused) = inl (subst (λ (r : Result TaskSet ImageFault). IsErr r) (sym like.read) refused)
overloaded a b like None (inr is) = absurd (like.none is.0 is.1)
