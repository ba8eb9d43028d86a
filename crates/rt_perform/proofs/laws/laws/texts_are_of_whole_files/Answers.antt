use Rattle.rt_perform.proofs.Common.{Fails, Misnames}
use Rattle.rt_programs.specs.printing.TextKind.{text_kind}
use Rattle.rt_programs.specs.printing.TextMeans.{TextMeans, EndsCalmly}
use Rattle.rt_perform.proofs.laws.Texts.{stays, calm, fails, misnames}
use Rattle.rt_perform.proofs.laws.Wholes.{of_whole}
use Rattle.rt_perform.proofs.laws.laws.texts_are_of_whole_files.Goals as goal

pub returns-clause-means : goal.returns-clause-means
returns-clause-means c admission except text whole bytes said fault =
    of_whole (text_kind text) (λ file. TextMeans admission except text file said fault) (λ a b like back. stays a b admission except text like said fault) whole bytes

pub returns-clause-calm : goal.returns-clause-calm
returns-clause-calm c text whole bytes = of_whole (text_kind text) (EndsCalmly text) (λ a b like back. calm a b text back) whole bytes

pub returns-clause-fails : goal.returns-clause-fails
returns-clause-fails c text whole bytes fail_on except found =
    of_whole (text_kind text) (λ file. Fails text file fail_on except found) (λ a b like back. fails a b text like fail_on except found) whole bytes

pub returns-clause-misnames : goal.returns-clause-misnames
returns-clause-misnames c text whole bytes except fault =
    of_whole (text_kind text) (λ file. Misnames text file except fault) (λ a b like back. misnames a b text like except fault) whole bytes
