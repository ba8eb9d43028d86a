use Rattle.rt_perform.proofs.Common.{IsOverload}
use Rattle.rt_desk.specs.declared.reading.kind.FileKind.TheVariants.{System}
use Rattle.rt_perform.proofs.laws.Texts.{overloaded}
use Rattle.rt_perform.proofs.laws.Wholes.{of_whole}
use Rattle.rt_perform.proofs.laws.laws.overloads_are_of_whole_systems.Goals as goal

pub returns : goal.returns
returns c whole bytes found = of_whole System (λ file. IsOverload file found) (λ a b like back. overloaded a b like found) whole bytes
