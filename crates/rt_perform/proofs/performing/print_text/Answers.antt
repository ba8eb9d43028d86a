use Rattle.rt_perform.proofs.Common.{ℕ, List}
use Rattle.rt_perform.proofs.performing.print_text.Goals as goal
