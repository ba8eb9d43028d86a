-- What is said behind what was said, and what stays.
use Rattle.rt_perform.proofs.Common.{◌≡◌, ℕ, suc, Bool, true, false, List, [], ◌∷◌, ◌++◌, Option, Some, None, Ok, inl, inr, refl, sym, ap, subst, ◌∙◌, true≢false, Files, ProgramFault, Request}
use Rattle.std.proofs.Common.{zero, codes}
use Rattle.std.specs.Fmt.{◌++?◌}
use Rattle.std.proofs.lemmas.List.{append_assoc, append-nil}
use Rattle.rt_desk.specs.Desk.{Keeps, Says}
use Rattle.rt_opening.specs.declared.fault.SimFault.TheVariants.{Memory}
use Rattle.rt_perform.specs.FirstLine.{Extends, Begins, SaysLine}
use Rattle.rt_perform.specs.Inputs.{AreRead, IsUnread}
use Rattle.rt_perform.specs.declared.program.ProgramFault.TheVariants.{Sim}
use Rattle.rt_perform.specs.Performs.{left_out_text, IsQuiet, Reports}
use Rattle.rt_perform.specs.Working.LeftOut.{IsLeftOut}

-- nothing
pub extends_none : (said : Option (List ℕ)) → Extends said said
extends_none None = tt
extends_none (Some said) = ([], sym (append-nil said))

-- a line
pub says_extends : (old line new : Option (List ℕ)) → Says old line new → Extends old new
says_extends None line new s = tt
says_extends (Some old) line None s = absurd s
says_extends (Some old) (Some line) (Some new) s = (line ++ 10 ∷ [], s ∙ append_assoc old line (10 ∷ []))
says_extends (Some old) None (Some new) (line, s) = (line ++ 10 ∷ [], s ∙ append_assoc old line (10 ∷ []))

-- more behind more
pub extends_more : (old mid new : Option (List ℕ)) → Extends old mid → Extends mid new → Extends old new
extends_more None mid new e f = tt
extends_more (Some old) None new e f = absurd e
extends_more (Some old) (Some mid) None e f = absurd f
extends_more (Some old) (Some mid) (Some new) (first, e) (more, f) = (first ++ more, f ∙ ap (λ (l : List ℕ). l ++ more) e ∙ append_assoc old first more)

-- a line of the program
pub says_line : (old output : Option (List ℕ)) (text : List ℕ) (new : Option (List ℕ)) → output ≡ Some text → Says old (Some (codes "rt_sim: ") ++? output) new → SaysLine old text new
says_line old output text new is s = subst (λ (o : Option (List ℕ)). Says old (Some (codes "rt_sim: ") ++? o) new) is s

line_begins : (old : Option (List ℕ)) (text : List ℕ) (new : Option (List ℕ)) → SaysLine old text new → Begins old text new
line_begins None text new s = tt
line_begins (Some old) text None s = absurd s
line_begins (Some old) text (Some new) s = ([], s ∙ sym (append-nil (old ++ (codes "rt_sim: " ++ text) ++ 10 ∷ [])))

-- and more behind it
pub line_more : (old : Option (List ℕ)) (text : List ℕ) (mid new : Option (List ℕ)) → SaysLine old text mid → Extends mid new → Begins old text new
line_more None text mid new b e = tt
line_more (Some old) text mid new b e = extends_more (Some (old ++ (codes "rt_sim: " ++ text) ++ 10 ∷ [])) mid new (line_begins (Some old) text mid b) e

-- what hears now heard before
pub was_heard : (before now : Bool) → (before ≡ true → now ≡ true) → now ≡ false → before ≡ false
was_heard false now deaf heard = refl
was_heard true now deaf heard = absurd (true≢false (sym (deaf refl) ∙ heard))

-- names that are left out, and more
pub reports_made : (request : Request) (first : List ℕ) (left_out : ℕ) (old mid new : Option (List ℕ)) → IsLeftOut left_out old mid → Extends mid new → (IsQuiet request first → new ≡ mid) → Reports request first old (Ok left_out) new
reports_made request first zero old mid new is e quiet = (subst (λ (o : Option (List ℕ)). Extends o new) is e, λ q. quiet q ∙ is)
reports_made request first (suc n) old mid new is e quiet = line_more old (left_out_text (suc n)) mid new is e

-- where there is no memory, a request isn't begun whose files were read
pub no-memory : (files : Option Files) (request : Request) (first names : List ℕ) (fault : ProgramFault) → fault ≡ Sim Memory → AreRead files request first names → IsUnread files request fault
no-memory files request first names fault is read = subst (IsUnread files request) (sym is) (inr (read.0, inr (read.1, inl tt)))

-- files that are the same are kept
keeps_self : (files : Option Files) → Keeps files files
keeps_self None = tt
keeps_self (Some files) = λ path. refl

pub keeps_same : (old new : Option Files) → new ≡ old → Keeps old new
keeps_same old new same = subst (λ (files : Option Files). Keeps old files) (sym same) (keeps_self old)
