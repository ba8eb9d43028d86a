-- The first words of commands.
use Rattle.std.specs.Prelude.{ℕ, List, [], ◌∷◌, Option, codes}
use Rattle.std.specs.Map.{lookup}
use Rattle.std.specs.Str.{bytes_eq}
use Rattle.rt_command.specs.declared.verb.Verb.{Verb}
use Rattle.rt_command.specs.declared.verb.Verb.TheVariants.{Step, Back, Continue, Where, Regs, Server, Mem, List as Listed, Out, Trace, Break, Delete, Stop, Unstop, Quit}

unfoldable pub verbs : List (List ℕ × Verb)
verbs =
    (codes "step", Step) ∷ (codes "back", Back) ∷ (codes "continue", Continue) ∷ (codes "where", Where) ∷
    (codes "regs", Regs) ∷ (codes "server", Server) ∷ (codes "mem", Mem) ∷ (codes "list", Listed) ∷ (codes "out", Out) ∷
    (codes "trace", Trace) ∷ (codes "break", Break) ∷ (codes "delete", Delete) ∷
    (codes "stop", Stop) ∷ (codes "unstop", Unstop) ∷ (codes "quit", Quit) ∷ []

abbrev pub verb_of : List ℕ → Option Verb
verb_of name = lookup (bytes_eq name) verbs
