-- The entries of a history that goes on by one entry more.
use Rattle.std.specs.Prelude.{◌+◌, ◌==◌, if◌then◌else◌, List, [], ◌∷◌, Option, Some, None}
use Rattle.rt_history.specs.declared.record.Entry.{Entry}
use Rattle.rt_history.specs.declared.record.Entry.TheVariants.{Busy, Idle}

-- two idle stretches make one where the second begins at the end of the first
abbrev pub joined : Entry → Entry → Option Entry
joined (Busy t rec) e = None
joined (Idle t n) (Busy u rec) = None
joined (Idle t n) (Idle u m) = if t + n == u then Some (Idle t (n + m)) else None

abbrev pub joined_to : Option Entry → Entry → Option Entry
joined_to None e = None
joined_to (Some last) e = joined last e

-- the last entry, and what comes after it
abbrev pub or_both : Entry → Entry → Option Entry → List Entry
or_both last e None = last ∷ e ∷ []
or_both last e (Some stretch) = stretch ∷ []

-- an entry more, joined to the last one where the two are one stretch
abbrev pub pushed : List Entry → Entry → List Entry
pushed [] e = e ∷ []
pushed (x ∷ []) e = or_both x e (joined x e)
pushed (x ∷ y ∷ xs) e = x ∷ pushed (y ∷ xs) e
