-- The files of the lines of a set, read one after the other.
use Rattle.rt_perform.proofs.Common.{◌≡◌, ℕ, suc, ◌<◌, List, ◌∷◌, ◌++◌, length, map, Option, sym, ap, ◌∙◌, Files, ProgramFault}
use Rattle.std.proofs.Common.{take, drop, drop-cons}
use Rattle.std.specs.Prelude.{slice_index_or}
use Rattle.std.proofs.lemmas.List.{map-append, take-append-drop}
use Rattle.rt_set.specs.declared.set.TaskLine.{TaskLine}
use Rattle.rt_set.specs.SetFile.{task_entry, task_entries}
use Rattle.rt_set.specs.Packing.{PackEntry}
use Rattle.rt_perform.specs.Inputs.{IsUnreadAt}
use Rattle.rt_perform.specs.Packed.{AreTasksRead, IsTaskUnread}

pub parted : {X Y : Type 0} (view : X → Y) (xs : List X) (i : ℕ) (d : X) → i < length xs
    → map view xs ≡ map view (take i xs) ++ view (slice_index_or xs i d) ∷ map view (drop (suc i) xs)
parted {X = X} {Y = Y} view xs i d within =
    ap (map view) (sym (take-append-drop i xs)) ∙ map-append view (take i xs) (drop i xs)
    ∙ ap (λ (l : List X). map view (take i xs) ++ map view l) (drop-cons xs i d within)

-- a file that a line names isn't, and those before it are
pub unread_at : (files : Option Files) (made : Option (List ℕ)) (lines : List TaskLine) (i : ℕ) (d : TaskLine) (tasks : List PackEntry) (fault : ProgramFault)
    → i < length lines → AreTasksRead files made (map task_entry (take i lines)) tasks → IsUnreadAt files made (slice_index_or lines i d).path.now fault
    → IsTaskUnread files made (task_entries lines) fault
unread_at files made lines i d tasks fault within read unread =
    (map task_entry (take i lines), tasks, task_entry (slice_index_or lines i d), map task_entry (drop (suc i) lines), parted task_entry lines i d within, read, unread)
