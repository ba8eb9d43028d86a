-- The rows of a profile on a whole history: where each task's ticks were executed.
use Rattle.std.specs.Prelude.{ℕ, ◌==◌, nat_lt, max, if◌then◌else◌, Bool, true, false, List, [], ◌∷◌, map, count_by, Option, Some, None}
use Rattle.std.specs.List.{flat_map, enumerate_from}
use Rattle.std.specs.Option.{option_map_or}
use Rattle.rt_image.specs.ObjectFile.{Label}
use Rattle.rt_image.specs.SystemFile.{SetTask, TaskSet}
use Rattle.rt_history.specs.declared.record.Attempt.{Attempt}
use Rattle.rt_history.specs.declared.record.Record.{Record}
use Rattle.rt_profile.specs.Attempts.{attempts, pieces}
use Rattle.rt_names.specs.Parts.{part, namer}

-- an address among others that rise
abbrev pub placed : ℕ → List ℕ → List ℕ
placed a [] = a ∷ []
placed a (b ∷ bs) = if nat_lt a b then a ∷ b ∷ bs else (if a == b then b ∷ bs else b ∷ placed a bs)

-- these addresses and the pcs of the records, each once, in rising order
abbrev pub placed_all : List ℕ → List Attempt → List ℕ
placed_all bs [] = bs
placed_all bs (r ∷ rs) = placed_all (placed r.pc bs) rs

abbrev pub pcs : List Attempt → List ℕ
pcs rs = placed_all [] rs

-- how many records have this pc, and how many have one in this part
abbrev pub ticks_at : List Attempt → ℕ → ℕ
ticks_at rs a = count_by (λ r. r.pc == a) rs

abbrev pub ticks_in : List Label → ℕ → List Attempt → ℕ
ticks_in ls k rs = count_by (λ r. part ls r.pc == k) rs

abbrev pub greatest : List ℕ → ℕ
greatest [] = 0
greatest (n ∷ ns) = max n (greatest ns)

-- the most that one job has of them, be it finished or not
abbrev pub most_in : List Label → ℕ → List Attempt → ℕ
most_in ls k rs = greatest (map (ticks_in ls k) (pieces rs))

-- of a part that has a tick: the task, the symbol that names it, its ticks, how often its first address was executed, and the most
pub record PartRow : Type 0 where
  pub task : ℕ
  pub symbol : Option Label
  pub ticks : ℕ
  pub entered : ℕ
  pub most : ℕ

-- the row of the part of address a
abbrev pub row_at : ℕ → List Label → List Attempt → ℕ → PartRow
row_at i ls rs a = record {
  task = i;
  symbol = namer ls a;
  ticks = ticks_in ls (part ls a) rs;
  entered = option_map_or (λ l. ticks_at rs l.address) (namer ls a) 0;
  most = most_in ls (part ls a) rs;
}

-- an address that isn't in the part of the one before, or has none before
abbrev pub begins : Option ℕ → ℕ → Bool
begins None k = true
begins (Some j) k = if j == k then false else true

-- of addresses that rise the first of each part, the one before them being in this part
abbrev pub firsts : List Label → Option ℕ → List ℕ → List ℕ
firsts ls before [] = []
firsts ls before (a ∷ later) = if begins before (part ls a) then a ∷ firsts ls (Some (part ls a)) later else firsts ls (Some (part ls a)) later

-- the rows of task i: of each part with a tick, in the order of addresses
abbrev pub task_rows : ℕ → SetTask → List Record → List PartRow
task_rows i s history = map (row_at i s.object.labels (attempts i history)) (firsts s.object.labels None (pcs (attempts i history)))

-- those of all tasks
abbrev pub rows : TaskSet → List Record → List PartRow
rows set history = flat_map (λ n. task_rows n.0 n.1 history) (enumerate_from 0 set.tasks)
