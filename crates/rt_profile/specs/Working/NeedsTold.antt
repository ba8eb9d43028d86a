-- What a profile tells of needs, from what it keeps.
use Rattle.std.specs.Prelude.{ℕ, ◌+◌, ◌==◌, if◌then◌else◌, List, [], ◌∷◌, ◌++◌}
use Rattle.std.specs.List.{flat_map, enumerate_from}
use Rattle.rt_profile.specs.declared.need_row.NeedRow.{NeedRow}
use Rattle.rt_profile.specs.NeedsText.{needs_header, need_text}
use Rattle.rt_profile.specs.NeedCounts.{number_from, number_to, NeedState}
use Rattle.rt_profile.specs.Counted.{TaskCounts}

-- the row of bracket b with so many jobs, and so many up to it
abbrev pub kept_need : ℕ → ℕ → ℕ → ℕ → NeedRow
kept_need i b n m = record { task = i; from = number_from b; to = number_to b; jobs = n; within = m }

-- the rows of the brackets with jobs, of which the first is bracket b, so many jobs being in those before
abbrev pub kept_needs_from : ℕ → ℕ → ℕ → List ℕ → List NeedRow
kept_needs_from i b before [] = []
kept_needs_from i b before (n ∷ ns) =
    if n == 0 then kept_needs_from i (b + 1) before ns
    else kept_need i b n (before + n) ∷ kept_needs_from i (b + 1) (before + n) ns

-- the lines of task i
abbrev pub kept_need_lines : ℕ → NeedState → List ℕ
kept_need_lines i needs = flat_map need_text (kept_needs_from i 0 0 needs.counts)

-- the text of these tasks
abbrev pub kept_needs_text : List TaskCounts → List ℕ
kept_needs_text xs = needs_header ++ flat_map (λ n. kept_need_lines n.0 n.1.needs) (enumerate_from 0 xs)
