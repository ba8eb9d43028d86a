-- Steps of reading an open file.
use Rattle.rt_desk.proofs.Common.{◌≡◌, ℕ, ◌≤◌, length, List, [], ◌++◌, Bool, true, Option, Some, None, inl, inr, refl, sym, ap, ◌∙◌, append_assoc, block_size, IsEnough}
use Rattle.std.specs.Io.KnownBytes.{Consumes}
use Rattle.rt_desk.specs.declared.reading.kind.FileKind.{FileKind}
use Rattle.rt_desk.specs.reading.Reads.{ReadsSome}
use Rattle.rt_desk.specs.reading.Working.Blocks.{Gains}

-- nothing was read
pub consumes_none : (left : Option (List ℕ)) → Consumes left left []
consumes_none None = tt
consumes_none (Some left) = refl

-- one step more
pub consumes_more : (first before after : Option (List ℕ)) (old new : List ℕ) (is_end : Bool)
    → Consumes first before old → Gains before after old new is_end → Consumes first after new
consumes_more None before after old new is_end c g = tt
consumes_more (Some whole) None after old new is_end c g = absurd c
consumes_more (Some whole) (Some left) None old new is_end c (more, grown, taken, ends) = absurd taken
consumes_more (Some whole) (Some left) (Some rest) old new is_end c (more, grown, taken, ends) =
    c ∙ ap (λ (l : List ℕ). old ++ l) taken ∙ sym (append_assoc old more rest) ∙ ap (λ (l : List ℕ). l ++ rest) (sym grown)

-- the end of the file
pub read_end : (kind : FileKind) (first before after : Option (List ℕ)) (old new : List ℕ) (is_end : Bool)
    → Consumes first before old → Gains before after old new is_end → is_end ≡ true → ReadsSome kind first new
read_end kind None before after old new is_end c g e = tt
read_end kind (Some whole) before None old new is_end c g e = absurd (consumes_more (Some whole) before None old new is_end c g)
read_end kind (Some whole) before (Some rest) old new is_end c (more, grown, taken, ends) e =
    (rest, consumes_more (Some whole) before (Some rest) old new is_end c (more, grown, taken, ends), inl (ends e))

-- what follows can't matter
pub read_cut : (kind : FileKind) (first before after : Option (List ℕ)) (old new : List ℕ) (is_end : Bool)
    → Consumes first before old → Gains before after old new is_end → block_size ≤ length new → IsEnough kind new → ReadsSome kind first new
read_cut kind None before after old new is_end c g l e = tt
read_cut kind (Some whole) before None old new is_end c g l e = absurd (consumes_more (Some whole) before None old new is_end c g)
read_cut kind (Some whole) before (Some rest) old new is_end c g l e =
    (rest, consumes_more (Some whole) before (Some rest) old new is_end c g, inr (l, e))
