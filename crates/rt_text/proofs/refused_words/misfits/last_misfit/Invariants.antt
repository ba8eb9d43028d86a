use Rattle.rt_text.proofs.Common.{◌≡◌, drop, map, option_map}
use Rattle.std.specs.List.{slice_get}
use Rattle.rt_text.specs.Misfits.{from_each, last_misfit}
use Rattle.rt_text.proofs.refused_words.misfits.last_misfit.Given as goal

abbrev pub invariant-loop-shape : goal.invariant-loop-shape
invariant-loop-shape l =
    last_misfit (slice_get (from_each l.tokens) 0) (map (λ shape. shape.now) l.shapes) (from_each l.tokens)
    ≡ last_misfit (option_map (λ rest. rest.now) l.found) (map (λ shape. shape.now) (drop l.shape-index l.shapes)) (from_each l.tokens)
