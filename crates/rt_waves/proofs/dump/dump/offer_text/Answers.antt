use Rattle.rt_waves.proofs.Common.{◌≡◌, ◌+◌, ℕ, List, ◌++◌, length, inl, inr, sym, ap, subst, ◌∙◌, flat_map, range_with_len, cases_Bool, Offers, block, time_line, told_block}
use Rattle.rt_sink.proofs.Parts.{Offers-then}
use Rattle.rt_names.specs.TaskNames.{task_names}
use Rattle.rt_waves.specs.WavesText.{head_text}
use Rattle.rt_waves.proofs.dump.DumpLemmas.{offers-any, window-text}
use Rattle.rt_waves.proofs.dump.dump.offer_text.Goals as goal

pub returns-clause-counts : goal.returns-clause-counts
returns-clause-counts g c = record {
  told = λ set from n window count named start stands.
      let seen = g.S.Sink.seen in
      let b = c.offer_blocks.new.writer in
      let e = c.offer_end.new.writer in
      let head = rw c.requires.written at c.offer_head.ensures.offers in
      let blocks = c.offer_blocks.ensures.offers set from start stands in
      let last : Offers seen b.written b.sink.now (time_line (from + n)) e.written e.sink.now =
      elim (cases_Bool (seen b.sink.now).failed) [
        | inl shut ↦ offers-any seen _ _ _ _ _ _ shut c.offer_end.ensures.offers
        | inr opened ↦
            subst (λ (u : ℕ). Offers seen b.written b.sink.now (time_line u) e.written e.sink.now) (c.offer_blocks.ensures.end opened ∙ sym window) c.offer_end.ensures.offers
      ] in
      let all = Offers-then seen _ _ _ _ _ _ _ _ (Offers-then seen _ _ _ _ _ _ _ _ head blocks) last in
      let text : head_text c.args.scale.now c.args.names.now (length c.args.waves.now.tasks) ++ flat_map (told_block set from) (range_with_len 0 c.args.end) ++ time_line (from + n)
      ≡ head_text c.args.scale.now (task_names set) (length set.tasks) ++ flat_map (block set from) (range_with_len from n) ++ time_line (from + n) =
      ap (λ (k : ℕ). head_text c.args.scale.now c.args.names.now k ++ flat_map (told_block set from) (range_with_len 0 c.args.end) ++ time_line (from + n)) (sym count)
      ∙ ap (λ (names : List (List ℕ)). head_text c.args.scale.now names (length set.tasks) ++ flat_map (told_block set from) (range_with_len 0 c.args.end) ++ time_line (from + n)) named
      ∙ ap (λ (xs : List ℕ). head_text c.args.scale.now (task_names set) (length set.tasks) ++ xs ++ time_line (from + n))
      (ap (λ (u : ℕ). flat_map (told_block set from) (range_with_len 0 u)) (sym window) ∙ window-text set from n) in
      c.end.ensures c.args.writer.now.sink.now _ c.requires.is_open
      (subst (λ (xs : List ℕ). Offers seen 0 c.args.writer.now.sink.now xs e.written e.sink.now) text all);
}
