-- A text is given to a sink that gathers, and flushed.
use Rattle.rt_dialogue.proofs.Common.{◌≡◌, ℕ, ◌+◌, ◌<◌, ◌≤◌, eqb, true, false, true≢false, List, [], ◌++◌, length, length-append, append-nil, take, Option, Some, None, Result, Ok, Err, sym, ap, subst, ◌∙◌, arith, Seen, DeviceFault, BufferedSink, told, Flushes, said_nothing, HasSaid, Speaks}
use Rattle.std.proofs.Common.{◌^◌}
use Rattle.std.proofs.lemmas.Bool.{eq-eqb}
use Rattle.std.proofs.lemmas.List.{length-take-le, take-take}
use Rattle.std.proofs.Math.Seq.{take-append-add}
use Rattle.std.specs.Io.KnownBytes.{Appends}
use Rattle.rt_sink.specs.Sink.{Writes}
use Rattle.rt_sink.specs.Buffered.{gathering, counted, told_behind}
use Rattle.rt_sink.proofs.Flushed.{parts_of, taken_after}

told_parts : (o : Option (List ℕ)) (gathered : List ℕ) (delivered : ℕ) (taken : List ℕ) → o ≡ Some taken → delivered ≡ counted 0 (length taken) → told_behind o gathered delivered ≡ Some (taken ++ gathered)
told_parts None gathered delivered taken are counts = absurd cc
told_parts (Some xs) gathered delivered taken are counts =
    let same : xs ≡ taken = cc in
    let is : eqb delivered (counted 0 (length xs)) ≡ true = eq-eqb _ _ (counts ∙ ap (λ (l : List ℕ). counted 0 (length l)) (sym same)) in
    rw is (ap (λ (l : List ℕ). Some (l ++ gathered)) same)

-- fewer bytes than those of the text have arrived, as many as the count says
abbrev HasLess : {S : Type 0} → (S → Seen) → List ℕ → S → ℕ → Type 0
HasLess seen text inner n = (n < length text) × ((seen inner).contents ≡ Some (take n text))

module _ {S : Type 0} (seen : S → Seen) where
  -- all that waited is delivered
  flushed_whole : (mid after : BufferedSink S) (text : List ℕ) (u : Unit {0}) → told seen mid ≡ Some text → Flushes seen mid (Ok u) after → HasSaid seen text after
  flushed_whole mid after text u is f =
      let p = parts_of (seen mid.inner).contents mid.gathered mid.delivered text is in
      let d = f.2.whole f.1 in
      let here : (seen after.inner).contents ≡ Some (p.taken ++ mid.gathered) = taken_after (seen after.inner).contents p.taken mid.gathered (subst (λ (o : Option (List ℕ)). Appends o (seen after.inner).contents mid.gathered) p.are d.0.took) in
      let size : length (p.taken ++ mid.gathered) ≡ length p.taken + length mid.gathered = length-append p.taken mid.gathered in
      let counts : after.delivered ≡ counted 0 (length (p.taken ++ mid.gathered)) = sums mid.delivered after.delivered (length p.taken) (length mid.gathered) (length (p.taken ++ mid.gathered)) p.counts d.2 size in
      let all : (seen after.inner).contents ≡ Some text = here ∙ ap Some (sym p.joined) in
      record {
        is_open = f.1;
        told_all = told_parts (seen after.inner).contents after.gathered after.delivered (p.taken ++ mid.gathered) here counts
            ∙ ap (λ (l : List ℕ). Some ((p.taken ++ mid.gathered) ++ l)) d.1 ∙ ap Some (append-nil (p.taken ++ mid.gathered) ∙ sym p.joined);
        arrived = all;
      }
    where
      sums : (old new a b all : ℕ) → old ≡ counted 0 a → new ≡ counted old b → all ≡ a + b → new ≡ counted 0 all
      sums old new a b all first second size = omega (arith, first, second, size)

  -- the other sink was open, and failed at what waited
  flushed_part : (mid after : BufferedSink S) (text : List ℕ) (fault : DeviceFault) → length text ≤ 2 ^ 64 → (seen mid.inner).failed ≡ false → told seen mid ≡ Some text
      → Flushes {X = Unit {0}} seen mid (Err fault) after → HasLess seen text after.inner fault.written
  flushed_part mid after text fault limit opened is f =
      let p = parts_of (seen mid.inner).contents mid.gathered mid.delivered text is in
      let d = (f.3 opened).part f.0 in
      let n = d.0 in
      let sizes : length text ≡ length p.taken + length mid.gathered = ap length p.joined ∙ length-append p.taken mid.gathered in
      let first : mid.delivered ≡ length p.taken = omega (arith, p.counts, sizes, limit, d.1.part) in
      let all : fault.written ≡ length p.taken + n = omega (arith, f.1, d.3, first, sizes, limit, d.1.part) in
      let held : (seen after.inner).contents ≡ Some (p.taken ++ take n mid.gathered) = taken_after (seen after.inner).contents p.taken (take n mid.gathered) (subst (λ (o : Option (List ℕ)). Appends o (seen after.inner).contents (take n mid.gathered)) p.are d.1.took) in
      let cut : take fault.written text ≡ p.taken ++ take n mid.gathered = ap (λ (k : ℕ). take k text) all ∙ ap (take (length p.taken + n)) p.joined ∙ take-append-add p.taken mid.gathered n in
      (omega (arith, all, sizes, d.1.part), held ∙ ap Some (sym cut))

  -- the other sink had failed
  flushed_failed : (mid after : BufferedSink S) (text : List ℕ) (fault : DeviceFault) → length text < 2 ^ 64 → (seen mid.inner).failed ≡ true → told seen mid ≡ Some text
      → Flushes {X = Unit {0}} seen mid (Err fault) after → (fault.written ≤ length text) × ((seen after.inner).contents ≡ Some (take fault.written text))
  flushed_failed mid after text fault limit shut is f =
      let p = parts_of (seen mid.inner).contents mid.gathered mid.delivered text is in
      let sizes : length text ≡ length p.taken + length mid.gathered = ap length p.joined ∙ length-append p.taken mid.gathered in
      let same : after ≡ mid = f.2 shut in
      let all : fault.written ≡ length p.taken + 0 = let count : after.delivered ≡ mid.delivered = ap (λ (b : BufferedSink S). b.delivered) same in omega (arith, f.1, count, p.counts, sizes, limit) in
      let cut : take fault.written text ≡ p.taken = ap (λ (k : ℕ). take k text) all ∙ ap (take (length p.taken + 0)) p.joined ∙ take-append-add p.taken mid.gathered 0 ∙ append-nil p.taken in
      (omega (arith, all, sizes), ap (λ (b : BufferedSink S). (seen b.inner).contents) same ∙ p.are ∙ ap Some (sym cut))

  pub spoken : (before mid after : BufferedSink S) (text bytes : List ℕ) (written flushed : Result (Unit {0}) DeviceFault) → HasSaid seen text before
      → Writes (gathering seen) before bytes written mid → Flushes seen mid flushed after → Speaks seen (text ++ bytes) flushed after
  spoken before mid after text bytes (Ok x) (Ok u) s w f = flushed_whole mid after (text ++ bytes) u (taken_after (told seen mid) text bytes (subst (λ (o : Option (List ℕ)). Appends o (told seen mid) bytes) s.told_all w.took)) f
  spoken before mid after text bytes (Ok x) (Err fault) s w f = λ limit.
      flushed_part mid after (text ++ bytes) fault limit w.is_open (taken_after (told seen mid) text bytes (subst (λ (o : Option (List ℕ)). Appends o (told seen mid) bytes) s.told_all w.took)) f
  spoken before mid after text bytes (Err e) (Ok u) s w f = absurd (true≢false (sym w.is_failed ∙ f.0))
  spoken before mid after text bytes (Err e) (Err fault) s w f = λ limit.
      let first : List ℕ = take e.written bytes in
      let told_mid : told seen mid ≡ Some (text ++ first) = taken_after (told seen mid) text first (subst (λ (o : Option (List ℕ)). Appends o (told seen mid) first) s.told_all w.took) in
      let cut : text ++ first ≡ take (length text + e.written) (text ++ bytes) = sym (take-append-add text bytes e.written) in
      let size : length (text ++ bytes) ≡ length text + length bytes = length-append text bytes in
      let within : length text + e.written ≤ length (text ++ bytes) = omega (arith, size, w.part) in
      let len : length (text ++ first) ≡ length text + e.written = ap length cut ∙ length-take-le (length text + e.written) (text ++ bytes) within in
      let part = flushed_failed mid after (text ++ first) fault (omega (arith, len, size, w.part, limit)) w.is_failed told_mid f in
      let low : fault.written ≤ length text + e.written = omega (arith, part.0, len) in
      (omega (arith, low, size, w.part), part.1 ∙ ap Some (ap (take fault.written) cut ∙ take-take fault.written (length text + e.written) (text ++ bytes) low))

  -- a sink that was told nothing
  pub said_first : (out : BufferedSink S) → (seen out.inner).failed ≡ false → told seen out ≡ Some [] → HasSaid seen [] out
  said_first out opened none = record { is_open = opened; told_all = none; arrived = (said_nothing seen out none).arrived }
