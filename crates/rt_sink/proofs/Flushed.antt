-- What a sink that gathers was told, and what of it has arrived at the other sink.
use Rattle.std.proofs.Common.{◌≡◌, ℕ, ◌+◌, ◌^◌, ◌<◌, ◌≤◌, eqb, true, false, List, [], ◌++◌, length, length-append, take, Option, Some, None, Result, Ok, Err, refl, sym, ap, subst, ◌∙◌, arith, inl, inr}
use Rattle.std.proofs.lemmas.Bool.{cases_Bool, eqb-true}
use Rattle.std.proofs.lemmas.List.{length-take-le, take-take}
use Rattle.std.proofs.Math.Seq.{take-append-add}
use Rattle.std.proofs.KnownBytes.{Appends-nil}
use Rattle.std.specs.Io.KnownBytes.{Appends}
use Rattle.rt_sink.specs.Seen.{Seen}
use Rattle.rt_sink.specs.Sink.{Counts}
use Rattle.rt_sink.specs.declared.sink.DeviceFault.{DeviceFault}
use Rattle.rt_sink.specs.Buffered.{gathering, BufferedSink, counted, told_behind, told, Delivers, Flushes, Arrives}

-- those that were taken, and behind them those that wait
pub record Parts (taken_bytes : Option (List ℕ)) (gathered : List ℕ) (delivered : ℕ) (text : List ℕ) : Type 0 where
  pub taken : List ℕ
  pub are : taken_bytes ≡ Some taken
  pub counts : delivered ≡ counted 0 (length taken)
  pub joined : text ≡ taken ++ gathered

pub parts_of : (o : Option (List ℕ)) (gathered : List ℕ) (delivered : ℕ) (text : List ℕ) → told_behind o gathered delivered ≡ Some text → Parts o gathered delivered text
parts_of None gathered delivered text is = absurd cc
parts_of (Some xs) gathered delivered text is =
    elim (cases_Bool (eqb delivered (counted 0 (length xs)))) [
      | inl same ↦ record { taken = xs; are = refl; counts = eqb-true _ _ same; joined = let here : Some (xs ++ gathered) ≡ Some text = rw same at is in cc }
      | inr differs ↦ let here : None ≡ Some text = rw differs at is in absurd cc
    ]

counted_less : (o : Option (List ℕ)) (gathered : List ℕ) (delivered : ℕ) (text : List ℕ) → told_behind o gathered delivered ≡ Some text → delivered < 2 ^ 64
counted_less o gathered delivered text is = let p = parts_of o gathered delivered text is in omega (arith, p.counts)

pub taken_after : (o : Option (List ℕ)) (xs more : List ℕ) → Appends (Some xs) o more → o ≡ Some (xs ++ more)
taken_after None xs more is = absurd is
taken_after (Some ys) xs more is = ap Some is

-- the other sink took the first n bytes of those that waited
pub arrived : (old new : Option (List ℕ)) (gathered : List ℕ) (before after n : ℕ) (text : List ℕ) → length text < 2 ^ 64 → told_behind old gathered before ≡ Some text
    → n ≤ length gathered → Appends old new (take n gathered) → after ≡ counted before n → (after ≤ length text) × (new ≡ Some (take after text))
arrived old new gathered before after n text limit is within took counts =
    let p = parts_of old gathered before text is in
    let sizes : length text ≡ length p.taken + length gathered = ap length p.joined ∙ length-append p.taken gathered in
    let first : before ≡ length p.taken = omega (arith, p.counts, sizes, limit) in
    let all : after ≡ length p.taken + n = omega (arith, counts, first, sizes, limit, within) in
    let held : new ≡ Some (p.taken ++ take n gathered) = taken_after new p.taken (take n gathered) (subst (λ (o : Option (List ℕ)). Appends o new (take n gathered)) p.are took) in
    let cut : take after text ≡ p.taken ++ take n gathered = ap (λ (k : ℕ). take k text) all ∙ ap (take (length p.taken + n)) p.joined ∙ take-append-add p.taken gathered n in
    (omega (arith, all, sizes, within), held ∙ ap Some (sym cut))

-- so many of the first bytes of a text have arrived
abbrev pub HasFirst : {S : Type 0} → (S → Seen) → List ℕ → S → ℕ → Type 0
HasFirst seen text inner n = (n ≤ length text) × ((seen inner).contents ≡ Some (take n text))

module _ {S : Type 0} (seen : S → Seen) where
  -- at a sink that fails when it is given what waits
  pub arrived_first : (old new : BufferedSink S) (text : List ℕ) → length text < 2 ^ 64 → told seen old ≡ Some text → (seen new.inner).failed ≡ true → Delivers seen old new
      → HasFirst seen text new.inner new.delivered
  arrived_first old new text limit is shut d =
      let p = d.part shut in
      arrived (seen old.inner).contents (seen new.inner).contents old.gathered old.delivered new.delivered p.0 text limit is (omega (arith, p.1.part)) p.1.took p.3

  -- at a sink that had failed
  pub arrived_before : (b : BufferedSink S) (text : List ℕ) → length text < 2 ^ 64 → told seen b ≡ Some text → HasFirst seen text b.inner b.delivered
  arrived_before b text limit is =
      arrived (seen b.inner).contents (seen b.inner).contents b.gathered b.delivered b.delivered 0 text limit is (omega arith) (Appends-nil (seen b.inner).contents) (omega (arith, counted_less (seen b.inner).contents b.gathered b.delivered text is))

  -- all that waited is delivered
  arrived_all : (old new : BufferedSink S) (text : List ℕ) → told seen old ≡ Some text → (seen new.inner).failed ≡ false → Delivers seen old new → (seen new.inner).contents ≡ Some text
  arrived_all old new text is opened d =
      let p = parts_of (seen old.inner).contents old.gathered old.delivered text is in
      taken_after (seen new.inner).contents p.taken old.gathered (subst (λ (o : Option (List ℕ)). Appends o (seen new.inner).contents old.gathered) p.are (d.whole opened).0.took)
      ∙ ap Some (sym p.joined)

  -- the flush of a text that was written whole
  flush_whole : (mid after : BufferedSink S) (text : List ℕ) (flushed : Result (Unit {0}) DeviceFault) → length text < 2 ^ 64 → told seen mid ≡ Some text
      → Flushes seen mid flushed after → Arrives seen text flushed after.inner
  flush_whole mid after text (Ok u) limit is f = arrived_all mid after text is f.1 f.2
  flush_whole mid after text (Err e) limit is f =
      let first : HasFirst seen text after.inner after.delivered = elim (cases_Bool (seen mid.inner).failed) [
        | inl shut ↦ let Arrived : BufferedSink S → Type 0 = λ b. HasFirst seen text b.inner b.delivered in subst Arrived (sym (f.2 shut)) (arrived_before mid text limit is)
        | inr opened ↦ arrived_first mid after text limit is f.0 (f.3 opened)
      ] in
      subst (HasFirst seen text after.inner) (sym f.1) first

  -- the flush of a text that met a fault
  flush_part : (mid after : BufferedSink S) (text : List ℕ) (n : ℕ) (flushed : Result (Unit {0}) DeviceFault) → length text < 2 ^ 64 → n ≤ length text → (seen mid.inner).failed ≡ true
      → told seen mid ≡ Some (take n text) → Flushes seen mid flushed after → Arrives seen text flushed after.inner
  flush_part mid after text n (Ok u) limit low shut is f = absurd cc
  flush_part mid after text n (Err e) limit low shut is f =
      let size : length (take n text) ≡ n = length-take-le n text low in
      let part : HasFirst seen (take n text) after.inner e.written = flush_whole mid after (take n text) (Err e) (omega arith) is f in
      let cut : take e.written (take n text) ≡ take e.written text = take-take e.written n text (omega (arith, part.0, size)) in
      (omega (arith, part.0, size), part.1 ∙ ap Some cut)

  pub text_arrives : (before mid after : BufferedSink S) (text : List ℕ) (written : Result ℕ DeviceFault) (flushed : Result (Unit {0}) DeviceFault)
      → told seen before ≡ Some [] → length text < 2 ^ 64 → Counts (gathering seen) before text written mid
      → Flushes seen mid flushed after → Arrives seen text flushed after.inner
  text_arrives before mid after text (Ok n) flushed none limit w f =
      let took : Appends (Some []) (told seen mid) text = subst (λ (o : Option (List ℕ)). Appends o (told seen mid) text) none w.1.took in
      flush_whole mid after text flushed limit (taken_after (told seen mid) [] text took) f
  text_arrives before mid after text (Err e) flushed none limit w f =
      let took : Appends (Some []) (told seen mid) (take e.written text) = subst (λ (o : Option (List ℕ)). Appends o (told seen mid) (take e.written text)) none w.took in
      flush_part mid after text e.written flushed limit (omega (arith, w.part)) w.is_failed (taken_after (told seen mid) [] (take e.written text) took) f
