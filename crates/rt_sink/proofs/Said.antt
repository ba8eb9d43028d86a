-- What was said has arrived at the other sink, and nothing waits.
use Rattle.std.proofs.Common.{◌≡◌, ℕ, ◌+◌, ◌^◌, ◌<◌, ◌≤◌, eqb, true, true≢false, List, [], ◌∷◌, ◌++◌, length, length-append, append-nil, take, Option, Some, None, Result, Ok, Err, refl, sym, ap, subst, ◌∙◌, arith}
use Rattle.std.proofs.lemmas.Bool.{eq-eqb}
use Rattle.std.proofs.lemmas.List.{length-take-le, take-take}
use Rattle.std.proofs.Math.Seq.{take-append-add}
use Rattle.std.specs.Io.KnownBytes.{Appends}
use Rattle.rt_sink.specs.Seen.{Seen}
use Rattle.rt_sink.specs.Sink.{Counts}
use Rattle.rt_sink.specs.declared.sink.DeviceFault.{DeviceFault}
use Rattle.rt_sink.specs.Buffered.{gathering, BufferedSink, counted, told_behind, told, Flushes, Arrives}
use Rattle.rt_sink.proofs.Flushed.{parts_of, taken_after}

pub record Said {S : Type 0} (seen : S → Seen) (text : List ℕ) (b : BufferedSink S) : Type 0 where
  pub none_waits : b.gathered ≡ []
  pub arrived : (seen b.inner).contents ≡ Some text
  pub counts : b.delivered ≡ counted 0 (length text)

told_parts : (o : Option (List ℕ)) (gathered : List ℕ) (delivered : ℕ) (taken : List ℕ) → o ≡ Some taken → delivered ≡ counted 0 (length taken) → told_behind o gathered delivered ≡ Some (taken ++ gathered)
told_parts None gathered delivered taken are counts = absurd cc
told_parts (Some xs) gathered delivered taken are counts =
    let same : xs ≡ taken = cc in
    let is : eqb delivered (counted 0 (length xs)) ≡ true = eq-eqb _ _ (counts ∙ ap (λ (l : List ℕ). counted 0 (length l)) (sym same)) in
    rw is (ap (λ (l : List ℕ). Some (l ++ gathered)) same)

append_nothing : (xs ys : List ℕ) → xs ++ ys ≡ [] → (xs ≡ []) × (ys ≡ [])
append_nothing [] ys is = (refl, is)
append_nothing (x ∷ xs) ys is = absurd (let no = ap length is in omega (arith, no))

module _ {S : Type 0} (seen : S → Seen) where
  -- a sink that was told nothing
  pub said_nothing : (b : BufferedSink S) → told seen b ≡ Some [] → Said seen [] b
  said_nothing b is =
      let p = parts_of (seen b.inner).contents b.gathered b.delivered [] is in
      let none = append_nothing p.taken b.gathered (sym p.joined) in
      record { none_waits = none.1; arrived = p.are ∙ ap Some none.0; counts = p.counts ∙ ap (λ (l : List ℕ). counted 0 (length l)) none.0 }

  pub said_told : (b : BufferedSink S) (text : List ℕ) → Said seen text b → told seen b ≡ Some text
  said_told b text s = told_parts (seen b.inner).contents b.gathered b.delivered text s.arrived s.counts ∙ ap (λ (l : List ℕ). Some (text ++ l)) s.none_waits ∙ ap Some (append-nil text)

  -- an answer was written and delivered
  pub said_more : (before mid after : BufferedSink S) (text answer : List ℕ) (written : Result ℕ DeviceFault) (u : Unit {0}) → Said seen text before
      → Counts (gathering seen) before answer written mid → Flushes seen mid (Ok u) after → Said seen (text ++ answer) after
  said_more before mid after text answer (Err e) u s w f = absurd (true≢false (sym w.is_failed ∙ f.0))
  said_more before mid after text answer (Ok n) u s w f =
      let told_mid : told seen mid ≡ Some (text ++ answer) = taken_after (told seen mid) text answer (subst (λ (o : Option (List ℕ)). Appends o (told seen mid) answer) (said_told before text s) w.1.took) in
      let p = parts_of (seen mid.inner).contents mid.gathered mid.delivered (text ++ answer) told_mid in
      let d = f.2.whole f.1 in
      let here : (seen after.inner).contents ≡ Some (p.taken ++ mid.gathered) = taken_after (seen after.inner).contents p.taken mid.gathered (subst (λ (o : Option (List ℕ)). Appends o (seen after.inner).contents mid.gathered) p.are d.0.took) in
      let size : length (text ++ answer) ≡ length p.taken + length mid.gathered = ap length p.joined ∙ length-append p.taken mid.gathered in
      record {
        none_waits = d.1;
        arrived = here ∙ ap Some (sym p.joined);
        counts = sums mid.delivered after.delivered (length p.taken) (length mid.gathered) (length (text ++ answer)) p.counts d.2 size;
      }
    where
      sums : (old new a b all : ℕ) → old ≡ counted 0 a → new ≡ counted old b → all ≡ a + b → new ≡ counted 0 all
      sums old new a b all first second size = omega (arith, first, second, size)

  -- an answer was written, and the sink failed at it or before: so much of all that was said has arrived
  pub said_first : (before mid after : BufferedSink S) (text answer : List ℕ) (written : Result ℕ DeviceFault) (fault : DeviceFault) → Said seen text before
      → Counts (gathering seen) before answer written mid
      → ((t : List ℕ) → length t < 2 ^ 64 → told seen mid ≡ Some t → Arrives {X = Unit {0}} seen t (Err fault) after.inner)
      → length (text ++ answer) < 2 ^ 64 → (fault.written ≤ length (text ++ answer)) × ((seen after.inner).contents ≡ Some (take fault.written (text ++ answer)))
  said_first before mid after text answer (Ok n) fault s w arrives limit =
      let told_mid : told seen mid ≡ Some (text ++ answer) = taken_after (told seen mid) text answer (subst (λ (o : Option (List ℕ)). Appends o (told seen mid) answer) (said_told before text s) w.1.took) in
      arrives (text ++ answer) limit told_mid
  said_first before mid after text answer (Err e) fault s w arrives limit =
      let first : List ℕ = take e.written answer in
      let told_mid : told seen mid ≡ Some (text ++ first) = taken_after (told seen mid) text first (subst (λ (o : Option (List ℕ)). Appends o (told seen mid) first) (said_told before text s) w.took) in
      let cut : text ++ first ≡ take (length text + e.written) (text ++ answer) = sym (take-append-add text answer e.written) in
      let size : length (text ++ answer) ≡ length text + length answer = length-append text answer in
      let within : length text + e.written ≤ length (text ++ answer) = omega (arith, size, w.part) in
      let len : length (text ++ first) ≡ length text + e.written = ap length cut ∙ length-take-le (length text + e.written) (text ++ answer) within in
      let part = arrives (text ++ first) (omega (arith, len, within, limit)) told_mid in
      let low : fault.written ≤ length text + e.written = omega (arith, part.0, len) in
      (omega (arith, low, within), part.1 ∙ ap Some (ap (take fault.written) cut ∙ take-take fault.written (length text + e.written) (text ++ answer) low))
