-- A text that was written has arrived after the flush, as far as the answer says.
use Rattle.rt_programs.proofs.Common.{◌≡◌, ℕ, ◌+◌, ◌<◌, ◌≤◌, List, [], ◌++◌, length, true, false, Option, Some, Result, Ok, Err, refl, sym, ap, subst, ◌∙◌, arith, Seen, gathering, BufferedSink, told, Flushes, DeviceFault, EndsTelling, Prints, SimFault, Image, Admit, Load, Text, Source, NotCertified, NoTask, Memory, Device}
use Rattle.std.proofs.Common.{length-append, take, true≢false}
use Rattle.std.proofs.lemmas.List.{length-take-le, take-take, take_all}
use Rattle.std.proofs.Math.Seq.{take-append-add, take-append_seam, take-nil}
use Rattle.std.specs.Io.KnownBytes.{Appends}
use Rattle.rt_sink.proofs.Flushed.{parts_of, taken_after, text_arrives}
use Rattle.rt_sink.proofs.Said.{said_nothing, said_more}
use Rattle.rt_sink.specs.Sink.{Took, TookFirst, Writes}
use Rattle.rt_programs.proofs.SinkLemmas.{took-nothing}
use Rattle.rt_programs.specs.printing.Finishes.{answer_after}
use Rattle.rt_programs.specs.printing.Prints.{HasArrived}

module _ {S : Type 0} (seen : S → Seen) where
  -- a sink that gathers took the whole text, or its first bytes
  abbrev TookAll : BufferedSink S → List ℕ → BufferedSink S → Type 0
  TookAll before text mid = Took (gathering seen) before text mid

  abbrev TookSome : BufferedSink S → List ℕ → ℕ → BufferedSink S → Type 0
  TookSome before text n mid = TookFirst (gathering seen) before text n mid

  abbrev FlushesAs : BufferedSink S → Result (Unit {0}) DeviceFault → BufferedSink S → Type 0
  FlushesAs mid flushed after = Flushes seen mid flushed after

  whole : (before mid after : BufferedSink S) (text : List ℕ) (u : Unit {0}) → told seen before ≡ Some [] → TookAll before text mid → FlushesAs mid (Ok u) after
      → (seen after.inner).contents ≡ Some text
  whole before mid after text u none took f =
      (said_more seen before mid after [] text (Ok (length text)) u (said_nothing seen before none) (refl, took) f).arrived

  told_of : (before mid : BufferedSink S) (text : List ℕ) → told seen before ≡ Some [] → Appends (told seen before) (told seen mid) text → told seen mid ≡ Some text
  told_of before mid text none took = taken_after (told seen mid) [] text (subst (λ (o : Option (List ℕ)). Appends o (told seen mid) text) none took)

  -- a flush that fails at a sink that was open has delivered fewer bytes than the text has, its first ones
  pub fewer : (mid after : BufferedSink S) (text : List ℕ) (x : DeviceFault) → told seen mid ≡ Some text → (seen mid.inner).failed ≡ false → FlushesAs mid (Err x) after
      → x.written < length text
  fewer mid after text x is opened f =
      let p = parts_of (seen mid.inner).contents mid.gathered mid.delivered text is in
      let d = (f.3 opened).part f.0 in
      let size : length text ≡ length p.taken + length mid.gathered = ap length p.joined ∙ length-append p.taken mid.gathered in
      omega (arith, size, d.1.part, d.3, p.counts, f.1)

  first_of : (mid after : BufferedSink S) (text : List ℕ) (x : DeviceFault) → told seen mid ≡ Some text → (seen mid.inner).failed ≡ false → FlushesAs mid (Err x) after
      → (n : ℕ) × ((seen after.inner).contents ≡ Some (take n text))
  first_of mid after text x is opened f =
      let p = parts_of (seen mid.inner).contents mid.gathered mid.delivered text is in
      let d = (f.3 opened).part f.0 in
      let bytes = take d.0 mid.gathered in
      let held : (seen after.inner).contents ≡ Some (p.taken ++ bytes) =
      taken_after (seen after.inner).contents p.taken bytes (subst (λ (o : Option (List ℕ)). Appends o (seen after.inner).contents bytes) p.are d.1.took) in
      let cut : take (length p.taken + d.0) text ≡ p.taken ++ bytes = ap (take (length p.taken + d.0)) p.joined ∙ take-append-add p.taken mid.gathered d.0 in
      (length p.taken + d.0, held ∙ ap Some (sym cut))

  -- what arrived of a text that had failed already stays
  stays : (mid after : BufferedSink S) (x : DeviceFault) → (seen mid.inner).failed ≡ true → FlushesAs mid (Err x) after → after ≡ mid
  stays mid after x shut f = f.2 shut

  pub fewer_before : (mid after : BufferedSink S) (text : List ℕ) (n : ℕ) (x : DeviceFault) → told seen mid ≡ Some (take n text) → n < length text → (seen mid.inner).failed ≡ true
      → FlushesAs mid (Err x) after → x.written < length text
  fewer_before mid after text n x is part shut f =
      let p = parts_of (seen mid.inner).contents mid.gathered mid.delivered (take n text) is in
      let size : n ≡ length p.taken + length mid.gathered = sym (length-take-le n text (omega arith)) ∙ ap length p.joined ∙ length-append p.taken mid.gathered in
      let same : after.delivered ≡ mid.delivered = ap (λ (b : BufferedSink S). b.delivered) (f.2 shut) in
      omega (arith, size, part, same, p.counts, f.1)

  first_before : (mid after : BufferedSink S) (text : List ℕ) (n : ℕ) (x : DeviceFault) → told seen mid ≡ Some (take n text) → n < length text → (seen mid.inner).failed ≡ true
      → FlushesAs mid (Err x) after → (m : ℕ) × ((seen after.inner).contents ≡ Some (take m text))
  first_before mid after text n x is part shut f =
      let p = parts_of (seen mid.inner).contents mid.gathered mid.delivered (take n text) is in
      let size : n ≡ length p.taken + length mid.gathered = sym (length-take-le n text (omega arith)) ∙ ap length p.joined ∙ length-append p.taken mid.gathered in
      let m = length p.taken in
      let low : m ≤ n = omega (arith, size) in
      let front : p.taken ≡ take m (take n text) = sym (ap (take m) p.joined ∙ take-append_seam p.taken mid.gathered) in
      (m, ap (λ (b : BufferedSink S). (seen b.inner).contents) (f.2 shut) ∙ p.are ∙ ap Some (front ∙ take-take m n text low))

  -- a text that was told beside a refusal
  told_beside : (before mid after : BufferedSink S) (text : List ℕ) (written : Result (Unit {0}) DeviceFault) (flushed : Result (Unit {0}) DeviceFault)
      → told seen before ≡ Some [] → Writes (gathering seen) before text written mid → FlushesAs mid flushed after → HasArrived seen text after.inner
  told_beside before mid after text (Ok w) (Ok u) none took f = let all = whole before mid after text u none took f in record { whole = λ _. all; first = (length text, all ∙ ap Some (sym (take_all (length text) text (omega arith)))) }
  told_beside before mid after text (Ok w) (Err x) none took f = record {
    whole = λ opened. absurd (true≢false (sym f.0 ∙ opened));
    first = first_of mid after text x (told_of before mid text none took.took) took.is_open f;
  }
  told_beside before mid after text (Err e) (Ok u) none took f = absurd (true≢false (sym took.is_failed ∙ f.0))
  told_beside before mid after text (Err e) (Err x) none took f = record {
    whole = λ opened. absurd (true≢false (sym f.0 ∙ opened));
    first = first_before mid after text e.written x (told_of before mid (take e.written text) none took.took) took.part took.is_failed f;
  }

  -- what a text that was written to a sink that had taken nothing, and then delivered, leaves
  pub prints : (Means : List ℕ → Option SimFault → Type 0) (before mid after : BufferedSink S) (done : Result ℕ SimFault) (flushed : Result (Unit {0}) DeviceFault)
      → told seen before ≡ Some [] → (seen before.inner).failed ≡ false → EndsTelling (gathering seen) Means before done mid → FlushesAs mid flushed after
      → Prints seen Means (answer_after done flushed) after.inner
  prints Means before mid after (Ok n) (Ok u) none opened e f = (e.0, e.1, whole before mid after e.0 u none e.2 f)
  prints Means before mid after (Ok n) (Err x) none opened e f = (
    e.0,
    e.1,
    (
      f.0,
      fewer mid after e.0 x (told_of before mid e.0 none e.2.took) e.2.is_open f,
      λ limit. (text_arrives seen before mid after e.0 (Ok (length e.0)) (Err x) none limit (refl, e.2) f).1,
    ),
  )
  prints Means before mid after (Err (Device d)) (Ok u) none opened e f = absurd (true≢false (sym e.2.is_failed ∙ f.0))
  prints Means before mid after (Err (Device d)) (Err x) none opened e f = (
    e.0,
    e.1,
    (
      f.0,
      fewer_before mid after e.0 d.written x (told_of before mid (take d.written e.0) none e.2.took) e.2.part e.2.is_failed f,
      λ limit. (text_arrives seen before mid after e.0 (Err d) (Err x) none limit e.2 f).1,
    ),
  )
  prints Means before mid after (Err Memory) flushed none opened e f =
      let arrived = told_beside before mid after [] (Ok tt) flushed none (took-nothing (gathering seen) before mid opened e) f in
      arrived.first.1 ∙ ap Some (take-nil arrived.first.0)
  prints Means before mid after (Err (Image d)) flushed none opened e f = (e.0, e.1, told_beside before mid after e.0 e.2.0 flushed none e.2.1 f)
  prints Means before mid after (Err (Admit d)) flushed none opened e f = (e.0, e.1, told_beside before mid after e.0 e.2.0 flushed none e.2.1 f)
  prints Means before mid after (Err (Load d)) flushed none opened e f = (e.0, e.1, told_beside before mid after e.0 e.2.0 flushed none e.2.1 f)
  prints Means before mid after (Err (Text d)) flushed none opened e f = (e.0, e.1, told_beside before mid after e.0 e.2.0 flushed none e.2.1 f)
  prints Means before mid after (Err (Source d)) flushed none opened e f = (e.0, e.1, told_beside before mid after e.0 e.2.0 flushed none e.2.1 f)
  prints Means before mid after (Err (NotCertified d)) flushed none opened e f = (e.0, e.1, told_beside before mid after e.0 e.2.0 flushed none e.2.1 f)
  prints Means before mid after (Err (NoTask i k)) flushed none opened e f = (e.0, e.1, told_beside before mid after e.0 e.2.0 flushed none e.2.1 f)

  -- the device's fault is answered only where it has failed
  pub device_has_failed : (Means : List ℕ → Option SimFault → Type 0) (before mid after : BufferedSink S) (done : Result ℕ SimFault) (flushed : Result (Unit {0}) DeviceFault) (x : DeviceFault)
      → EndsTelling (gathering seen) Means before done mid → FlushesAs mid flushed after → answer_after done flushed ≡ Err (Device x) → (seen after.inner).failed ≡ true
  device_has_failed Means before mid after (Ok n) (Ok u) x e f is = absurd cc
  device_has_failed Means before mid after (Ok n) (Err y) x e f is = f.0
  device_has_failed Means before mid after (Err (Device d)) (Ok u) x e f is = absurd (true≢false (sym e.2.is_failed ∙ f.0))
  device_has_failed Means before mid after (Err (Device d)) (Err y) x e f is = f.0
  device_has_failed Means before mid after (Err Memory) flushed x e f is = absurd cc
  device_has_failed Means before mid after (Err (Image d)) flushed x e f is = absurd cc
  device_has_failed Means before mid after (Err (Admit d)) flushed x e f is = absurd cc
  device_has_failed Means before mid after (Err (Load d)) flushed x e f is = absurd cc
  device_has_failed Means before mid after (Err (Text d)) flushed x e f is = absurd cc
  device_has_failed Means before mid after (Err (Source d)) flushed x e f is = absurd cc
  device_has_failed Means before mid after (Err (NotCertified d)) flushed x e f is = absurd cc
  device_has_failed Means before mid after (Err (NoTask i k)) flushed x e f is = absurd cc
