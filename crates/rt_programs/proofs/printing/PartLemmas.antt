-- A text that is written and delivered in parts.
use Rattle.rt_programs.proofs.Common.{◌≡◌, ℕ, ◌+◌, ◌^◌, ◌<◌, ◌≤◌, List, [], ◌++◌, length, Bool, Option, Some, Result, Ok, Err, refl, sym, ap, subst, ◌∙◌, arith, Seen, Said, Counts, gathering, BufferedSink, told, Flushes, DeviceFault, TaskSet, legal, listed_text, Accounts}
use Rattle.std.proofs.Common.{append_assoc, length-append, take}
use Rattle.std.proofs.lemmas.List.{append-nil, take-append-le}
use Rattle.std.proofs.Math.Seq.{take-append-add}
use Rattle.std.specs.Io.KnownBytes.{Appends}
use Rattle.rt_sink.proofs.Flushed.{taken_after}
use Rattle.rt_sink.proofs.Said.{said_nothing, said_told, said_first, said_more}
use Rattle.rt_sink.specs.Sink.{Writes}
use Rattle.rt_sink.specs.Buffered.{Arrives}
use Rattle.rt_accounts.specs.JobListing.{header_with, behind_text, form_text, WritesOn}
use Rattle.rt_accounts.specs.declared.list_jobs.JobsForm.{JobsForm}
use Rattle.rt_accounts.proofs.JobLemmas.{listed-begins, listed-first}
use Rattle.rt_programs.specs.printing.Prints.{IsDelivered}
use Rattle.rt_programs.proofs.printing.FinishLemmas.{fewer, fewer_before}

module _ {S : Type 0} (seen : S → Seen) where
  -- fewer bytes than were written up to here have arrived where the flush fails
  fewer_of_part : (before mid after : BufferedSink S) (text more : List ℕ) (written : Result ℕ DeviceFault) (fault : DeviceFault) → Said seen text before
      → Counts (gathering seen) before more written mid → Flushes {X = Unit {0}} seen mid (Err fault) after → fault.written < length (text ++ more)
  fewer_of_part before mid after text more (Ok n) fault s w f =
      let told_mid : told seen mid ≡ Some (text ++ more) =
      taken_after (told seen mid) text more (subst (λ (o : Option (List ℕ)). Appends o (told seen mid) more) (said_told seen before text s) w.1.took) in
      fewer seen mid after (text ++ more) fault told_mid w.1.is_open f
  fewer_of_part before mid after text more (Err e) fault s w f =
      let first : List ℕ = take e.written more in
      let told_mid : told seen mid ≡ Some (text ++ first) =
      taken_after (told seen mid) text first (subst (λ (o : Option (List ℕ)). Appends o (told seen mid) first) (said_told seen before text s) w.took) in
      let cut : text ++ first ≡ take (length text + e.written) (text ++ more) = sym (take-append-add text more e.written) in
      let part : length text + e.written < length (text ++ more) = omega (arith, length-append text more, w.part) in
      fewer_before seen mid after (text ++ more) (length text + e.written) fault (told_mid ∙ ap Some cut) part w.is_failed f

  -- so the whole text, which goes on behind this part, is delivered as the fault says
  pub delivered_part : (before mid after : BufferedSink S) (text more rest whole : List ℕ) (written : Result ℕ DeviceFault) (fault : DeviceFault) → Said seen text before
      → Counts (gathering seen) before more written mid → Flushes {X = Unit {0}} seen mid (Err fault) after
      → ((t : List ℕ) → length t < 2 ^ 64 → told seen mid ≡ Some t → Arrives {X = Unit {0}} seen t (Err fault) after.inner)
      → whole ≡ (text ++ more) ++ rest → IsDelivered {X = Unit {0}} seen whole (Err fault) after.inner
  delivered_part before mid after text more rest whole written fault s w f arrives is =
      let few = fewer_of_part before mid after text more written fault s w f in
      let size : length whole ≡ length (text ++ more) + length rest = ap length is ∙ length-append (text ++ more) rest in (
        f.0,
        omega (arith, few, size),
        λ limit.
            let front = said_first seen before mid after text more written fault s w arrives (omega (arith, size, limit)) in
            let cut : take fault.written whole ≡ take fault.written (text ++ more) =
            ap (take fault.written) is ∙ take-append-le fault.written (text ++ more) rest (omega (arith, few)) in
            front.1 ∙ ap Some (sym cut),
      )

  -- what was written, with its length for an answer
  counts_of : {T X : Type 0} (view : T → Seen) (old new : T) (text : List ℕ) (r : Result X DeviceFault) → Writes view old text r new
      → (w : Result ℕ DeviceFault) × Counts view old text w new
  counts_of view old new text (Ok x) w = (Ok (length text), (refl, w))
  counts_of view old new text (Err e) w = (Err e, w)

  -- the jobs of some ticks more were written and delivered
  pub said_until : (set : TaskSet) (form : JobsForm) (t u : ℕ) (before mid after : BufferedSink S) (part : Result Accounts DeviceFault) (x : Unit {0})
      → Said seen (listed_text form.details set (legal set t)) before → WritesOn (gathering seen) set form.details t u before part mid
      → Flushes seen mid (Ok x) after → Said seen (listed_text form.details set (legal set u)) after
  said_until set form t u before mid after part x s w f =
      let counts = counts_of (gathering seen) before mid w.more part w.written in
      subst (λ (text : List ℕ). Said seen text after) (sym w.grown)
      (said_more seen before mid after (listed_text form.details set (legal set t)) w.more counts.0 x s counts.1 f)

  -- the whole text goes on behind the jobs of some ticks
  goes_on : (set : TaskSet) (form : JobsForm) (u n : ℕ) → u ≤ n → (rest : List ℕ) × (form_text form set n ≡ listed_text form.details set (legal set u) ++ rest)
  goes_on set form u n le =
      let from = listed-begins form.details set u n le in (
        from.0 ++ behind_text form set n,
        ap (λ (text : List ℕ). text ++ behind_text form set n) from.1
            ∙ append_assoc (listed_text form.details set (legal set u)) from.0 (behind_text form set n),
      )

  -- or the sink failed within them: and of the whole text so much is delivered
  pub delivered_until : (set : TaskSet) (form : JobsForm) (t u n : ℕ) (before mid after : BufferedSink S) (part : Result Accounts DeviceFault) (fault : DeviceFault) → u ≤ n
      → Said seen (listed_text form.details set (legal set t)) before → WritesOn (gathering seen) set form.details t u before part mid
      → Flushes {X = Unit {0}} seen mid (Err fault) after
      → ((s : List ℕ) → length s < 2 ^ 64 → told seen mid ≡ Some s → Arrives {X = Unit {0}} seen s (Err fault) after.inner)
      → IsDelivered {X = Unit {0}} seen (form_text form set n) (Err fault) after.inner
  delivered_until set form t u n before mid after part fault le s w f arrives =
      let counts = counts_of (gathering seen) before mid w.more part w.written in
      let from = goes_on set form u n le in
      delivered_part before mid after (listed_text form.details set (legal set t)) w.more from.0 (form_text form set n) counts.0 fault s counts.1 f arrives
      (from.1 ∙ ap (λ (text : List ℕ). text ++ from.0) w.grown)

  -- the header was written and delivered
  pub said_header : (set : TaskSet) (details : Bool) (before mid after : BufferedSink S) (written : Result ℕ DeviceFault) (x : Unit {0}) → told seen before ≡ Some []
      → Counts (gathering seen) before (header_with details) written mid → Flushes seen mid (Ok x) after
      → Said seen (listed_text details set (legal set 0)) after
  said_header set details before mid after written x none w f =
      subst (λ (text : List ℕ). Said seen text after) (listed-first details set)
      (said_more seen before mid after [] (header_with details) written x (said_nothing seen before none) w f)

  -- or the sink failed within it
  pub delivered_header : (set : TaskSet) (form : JobsForm) (n : ℕ) (before mid after : BufferedSink S) (written : Result ℕ DeviceFault) (fault : DeviceFault)
      → told seen before ≡ Some [] → Counts (gathering seen) before (header_with form.details) written mid
      → Flushes {X = Unit {0}} seen mid (Err fault) after
      → ((s : List ℕ) → length s < 2 ^ 64 → told seen mid ≡ Some s → Arrives {X = Unit {0}} seen s (Err fault) after.inner)
      → IsDelivered {X = Unit {0}} seen (form_text form set n) (Err fault) after.inner
  delivered_header set form n before mid after written fault none w f arrives =
      let from = goes_on set form 0 n (omega arith) in
      delivered_part before mid after [] (header_with form.details) from.0 (form_text form set n) written fault (said_nothing seen before none) w f arrives
      (from.1 ∙ ap (λ (text : List ℕ). text ++ from.0) (sym (listed-first form.details set)))

  -- what stands behind all lines was written and delivered
  pub said_behind : (set : TaskSet) (form : JobsForm) (n : ℕ) (before mid after : BufferedSink S) (written : Result ℕ DeviceFault) (x : Unit {0})
      → Said seen (listed_text form.details set (legal set n)) before → Counts (gathering seen) before (behind_text form set n) written mid
      → Flushes seen mid (Ok x) after → Said seen (form_text form set n) after
  said_behind set form n before mid after written x s w f =
      said_more seen before mid after (listed_text form.details set (legal set n)) (behind_text form set n) written x s w f

  -- or the sink failed within it
  pub delivered_behind : (set : TaskSet) (form : JobsForm) (n : ℕ) (before mid after : BufferedSink S) (written : Result ℕ DeviceFault) (fault : DeviceFault)
      → Said seen (listed_text form.details set (legal set n)) before → Counts (gathering seen) before (behind_text form set n) written mid
      → Flushes {X = Unit {0}} seen mid (Err fault) after
      → ((s : List ℕ) → length s < 2 ^ 64 → told seen mid ≡ Some s → Arrives {X = Unit {0}} seen s (Err fault) after.inner)
      → IsDelivered {X = Unit {0}} seen (form_text form set n) (Err fault) after.inner
  delivered_behind set form n before mid after written fault s w f arrives =
      delivered_part before mid after (listed_text form.details set (legal set n)) (behind_text form set n) [] (form_text form set n) written fault s w f arrives
      (sym (append-nil (form_text form set n)))
