-- A text goes to the console piece by piece.
use Rattle.rt_dialogue.proofs.Common.{◌≡◌, ℕ, suc, ◌+◌, ◌-◌, ◌<◌, ◌≤◌, min, Bool, true, false, eqb, List, [], ◌∷◌, ◌++◌, length, length-append, take, append_assoc, append-nil, Some, refl, sym, ap, subst, ◌∙◌, arith, Seen, DeviceFault, BufferedSink, packet_of, HasSaid, SaysLess}
use Rattle.std.proofs.Common.{◌/◌, drop}
use Rattle.std.specs.List.{flat_map}
use Rattle.std.proofs.lemmas.Bool.{eqb-true}
use Rattle.std.proofs.lemmas.List.{take-append-le, take_min, drop_min, length-drop}
use Rattle.rt_packet.specs.answer.Bytes.{console_text}
use Rattle.rt_dialogue.specs.remote.Packets.{pieces, console_packets}

-- so much of a text was said, and the rest follows
pub record InConsole {S : Type 0} (seen : S → Seen) (before text rest : List ℕ) (out : BufferedSink S) : Type 0 where
  pub done : List ℕ
  pub said : HasSaid seen (before ++ done) out
  pub all : console_packets text ≡ done ++ console_packets rest

-- the first piece, and then the others
first_piece : (rest : List ℕ) → 0 < length rest
    → console_packets rest ≡ packet_of (console_text (take (min (length rest) 1024) rest)) ++ console_packets (drop (min (length rest) 1024) rest)
first_piece rest some =
    let n : ℕ = min (length rest) 1024 in
    let behind : List ℕ = drop n rest in
    let size : length behind ≡ length rest - n = length-drop n rest in
    let count : (length rest + 1023) / 1024 ≡ suc ((length behind + 1023) / 1024) = omega (arith, size, some) in
    let turned : n ≡ min 1024 (length rest) = omega arith in
    let taken : take n rest ≡ take 1024 rest = ap (λ (k : ℕ). take k rest) turned ∙ take_min 1024 rest in
    let dropped : behind ≡ drop 1024 rest = ap (λ (k : ℕ). drop k rest) turned ∙ drop_min 1024 rest in
    ap (λ (k : ℕ). flat_map (λ (piece : List ℕ). packet_of (console_text piece)) (pieces k rest)) count
    ∙ ap (λ (l : List ℕ). packet_of (console_text l) ++ flat_map (λ (piece : List ℕ). packet_of (console_text piece)) (pieces ((length behind + 1023) / 1024) (drop 1024 rest))) (sym taken)
    ∙ ap (λ (l : List ℕ). packet_of (console_text (take n rest)) ++ flat_map (λ (piece : List ℕ). packet_of (console_text piece)) (pieces ((length behind + 1023) / 1024) l)) (sym dropped)

module _ {S : Type 0} (seen : S → Seen) where
  pub first_in : (before text : List ℕ) (out : BufferedSink S) → HasSaid seen before out → InConsole seen before text text out
  first_in before text out said = record { done = []; said = subst (λ (l : List ℕ). HasSaid seen l out) (sym (append-nil before)) said; all = refl }

  pub more_in : (before text rest piece behind : List ℕ) (out new : BufferedSink S) → 0 < length rest → piece ≡ take (min (length rest) 1024) rest → behind ≡ drop (min (length rest) 1024) rest
      → (i : InConsole seen before text rest out) → HasSaid seen ((before ++ i.done) ++ packet_of (console_text piece)) new → InConsole seen before text behind new
  more_in before text rest piece behind out new some piece_is behind_is i said = record {
    done = i.done ++ packet_of (console_text piece);
    said = subst (λ (l : List ℕ). HasSaid seen l new) (append_assoc before i.done (packet_of (console_text piece))) said;
    all = i.all ∙ ap (λ (l : List ℕ). i.done ++ l) (first_piece rest some ∙ ap (λ (l : List ℕ). packet_of (console_text l) ++ console_packets (drop (min (length rest) 1024) rest)) (sym piece_is)
        ∙ ap (λ (l : List ℕ). packet_of (console_text piece) ++ console_packets l) (sym behind_is)) ∙ sym (append_assoc i.done (packet_of (console_text piece)) (console_packets behind));
  }

  pub all_in : (before text rest : List ℕ) (out : BufferedSink S) → rest ≡ [] → InConsole seen before text rest out → HasSaid seen (before ++ console_packets text) out
  all_in before text rest out none i =
      let last : console_packets text ≡ i.done = i.all ∙ ap (λ (l : List ℕ). i.done ++ console_packets l) none ∙ append-nil i.done in
      subst (λ (l : List ℕ). HasSaid seen (before ++ l) out) (sym last) i.said

  -- it failed before the end of a text
  pub fails_before : (text more : List ℕ) (fault : DeviceFault) (out : BufferedSink S) → SaysLess seen text fault out → SaysLess seen (text ++ more) fault out
  fails_before text more fault out speaks = λ limit.
      let size : length (text ++ more) ≡ length text + length more = length-append text more in
      let part = speaks (omega (arith, size, limit)) in
      let low : fault.written ≤ length text = omega (arith, part.0) in
      (omega (arith, part.0, size), part.1 ∙ ap Some (sym (take-append-le fault.written text more low)))

  pub fails_in : (before text rest piece behind : List ℕ) (out new : BufferedSink S) (fault : DeviceFault) → 0 < length rest → piece ≡ take (min (length rest) 1024) rest → behind ≡ drop (min (length rest) 1024) rest
      → (i : InConsole seen before text rest out) → SaysLess seen ((before ++ i.done) ++ packet_of (console_text piece)) fault new → SaysLess seen (before ++ console_packets text) fault new
  fails_in before text rest piece behind out new fault some piece_is behind_is i speaks =
      let all : console_packets text ≡ (i.done ++ packet_of (console_text piece)) ++ console_packets behind =
      i.all ∙ ap (λ (l : List ℕ). i.done ++ l) (first_piece rest some ∙ ap (λ (l : List ℕ). packet_of (console_text l) ++ console_packets (drop (min (length rest) 1024) rest)) (sym piece_is)
      ∙ ap (λ (l : List ℕ). packet_of (console_text piece) ++ console_packets l) (sym behind_is)) ∙ sym (append_assoc i.done (packet_of (console_text piece)) (console_packets behind)) in
      let joined : ((before ++ i.done) ++ packet_of (console_text piece)) ++ console_packets behind ≡ before ++ console_packets text =
      ap (λ (l : List ℕ). l ++ console_packets behind) (append_assoc before i.done (packet_of (console_text piece))) ∙ append_assoc before (i.done ++ packet_of (console_text piece)) (console_packets behind)
      ∙ ap (λ (l : List ℕ). before ++ l) (sym all) in
      subst (λ (l : List ℕ). SaysLess seen l fault new) joined (fails_before ((before ++ i.done) ++ packet_of (console_text piece)) (console_packets behind) fault new speaks)

pub none_left : (rest : List ℕ) (b : Bool) → b ≡ eqb (length rest) 0 → b ≡ true → rest ≡ []
none_left [] b is at = refl
none_left (x ∷ rest) b is at = absurd (let none : length (x ∷ rest) ≡ 0 = eqb-true (length (x ∷ rest)) 0 (sym is ∙ at) in omega (arith, none))

pub some_left : (rest : List ℕ) (b : Bool) → b ≡ eqb (length rest) 0 → b ≡ false → 0 < length rest
some_left [] b is at = absurd (let no : true ≡ false = sym is ∙ at in cc)
some_left (x ∷ rest) b is at = omega arith
