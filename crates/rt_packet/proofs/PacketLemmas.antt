-- How whole inputs are heard: in pieces, noise, and packets.
use Rattle.rt_packet.proofs.Common.{◌≡◌, ◌≢◌, ℕ, suc, ◌+◌, ◌-◌, ◌%◌, ◌<◌, ◌≤◌, true, ltb, List, [], ◌∷◌, ◌++◌, length, length-append, take, refl, sym, ap, ◌∙◌, arith, lt-ltb, ne_eqb, take_all, append_assoc, AllByRecursion, payload_limit, dollar, hash, Heard}
use Rattle.std.proofs.Common.{sum}
use Rattle.std.specs.Prelude.{replicate}
use Rattle.std.specs.List.{fold}
use Rattle.std.proofs.lemmas.Bool.{le-ltb}
use Rattle.std.proofs.lemmas.List.{replicate-append-replicate}
use Rattle.std.proofs.lemmas.List.Elements.{recursion_from_All}
use Rattle.rt_packet.specs.Packet.{minus, interrupt, checksum, packet_of}
use Rattle.rt_packet.specs.Frame.{Frame, Payload, Outside, Within, begun, empty, with_byte, says, verdict, hears}
use Rattle.rt_packet.specs.Framed.{heard_all, and_then, Completes, IsPlain, IsNoise, IsPacket}
use Rattle.rt_packet.specs.declared.decoder.Heard.TheVariants.{Nothing, Right, TooLong}
use Rattle.rt_packet.proofs.HearLemmas.{hears_plain}
use Rattle.rt_packet.proofs.PayloadLemmas.{known_of, known_all}
use Rattle.rt_packet.proofs.DigitLemmas.{hex_two, says_hex}

-- one byte was heard, and then these
abbrev pub on : Frame × Heard → List ℕ → Frame × List Heard
on next bytes = let rest = heard_all next.0 bytes in (rest.0, next.1 ∷ rest.1)

-- ---- pieces

pub in_pieces : (frame : Frame) (first second : List ℕ) → heard_all frame (first ++ second) ≡ and_then (heard_all frame first) second
in_pieces frame [] second = refl
in_pieces frame (b ∷ bs) second =
    ap (λ (r : Frame × List Heard). (r.0, (hears frame b).1 ∷ r.1)) (in_pieces (hears frame b).0 bs second)

-- ---- noise

hears_noise : (kept : List ℕ) (b : ℕ) → b ≢ dollar → b ≢ minus → b ≢ interrupt → hears (Outside kept) b ≡ (Outside kept, Nothing)
hears_noise kept b other passes goes_on = rw (ne_eqb b dollar other, ne_eqb b minus passes, ne_eqb b interrupt goes_on) refl

noise_on : (kept noise : List ℕ) → AllByRecursion (λ b. (b ≢ dollar) × (b ≢ minus) × (b ≢ interrupt)) noise
    → heard_all (Outside kept) noise ≡ (Outside kept, replicate (length noise) Nothing)
noise_on kept [] none = refl
noise_on kept (b ∷ bs) none =
    ap (λ (n : Frame × Heard). on n bs) (hears_noise kept b none.0.0 none.0.1 none.0.2)
    ∙ ap (λ (r : Frame × List Heard). (r.0, Nothing ∷ r.1)) (noise_on kept bs none.1)

pub noise_passes : (kept noise : List ℕ) → IsNoise noise → heard_all (Outside kept) noise ≡ (Outside kept, replicate (length noise) Nothing)
noise_passes kept noise none = noise_on kept noise (recursion_from_All (λ b. (b ≢ dollar) × (b ≢ minus) × (b ≢ interrupt)) noise none)

-- ---- packets

payload_on : (payload : Payload) (bs : List ℕ) → AllByRecursion (λ b. (b ≢ dollar) × (b ≢ hash)) bs
    → heard_all (Within payload) bs ≡ (Within (fold with_byte payload bs), replicate (length bs) Nothing)
payload_on payload [] plain = refl
payload_on payload (b ∷ bs) plain =
    ap (λ (n : Frame × Heard). on n bs) (hears_plain payload b plain.0.0 plain.0.1)
    ∙ ap (λ (r : Frame × List Heard). (r.0, Nothing ∷ r.1)) (payload_on (with_byte payload b) bs plain.1)

-- all bytes of a payload, behind '$'
pub payload_heard : (payload : List ℕ) → IsPlain payload → heard_all begun payload ≡ (Within (known_of payload), replicate (length payload) Nothing)
payload_heard payload plain =
    payload_on empty payload (recursion_from_All (λ b. (b ≢ dollar) × (b ≢ hash)) payload plain)
    ∙ ap (λ (p : Payload). (Within p, replicate (length payload) Nothing)) (known_all payload)

-- of so many bytes and one more the last completes this, and the others nothing
abbrev at_last : ℕ → Heard → List Heard
at_last others heard = replicate others Nothing ++ heard ∷ []

three_more : (n : ℕ) (heard : Heard) → Nothing ∷ (replicate n Nothing ++ (Nothing ∷ Nothing ∷ heard ∷ [])) ≡ at_last (n + 3) heard
three_more n heard =
    ap (λ (l : List Heard). Nothing ∷ l) (sym (append_assoc (replicate n Nothing) (Nothing ∷ Nothing ∷ []) (heard ∷ [])))
    ∙ ap (λ (l : List Heard). Nothing ∷ (l ++ heard ∷ [])) (replicate-append-replicate n 2 Nothing)
    ∙ ap (λ (m : ℕ). replicate m Nothing ++ heard ∷ []) (let is : suc (n + 2) ≡ n + 3 = omega arith in is)

-- a packet with these two bytes behind '#'
heard_with : (kept payload : List ℕ) (first second : ℕ) → IsPlain payload
    → heard_all (Outside kept) ((dollar ∷ payload) ++ (hash ∷ first ∷ second ∷ []))
    ≡ (Outside (take payload_limit payload), at_last (length payload + 3) (verdict (known_of payload) first second))
heard_with kept payload first second plain =
    ap (λ (r : Frame × List Heard). (r.0, Nothing ∷ r.1)) (in_pieces begun payload (hash ∷ first ∷ second ∷ [])
    ∙ ap (λ (r : Frame × List Heard). and_then r (hash ∷ first ∷ second ∷ [])) (payload_heard payload plain))
    ∙ ap (λ (l : List Heard). (Outside (take payload_limit payload), l)) (three_more (length payload) (verdict (known_of payload) first second))

verdict_short : (limit size first second total : ℕ) (kept : List ℕ) → says first second total ≡ true → size ≤ limit
    → verdict (record { kept = kept; is_long = ltb limit size; total = total }) first second ≡ Right
verdict_short limit size first second total kept right short = rw (right, le-ltb limit size short) refl

verdict_long : (limit size first second total : ℕ) (kept : List ℕ) → says first second total ≡ true → limit < size
    → verdict (record { kept = kept; is_long = ltb limit size; total = total }) first second ≡ TooLong
verdict_long limit size first second total kept right long = rw (right, lt-ltb limit size long) refl

-- the bytes of a packet but for the last one
others_of : (bytes payload : List ℕ) (packet : IsPacket bytes payload) → length payload + 3 ≡ length bytes - 1
others_of bytes payload packet =
    omega (arith, ap length packet.parts, length-append payload (hash ∷ packet.first ∷ packet.second ∷ []))

pub packet_right : (bytes payload : List ℕ) → IsPacket bytes payload → length payload ≤ payload_limit → Completes bytes Right payload
packet_right bytes payload packet short kept =
    ap (heard_all (Outside kept)) packet.parts ∙ heard_with kept payload packet.first packet.second packet.plain
    ∙ ap (λ (h : Heard). (Outside (take payload_limit payload), at_last (length payload + 3) h))
    (verdict_short payload_limit (length payload) packet.first packet.second (checksum payload) (take payload_limit payload) packet.sum short)
    ∙ ap (λ (l : List ℕ). (Outside l, at_last (length payload + 3) Right)) (take_all payload_limit payload short)
    ∙ ap (λ (n : ℕ). (Outside payload, at_last n Right)) (others_of bytes payload packet)

pub packet_too_long : (bytes payload : List ℕ) → IsPacket bytes payload → payload_limit < length payload → Completes bytes TooLong (take payload_limit payload)
packet_too_long bytes payload packet long kept =
    ap (heard_all (Outside kept)) packet.parts ∙ heard_with kept payload packet.first packet.second packet.plain
    ∙ ap (λ (h : Heard). (Outside (take payload_limit payload), at_last (length payload + 3) h))
    (verdict_long payload_limit (length payload) packet.first packet.second (checksum payload) (take payload_limit payload) packet.sum long)
    ∙ ap (λ (n : ℕ). (Outside (take payload_limit payload), at_last n TooLong)) (others_of bytes payload packet)

-- what goes out is a packet
pub out_is_packet : (payload : List ℕ) → IsPlain payload → IsPacket (packet_of payload) payload
out_is_packet payload plain = record {
  first = _;
  second = _;
  parts = ap (λ (l : List ℕ). (dollar ∷ payload) ++ (hash ∷ l)) (hex_two (checksum payload));
  plain = plain;
  sum = says_hex (checksum payload) (let small : sum payload % 256 < 256 = omega arith in small);
}
