-- Packets within the bytes of an input.
use Rattle.std.specs.Prelude.{◌≡◌, ◌≢◌, ℕ, ◌-◌, true, List, [], ◌∷◌, ◌++◌, All, length, replicate}
use Rattle.rt_packet.specs.Packet.{dollar, hash, minus, interrupt, checksum}
use Rattle.rt_packet.specs.Frame.{Frame, Outside, hears, says}
use Rattle.rt_packet.specs.declared.decoder.Heard.{Heard}
use Rattle.rt_packet.specs.declared.decoder.Heard.TheVariants.{Nothing}

-- these bytes, one after the other: what they leave, and what each of them completes
abbrev pub heard_all : Frame → List ℕ → Frame × List Heard
heard_all frame [] = (frame, [])
heard_all frame (b ∷ bs) = let next = hears frame b in let rest = heard_all next.0 bs in (rest.0, next.1 ∷ rest.1)

-- what was heard, and behind it these bytes
abbrev pub and_then : Frame × List Heard → List ℕ → Frame × List Heard
and_then heard bytes = let rest = heard_all heard.0 bytes in (rest.0, heard.1 ++ rest.1)

-- outside of a packet, the last of these bytes completes this, and the others nothing; then so much of a payload is kept
abbrev pub Completes : List ℕ → Heard → List ℕ → Type 0
Completes bytes heard payload =
    (kept : List ℕ) → heard_all (Outside kept) bytes ≡ (Outside payload, replicate (length bytes - 1) Nothing ++ heard ∷ [])

-- a payload in which no byte begins a packet or ends the payload
abbrev pub IsPlain : List ℕ → Type 0
IsPlain payload = All (λ b. (b ≢ dollar) × (b ≢ hash)) payload

-- bytes of which none begins a packet, asks for the last one again, or interrupts
abbrev pub IsNoise : List ℕ → Type 0
IsNoise noise = All (λ b. (b ≢ dollar) × (b ≢ minus) × (b ≢ interrupt)) noise

-- the bytes of a packet of this payload: two digits, of either case, say its sum
pub record IsPacket (bytes payload : List ℕ) : Type 0 where
  pub first : ℕ
  pub second : ℕ
  pub parts : bytes ≡ (dollar ∷ payload) ++ (hash ∷ first ∷ second ∷ [])
  pub plain : IsPlain payload
  pub sum : says first second (checksum payload) ≡ true

-- bytes that end with a packet of this payload
pub record EndWithPacket (bytes payload : List ℕ) : Type 0 where
  pub before : List ℕ
  pub packet : List ℕ
  pub ends : bytes ≡ before ++ packet
  pub is_packet : IsPacket packet payload
