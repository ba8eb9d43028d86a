-- What has been heard of a packet, and what one byte more completes.
use Rattle.std.specs.Prelude.{ℕ, ◌+◌, ◌*◌, ◌%◌, Bool, false, ◌||◌, ◌&&◌, ◌==◌, nat_lt, nat_le, if◌then◌else◌, List, [], ◌∷◌, ◌++◌, length}
use Rattle.std.specs.Char.{is_digit, digit_value}
use Rattle.rt_packet.specs.Packet.{payload_limit, dollar, hash, minus, interrupt}
use Rattle.rt_packet.specs.declared.decoder.Heard.{Heard}
use Rattle.rt_packet.specs.declared.decoder.Heard.TheVariants.{Nothing, Right, TooLong, Wrong, Again, Interrupt}

-- what is known of a payload: its first 4096 bytes, whether it has more, and the sum of all its bytes, modulo 256
pub record Payload : Type 0 where
  pub kept : List ℕ
  pub is_long : Bool
  pub total : ℕ

abbrev pub empty : Payload
empty = record { kept = []; is_long = false; total = 0 }

-- with one byte more
abbrev pub with_byte : Payload → ℕ → Payload
with_byte payload b = record {
  kept = if nat_lt (length payload.kept) payload_limit then payload.kept ++ b ∷ [] else payload.kept;
  is_long = payload.is_long || nat_le payload_limit (length payload.kept);
  total = (payload.total + b) % 256;
}

-- outside of a packet, behind one whose payload was kept so; within a payload; behind '#'; behind it and one byte
pub data Frame : Type 0 where
  Outside : List ℕ → Frame
  Within : Payload → Frame
  Ended : Payload → Frame
  Half : Payload → ℕ → Frame

-- as '$' leaves it
abbrev pub begun : Frame
begun = Within empty

-- what is kept of the last payload
abbrev pub kept_of : Frame → List ℕ
kept_of (Outside kept) = kept
kept_of (Within payload) = payload.kept
kept_of (Ended payload) = payload.kept
kept_of (Half payload first) = payload.kept

-- two bytes are hexadecimal digits of either case and say this sum, the first the higher one
abbrev pub says : ℕ → ℕ → ℕ → Bool
says first second total = is_digit first 16 && is_digit second 16 && (16 * digit_value first + digit_value second == total)

-- what a packet with these two bytes behind '#' is
abbrev pub verdict : Payload → ℕ → ℕ → Heard
verdict payload first second =
    if says first second payload.total then (if payload.is_long then TooLong else Right) else Wrong

-- what a byte outside of a packet says that begins none
abbrev pub said_outside : ℕ → Heard
said_outside b = if b == minus then Again else (if b == interrupt then Interrupt else Nothing)

-- what one byte leaves, and what it completes
abbrev pub hears : Frame → ℕ → Frame × Heard
hears (Outside kept) b = if b == dollar then (begun, Nothing) else (Outside kept, said_outside b)
hears (Within payload) b =
    if b == dollar then (begun, Nothing) else (if b == hash then (Ended payload, Nothing) else (Within (with_byte payload b), Nothing))
hears (Ended payload) b = (Half payload b, Nothing)
hears (Half payload first) b = (Outside payload.kept, verdict payload first b)
