-- The packets of gdb's Remote Serial Protocol.
use Rattle.std.specs.Prelude.{ℕ, ◌%◌, List, ◌∷◌, ◌++◌, sum}
use Rattle.std.specs.Str.{byte}
use Rattle.rt_words.specs.Hex.{hex}

-- the most bytes of a payload that goes out, and of one that is kept
abbrev pub payload_limit : ℕ
payload_limit = 4096

-- '$' begins a packet, '#' ends its payload, and '-' outside of a packet asks for the last one again
abbrev pub dollar : ℕ
dollar = byte "$"

abbrev pub hash : ℕ
hash = byte "#"

abbrev pub minus : ℕ
minus = byte "-"

-- what gdb sends outside of a packet to interrupt a run
abbrev pub interrupt : ℕ
interrupt = 3

-- the sum of bytes, modulo 256
abbrev pub checksum : List ℕ → ℕ
checksum bytes = sum bytes % 256

-- '$', the payload, '#', and the payload's sum as two digits in lower case
abbrev pub packet_of : List ℕ → List ℕ
packet_of payload = (dollar ∷ payload) ++ (hash ∷ hex 2 (checksum payload))
