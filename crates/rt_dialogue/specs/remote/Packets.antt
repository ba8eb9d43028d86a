-- The packets of what is said to a request.
use Rattle.std.specs.Prelude.{ℕ, zero, suc, ◌+◌, ◌/◌, List, [], ◌∷◌, ◌++◌, length, take, drop, Option, Some, None}
use Rattle.std.specs.List.{flat_map}
use Rattle.rt_packet.specs.Packet.{packet_of}
use Rattle.rt_packet.specs.answer.Bytes.{console_text}
use Rattle.rt_remote.specs.Said.{Said}

-- so many pieces of 1024 bytes, one after the other
abbrev pub pieces : ℕ → List ℕ → List (List ℕ)
pieces zero text = []
pieces (suc n) text = take 1024 text ∷ pieces n (drop 1024 text)

-- a text in pieces of 1024 bytes, the last of which may have fewer
abbrev pub in_pieces : List ℕ → List (List ℕ)
in_pieces text = pieces ((length text + 1023) / 1024) text

-- the packets that print a text on gdb's console
abbrev pub console_packets : List ℕ → List ℕ
console_packets text = flat_map (λ piece. packet_of (console_text piece)) (in_pieces text)

-- the packet of an answer, if there is one
abbrev pub answer_packet : Option (List ℕ) → List ℕ
answer_packet None = []
answer_packet (Some answer) = packet_of answer

abbrev pub packets : Said → List ℕ
packets said = console_packets said.console ++ answer_packet said.answer

-- the last packet that was sent, where this was said behind it
abbrev pub last_sent : Option (List ℕ) → Option (List ℕ) → Option (List ℕ)
last_sent before (Some answer) = Some (packet_of answer)
last_sent before None = before

-- sent again, if there is one
abbrev pub again : Option (List ℕ) → List ℕ
again None = []
again (Some packet) = packet
