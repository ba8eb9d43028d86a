use Rattle.rt_text.proofs.Common.{◌≡◌, ◌++◌, drop}
use Rattle.rt_text.specs.Strings.{bytes_after, string_bytes}
use Rattle.rt_text.proofs.meaning.directives.string_bytes.Given as goal

-- the bytes so far go before those that are left
abbrev pub invariant-loop-byte : goal.invariant-loop-byte
invariant-loop-byte l = string_bytes l.text ≡ l.bytes.items ++ bytes_after l.escaped (drop l.byte-index l.rest)
