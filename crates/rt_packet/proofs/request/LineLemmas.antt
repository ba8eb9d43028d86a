-- A line of `monitor` that is too long is unknown, and still is where it is cut behind its limit.
use Rattle.rt_packet.proofs.Common.{◌≡◌, ℕ, ◌<◌, List, length, take, inl, inr, refl, sym, ap, ◌∙◌, arith, lt-ltb, take_all, cases_lt}
use Rattle.std.proofs.lemmas.List.{length-take-le}
use Rattle.rt_words.specs.Limits.{line_limit}
use Rattle.rt_packet.specs.declared.request.monitor.Monitor.TheVariants.{Unknown}
use Rattle.rt_packet.specs.declared.request.monitor.Wanted.TheVariants.{Line}
use Rattle.rt_packet.specs.request.MonitorLine.{monitor_of}

long_line : (line : List ℕ) → line_limit < length line → monitor_of line ≡ Unknown Line
long_line line long = rw (lt-ltb line_limit (length line) long) refl

pub cut_line : (room : ℕ) (line : List ℕ) → line_limit < room → monitor_of (take room line) ≡ monitor_of line
cut_line room line more = elim (cases_lt room (length line)) [
  | inl beyond ↦ long_line (take room line) (omega (arith, length-take-le room line (omega arith))) ∙ sym (long_line line (omega arith))
  | inr within ↦ ap monitor_of (take_all room line within)
]
