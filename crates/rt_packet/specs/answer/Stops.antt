-- Why a task stopped, in gdb's Remote Serial Protocol.
use Rattle.std.specs.Prelude.{ℕ, List, ◌++◌, codes}
use Rattle.rt_words.specs.Hex.{hex}
use Rattle.rt_exec.specs.declared.outcome.Fault.{Fault}
use Rattle.rt_exec.specs.declared.outcome.Fault.TheVariants as faults
use Rattle.rt_points.specs.declared.point.BreakKind.{BreakKind}
use Rattle.rt_points.specs.declared.point.BreakKind.TheVariants.{Software, Hardware}
use Rattle.rt_points.specs.declared.point.WatchKind.{WatchKind}
use Rattle.rt_points.specs.declared.point.WatchKind.TheVariants.{Write, Read, Access}
use Rattle.rt_packet.specs.answer.Ids.{id_text}
use Rattle.rt_packet.specs.declared.answer.ids.Ids.{Ids}
use Rattle.rt_packet.specs.declared.answer.stops.Stop.{Stop}
use Rattle.rt_packet.specs.declared.answer.stops.Stop.TheVariants.{Plain, Ended, Faulted, EndedBefore, FaultedBefore, AtTick, Interrupted, Break, Watch, Happened, Begin, End}

-- the signal of a fault: illegal instruction, trap, bus error, segmentation fault, bad system call
abbrev pub signal_of : Fault → ℕ
signal_of faults.Illegal = 4
signal_of faults.Break = 5
signal_of faults.JumpMisaligned = 10
signal_of faults.LoadMisaligned = 10
signal_of faults.StoreMisaligned = 10
signal_of faults.FetchAccess = 11
signal_of faults.LoadAccess = 11
signal_of faults.StoreAccess = 11
signal_of faults.UnknownCall = 12

abbrev pub break_text : BreakKind → List ℕ
break_text Software = codes "swbreak:;"
break_text Hardware = codes "hwbreak:;"

abbrev pub watch_name : WatchKind → List ℕ
watch_name Write = codes "watch"
watch_name Read = codes "rwatch"
watch_name Access = codes "awatch"

-- a watchpoint that is met at an address
abbrev pub watched_text : WatchKind → ℕ → List ℕ
watched_text kind address = watch_name kind ++ codes ":" ++ hex 8 address ++ codes ";"

-- the signal, and the cause where it is named
abbrev pub cause_text : Stop → List ℕ
cause_text Plain = codes "05"
cause_text Ended = codes "0f"
cause_text (Faulted fault) = hex 2 (signal_of fault)
cause_text EndedBefore = codes "0f"
cause_text (FaultedBefore fault) = hex 2 (signal_of fault)
cause_text AtTick = codes "00"
cause_text Interrupted = codes "02"
cause_text (Break kind) = codes "05" ++ break_text kind
cause_text (Watch watched) = codes "05" ++ watched_text watched.kind watched.address
cause_text (Happened event job) = codes "05"
cause_text Begin = codes "05replaylog:begin;"
cause_text End = codes "05replaylog:end;"

-- why a task stopped
abbrev pub stop_text : Ids → Stop → ℕ → List ℕ
stop_text ids stop task = codes "T" ++ cause_text stop ++ codes "thread:" ++ id_text ids task ++ codes ";"
