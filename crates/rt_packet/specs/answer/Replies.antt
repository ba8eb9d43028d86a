-- Fixed answers in gdb's Remote Serial Protocol.
use Rattle.std.specs.Prelude.{ℕ, List, [], ◌++◌, codes}
use Rattle.rt_packet.specs.declared.answer.ids.Ids.{Ids}
use Rattle.rt_packet.specs.declared.answer.ids.Ids.TheVariants.{Processes, Threads}
use Rattle.rt_packet.specs.declared.answer.replies.Refused.{Refused}
use Rattle.rt_packet.specs.declared.answer.replies.Refused.TheVariants as refusals
use Rattle.rt_packet.specs.declared.answer.replies.Reply.{Reply}
use Rattle.rt_packet.specs.declared.answer.replies.Reply.TheVariants as replies

-- 'E' and a number in hexadecimal
abbrev pub refused_text : Refused → List ℕ
refused_text refusals.Malformed = codes "E01"
refused_text refusals.NoMemory = codes "E0c"
refused_text refusals.NotInRam = codes "E0e"
refused_text refusals.TooManyPoints = codes "E1c"
refused_text refusals.ReadOnly = codes "E1e"
refused_text refusals.NoAnnex = codes "E00"

abbrev pub reply_text : Reply → List ℕ
reply_text replies.Done = codes "OK"
reply_text replies.NoMoreTasks = codes "l"
reply_text replies.Unknown = []
reply_text replies.Attached = codes "1"
reply_text replies.Actions = codes "vCont;c;C;s;S"
reply_text (replies.Refused refused) = refused_text refused

-- whether ids name processes is a feature
abbrev pub processes_text : Ids → List ℕ
processes_text Processes = codes "multiprocess+;"
processes_text Threads = []

-- payloads of up to 1000 (hexadecimal) bytes, and features
abbrev pub supported_text : Ids → List ℕ
supported_text ids =
    codes "PacketSize=1000;" ++ processes_text ids
    ++ codes "swbreak+;hwbreak+;vContSupported+;ReverseStep+;ReverseContinue+;qXfer:features:read+"
