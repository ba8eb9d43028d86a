-- The bytes of each answer.
use Rattle.rt_packet.proofs.Common.{◌≡◌, ℕ, ◌+◌, ◌-◌, Bool, true, false, cond, List, [], ◌∷◌, take, drop, length, codes, refl, Option, Some, None, slice_index, hex, Software, Hardware, id_text, other_text}
use Rattle.std.proofs.Common.{min}
use Rattle.std.specs.Prelude.{IfSome, ◌==◌, nat_le, nat_lt}
use Rattle.std.specs.Int.{w32, w64, to_le_bytes}
use Rattle.std.proofs.lemmas.List.Elements.{All-take, All-drop}
use Rattle.rt_words.specs.Base.{base}
use Rattle.rt_points.specs.declared.point.BreakKind.{BreakKind}
use Rattle.rt_points.specs.declared.point.WatchKind.{WatchKind}
use Rattle.rt_points.specs.declared.point.WatchKind.TheVariants.{Write, Read, Access}
use Rattle.rt_packet.specs.declared.answer.ids.Ids.{Ids}
use Rattle.rt_packet.specs.declared.answer.ids.Ids.TheVariants.{Processes, Threads}
use Rattle.rt_packet.specs.declared.answer.stops.Stop.{Stop}
use Rattle.rt_packet.specs.declared.answer.stops.Stop.TheVariants.{Plain, Ended, Faulted, EndedBefore, FaultedBefore, AtTick, Interrupted, Break, Watch, Happened, Begin, End}
use Rattle.rt_packet.specs.declared.answer.replies.Refused.{Refused}
use Rattle.rt_packet.specs.declared.answer.replies.Refused.TheVariants as refusals
use Rattle.rt_packet.specs.declared.answer.replies.Reply.{Reply}
use Rattle.rt_packet.specs.declared.answer.replies.Reply.TheVariants as replies
use Rattle.rt_packet.specs.declared.answer.registers.TaskNumbers.{TaskNumbers}
use Rattle.rt_packet.specs.answer.Ids.{named, task_text, tasks_text}
use Rattle.rt_packet.specs.answer.Stops.{signal_of, break_text, watch_name, cause_text, stop_text}
use Rattle.rt_packet.specs.answer.Replies.{refused_text, reply_text, supported_text}
use Rattle.rt_packet.specs.answer.Registers.{pairs, word_text, long_text, registers_text, register_text}
use Rattle.rt_packet.specs.answer.Bytes.{is_in_ram, memory_text, bytes_text, console_text}
use Rattle.rt_packet.specs.answer.Description.{description, piece, piece_text}
use Rattle.rt_packet.specs.answer.Plain.{is_carried, IsCarried}
use Rattle.rt_packet.proofs.answer.PlainLemmas.{Carried, literal, joined, each, last_digits, all_digits}

id : (ids : Ids) (task : ℕ) → Carried (id_text ids task)
id Processes task =
    let n = all_digits (task + 1) in
    joined (joined (joined (literal (codes "p") refl) n) (literal (codes ".") refl)) n
id Threads task = all_digits (task + 1)

pub task_carried : (ids : Ids) (task : ℕ) → Carried (task_text ids task)
task_carried ids task = joined (literal (codes "QC") refl) (id ids task)

other : (ids : Ids) (task : ℕ) → Carried (other_text ids task)
other ids task = joined (literal (codes ",") refl) (id ids task)

named_carried : (ids : Ids) (tasks : List ℕ) → Carried (named ids tasks)
named_carried ids [] = literal (codes "l") refl
named_carried ids (task ∷ tasks) = joined (joined (literal (codes "m") refl) (id ids task)) (each (other_text ids) (other ids) tasks)

pub tasks_carried : (ids : Ids) (tasks : List ℕ) → Carried (tasks_text ids tasks)
tasks_carried ids tasks = named_carried ids (take 64 tasks)

break_carried : (kind : BreakKind) → Carried (break_text kind)
break_carried Software = literal (codes "swbreak:;") refl
break_carried Hardware = literal (codes "hwbreak:;") refl

watch_carried : (kind : WatchKind) → Carried (watch_name kind)
watch_carried Write = literal (codes "watch") refl
watch_carried Read = literal (codes "rwatch") refl
watch_carried Access = literal (codes "awatch") refl

cause : (stop : Stop) → Carried (cause_text stop)
cause Plain = literal (codes "05") refl
cause Ended = literal (codes "0f") refl
cause (Faulted fault) = last_digits 2 (signal_of fault)
cause EndedBefore = literal (codes "0f") refl
cause (FaultedBefore fault) = last_digits 2 (signal_of fault)
cause AtTick = literal (codes "00") refl
cause Interrupted = literal (codes "02") refl
cause (Break kind) = joined (literal (codes "05") refl) (break_carried kind)
cause (Watch watched) =
    joined (literal (codes "05") refl)
    (joined (joined (joined (watch_carried watched.kind) (literal (codes ":") refl)) (last_digits 8 watched.address)) (literal (codes ";") refl))
cause (Happened event job) = literal (codes "05") refl
cause Begin = literal (codes "05replaylog:begin;") refl
cause End = literal (codes "05replaylog:end;") refl

pub stop_carried : (ids : Ids) (stop : Stop) (task : ℕ) → Carried (stop_text ids stop task)
stop_carried ids stop task =
    joined (joined (joined (joined (literal (codes "T") refl) (cause stop)) (literal (codes "thread:") refl)) (id ids task)) (literal (codes ";") refl)

refused_carried : (refused : Refused) → Carried (refused_text refused)
refused_carried refusals.Malformed = literal (codes "E01") refl
refused_carried refusals.NoMemory = literal (codes "E0c") refl
refused_carried refusals.NotInRam = literal (codes "E0e") refl
refused_carried refusals.TooManyPoints = literal (codes "E1c") refl
refused_carried refusals.ReadOnly = literal (codes "E1e") refl
refused_carried refusals.NoAnnex = literal (codes "E00") refl

pub reply_carried : (reply : Reply) → Carried (reply_text reply)
reply_carried replies.Done = literal (codes "OK") refl
reply_carried replies.NoMoreTasks = literal (codes "l") refl
reply_carried replies.Unknown = literal [] refl
reply_carried replies.Attached = literal (codes "1") refl
reply_carried replies.Actions = literal (codes "vCont;c;C;s;S") refl
reply_carried (replies.Refused refused) = refused_carried refused

pub supported_carried : (ids : Ids) → Carried (supported_text ids)
supported_carried Processes = literal (supported_text Processes) refl
supported_carried Threads = literal (supported_text Threads) refl

pairs_carried : (bytes : List ℕ) → Carried (pairs bytes)
pairs_carried bytes = each (hex 2) (last_digits 2) bytes

pub registers_carried : (x : List ℕ) (pc : ℕ) → Carried (registers_text x pc)
registers_carried x pc =
    joined (each word_text (λ (word : ℕ). pairs_carried (to_le_bytes w32 word)) x) (pairs_carried (to_le_bytes w32 pc))

-- a text that there may be
record Maybe (text : Option (List ℕ)) : Type 0 where
  is : IfSome text IsCarried

found : {text : List ℕ} → Carried text → Maybe (Some text)
found carried = record { is = carried.is }

if_either : (t : Bool) {a b : Option (List ℕ)} → Maybe a → Maybe b → Maybe (cond t a b)
if_either true a b = a
if_either false a b = b

none : Maybe None
none = record { is = tt }

word : (n : ℕ) → Maybe (Some (word_text n))
word n = found (pairs_carried (to_le_bytes w32 n))

long : (n : ℕ) → Maybe (Some (long_text n))
long n = found (pairs_carried (to_le_bytes w64 n))

register : (numbers : TaskNumbers) (n : ℕ) → Maybe (register_text numbers n)
register numbers n =
    if_either (nat_lt n 32) (word (slice_index numbers.x.now n))
    (if_either (n == 0x20) (word numbers.pc)
    (if_either (n == 0x21) (long numbers.tick)
    (if_either (n == 0x22) (word numbers.budget)
    (if_either (n == 0x23) (long numbers.deadline) none))))

pub register_carried : (numbers : TaskNumbers) (n : ℕ) → IfSome (register_text numbers n) IsCarried
register_carried numbers n = (register numbers n).is

memory : (ram : List ℕ) (address count : ℕ) → Maybe (memory_text ram address count)
memory ram address count = if_either (is_in_ram ram address) (found (pairs_carried (take (min count 2000) (drop (address - base) ram)))) none

pub memory_carried : (ram : List ℕ) (address count : ℕ) → IfSome (memory_text ram address count) IsCarried
memory_carried ram address count = (memory ram address count).is

pub bytes_carried : (bytes : List ℕ) → Carried (bytes_text bytes)
bytes_carried bytes = pairs_carried (take 2048 bytes)

pub console_carried : (text : List ℕ) → Carried (console_text text)
console_carried text = joined (literal (codes "O") refl) (pairs_carried (take 1024 text))

description_carried : Carried description
unfolding description
description_carried = literal description refl

either : (t : Bool) (xs ys : List ℕ) → Carried xs → Carried ys → Carried (cond t xs ys)
either true xs ys p q = p
either false xs ys p q = q

piece_is_carried : (offset count : ℕ) → Carried (piece offset count)
piece_is_carried offset count = record { is = All-take (λ b. is_carried b ≡ true) (min count 2048) (drop offset description) (All-drop (λ b. is_carried b ≡ true) offset description description_carried.is) }

pub piece_carried : (offset count : ℕ) → Carried (piece_text offset count)
piece_carried offset count =
    joined (either (nat_le (length description) (offset + min count 2048)) (codes "l") (codes "m") (literal (codes "l") refl) (literal (codes "m") refl))
    (piece_is_carried offset count)
