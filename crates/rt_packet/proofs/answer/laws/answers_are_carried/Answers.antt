use Rattle.rt_packet.proofs.answer.AnswerLemmas.{task_carried, tasks_carried, stop_carried, reply_carried, supported_carried, registers_carried, register_carried, memory_carried, bytes_carried, console_carried, piece_carried}
use Rattle.rt_packet.proofs.answer.laws.answers_are_carried.Goals as goal

pub returns-clause-task : goal.returns-clause-task
returns-clause-task c ids task = (task_carried ids task).is

pub returns-clause-tasks : goal.returns-clause-tasks
returns-clause-tasks c ids tasks = (tasks_carried ids tasks).is

pub returns-clause-stop : goal.returns-clause-stop
returns-clause-stop c ids stop task = (stop_carried ids stop task).is

pub returns-clause-reply : goal.returns-clause-reply
returns-clause-reply c reply = (reply_carried reply).is

pub returns-clause-supported : goal.returns-clause-supported
returns-clause-supported c ids = (supported_carried ids).is

pub returns-clause-registers : goal.returns-clause-registers
returns-clause-registers c x pc = (registers_carried x pc).is

pub returns-clause-register : goal.returns-clause-register
returns-clause-register c = register_carried

pub returns-clause-memory : goal.returns-clause-memory
returns-clause-memory c = memory_carried

pub returns-clause-bytes : goal.returns-clause-bytes
returns-clause-bytes c bytes = (bytes_carried bytes).is

pub returns-clause-console : goal.returns-clause-console
returns-clause-console c text = (console_carried text).is

pub returns-clause-description : goal.returns-clause-description
returns-clause-description c offset count = (piece_carried offset count).is
