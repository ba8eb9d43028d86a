-- Rows of reserves: what is granted, what is pending, and when it takes effect.
use Rattle.std.specs.Prelude.{ℕ, List, [], ◌∷◌, ◌++◌, map, Some, codes}
use Rattle.rt_server.specs.Account.{Account}
use Rattle.rt_image.specs.SystemFile.{TaskSet}
use Rattle.rt_history.specs.Legal.{state_at}
use Rattle.rt_rows.specs.Sets.{task, set_of, one, busy}

-- li a7,5; li a0,2; ecall; li a7,2; a word that sets a0; li a1,0; ecall; and then
abbrev pub reserver : ℕ → List ℕ → TaskSet
reserver sets_a0 later =
    set_of 12
    (task 1 3 (0x00500893 ∷ 0x00200513 ∷ 0x00000073 ∷ 0x00200893 ∷ sets_a0 ∷ 0x00000593 ∷ 0x00000073 ∷ later) ∷ [])

-- the accounts of a set's servers after t ticks
abbrev pub accounts : TaskSet → ℕ → List Account
accounts set t = map (λ s. s.serving.account) (state_at set t).tasks

-- a sleep until 21: at 21, 1 * 3 >= (24 - 21) * 1 holds, and the budget of 2 takes effect
abbrev pub reserve_text : List ℕ
reserve_text =
    codes "0 0 80000000 00500893 next\n"
    ++ codes "1 0 80000004 00200513 next\n"
    ++ codes "2 0 80000008 00000073 reserve 2\n"
    ++ codes "3 0 8000000c 00200893 next\n"
    ++ codes "4 0 80000010 01500513 next\n"
    ++ codes "5 0 80000014 00000593 next\n"
    ++ codes "6 0 80000018 00000073 sleep 21\n"
    ++ codes "7 idle 14\n"
    ++ codes "after 21\n"
    ++ codes "task 0 active c 2 d 24 pc 8000001c\n"
    ++ codes "regs x10=00000015 x17=00000002\n"
    ++ codes "out 0\n"

-- a sleep until 20: at 20, 1 * 3 >= (24 - 20) * 1 fails, and it stays pending
abbrev pub reserve_pending_text : List ℕ
reserve_pending_text =
    codes "0 0 80000000 00500893 next\n"
    ++ codes "1 0 80000004 00200513 next\n"
    ++ codes "2 0 80000008 00000073 reserve 2\n"
    ++ codes "3 0 8000000c 00200893 next\n"
    ++ codes "4 0 80000010 01400513 next\n"
    ++ codes "5 0 80000014 00000593 next\n"
    ++ codes "6 0 80000018 00000073 sleep 20\n"
    ++ codes "7 idle 13\n"
    ++ codes "after 20\n"
    ++ codes "task 0 active c 1 d 24 pc 8000001c\n"
    ++ codes "regs x10=00000014 x17=00000002\n"
    ++ codes "out 0\n"

-- li a7,5; li a0,2; ecall; j .
abbrev pub reserver_of_two : List ℕ
reserver_of_two = 0x00500893 ∷ 0x00200513 ∷ 0x00000073 ∷ 0x0000006F ∷ []

-- beside a busy task: 2 * 4 and 2 * 3 are over 12
abbrev pub refused_reserver : TaskSet
refused_reserver = set_of 12 (task 1 3 reserver_of_two ∷ task 2 4 busy ∷ [])

abbrev pub reserve_refused_text : List ℕ
reserve_refused_text =
    codes "0 0 80000000 00500893 next\n"
    ++ codes "1 1 80000000 0000006f next\n"
    ++ codes "2 1 80000000 0000006f next\n"
    ++ codes "3 0 80000004 00200513 next\n"
    ++ codes "4 1 80000000 0000006f next\n"
    ++ codes "5 1 80000000 0000006f next\n"
    ++ codes "6 0 80000008 00000073 reserve refused\n"
    ++ codes "after 7\n"
    ++ codes "task 0 active c 1 d 12 pc 8000000c\n"
    ++ codes "regs x10=ffffffff x17=00000005\n"
    ++ codes "out 0\n"
    ++ codes "task 1 active c 2 d 12 pc 80000000\n"
    ++ codes "regs\n"
    ++ codes "out 0\n"

-- li a7,5; ecall; li a0,11; ecall; li a0,10; ecall: of a period of 10
abbrev pub reserving_all : TaskSet
reserving_all = one 5 10 (0x00500893 ∷ 0x00000073 ∷ 0x00B00513 ∷ 0x00000073 ∷ 0x00A00513 ∷ 0x00000073 ∷ [])

abbrev pub reserve_limits_text : List ℕ
reserve_limits_text =
    codes "0 0 80000000 00500893 next\n"
    ++ codes "1 0 80000004 00000073 reserve refused\n"
    ++ codes "2 0 80000008 00b00513 next\n"
    ++ codes "3 0 8000000c 00000073 reserve refused\n"
    ++ codes "4 0 80000010 00a00513 next\n"
    ++ codes "5 0 80000014 00000073 reserve 10\n"
    ++ codes "after 6\n"
    ++ codes "task 0 active c 4 d 20 pc 80000018\n"
    ++ codes "regs x17=00000005\n"
    ++ codes "out 0\n"

-- li a7,5; li a0,-1; ecall
abbrev pub reserving_most : TaskSet
reserving_most = one 5 10 (0x00500893 ∷ 0xFFF00513 ∷ 0x00000073 ∷ [])

abbrev pub reserve_most_text : List ℕ
reserve_most_text =
    codes "0 0 80000000 00500893 next\n"
    ++ codes "1 0 80000004 fff00513 next\n"
    ++ codes "2 0 80000008 00000073 reserve refused\n"
    ++ codes "after 3\n"
    ++ codes "task 0 active c 2 d 10 pc 8000000c\n"
    ++ codes "regs x10=ffffffff x17=00000005\n"
    ++ codes "out 0\n"

-- both ask for 2, one after the other: 2 * 4 and 1 * 3 fit 12, and then 2 * 4, which is pending, and 2 * 3 don't
abbrev pub two_reservers : TaskSet
two_reservers = set_of 12 (task 1 3 reserver_of_two ∷ task 1 4 reserver_of_two ∷ [])

abbrev pub reserve_beside_pending_text : List ℕ
reserve_beside_pending_text =
    codes "0 0 80000000 00500893 next\n"
    ++ codes "1 1 80000000 00500893 next\n"
    ++ codes "2 0 80000004 00200513 next\n"
    ++ codes "3 1 80000004 00200513 next\n"
    ++ codes "4 0 80000008 00000073 reserve 2\n"
    ++ codes "5 0 8000000c 0000006f next\n"
    ++ codes "6 1 80000008 00000073 reserve refused\n"
    ++ codes "after 7\n"
    ++ codes "task 0 active c 1 d 15 pc 8000000c\n"
    ++ codes "regs x17=00000005\n"
    ++ codes "out 0\n"
    ++ codes "task 1 active c 1 d 16 pc 8000000c\n"
    ++ codes "regs x10=ffffffff x17=00000005\n"
    ++ codes "out 0\n"

-- li a7,5; li a0,16; ecall; li a0,3; ecall; li a7,3; ecall; li a7,5; li a0,21; ecall; li a0,8; ecall, of a budget of 8 and a
-- period of 20: it reserves 16, and then 3 in its place; it yields; it asks for more than its period, and at last for what it has
abbrev pub reserving_again : TaskSet
reserving_again = one 8 20
    (0x00500893 ∷ 0x01000513 ∷ 0x00000073 ∷ 0x00300513 ∷ 0x00000073 ∷ 0x00300893 ∷ 0x00000073
    ∷ 0x00500893 ∷ 0x01500513 ∷ 0x00000073 ∷ 0x00800513 ∷ 0x00000073 ∷ [])

abbrev pub reserving_again_text : List ℕ
reserving_again_text =
    codes "0 0 80000000 00500893 next\n"
    ++ codes "1 0 80000004 01000513 next\n"
    ++ codes "2 0 80000008 00000073 reserve 16\n"
    ++ codes "3 0 8000000c 00300513 next\n"
    ++ codes "4 0 80000010 00000073 reserve 3\n"
    ++ codes "5 0 80000014 00300893 next\n"
    ++ codes "6 0 80000018 00000073 yield\n"
    ++ codes "7 0 8000001c 00500893 next\n"
    ++ codes "8 0 80000020 01500513 next\n"
    ++ codes "9 0 80000024 00000073 reserve refused\n"
    ++ codes "10 0 80000028 00800513 next\n"
    ++ codes "11 0 8000002c 00000073 reserve 8\n"
    ++ codes "after 12\n"
    ++ codes "task 0 active c 3 d 40 pc 80000030\n"
    ++ codes "regs x17=00000005\n"
    ++ codes "out 0\n"

-- li a7,5; li a0,8; ecall; a word; and one that stops the task
abbrev pub stopping : ℕ → ℕ → List ℕ
stopping before stops = 0x00500893 ∷ 0x00800513 ∷ 0x00000073 ∷ before ∷ stops ∷ []

-- li a7,5; a word that sets a0; ecall; another; ecall
abbrev pub asking_twice : ℕ → ℕ → List ℕ
asking_twice first second = 0x00500893 ∷ first ∷ 0x00000073 ∷ second ∷ 0x00000073 ∷ []

-- Task 0 reserves 8 and stops. Task 1 asks for 13, of which 6 + 13 fits 20 and 8 + 13 doesn't, and for 12, which fits.
abbrev pub beside_stopped : ℕ → ℕ → TaskSet
beside_stopped before stops = set_of 20 (task 6 20 (stopping before stops) ∷ task 6 20 (asking_twice 0x00D00513 0x00C00513) ∷ [])

-- by li a7,0; ecall
abbrev pub ended_holder : TaskSet
ended_holder = beside_stopped 0x00000893 0x00000073

abbrev pub ended_holder_text : List ℕ
ended_holder_text =
    codes "0 0 80000000 00500893 next\n"
    ++ codes "1 0 80000004 00800513 next\n"
    ++ codes "2 0 80000008 00000073 reserve 8\n"
    ++ codes "3 0 8000000c 00000893 next\n"
    ++ codes "4 0 80000010 00000073 end\n"
    ++ codes "5 1 80000000 00500893 next\n"
    ++ codes "6 1 80000004 00d00513 next\n"
    ++ codes "7 1 80000008 00000073 reserve refused\n"
    ++ codes "8 1 8000000c 00c00513 next\n"
    ++ codes "9 1 80000010 00000073 reserve 12\n"
    ++ codes "after 10\n"
    ++ codes "task 0 ended c 1 d 20 pc 80000014\n"
    ++ codes "regs\n"
    ++ codes "out 0\n"
    ++ codes "task 1 active c 1 d 20 pc 80000014\n"
    ++ codes "regs x17=00000005\n"
    ++ codes "out 0\n"

-- by nop; ebreak
abbrev pub faulted_holder : TaskSet
faulted_holder = beside_stopped 0x00000013 0x00100073

abbrev pub faulted_holder_text : List ℕ
faulted_holder_text =
    codes "0 0 80000000 00500893 next\n"
    ++ codes "1 0 80000004 00800513 next\n"
    ++ codes "2 0 80000008 00000073 reserve 8\n"
    ++ codes "3 0 8000000c 00000013 next\n"
    ++ codes "4 0 80000010 00100073 fault Break\n"
    ++ codes "5 1 80000000 00500893 next\n"
    ++ codes "6 1 80000004 00d00513 next\n"
    ++ codes "7 1 80000008 00000073 reserve refused\n"
    ++ codes "8 1 8000000c 00c00513 next\n"
    ++ codes "9 1 80000010 00000073 reserve 12\n"
    ++ codes "after 10\n"
    ++ codes "task 0 faulted Break c 1 d 20 pc 80000010\n"
    ++ codes "regs x17=00000005\n"
    ++ codes "out 0\n"
    ++ codes "task 1 active c 1 d 20 pc 80000014\n"
    ++ codes "regs x17=00000005\n"
    ++ codes "out 0\n"

-- the accounts of both
abbrev pub holder_accounts : List Account
holder_accounts =
    record { q = 6; p = 20; c = 1; d = 20; pending = Some 8 } ∷ record { q = 6; p = 20; c = 1; d = 20; pending = Some 12 } ∷ []

-- nine times nop; ecall
abbrev pub ending_later : List ℕ
ending_later =
    0x00000013 ∷ 0x00000013 ∷ 0x00000013 ∷ 0x00000013 ∷ 0x00000013 ∷ 0x00000013 ∷ 0x00000013 ∷ 0x00000013 ∷ 0x00000013
    ∷ 0x00000073 ∷ []

-- li a7,5; li a0,15; eight times nop; ecall
abbrev pub asking_later : List ℕ
asking_later =
    0x00500893 ∷ 0x00F00513 ∷ 0x00000013 ∷ 0x00000013 ∷ 0x00000013 ∷ 0x00000013 ∷ 0x00000013 ∷ 0x00000013 ∷ 0x00000013
    ∷ 0x00000013 ∷ 0x00000073 ∷ []

-- Task 0 has ended, with nothing pending, before task 1 asks for 15: 15 * 2 and 10 of task 2 fit 40, and 10 of task 0 beside them
-- don't.
abbrev pub beside_ended : TaskSet
beside_ended = set_of 40 (task 10 40 ending_later ∷ task 10 20 asking_later ∷ task 10 40 busy ∷ [])

abbrev pub beside_ended_text : List ℕ
beside_ended_text =
    codes "0 1 80000000 00500893 next\n"
    ++ codes "1 1 80000004 00f00513 next\n"
    ++ codes "2 1 80000008 00000013 next\n"
    ++ codes "3 1 8000000c 00000013 next\n"
    ++ codes "4 1 80000010 00000013 next\n"
    ++ codes "5 1 80000014 00000013 next\n"
    ++ codes "6 1 80000018 00000013 next\n"
    ++ codes "7 1 8000001c 00000013 next\n"
    ++ codes "8 1 80000020 00000013 next\n"
    ++ codes "9 1 80000024 00000013 next\n"
    ++ codes "10 0 80000000 00000013 next\n"
    ++ codes "11 0 80000004 00000013 next\n"
    ++ codes "12 0 80000008 00000013 next\n"
    ++ codes "13 0 8000000c 00000013 next\n"
    ++ codes "14 0 80000010 00000013 next\n"
    ++ codes "15 0 80000014 00000013 next\n"
    ++ codes "16 0 80000018 00000013 next\n"
    ++ codes "17 0 8000001c 00000013 next\n"
    ++ codes "18 0 80000020 00000013 next\n"
    ++ codes "19 0 80000024 00000073 end\n"
    ++ codes "20 1 80000028 00000073 reserve refused\n"

-- li a7,5; li a0,2; ecall; j ., which reserves less than it has, beside a task that asks for 15 and for 14: 6 + 15 is over 20
abbrev pub lesser_pending : TaskSet
lesser_pending = set_of 20 (task 6 20 reserver_of_two ∷ task 6 20 (asking_twice 0x00F00513 0x00E00513) ∷ [])

abbrev pub lesser_pending_text : List ℕ
lesser_pending_text =
    codes "0 0 80000000 00500893 next\n"
    ++ codes "1 0 80000004 00200513 next\n"
    ++ codes "2 0 80000008 00000073 reserve 2\n"
    ++ codes "3 0 8000000c 0000006f next\n"
    ++ codes "4 0 8000000c 0000006f next\n"
    ++ codes "5 0 8000000c 0000006f next\n"
    ++ codes "6 1 80000000 00500893 next\n"
    ++ codes "7 1 80000004 00f00513 next\n"
    ++ codes "8 1 80000008 00000073 reserve refused\n"
    ++ codes "9 1 8000000c 00e00513 next\n"
    ++ codes "10 1 80000010 00000073 reserve 14\n"
    ++ codes "after 11\n"
    ++ codes "task 0 active c 6 d 40 pc 8000000c\n"
    ++ codes "regs x17=00000005\n"
    ++ codes "out 0\n"
    ++ codes "task 1 active c 1 d 20 pc 80000014\n"
    ++ codes "regs x17=00000005\n"
    ++ codes "out 0\n"
