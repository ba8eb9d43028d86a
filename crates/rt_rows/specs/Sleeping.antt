-- Rows of sleeps: until when, and what the wake makes of the server.
use Rattle.std.specs.Prelude.{ℕ, List, [], ◌∷◌, ◌++◌, codes}
use Rattle.rt_image.specs.SystemFile.{TaskSet}
use Rattle.rt_rows.specs.Sets.{task, set_of, one, busy}

-- li a7,2; a word that sets a0; li a1,0; ecall; j .
abbrev pub sleeper : ℕ → List ℕ
sleeper sets_a0 = 0x00200893 ∷ sets_a0 ∷ 0x00000593 ∷ 0x00000073 ∷ 0x0000006F ∷ []

-- until 7: at 7, 1 * 10 >= (10 - 7) * 5 fails
abbrev pub until_seven : TaskSet
until_seven = one 5 10 (sleeper 0x00700513)

abbrev pub until_seven_text : List ℕ
until_seven_text =
    codes "0 0 80000000 00200893 next\n"
    ++ codes "1 0 80000004 00700513 next\n"
    ++ codes "2 0 80000008 00000593 next\n"
    ++ codes "3 0 8000000c 00000073 sleep 7\n"
    ++ codes "4 idle 3\n"
    ++ codes "after 7\n"
    ++ codes "task 0 active c 1 d 10 pc 80000010\n"
    ++ codes "regs x10=00000007 x17=00000002\n"
    ++ codes "out 0\n"

-- until 8: at 8, 1 * 10 >= (10 - 8) * 5 holds
abbrev pub until_eight : TaskSet
until_eight = one 5 10 (sleeper 0x00800513)

abbrev pub until_eight_text : List ℕ
until_eight_text =
    codes "0 0 80000000 00200893 next\n"
    ++ codes "1 0 80000004 00800513 next\n"
    ++ codes "2 0 80000008 00000593 next\n"
    ++ codes "3 0 8000000c 00000073 sleep 8\n"
    ++ codes "4 idle 4\n"
    ++ codes "after 8\n"
    ++ codes "task 0 active c 5 d 18 pc 80000010\n"
    ++ codes "regs x10=00000008 x17=00000002\n"
    ++ codes "out 0\n"

-- beside a busy task the sleep is at tick 8
abbrev pub beside_busy : ℕ → TaskSet
beside_busy sets_a0 = set_of 10 (task 5 10 busy ∷ task 5 10 (sleeper sets_a0) ∷ [])

-- until 9, the next tick: the task wakes afresh there
abbrev pub sleep_later_text : List ℕ
sleep_later_text =
    codes "0 0 80000000 0000006f next\n"
    ++ codes "1 0 80000000 0000006f next\n"
    ++ codes "2 0 80000000 0000006f next\n"
    ++ codes "3 0 80000000 0000006f next\n"
    ++ codes "4 0 80000000 0000006f next\n"
    ++ codes "5 1 80000000 00200893 next\n"
    ++ codes "6 1 80000004 00900513 next\n"
    ++ codes "7 1 80000008 00000593 next\n"
    ++ codes "8 1 8000000c 00000073 sleep 9\n"
    ++ codes "after 9\n"
    ++ codes "task 0 active c 5 d 20 pc 80000000\n"
    ++ codes "regs\n"
    ++ codes "out 0\n"
    ++ codes "task 1 active c 5 d 19 pc 80000010\n"
    ++ codes "regs x10=00000009 x17=00000002\n"
    ++ codes "out 0\n"

-- until 8, which isn't to come: the task stays active with what it has
abbrev pub sleep_now_text : List ℕ
sleep_now_text =
    codes "0 0 80000000 0000006f next\n"
    ++ codes "1 0 80000000 0000006f next\n"
    ++ codes "2 0 80000000 0000006f next\n"
    ++ codes "3 0 80000000 0000006f next\n"
    ++ codes "4 0 80000000 0000006f next\n"
    ++ codes "5 1 80000000 00200893 next\n"
    ++ codes "6 1 80000004 00800513 next\n"
    ++ codes "7 1 80000008 00000593 next\n"
    ++ codes "8 1 8000000c 00000073 sleep 8\n"
    ++ codes "after 9\n"
    ++ codes "task 0 active c 5 d 20 pc 80000000\n"
    ++ codes "regs\n"
    ++ codes "out 0\n"
    ++ codes "task 1 active c 1 d 10 pc 80000010\n"
    ++ codes "regs x10=00000008 x17=00000002\n"
    ++ codes "out 0\n"

-- the sleep at tick 3 uses the budget up
abbrev pub exhausted : ℕ → TaskSet
exhausted sets_a0 = one 4 10 (sleeper sets_a0)

-- until 7, after 4 ticks: postponed, and asleep
abbrev pub exhausted_text : List ℕ
exhausted_text =
    codes "0 0 80000000 00200893 next\n"
    ++ codes "1 0 80000004 00700513 next\n"
    ++ codes "2 0 80000008 00000593 next\n"
    ++ codes "3 0 8000000c 00000073 sleep 7\n"
    ++ codes "after 4\n"
    ++ codes "task 0 asleep 7 c 4 d 20 pc 80000010\n"
    ++ codes "regs x10=00000007 x17=00000002\n"
    ++ codes "out 0\n"

-- until 9: at 9, 4 * 10 >= (20 - 9) * 4 fails
abbrev pub exhausted_until_nine_text : List ℕ
exhausted_until_nine_text =
    codes "0 0 80000000 00200893 next\n"
    ++ codes "1 0 80000004 00900513 next\n"
    ++ codes "2 0 80000008 00000593 next\n"
    ++ codes "3 0 8000000c 00000073 sleep 9\n"
    ++ codes "4 idle 5\n"
    ++ codes "after 9\n"
    ++ codes "task 0 active c 4 d 20 pc 80000010\n"
    ++ codes "regs x10=00000009 x17=00000002\n"
    ++ codes "out 0\n"

-- until 11: at 11, 4 * 10 >= (20 - 11) * 4 holds
abbrev pub exhausted_until_eleven_text : List ℕ
exhausted_until_eleven_text =
    codes "0 0 80000000 00200893 next\n"
    ++ codes "1 0 80000004 00b00513 next\n"
    ++ codes "2 0 80000008 00000593 next\n"
    ++ codes "3 0 8000000c 00000073 sleep 11\n"
    ++ codes "4 idle 7\n"
    ++ codes "after 11\n"
    ++ codes "task 0 active c 4 d 21 pc 80000010\n"
    ++ codes "regs x10=0000000b x17=00000002\n"
    ++ codes "out 0\n"

-- li a7,2; li a0,5; li a1,1; ecall
abbrev pub far_sleeper : TaskSet
far_sleeper = one 5 10 (0x00200893 ∷ 0x00500513 ∷ 0x00100593 ∷ 0x00000073 ∷ [])

abbrev pub far_sleeper_text : List ℕ
far_sleeper_text =
    codes "0 0 80000000 00200893 next\n"
    ++ codes "1 0 80000004 00500513 next\n"
    ++ codes "2 0 80000008 00100593 next\n"
    ++ codes "3 0 8000000c 00000073 sleep 4294967301\n"
    ++ codes "4 idle 2\n"
    ++ codes "after 6\n"
    ++ codes "task 0 asleep 4294967301 c 1 d 10 pc 80000010\n"
    ++ codes "regs x10=00000005 x11=00000001 x17=00000002\n"
    ++ codes "out 0\n"
