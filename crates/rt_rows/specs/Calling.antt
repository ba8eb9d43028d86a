-- Rows of the other calls: what they leave in the registers, the output and the server.
use Rattle.std.specs.Prelude.{ℕ, ◌-◌, ◌^◌, List, [], ◌∷◌, ◌++◌, codes}
use Rattle.rt_image.specs.SystemFile.{TaskSet}
use Rattle.rt_rows.specs.Sets.{task, set_of, one}

-- li a7,3; ecall
abbrev pub yielding : ℕ → TaskSet
yielding budget = one budget 10 (0x00300893 ∷ 0x00000073 ∷ [])

-- of a budget of 5
abbrev pub yield_at_two_text : List ℕ
yield_at_two_text =
    codes "0 0 80000000 00300893 next\n"
    ++ codes "1 0 80000004 00000073 yield\n"
    ++ codes "after 2\n"
    ++ codes "task 0 active c 5 d 20 pc 80000008\n"
    ++ codes "regs x17=00000003\n"
    ++ codes "out 0\n"

-- of a budget of 2: one postponement, not two
abbrev pub yield_at_last_text : List ℕ
yield_at_last_text =
    codes "0 0 80000000 00300893 next\n"
    ++ codes "1 0 80000004 00000073 yield\n"
    ++ codes "after 2\n"
    ++ codes "task 0 active c 2 d 20 pc 80000008\n"
    ++ codes "regs x17=00000003\n"
    ++ codes "out 0\n"

-- li a7,1; lui a0,0x80000; a word that sets a1; ecall, in 260 bytes of RAM
abbrev pub writing : ℕ → TaskSet
writing sets_a1 = set_of 10 (record (task 5 10 (0x00100893 ∷ 0x80000537 ∷ sets_a1 ∷ 0x00000073 ∷ [])) { ram = 260 } ∷ [])

-- 4 bytes: those of the first word
abbrev pub write_four_text : List ℕ
write_four_text =
    codes "0 0 80000000 00100893 next\n"
    ++ codes "1 0 80000004 80000537 next\n"
    ++ codes "2 0 80000008 00400593 next\n"
    ++ codes "3 0 8000000c 00000073 write 4\n"
    ++ codes "after 4\n"
    ++ codes "task 0 active c 1 d 10 pc 80000010\n"
    ++ codes "regs x10=00000004 x11=00000004 x17=00000001\n"
    ++ codes "out 4 93081000\n"

-- 257 bytes
abbrev pub write_refused_text : List ℕ
write_refused_text =
    codes "0 0 80000000 00100893 next\n"
    ++ codes "1 0 80000004 80000537 next\n"
    ++ codes "2 0 80000008 10100593 next\n"
    ++ codes "3 0 8000000c 00000073 write refused\n"
    ++ codes "after 4\n"
    ++ codes "task 0 active c 1 d 10 pc 80000010\n"
    ++ codes "regs x10=ffffffff x11=00000101 x17=00000001\n"
    ++ codes "out 0\n"

-- 256 bytes, the lines of the ticks
abbrev pub write_all_text : List ℕ
write_all_text =
    codes "0 0 80000000 00100893 next\n"
    ++ codes "1 0 80000004 80000537 next\n"
    ++ codes "2 0 80000008 10000593 next\n"
    ++ codes "3 0 8000000c 00000073 write 256\n"

-- li a7,1; lui a0,0x80000; addi a0,a0,62; li a1,4; ecall: the last two bytes aren't in RAM
abbrev pub writing_outside : TaskSet
writing_outside = one 6 10 (0x00100893 ∷ 0x80000537 ∷ 0x03E50513 ∷ 0x00400593 ∷ 0x00000073 ∷ [])

abbrev pub write_outside_text : List ℕ
write_outside_text =
    codes "0 0 80000000 00100893 next\n"
    ++ codes "1 0 80000004 80000537 next\n"
    ++ codes "2 0 80000008 03e50513 next\n"
    ++ codes "3 0 8000000c 00400593 next\n"
    ++ codes "4 0 80000010 00000073 write refused\n"
    ++ codes "after 5\n"
    ++ codes "task 0 active c 1 d 10 pc 80000014\n"
    ++ codes "regs x10=ffffffff x11=00000004 x17=00000001\n"
    ++ codes "out 0\n"

-- li a7,1; ecall: no bytes, at address 0
abbrev pub writing_nothing : TaskSet
writing_nothing = one 5 10 (0x00100893 ∷ 0x00000073 ∷ [])

abbrev pub write_nothing_text : List ℕ
write_nothing_text =
    codes "0 0 80000000 00100893 next\n"
    ++ codes "1 0 80000004 00000073 write 0\n"
    ++ codes "after 2\n"
    ++ codes "task 0 active c 3 d 10 pc 80000008\n"
    ++ codes "regs x17=00000001\n"
    ++ codes "out 0\n"

-- li a7,4; li a1,7; ecall
abbrev pub asking : TaskSet
asking = one 5 10 (0x00400893 ∷ 0x00700593 ∷ 0x00000073 ∷ [])

abbrev pub now_at_two_text : List ℕ
now_at_two_text =
    codes "0 0 80000000 00400893 next\n"
    ++ codes "1 0 80000004 00700593 next\n"
    ++ codes "2 0 80000008 00000073 now 2\n"
    ++ codes "after 3\n"
    ++ codes "task 0 active c 2 d 10 pc 8000000c\n"
    ++ codes "regs x10=00000002 x17=00000004\n"
    ++ codes "out 0\n"

-- li a7,4; li a1,7; nop; ecall, from tick 2^32 - 1 on
abbrev pub asking_late : TaskSet
asking_late =
    set_of 10 (record (task 5 10 (0x00400893 ∷ 0x00700593 ∷ 0x00000013 ∷ 0x00000073 ∷ [])) { start = 2 ^ 32 - 1 } ∷ [])

abbrev pub now_past_32_bits_text : List ℕ
now_past_32_bits_text =
    codes "0 idle 4294967295\n"
    ++ codes "4294967295 0 80000000 00400893 next\n"
    ++ codes "4294967296 0 80000004 00700593 next\n"
    ++ codes "4294967297 0 80000008 00000013 next\n"
    ++ codes "4294967298 0 8000000c 00000073 now 4294967298\n"
    ++ codes "after 4294967299\n"
    ++ codes "task 0 active c 1 d 4294967305 pc 80000010\n"
    ++ codes "regs x10=00000002 x11=00000001 x17=00000004\n"
    ++ codes "out 0\n"
