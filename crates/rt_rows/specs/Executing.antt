-- Rows of programs, most of them alone, and so without servers.
use Rattle.std.specs.Prelude.{true, List, ℕ, [], ◌∷◌, ◌++◌, codes}
use Rattle.rt_image.specs.SystemFile.{TaskSet}
use Rattle.rt_rows.specs.Sets.{spelled_object, task, set_of, one, busy}

-- a program alone: a set of one task that has each tick
abbrev pub alone : List ℕ → TaskSet
alone words = one 1 1 words

-- li ra,-1; j .
abbrev pub lone_loop : TaskSet
lone_loop = alone (0xFFF00093 ∷ 0x0000006F ∷ [])

abbrev pub lone_loop_text : List ℕ
lone_loop_text =
    codes "0 0 80000000 fff00093 next\n"
    ++ codes "1 0 80000004 0000006f next\n"
    ++ codes "2 0 80000004 0000006f next\n"
    ++ codes "after 3\n"
    ++ codes "task 0 active pc 80000004\n"
    ++ codes "regs x1=ffffffff\n"
    ++ codes "out 0\n"

-- the second word is the entry
abbrev pub entered_later : TaskSet
entered_later = set_of 1 (record (task 1 1 []) { object = record (spelled_object (0x00000000 ∷ busy)) { entry = 0x80000004 } } ∷ [])

abbrev pub entered_later_text : List ℕ
entered_later_text =
    codes "0 0 80000004 0000006f next\n"
    ++ codes "after 1\n"
    ++ codes "task 0 active pc 80000004\n"
    ++ codes "regs\n"
    ++ codes "out 0\n"

-- lui t0,0x80000; li t1,243; sb t1,13(t0); addi t2,t2,1: the store makes andi of the last
abbrev pub storing_ahead : TaskSet
storing_ahead = alone (0x800002B7 ∷ 0x0F300313 ∷ 0x006286A3 ∷ 0x00138393 ∷ [])

abbrev pub store_into_code_text : List ℕ
store_into_code_text =
    codes "0 0 80000000 800002b7 next\n"
    ++ codes "1 0 80000004 0f300313 next\n"
    ++ codes "2 0 80000008 006286a3 next\n"
    ++ codes "3 0 8000000c 0013f393 next\n"
    ++ codes "after 4\n"
    ++ codes "task 0 active pc 80000010\n"
    ++ codes "regs x5=80000000 x6=000000f3\n"
    ++ codes "out 0\n"

-- lui t0,0x80000; li t1,243; addi t2,t2,1; sb t1,9(t0); j .-8: the same of a word that has run
abbrev pub storing_behind : TaskSet
storing_behind = alone (0x800002B7 ∷ 0x0F300313 ∷ 0x00138393 ∷ 0x006284A3 ∷ 0xFF9FF06F ∷ [])

abbrev pub changed_after_it_ran_text : List ℕ
changed_after_it_ran_text =
    codes "0 0 80000000 800002b7 next\n"
    ++ codes "1 0 80000004 0f300313 next\n"
    ++ codes "2 0 80000008 00138393 next\n"
    ++ codes "3 0 8000000c 006284a3 next\n"
    ++ codes "4 0 80000010 ff9ff06f next\n"
    ++ codes "5 0 80000008 0013f393 next\n"
    ++ codes "after 6\n"
    ++ codes "task 0 active pc 8000000c\n"
    ++ codes "regs x5=80000000 x6=000000f3 x7=00000001\n"
    ++ codes "out 0\n"

-- lui t0,0x80000; jalr 9(t0): bit 0 of the target is cleared
abbrev pub jumping : TaskSet
jumping = alone (0x800002B7 ∷ 0x009280E7 ∷ [])

abbrev pub jump_text : List ℕ
jump_text =
    codes "0 0 80000000 800002b7 next\n"
    ++ codes "1 0 80000004 009280e7 next\n"
    ++ codes "after 2\n"
    ++ codes "task 0 active pc 80000008\n"
    ++ codes "regs x1=80000008 x5=80000000\n"
    ++ codes "out 0\n"

-- lui t0,0x80000; beq t0,zero,.+2, which isn't taken
abbrev pub passing : TaskSet
passing = alone (0x800002B7 ∷ 0x00028163 ∷ [])

abbrev pub branch_not_taken_text : List ℕ
branch_not_taken_text =
    codes "0 0 80000000 800002b7 next\n"
    ++ codes "1 0 80000004 00028163 next\n"
    ++ codes "after 2\n"
    ++ codes "task 0 active pc 80000008\n"
    ++ codes "regs x5=80000000\n"
    ++ codes "out 0\n"

-- lui t0,0x80000; lui t1,9; addi t1,t1,769; sh t1,19(t0), where accesses are split: it makes 01 of the last byte of the next word,
-- and 93 of the first of the one behind
abbrev pub split_store : TaskSet
split_store =
    set_of 12
    (record (task 1 3 (0x800002B7 ∷ 0x00009337 ∷ 0x30130313 ∷ 0x006299A3 ∷ 0x00138393 ∷ 0x00140413 ∷ [])) { split = true } ∷ [])

abbrev pub split_store_text : List ℕ
split_store_text =
    codes "0 0 80000000 800002b7 next\n"
    ++ codes "1 0 80000004 00009337 next\n"
    ++ codes "2 0 80000008 30130313 next\n"
    ++ codes "3 0 8000000c 006299a3 next\n"
    ++ codes "4 0 80000010 01138393 next\n"
    ++ codes "5 0 80000014 00140493 next\n"
    ++ codes "after 6\n"
    ++ codes "task 0 active c 1 d 21 pc 80000018\n"
    ++ codes "regs x5=80000000 x6=00009301 x7=00000011 x9=00000001\n"
    ++ codes "out 0\n"

-- lui t0,0x80000; lh t1,7(t0); lhu t2,7(t0); sw t1,41(t0); lw s0,40(t0); lw s1,44(t0), where accesses are split. The bytes at 7 and 8
-- are 00 and 83: negative with a sign. Those of t1, 00 83 ff ff, are stored at 41 to 44, over two words.
abbrev pub split_accesses : TaskSet
split_accesses =
    set_of 10
    (record (task 10 10 (0x800002B7 ∷ 0x00729303 ∷ 0x0072D383 ∷ 0x0262A4A3 ∷ 0x0282A403 ∷ 0x02C2A483 ∷ [])) { split = true } ∷ [])

abbrev pub split_accesses_text : List ℕ
split_accesses_text =
    codes "0 0 80000000 800002b7 next\n"
    ++ codes "1 0 80000004 00729303 next\n"
    ++ codes "2 0 80000008 0072d383 next\n"
    ++ codes "3 0 8000000c 0262a4a3 next\n"
    ++ codes "4 0 80000010 0282a403 next\n"
    ++ codes "5 0 80000014 02c2a483 next\n"
    ++ codes "after 6\n"
    ++ codes "task 0 active c 4 d 10 pc 80000018\n"
    ++ codes "regs x5=80000000 x6=ffff8300 x7=00008300 x8=ff830000 x9=000000ff\n"
    ++ codes "out 0\n"
