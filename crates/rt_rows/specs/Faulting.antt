-- Rows of faults: each by its name, with nothing changed but what the tick costs.
use Rattle.std.specs.Prelude.{ℕ, true, List, [], ◌∷◌, ◌++◌, map, drop, codes}
use Rattle.rt_image.specs.SystemFile.{SetTask, TaskSet}
use Rattle.rt_history.specs.Legal.{state_at}
use Rattle.rt_rows.specs.Sets.{task, set_of, one}

-- an image of no bytes: the word is 0
abbrev pub empty : TaskSet
empty = one 5 10 []

abbrev pub illegal_text : List ℕ
illegal_text =
    codes "0 0 80000000 00000000 fault Illegal\n"
    ++ codes "1 idle 1\n"
    ++ codes "after 2\n"
    ++ codes "task 0 faulted Illegal c 4 d 10 pc 80000000\n"
    ++ codes "regs\n"
    ++ codes "out 0\n"

-- lui t0,0x80000; jalr 3(t0)
abbrev pub jumping_between : TaskSet
jumping_between = one 5 10 (0x800002B7 ∷ 0x003280E7 ∷ [])

abbrev pub jump_misaligned_text : List ℕ
jump_misaligned_text =
    codes "0 0 80000000 800002b7 next\n"
    ++ codes "1 0 80000004 003280e7 fault JumpMisaligned\n"
    ++ codes "after 2\n"
    ++ codes "task 0 faulted JumpMisaligned c 3 d 10 pc 80000004\n"
    ++ codes "regs x5=80000000\n"
    ++ codes "out 0\n"

-- lui t0,0x80000; bne t0,zero,.+2, which is taken
abbrev pub branching_between : TaskSet
branching_between = one 5 10 (0x800002B7 ∷ 0x00029163 ∷ [])

abbrev pub branch_misaligned_text : List ℕ
branch_misaligned_text =
    codes "0 0 80000000 800002b7 next\n"
    ++ codes "1 0 80000004 00029163 fault JumpMisaligned\n"
    ++ codes "after 2\n"
    ++ codes "task 0 faulted JumpMisaligned c 3 d 10 pc 80000004\n"
    ++ codes "regs x5=80000000\n"
    ++ codes "out 0\n"

-- jr zero
abbrev pub jumping_out : TaskSet
jumping_out = one 5 10 (0x00000067 ∷ [])

abbrev pub fetch_access_text : List ℕ
fetch_access_text =
    codes "0 0 80000000 00000067 next\n"
    ++ codes "1 0 00000000 -------- fault FetchAccess\n"
    ++ codes "after 2\n"
    ++ codes "task 0 faulted FetchAccess c 3 d 10 pc 00000000\n"
    ++ codes "regs\n"
    ++ codes "out 0\n"

-- nop, in 4 bytes of RAM
abbrev pub running_out : TaskSet
running_out = set_of 10 (record (task 5 10 (0x00000013 ∷ [])) { ram = 4 } ∷ [])

abbrev pub running_out_text : List ℕ
running_out_text =
    codes "0 0 80000000 00000013 next\n"
    ++ codes "1 0 80000004 -------- fault FetchAccess\n"
    ++ codes "after 2\n"
    ++ codes "task 0 faulted FetchAccess c 3 d 10 pc 80000004\n"
    ++ codes "regs\n"
    ++ codes "out 0\n"

-- lui t0,0x80000; lw t1,1(t0)
abbrev pub loads_between : SetTask
loads_between = task 5 10 (0x800002B7 ∷ 0x0012A303 ∷ [])

abbrev pub load_misaligned_text : List ℕ
load_misaligned_text =
    codes "0 0 80000000 800002b7 next\n"
    ++ codes "1 0 80000004 0012a303 fault LoadMisaligned\n"
    ++ codes "after 2\n"
    ++ codes "task 0 faulted LoadMisaligned c 3 d 10 pc 80000004\n"
    ++ codes "regs x5=80000000\n"
    ++ codes "out 0\n"

-- where its accesses are split: the bytes 02 00 80 03
abbrev pub load_split_text : List ℕ
load_split_text =
    codes "0 0 80000000 800002b7 next\n"
    ++ codes "1 0 80000004 0012a303 next\n"
    ++ codes "after 2\n"
    ++ codes "task 0 active c 3 d 10 pc 80000008\n"
    ++ codes "regs x5=80000000 x6=03800002\n"
    ++ codes "out 0\n"

-- lui t0,0x80000; lw t1,64(t0)
abbrev pub loading_outside : TaskSet
loading_outside = one 5 10 (0x800002B7 ∷ 0x0402A303 ∷ [])

abbrev pub load_access_text : List ℕ
load_access_text =
    codes "0 0 80000000 800002b7 next\n"
    ++ codes "1 0 80000004 0402a303 fault LoadAccess\n"
    ++ codes "after 2\n"
    ++ codes "task 0 faulted LoadAccess c 3 d 10 pc 80000004\n"
    ++ codes "regs x5=80000000\n"
    ++ codes "out 0\n"

-- lui t0,0x80000 and a store, in 16 bytes of RAM
abbrev pub storing : ℕ → TaskSet
storing store = set_of 10 (record (task 5 10 (0x800002B7 ∷ store ∷ [])) { ram = 16 } ∷ [])

-- sw ra,12(t0): the last word
abbrev pub store_text : List ℕ
store_text =
    codes "0 0 80000000 800002b7 next\n"
    ++ codes "1 0 80000004 0012a623 next\n"
    ++ codes "after 2\n"
    ++ codes "task 0 active c 3 d 10 pc 80000008\n"
    ++ codes "regs x5=80000000\n"
    ++ codes "out 0\n"

-- sw ra,17(t0)
abbrev pub store_misaligned_text : List ℕ
store_misaligned_text =
    codes "0 0 80000000 800002b7 next\n"
    ++ codes "1 0 80000004 0012a8a3 fault StoreMisaligned\n"
    ++ codes "after 2\n"
    ++ codes "task 0 faulted StoreMisaligned c 3 d 10 pc 80000004\n"
    ++ codes "regs x5=80000000\n"
    ++ codes "out 0\n"

-- sw ra,16(t0)
abbrev pub store_access_text : List ℕ
store_access_text =
    codes "0 0 80000000 800002b7 next\n"
    ++ codes "1 0 80000004 0012a823 fault StoreAccess\n"
    ++ codes "after 2\n"
    ++ codes "task 0 faulted StoreAccess c 3 d 10 pc 80000004\n"
    ++ codes "regs x5=80000000\n"
    ++ codes "out 0\n"

-- a task whose accesses are split
abbrev pub splitting : List ℕ → TaskSet
splitting words = set_of 10 (record (task 5 10 words) { split = true } ∷ [])

-- lui t0,0x80000; lh t1,63(t0), where accesses are split: the second byte isn't in RAM
abbrev pub half_outside : TaskSet
half_outside = splitting (0x800002B7 ∷ 0x03F29303 ∷ [])

abbrev pub half_outside_text : List ℕ
half_outside_text =
    codes "0 0 80000000 800002b7 next\n"
    ++ codes "1 0 80000004 03f29303 fault LoadAccess\n"
    ++ codes "after 2\n"
    ++ codes "task 0 faulted LoadAccess c 3 d 10 pc 80000004\n"
    ++ codes "regs x5=80000000\n"
    ++ codes "out 0\n"

-- lui t0,0x80000; lhu t1,63(t0): the same without a sign
abbrev pub unsigned_outside : TaskSet
unsigned_outside = splitting (0x800002B7 ∷ 0x03F2D303 ∷ [])

abbrev pub unsigned_outside_text : List ℕ
unsigned_outside_text =
    codes "0 0 80000000 800002b7 next\n"
    ++ codes "1 0 80000004 03f2d303 fault LoadAccess\n"
    ++ codes "after 2\n"
    ++ codes "task 0 faulted LoadAccess c 3 d 10 pc 80000004\n"
    ++ codes "regs x5=80000000\n"
    ++ codes "out 0\n"

-- li t0,-1; lw t1,0(t0): the first byte is the last of all addresses, and behind it there is none
abbrev pub last_address : TaskSet
last_address = splitting (0xFFF00293 ∷ 0x0002A303 ∷ [])

abbrev pub last_address_text : List ℕ
last_address_text =
    codes "0 0 80000000 fff00293 next\n"
    ++ codes "1 0 80000004 0002a303 fault LoadAccess\n"
    ++ codes "after 2\n"
    ++ codes "task 0 faulted LoadAccess c 3 d 10 pc 80000004\n"
    ++ codes "regs x5=ffffffff\n"
    ++ codes "out 0\n"

-- li ra,-1; lui t0,0x80000; sw ra,61(t0): the fourth byte isn't in RAM
abbrev pub word_outside : TaskSet
word_outside = splitting (0xFFF00093 ∷ 0x800002B7 ∷ 0x0212AEA3 ∷ [])

abbrev pub word_outside_text : List ℕ
word_outside_text =
    codes "0 0 80000000 fff00093 next\n"
    ++ codes "1 0 80000004 800002b7 next\n"
    ++ codes "2 0 80000008 0212aea3 fault StoreAccess\n"
    ++ codes "after 3\n"
    ++ codes "task 0 faulted StoreAccess c 2 d 10 pc 80000008\n"
    ++ codes "regs x1=ffffffff x5=80000000\n"
    ++ codes "out 0\n"

-- the bytes of each task's RAM from the 60th on, after t ticks
abbrev pub last_bytes : TaskSet → ℕ → List (List ℕ)
last_bytes set t = map (λ s. drop 60 s.program.state.ram) (state_at set t).tasks

-- ebreak
abbrev pub breaking : TaskSet
breaking = one 5 10 (0x00100073 ∷ [])

abbrev pub break_text : List ℕ
break_text =
    codes "0 0 80000000 00100073 fault Break\n"
    ++ codes "after 1\n"
    ++ codes "task 0 faulted Break c 4 d 10 pc 80000000\n"
    ++ codes "regs\n"
    ++ codes "out 0\n"

-- li a7,6; ecall
abbrev pub calling_unknown : TaskSet
calling_unknown = one 5 10 (0x00600893 ∷ 0x00000073 ∷ [])

abbrev pub unknown_call_text : List ℕ
unknown_call_text =
    codes "0 0 80000000 00600893 next\n"
    ++ codes "1 0 80000004 00000073 fault UnknownCall\n"
    ++ codes "after 2\n"
    ++ codes "task 0 faulted UnknownCall c 3 d 10 pc 80000004\n"
    ++ codes "regs x17=00000006\n"
    ++ codes "out 0\n"
