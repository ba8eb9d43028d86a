-- The description of the target, which gdb reads as target.xml.
use Rattle.std.specs.Prelude.{ℕ, ◌+◌, nat_le, if◌then◌else◌, min, List, ◌++◌, length, take, drop, codes}

-- the registers of a hart, and a task's tick, budget and deadline
unfoldable pub description : List ℕ
description =
    codes "<?xml version=\"1.0\"?><!DOCTYPE target SYSTEM \"gdb-target.dtd\"><target version=\"1.0\">"
    ++ codes "<architecture>riscv:rv32</architecture><feature name=\"org.gnu.gdb.riscv.cpu\">"
    ++ codes "<reg name=\"zero\" bitsize=\"32\" regnum=\"0\"/><reg name=\"ra\" bitsize=\"32\" regnum=\"1\"/>"
    ++ codes "<reg name=\"sp\" bitsize=\"32\" regnum=\"2\"/><reg name=\"gp\" bitsize=\"32\" regnum=\"3\"/>"
    ++ codes "<reg name=\"tp\" bitsize=\"32\" regnum=\"4\"/><reg name=\"t0\" bitsize=\"32\" regnum=\"5\"/>"
    ++ codes "<reg name=\"t1\" bitsize=\"32\" regnum=\"6\"/><reg name=\"t2\" bitsize=\"32\" regnum=\"7\"/>"
    ++ codes "<reg name=\"fp\" bitsize=\"32\" regnum=\"8\"/><reg name=\"s1\" bitsize=\"32\" regnum=\"9\"/>"
    ++ codes "<reg name=\"a0\" bitsize=\"32\" regnum=\"10\"/><reg name=\"a1\" bitsize=\"32\" regnum=\"11\"/>"
    ++ codes "<reg name=\"a2\" bitsize=\"32\" regnum=\"12\"/><reg name=\"a3\" bitsize=\"32\" regnum=\"13\"/>"
    ++ codes "<reg name=\"a4\" bitsize=\"32\" regnum=\"14\"/><reg name=\"a5\" bitsize=\"32\" regnum=\"15\"/>"
    ++ codes "<reg name=\"a6\" bitsize=\"32\" regnum=\"16\"/><reg name=\"a7\" bitsize=\"32\" regnum=\"17\"/>"
    ++ codes "<reg name=\"s2\" bitsize=\"32\" regnum=\"18\"/><reg name=\"s3\" bitsize=\"32\" regnum=\"19\"/>"
    ++ codes "<reg name=\"s4\" bitsize=\"32\" regnum=\"20\"/><reg name=\"s5\" bitsize=\"32\" regnum=\"21\"/>"
    ++ codes "<reg name=\"s6\" bitsize=\"32\" regnum=\"22\"/><reg name=\"s7\" bitsize=\"32\" regnum=\"23\"/>"
    ++ codes "<reg name=\"s8\" bitsize=\"32\" regnum=\"24\"/><reg name=\"s9\" bitsize=\"32\" regnum=\"25\"/>"
    ++ codes "<reg name=\"s10\" bitsize=\"32\" regnum=\"26\"/><reg name=\"s11\" bitsize=\"32\" regnum=\"27\"/>"
    ++ codes "<reg name=\"t3\" bitsize=\"32\" regnum=\"28\"/><reg name=\"t4\" bitsize=\"32\" regnum=\"29\"/>"
    ++ codes "<reg name=\"t5\" bitsize=\"32\" regnum=\"30\"/><reg name=\"t6\" bitsize=\"32\" regnum=\"31\"/>"
    ++ codes "<reg name=\"pc\" bitsize=\"32\" regnum=\"32\" type=\"code_ptr\"/></feature>"
    ++ codes "<feature name=\"naphluy.machine\"><reg name=\"tick\" bitsize=\"64\" regnum=\"33\" type=\"uint64\" group=\"system\"/>"
    ++ codes "<reg name=\"budget\" bitsize=\"32\" regnum=\"34\" type=\"uint32\" group=\"system\"/>"
    ++ codes "<reg name=\"deadline\" bitsize=\"64\" regnum=\"35\" type=\"uint64\" group=\"system\"/></feature></target>"

-- at most count and 2048 bytes from an offset on
abbrev pub piece : ℕ → ℕ → List ℕ
piece offset count = take (min count 2048) (drop offset description)

-- behind whether others follow
abbrev pub piece_text : ℕ → ℕ → List ℕ
piece_text offset count = (if nat_le (length description) (offset + min count 2048) then codes "l" else codes "m") ++ piece offset count
