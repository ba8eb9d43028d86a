-- A row of waves: a task that writes four bytes and ends.
use Rattle.std.specs.Prelude.{ℕ, List, [], ◌∷◌, ◌++◌, codes}
use Rattle.rt_image.specs.SystemFile.{TaskSet}
use Rattle.rt_waves.specs.declared.scale.Scale.{Scale}
use Rattle.rt_waves.specs.declared.scale.ScaleCount.TheVariants.{Ten}
use Rattle.rt_waves.specs.declared.scale.TimeUnit.TheVariants.{Microseconds}
use Rattle.rt_rows.specs.Sets.{task, set_of, spelled_object}
use Rattle.rt_text_rows.specs.Names.{named}

-- li a7,1; lui a0,0x80000; li a1,4; ecall, and as `done` li a7,0; ecall
abbrev pub writer : TaskSet
writer = set_of 10 (record (task 10 10 []) {
  object = record (spelled_object (0x00100893 ∷ 0x80000537 ∷ 0x00400593 ∷ 0x00000073 ∷ 0x00000893 ∷ 0x00000073 ∷ [])) {
    labels = named 0x80000010 (codes "done") ∷ [];
  };
} ∷ [])

abbrev pub of_ten_microseconds : Scale
of_ten_microseconds = record { count = Ten; unit = Microseconds }

abbrev pub writer_head : List ℕ
writer_head =
    codes "$timescale 10 us $end\n$scope module system $end\n$var wire 1 i idle $end\n$scope module task0 $end\n"
    ++ codes "$var wire 1 r0 running0 $end\n$var reg 2 m0 mode0 [1:0] $end\n$var reg 32 p0 pc0 [31:0] $end\n$var reg 32 s0 part0 [31:0] $end\n"
    ++ codes "$var integer 32 c0 c0 $end\n$var integer 64 d0 d0 $end\n$var integer 32 o0 out0 $end\n"
    ++ codes "$var wire 1 f0 fresh0 $end\n$var wire 1 k0 kept0 $end\n$var wire 1 x0 postponed0 $end\n$var wire 1 j0 finish0 $end\n"
    ++ codes "$upscope $end\n$upscope $end\n$enddefinitions $end\n"

-- Below `done` there is no part. The write is tick 3, the end tick 5, and tick 6 is idle.
abbrev pub writer_waves : List ℕ
writer_waves =
    writer_head
    ++ codes "#0\n$dumpvars\n0i\n1r0\nb1 m0\nb10000000000000000000000000000000 p0\nb0 s0\nb1010 c0\nb1010 d0\nb0 o0\n1f0\n0k0\n0x0\n0j0\n$end\n"
    ++ codes "#1\nb10000000000000000000000000000100 p0\nb1001 c0\n0f0\n"
    ++ codes "#2\nb10000000000000000000000000001000 p0\nb1000 c0\n"
    ++ codes "#3\nb10000000000000000000000000001100 p0\nb111 c0\n"
    ++ codes "#4\nb10000000000000000000000000010000 p0\nb10000000000000000000000000010000 s0\nb110 c0\nb100 o0\n"
    ++ codes "#5\nb10000000000000000000000000010100 p0\nb101 c0\n1j0\n"
    ++ codes "#6\n1i\n0r0\nb10 m0\nb10000000000000000000000000011000 p0\nb100 c0\n0j0\n"
    ++ codes "#7\n"
