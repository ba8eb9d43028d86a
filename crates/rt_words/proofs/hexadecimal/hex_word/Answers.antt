use Rattle.std.proofs.Common.{◌/◌, ◌%◌, arith}
use Rattle.rt_words.proofs.HexDigits.{hex_word_is, lane_is}
use Rattle.rt_words.proofs.hexadecimal.hex_word.Goals as goal

pub returns : goal.returns
returns c =
    let n = c.args.word in
    hex_word_is n _ _ _ _ _ _ _ _
    (lane_is (n / 16777216 % 256 / 16) (n / 268435456 % 16) (omega arith) (omega arith))
    (lane_is (n / 16777216 % 256 % 16) (n / 16777216 % 16) (omega arith) (omega arith))
    (lane_is (n / 65536 % 256 / 16) (n / 1048576 % 16) (omega arith) (omega arith))
    (lane_is (n / 65536 % 256 % 16) (n / 65536 % 16) (omega arith) (omega arith))
    (lane_is (n / 256 % 256 / 16) (n / 4096 % 16) (omega arith) (omega arith))
    (lane_is (n / 256 % 256 % 16) (n / 256 % 16) (omega arith) (omega arith))
    (lane_is (n % 256 / 16) (n / 16 % 16) (omega arith) (omega arith))
    (lane_is (n % 256 % 16) (n % 16) (omega arith) (omega arith))
