use Rattle.std.proofs.Common.{◌≡◌, refl, ◌+◌, ◌*◌, ◌/◌, ◌%◌, arith}
use Rattle.rt_words.specs.Hex.{hex}
use Rattle.rt_words.proofs.HexDigits.{hex_word_is, lane_is}
use Rattle.rt_words.proofs.hexadecimal.hex_words.Goals as goal

pub returns : goal.returns
returns c =
    let first = c.args.first in
    let second = c.args.second in
    let n = second + 4294967296 * (first + 0) in
    let high : _ ≡ hex 8 first =
    hex_word_is first _ _ _ _ _ _ _ _
    (lane_is (n / 256 / 256 / 256 / 256 / 256 / 256 / 256 % 256 / 16) (first / 268435456 % 16) (omega arith) (omega arith))
    (lane_is (n / 256 / 256 / 256 / 256 / 256 / 256 / 256 % 256 % 16) (first / 16777216 % 16) (omega arith) (omega arith))
    (lane_is (n / 256 / 256 / 256 / 256 / 256 / 256 % 256 / 16) (first / 1048576 % 16) (omega arith) (omega arith))
    (lane_is (n / 256 / 256 / 256 / 256 / 256 / 256 % 256 % 16) (first / 65536 % 16) (omega arith) (omega arith))
    (lane_is (n / 256 / 256 / 256 / 256 / 256 % 256 / 16) (first / 4096 % 16) (omega arith) (omega arith))
    (lane_is (n / 256 / 256 / 256 / 256 / 256 % 256 % 16) (first / 256 % 16) (omega arith) (omega arith))
    (lane_is (n / 256 / 256 / 256 / 256 % 256 / 16) (first / 16 % 16) (omega arith) (omega arith))
    (lane_is (n / 256 / 256 / 256 / 256 % 256 % 16) (first % 16) (omega arith) (omega arith)) in
    let low : _ ≡ hex 8 second =
    hex_word_is second _ _ _ _ _ _ _ _
    (lane_is (n / 256 / 256 / 256 % 256 / 16) (second / 268435456 % 16) (omega arith) (omega arith))
    (lane_is (n / 256 / 256 / 256 % 256 % 16) (second / 16777216 % 16) (omega arith) (omega arith))
    (lane_is (n / 256 / 256 % 256 / 16) (second / 1048576 % 16) (omega arith) (omega arith))
    (lane_is (n / 256 / 256 % 256 % 16) (second / 65536 % 16) (omega arith) (omega arith))
    (lane_is (n / 256 % 256 / 16) (second / 4096 % 16) (omega arith) (omega arith))
    (lane_is (n / 256 % 256 % 16) (second / 256 % 16) (omega arith) (omega arith))
    (lane_is (n % 256 / 16) (second / 16 % 16) (omega arith) (omega arith))
    (lane_is (n % 256 % 16) (second % 16) (omega arith) (omega arith)) in
    rw (← high, ← low) refl
