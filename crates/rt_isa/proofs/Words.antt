-- A row with its fields has a word, and only one.
use Rattle.rt_isa.proofs.Common.{◌≡◌, ℕ, ◌+◌, ◌-◌, ◌*◌, ◌/◌, ◌%◌, ◌^◌, ◌<◌, true, eqb, Option, Some, None, refl, sym, ap, ◌∙◌, arith, inl, inr, bit_and, option_map, cases_Bool, eqb-true, and_mask, ins, row_of, row_in, matches, cut, table, Row}
use Rattle.std.proofs.Common.{ℤ, pos, negsuc, ◌-ℤ◌, ltb}
use Rattle.std.proofs.lemmas.Int.{ints}
use Rattle.rt_isa.specs.Bits.{signed}
use Rattle.rt_isa.specs.Fields.{rd, rs1, rs2, order, u_immediate, i_immediate, s_immediate, b_immediate, j_immediate}
use Rattle.rt_isa.specs.Table.{Writing, m7, m10, m17, m32, R, I, Shift, S, B, U, J, Ordering}
use Rattle.rt_isa.specs.Working.Words.{HasRow}
use Rattle.rt_isa.specs.declared.instruction.Ins.{Ins}
use Rattle.rt_isa.specs.declared.instruction.Ins.TheVariants.{Lui, Auipc, Jal, Jalr, Beq, Bne, Blt, Bge, Bltu, Bgeu, Lb, Lh, Lw, Lbu, Lhu, Sb, Sh, Sw, Addi, Slti, Sltiu, Xori, Ori, Andi, Slli, Srli, Srai, Add, Sub, Sll, Slt, Sltu, Xor, Srl, Sra, Or, And, Fence, Ecall, Ebreak}
use Rattle.rt_isa.proofs.OneRow.{found, EachRow, row_found}
use Rattle.rt_isa.proofs.Masks.{seven, ten, seventeen}

same2 : (make : ℕ → ℕ → Ins) (a b x y : ℕ) → a ≡ x → b ≡ y → make a b ≡ make x y
same2 make a b x y p q = cc

same3 : (make : ℕ → ℕ → ℕ → Ins) (a b d x y z : ℕ) → a ≡ x → b ≡ y → d ≡ z → make a b d ≡ make x y z
same3 make a b d x y z p q s = cc

same_jump : (make : ℕ → ℤ → Ins) (a x : ℕ) (i j : ℤ) → a ≡ x → i ≡ j → make a i ≡ make x j
same_jump make a x i j p q = cc

same_signed : (make : ℕ → ℕ → ℤ → Ins) (a b x y : ℕ) (i j : ℤ) → a ≡ x → b ≡ y → i ≡ j → make a b i ≡ make x y j
same_signed make a b x y i j p q s = cc

-- ---- a row with its fields has a word

pub r_back : (row a b d w : ℕ) → bit_and row m17 ≡ row → row < 2 ^ 32 → a < 32 → b < 32 → d < 32 → w ≡ row + a * 2 ^ 7 + b * 2 ^ 15 + d * 2 ^ 20 → (make : ℕ → ℕ → ℕ → Ins) → HasRow m17 row (R make) → ins w ≡ Some (make a b d)
r_back row a b d w under range a_fits b_fits d_fits is make has =
    let shape : row ≡ row / 33554432 * 33554432 + (row / 4096 % 8 * 4096 + row % 128) = omega (arith, seventeen row range, under) in
    let fits : w < 2 ^ 32 = omega arith in
    let matched : bit_and w 0xFE00707F ≡ row = seventeen w fits ∙ omega arith in
    found w has.0 _ has.2 matched ∙ ap Some (same3 make _ _ _ a b d (omega arith) (omega arith) (omega arith))

pub shift_back : (row a b d w : ℕ) → bit_and row m17 ≡ row → row < 2 ^ 32 → a < 32 → b < 32 → d < 32 → w ≡ row + a * 2 ^ 7 + b * 2 ^ 15 + d * 2 ^ 20 → (make : ℕ → ℕ → ℕ → Ins) → HasRow m17 row (Shift make) → ins w ≡ Some (make a b d)
shift_back row a b d w under range a_fits b_fits d_fits is make has =
    let shape : row ≡ row / 33554432 * 33554432 + (row / 4096 % 8 * 4096 + row % 128) = omega (arith, seventeen row range, under) in
    let fits : w < 2 ^ 32 = omega arith in
    let matched : bit_and w 0xFE00707F ≡ row = seventeen w fits ∙ omega arith in
    found w has.0 _ has.2 matched ∙ ap Some (same3 make _ _ _ a b d (omega arith) (omega arith) (omega arith))

pub ordering_back : (row a b n w : ℕ) → bit_and row m10 ≡ row → a < 32 → b < 32 → n < 2 ^ 12 → w ≡ row + a * 2 ^ 7 + b * 2 ^ 15 + n * 2 ^ 20 → (make : ℕ → ℕ → ℕ → Ins) → HasRow m10 row (Ordering make) → ins w ≡ Some (make a b n)
ordering_back row a b n w under a_fits b_fits n_fits is make has =
    let shape : row ≡ row / 4096 % 8 * 4096 + row % 128 = omega (arith, ten row, under) in
    let matched : bit_and w 0x707F ≡ row = ten w ∙ omega arith in
    found w has.0 _ has.2 matched ∙ ap Some (same3 make _ _ _ a b n (omega arith) (omega arith) (omega arith))

pub i_back : (row a b n w : ℕ) (i : ℤ) → bit_and row m10 ≡ row → a < 32 → b < 32 → n < 2 ^ 12 → signed 12 n ≡ i → w ≡ row + a * 2 ^ 7 + b * 2 ^ 15 + n * 2 ^ 20 → (writing : Writing) (make : ℕ → ℕ → ℤ → Ins) → HasRow m10 row (I writing make) → ins w ≡ Some (make a b i)
i_back row a b n w i under a_fits b_fits n_fits value is writing make has =
    let shape : row ≡ row / 4096 % 8 * 4096 + row % 128 = omega (arith, ten row, under) in
    let matched : bit_and w 0x707F ≡ row = ten w ∙ omega arith in
    let bits : w / 2 ^ 20 % 2 ^ 12 ≡ n = omega arith in
    found w has.0 _ has.2 matched ∙ ap Some (same_signed make _ _ a b _ i (omega arith) (omega arith) (ap (signed 12) bits ∙ value))

pub s_back : (row a b n w : ℕ) (i : ℤ) → bit_and row m10 ≡ row → a < 32 → b < 32 → n < 2 ^ 12 → signed 12 n ≡ i → w ≡ row + n % 32 * 2 ^ 7 + (a * 2 ^ 15 + b * 2 ^ 20) + n / 2 ^ 5 * 2 ^ 25 → (make : ℕ → ℕ → ℤ → Ins) → HasRow m10 row (S make) → ins w ≡ Some (make a b i)
s_back row a b n w i under a_fits b_fits n_fits value is make has =
    let shape : row ≡ row / 4096 % 8 * 4096 + row % 128 = omega (arith, ten row, under) in
    let matched : bit_and w 0x707F ≡ row = ten w ∙ omega arith in
    let bits : w / 2 ^ 25 % 2 ^ 7 * 2 ^ 5 + w / 2 ^ 7 % 2 ^ 5 ≡ n = omega arith in
    found w has.0 _ has.2 matched ∙ ap Some (same_signed make _ _ a b _ i (omega arith) (omega arith) (ap (signed 12) bits ∙ value))

pub b_back : (row a b n w : ℕ) (i : ℤ) → bit_and row m10 ≡ row → a < 32 → b < 32 → n < 2 ^ 13 → n % 2 ≡ 0 → signed 13 n ≡ i → w ≡ row + (n / 2 ^ 11 % 2 * 2 ^ 7 + n / 2 % 16 * 2 ^ 8) + (a * 2 ^ 15 + b * 2 ^ 20) + (n / 2 ^ 5 % 64 * 2 ^ 25 + n / 2 ^ 12 * 2 ^ 31) → (make : ℕ → ℕ → ℤ → Ins) → HasRow m10 row (B make) → ins w ≡ Some (make a b i)
b_back row a b n w i under a_fits b_fits n_fits even value is make has =
    let shape : row ≡ row / 4096 % 8 * 4096 + row % 128 = omega (arith, ten row, under) in
    let matched : bit_and w 0x707F ≡ row = ten w ∙ omega arith in
    let top : w / 2 ^ 31 % 2 ^ 1 ≡ n / 2 ^ 12 = omega arith in
    let eleventh : w / 2 ^ 7 % 2 ^ 1 ≡ n / 2 ^ 11 % 2 = omega arith in
    let middle : w / 2 ^ 25 % 2 ^ 6 ≡ n / 2 ^ 5 % 64 = omega arith in
    let low : w / 2 ^ 8 % 2 ^ 4 ≡ n / 2 % 16 = omega arith in
    let bits : w / 2 ^ 31 % 2 ^ 1 * 2 ^ 12 + w / 2 ^ 7 % 2 ^ 1 * 2 ^ 11 + w / 2 ^ 25 % 2 ^ 6 * 2 ^ 5 + w / 2 ^ 8 % 2 ^ 4 * 2 ≡ n = rw (top, eleventh, middle, low) (omega arith) in
    found w has.0 _ has.2 matched ∙ ap Some (same_signed make _ _ a b _ i (omega arith) (omega arith) (ap (signed 13) bits ∙ value))

pub u_back : (row a n w : ℕ) → bit_and row m7 ≡ row → a < 32 → n < 2 ^ 20 → w ≡ row + a * 2 ^ 7 + n * 2 ^ 12 → (make : ℕ → ℕ → Ins) → HasRow m7 row (U make) → ins w ≡ Some (make a n)
u_back row a n w under a_fits n_fits is make has =
    let shape : row ≡ row % 128 = omega (arith, seven row, under) in
    let matched : bit_and w 0x7F ≡ row = seven w ∙ omega arith in
    found w has.0 _ has.2 matched ∙ ap Some (same2 make _ _ a n (omega arith) (omega arith))

pub j_back : (row a n w : ℕ) (i : ℤ) → bit_and row m7 ≡ row → a < 32 → n < 2 ^ 21 → n % 2 ≡ 0 → signed 21 n ≡ i → w ≡ row + a * 2 ^ 7 + (n / 2 ^ 12 % 256 * 2 ^ 12 + n / 2 ^ 11 % 2 * 2 ^ 20) + (n / 2 % 1024 * 2 ^ 21 + n / 2 ^ 20 * 2 ^ 31) → (make : ℕ → ℤ → Ins) → HasRow m7 row (J make) → ins w ≡ Some (make a i)
j_back row a n w i under a_fits n_fits even value is make has =
    let shape : row ≡ row % 128 = omega (arith, seven row, under) in
    let matched : bit_and w 0x7F ≡ row = seven w ∙ omega arith in
    let top : w / 2 ^ 31 % 2 ^ 1 ≡ n / 2 ^ 20 = omega arith in
    let middle : w / 2 ^ 12 % 2 ^ 8 ≡ n / 2 ^ 12 % 256 = omega arith in
    let eleventh : w / 2 ^ 20 % 2 ^ 1 ≡ n / 2 ^ 11 % 2 = omega arith in
    let low : w / 2 ^ 21 % 2 ^ 10 ≡ n / 2 % 1024 = omega arith in
    let bits : w / 2 ^ 31 % 2 ^ 1 * 2 ^ 20 + w / 2 ^ 12 % 2 ^ 8 * 2 ^ 12 + w / 2 ^ 20 % 2 ^ 1 * 2 ^ 11 + w / 2 ^ 21 % 2 ^ 10 * 2 ≡ n = rw (top, middle, eleventh, low) (omega arith) in
    found w has.0 _ has.2 matched ∙ ap Some (same_jump make _ a _ i (omega arith) (ap (signed 21) bits ∙ value))

-- ---- a row with its fields has one word

-- the k bits of a number in two's complement
unsigned : ℕ → ℤ → ℕ
unsigned k (pos n) = n
unsigned k (negsuc n) = 2 ^ k - 1 - n

pub minus_larger : (n m : ℕ) → n < m → pos n -ℤ pos m ≡ negsuc (m - 1 - n)
minus_larger n m below = omega (arith, ints)

unsigned-signed : (k n : ℕ) → n < 2 ^ k → unsigned k (signed k n) ≡ n
unfolding unsigned signed
unsigned-signed k n fits =
    elim (cases_Bool (ltb n (2 ^ (k - 1)))) [
      | inl low ↦ rw low refl
      | inr high ↦ rw (high, minus_larger n (2 ^ k) fits) (omega arith)
    ]

r_word : ℕ → ℕ → ℕ → ℕ → ℕ
r_word row a b d = row + a * 2 ^ 7 + b * 2 ^ 15 + d * 2 ^ 20

i_word : ℕ → ℕ → ℕ → ℤ → ℕ
i_word row a b i = r_word row a b (unsigned 12 i)

s_bits : ℕ → ℕ → ℕ → ℕ → ℕ
s_bits row a b n = row + n % 32 * 2 ^ 7 + (a * 2 ^ 15 + b * 2 ^ 20) + n / 2 ^ 5 * 2 ^ 25

s_word : ℕ → ℕ → ℕ → ℤ → ℕ
s_word row a b i = s_bits row a b (unsigned 12 i)

b_bits : ℕ → ℕ → ℕ → ℕ → ℕ
b_bits row a b n = row + (n / 2 ^ 11 % 2 * 2 ^ 7 + n / 2 % 16 * 2 ^ 8) + (a * 2 ^ 15 + b * 2 ^ 20) + (n / 2 ^ 5 % 64 * 2 ^ 25 + n / 2 ^ 12 * 2 ^ 31)

b_word : ℕ → ℕ → ℕ → ℤ → ℕ
b_word row a b i = b_bits row a b (unsigned 13 i)

u_word : ℕ → ℕ → ℕ → ℕ
u_word row a n = row + a * 2 ^ 7 + n * 2 ^ 12

j_bits : ℕ → ℕ → ℕ → ℕ
j_bits row a n = row + a * 2 ^ 7 + (n / 2 ^ 12 % 256 * 2 ^ 12 + n / 2 ^ 11 % 2 * 2 ^ 20) + (n / 2 % 1024 * 2 ^ 21 + n / 2 ^ 20 * 2 ^ 31)

j_word : ℕ → ℕ → ℤ → ℕ
j_word row a i = j_bits row a (unsigned 21 i)

word_of : Ins → ℕ
word_of (Lui a n) = u_word 0x37 a n
word_of (Auipc a n) = u_word 0x17 a n
word_of (Jal a i) = j_word 0x6F a i
word_of (Jalr a b i) = i_word 0x67 a b i
word_of (Beq a b i) = b_word 0x63 a b i
word_of (Bne a b i) = b_word 0x1063 a b i
word_of (Blt a b i) = b_word 0x4063 a b i
word_of (Bge a b i) = b_word 0x5063 a b i
word_of (Bltu a b i) = b_word 0x6063 a b i
word_of (Bgeu a b i) = b_word 0x7063 a b i
word_of (Lb a b i) = i_word 0x03 a b i
word_of (Lh a b i) = i_word 0x1003 a b i
word_of (Lw a b i) = i_word 0x2003 a b i
word_of (Lbu a b i) = i_word 0x4003 a b i
word_of (Lhu a b i) = i_word 0x5003 a b i
word_of (Sb a b i) = s_word 0x23 a b i
word_of (Sh a b i) = s_word 0x1023 a b i
word_of (Sw a b i) = s_word 0x2023 a b i
word_of (Addi a b i) = i_word 0x13 a b i
word_of (Slti a b i) = i_word 0x2013 a b i
word_of (Sltiu a b i) = i_word 0x3013 a b i
word_of (Xori a b i) = i_word 0x4013 a b i
word_of (Ori a b i) = i_word 0x6013 a b i
word_of (Andi a b i) = i_word 0x7013 a b i
word_of (Slli a b d) = r_word 0x1013 a b d
word_of (Srli a b d) = r_word 0x5013 a b d
word_of (Srai a b d) = r_word 0x40005013 a b d
word_of (Add a b d) = r_word 0x33 a b d
word_of (Sub a b d) = r_word 0x40000033 a b d
word_of (Sll a b d) = r_word 0x1033 a b d
word_of (Slt a b d) = r_word 0x2033 a b d
word_of (Sltu a b d) = r_word 0x3033 a b d
word_of (Xor a b d) = r_word 0x4033 a b d
word_of (Srl a b d) = r_word 0x5033 a b d
word_of (Sra a b d) = r_word 0x40005033 a b d
word_of (Or a b d) = r_word 0x6033 a b d
word_of (And a b d) = r_word 0x7033 a b d
word_of (Fence a b d) = r_word 0x0F a b d
word_of Ecall = 0x73
word_of Ebreak = 0x00100073

r_one : (row w : ℕ) → w < 2 ^ 32 → eqb (bit_and w m17) row ≡ true → r_word row (rd w) (rs1 w) (rs2 w) ≡ w
unfolding r_word
r_one row w fits at = omega (arith, seventeen w fits, eqb-true _ _ at)

i_one : (row w : ℕ) → w < 2 ^ 32 → eqb (bit_and w m10) row ≡ true → i_word row (rd w) (rs1 w) (i_immediate w) ≡ w
unfolding i_word r_word
i_one row w fits at = rw (unsigned-signed 12 (w / 2 ^ 20 % 2 ^ 12) (omega arith)) (omega (arith, ten w, eqb-true _ _ at))

ordering_one : (row w : ℕ) → w < 2 ^ 32 → eqb (bit_and w m10) row ≡ true → r_word row (rd w) (rs1 w) (order w) ≡ w
unfolding r_word
ordering_one row w fits at = omega (arith, ten w, eqb-true _ _ at)

s_one : (row w : ℕ) → w < 2 ^ 32 → eqb (bit_and w m10) row ≡ true → s_word row (rs1 w) (rs2 w) (s_immediate w) ≡ w
unfolding s_word s_bits
s_one row w fits at = rw (unsigned-signed 12 (w / 2 ^ 25 % 2 ^ 7 * 2 ^ 5 + w / 2 ^ 7 % 2 ^ 5) (omega arith)) (omega (arith, ten w, eqb-true _ _ at))

b_one : (row w : ℕ) → w < 2 ^ 32 → eqb (bit_and w m10) row ≡ true → b_word row (rs1 w) (rs2 w) (b_immediate w) ≡ w
unfolding b_word b_bits
b_one row w fits at =
    rw (unsigned-signed 13 (w / 2 ^ 31 % 2 ^ 1 * 2 ^ 12 + w / 2 ^ 7 % 2 ^ 1 * 2 ^ 11 + w / 2 ^ 25 % 2 ^ 6 * 2 ^ 5 + w / 2 ^ 8 % 2 ^ 4 * 2) (omega arith)) (omega (arith, ten w, eqb-true _ _ at))

u_one : (row w : ℕ) → w < 2 ^ 32 → eqb (bit_and w m7) row ≡ true → u_word row (rd w) (u_immediate w) ≡ w
unfolding u_word
u_one row w fits at = omega (arith, seven w, eqb-true _ _ at)

j_one : (row w : ℕ) → w < 2 ^ 32 → eqb (bit_and w m7) row ≡ true → j_word row (rd w) (j_immediate w) ≡ w
unfolding j_word j_bits
j_one row w fits at =
    rw (unsigned-signed 21 (w / 2 ^ 31 % 2 ^ 1 * 2 ^ 20 + w / 2 ^ 12 % 2 ^ 8 * 2 ^ 12 + w / 2 ^ 20 % 2 ^ 1 * 2 ^ 11 + w / 2 ^ 21 % 2 ^ 10 * 2) (omega arith)) (omega (arith, seven w, eqb-true _ _ at))

fixed_one : (row w : ℕ) → w < 2 ^ 32 → eqb (bit_and w m32) row ≡ true → row ≡ w
fixed_one row w fits at = omega (arith, and_mask w 32, eqb-true _ _ at)

-- each row's word comes back from its fields
abbrev ComesBack : Row → Type 0
ComesBack r = (w : ℕ) → w < 2 ^ 32 → matches w r ≡ true → word_of (cut r.format w) ≡ w

table_comes_back : EachRow ComesBack table
unfolding word_of
table_comes_back = (
  u_one 0x37,
  (
    u_one 0x17,
    (
      j_one 0x6F,
      (
        i_one 0x67,
        (
          b_one 0x63,
          (
            b_one 0x1063,
            (
              b_one 0x4063,
              (
                b_one 0x5063,
                (
                  b_one 0x6063,
                  (
                    b_one 0x7063,
                    (
                      i_one 0x03,
                      (
                        i_one 0x1003,
                        (
                          i_one 0x2003,
                          (
                            i_one 0x4003,
                            (
                              i_one 0x5003,
                              (
                                s_one 0x23,
                                (
                                  s_one 0x1023,
                                  (
                                    s_one 0x2023,
                                    (
                                      i_one 0x13,
                                      (
                                        i_one 0x2013,
                                        (
                                          i_one 0x3013,
                                          (
                                            i_one 0x4013,
                                            (
                                              i_one 0x6013,
                                              (
                                                i_one 0x7013,
                                                (
                                                  r_one 0x1013,
                                                  (
                                                    r_one 0x5013,
                                                    (
                                                      r_one 0x40005013,
                                                      (
                                                        r_one 0x33,
                                                        (
                                                          r_one 0x40000033,
                                                          (
                                                            r_one 0x1033,
                                                            (
                                                              r_one 0x2033,
                                                              (
                                                                r_one 0x3033,
                                                                (
                                                                  r_one 0x4033,
                                                                  (
                                                                    r_one 0x5033,
                                                                    (
                                                                      r_one 0x40005033,
                                                                      (
                                                                        r_one 0x6033,
                                                                        (
                                                                          r_one 0x7033,
                                                                          (
                                                                            ordering_one 0x0F,
                                                                            (
                                                                              fixed_one 0x73,
                                                                              (
                                                                                fixed_one 0x00100073,
                                                                                tt,
                                                                              ),
                                                                            ),
                                                                          ),
                                                                        ),
                                                                      ),
                                                                    ),
                                                                  ),
                                                                ),
                                                              ),
                                                            ),
                                                          ),
                                                        ),
                                                      ),
                                                    ),
                                                  ),
                                                ),
                                              ),
                                            ),
                                          ),
                                        ),
                                      ),
                                    ),
                                  ),
                                ),
                              ),
                            ),
                          ),
                        ),
                      ),
                    ),
                  ),
                ),
              ),
            ),
          ),
        ),
      ),
    ),
  ),
)

word-ins : (w : ℕ) (x : Ins) → w < 2 ^ 32 → ins w ≡ Some x → word_of x ≡ w
unfolding ins row_of
word-ins w x fits is = from (row_in table w) refl is
  where
    found_word : (r : Row) → (matches w r ≡ true) × ComesBack r → word_of (cut r.format w) ≡ w
    found_word r row = row.1 w fits row.0

    from : (o : Option Row) → row_in table w ≡ o → option_map (λ (r : Row). cut r.format w) o ≡ Some x → word_of x ≡ w
    from None at none = absurd cc
    from (Some r) at some =
        let same : cut r.format w ≡ x = cc in
        ap word_of (sym same) ∙ found_word r (row_found ComesBack table table_comes_back w r at)

pub one_word : (v w : ℕ) (x : Ins) → v < 2 ^ 32 → w < 2 ^ 32 → ins v ≡ Some x → ins w ≡ Some x → v ≡ w
one_word v w x v_fits w_fits of_v of_w = sym (word-ins v x v_fits of_v) ∙ word-ins w x w_fits of_w
