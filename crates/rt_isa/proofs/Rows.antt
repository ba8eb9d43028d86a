-- How a word finds its row: by its opcode, then by funct3 and funct7.
use Rattle.rt_isa.proofs.Common.{◌≡◌, ℕ, ◌+◌, ◌*◌, ◌/◌, ◌%◌, ◌^◌, ◌<◌, Bool, true, false, cond, eqb, List, [], ◌∷◌, Option, Some, None, refl, sym, ap, ◌∙◌, arith, inl, inr, bit_and, option_map, cases_Bool, ne_eqb, eqb-true, and_mask, Row, table, cut, matches, row_in, row_of, ins}
use Rattle.std.proofs.Common.{◌&&◌, ◌||◌}
use Rattle.std.proofs.lemmas.Bool.{eq-eqb, and_parts, or_cases}
use Rattle.std.proofs.lemmas.Nat.{and_block, and_mod, shr_split}
use Rattle.rt_isa.specs.Table.{m7, m10, m17}
use Rattle.rt_isa.specs.declared.instruction.Ins.TheVariants.{Ecall, Ebreak}

-- ---- masks

and7 : (w : ℕ) → bit_and w 127 ≡ w % 128
and7 w = and_mask w 7

and3 : (w : ℕ) → bit_and w 7 ≡ w % 8
and3 w = and_mask w 3

pub and10 : (w : ℕ) → bit_and w 0x707F ≡ bit_and (w / 4096) 7 * 4096 + bit_and w 127
and10 w =
    let split : bit_and w 0x707F ≡ bit_and (w / 4096 * 4096 + w % 4096) 0x707F = ap (λ (x : ℕ). bit_and x 0x707F) (sym (shr_split w 12)) in
    let block : bit_and (w / 4096 * 4096 + w % 4096) 0x707F ≡ bit_and (w / 4096) 7 * 4096 + bit_and (w % 4096) 127 = and_block 12 (w / 4096) 7 (w % 4096) 127 (omega arith) (omega arith) in
    let low : bit_and (w % 4096) 127 ≡ bit_and w 127 = rw (and7 (w % 4096), and7 w) (omega arith) in
    split ∙ block ∙ ap (λ (x : ℕ). bit_and (w / 4096) 7 * 4096 + x) low

pub and17 : (w : ℕ) → w < 2 ^ 32 → bit_and w 0xFE00707F ≡ w / 33554432 * 33554432 + (bit_and (w / 4096) 7 * 4096 + bit_and w 127)
and17 w range =
    let split : bit_and w 0xFE00707F ≡ bit_and (w / 33554432 * 33554432 + w % 33554432) 0xFE00707F = ap (λ (x : ℕ). bit_and x 0xFE00707F) (sym (shr_split w 25)) in
    let block : bit_and (w / 33554432 * 33554432 + w % 33554432) 0xFE00707F ≡ bit_and (w / 33554432) 127 * 33554432 + bit_and (w % 33554432) 0x707F = and_block 25 (w / 33554432) 127 (w % 33554432) 0x707F (omega arith) (omega arith) in
    let high : bit_and (w / 33554432) 127 ≡ w / 33554432 = and7 (w / 33554432) ∙ omega arith in
    let three : bit_and (w % 33554432 / 4096) 7 ≡ bit_and (w / 4096) 7 = rw (and3 (w % 33554432 / 4096), and3 (w / 4096)) (omega arith) in
    let seven : bit_and (w % 33554432) 127 ≡ bit_and w 127 = rw (and7 (w % 33554432), and7 w) (omega arith) in
    split ∙ block ∙ rw (high, and10 (w % 33554432), three, seven) refl

-- ---- rows of one opcode

abbrev opcode_of : Row → ℕ
opcode_of r = r.match % 128

abbrev at_opcode : ℕ → List Row → List Row
at_opcode op [] = []
at_opcode op (r ∷ rows) = cond (eqb (opcode_of r) op) (r ∷ at_opcode op rows) (at_opcode op rows)

-- each mask covers the opcode
abbrev all_have_opcode : List Row → Bool
all_have_opcode [] = true
all_have_opcode (r ∷ rows) = eqb (r.mask % 128) 127 && all_have_opcode rows

low_bits : (w : ℕ) (mask : ℕ) → mask % 128 ≡ 127 → bit_and w mask % 128 ≡ bit_and w 127
low_bits w mask e =
    and_mod w mask 7 ∙ ap (λ (x : ℕ). bit_and (w % 128) x) e ∙ rw (and7 (w % 128), and7 w) (omega arith)

other_opcode : (w op : ℕ) (r : Row) → r.mask % 128 ≡ 127 → bit_and w 127 ≡ op → eqb (opcode_of r) op ≡ false → matches w r ≡ false
other_opcode w op r full is_op differs =
    ne_eqb _ _ (λ same.
    let at : r.match % 128 ≡ op = ap (λ (x : ℕ). x % 128) (sym same) ∙ low_bits w r.mask full ∙ is_op in
    absurd (both (sym differs ∙ eq-eqb _ _ at)))
  where
    both : false ≡ true → ⊥
    both e = cc

in_opcode : (w op : ℕ) (rows : List Row) → all_have_opcode rows ≡ true → bit_and w 127 ≡ op → row_in rows w ≡ row_in (at_opcode op rows) w
in_opcode w op [] full is_op = refl
in_opcode w op (r ∷ rows) full is_op =
    let parts = and_parts (eqb (r.mask % 128) 127) (all_have_opcode rows) full in
    let rest = in_opcode w op rows parts.1 is_op in
    elim (cases_Bool (eqb (opcode_of r) op)) [
      | inl same ↦ rw same (ap (λ (x : Option Row). cond (matches w r) (Some r) x) rest)
      | inr differs ↦ rw (differs, other_opcode w op r (eqb-true _ _ parts.0) is_op differs) rest
    ]

-- ---- the row of an opcode, funct3 and funct7

abbrev chosen : ℕ → ℕ → ℕ → Row → Bool
chosen op f3 f7 r = cond (eqb r.mask m7) (eqb op r.match) (cond (eqb r.mask m10) (eqb (f3 * 4096 + op) r.match) (eqb (f7 * 33554432 + (f3 * 4096 + op)) r.match))

abbrev choose : ℕ → ℕ → ℕ → List Row → Option Row
choose op f3 f7 [] = None
choose op f3 f7 (r ∷ rows) = cond (chosen op f3 f7 r) (Some r) (choose op f3 f7 rows)

-- the masks are those of an opcode, a funct3 and a funct7
abbrev is_plain : Row → Bool
is_plain r = eqb r.mask m7 || (eqb r.mask m10 || eqb r.mask m17)

abbrev all_plain : List Row → Bool
all_plain [] = true
all_plain (r ∷ rows) = is_plain r && all_plain rows

module _ (w op f3 f7 : ℕ) (range : w < 2 ^ 32) (is_op : bit_and w 127 ≡ op) (is_f3 : bit_and (w / 4096) 7 ≡ f3) (is_f7 : w / 33554432 ≡ f7) where
  test_is : (r : Row) → is_plain r ≡ true → matches w r ≡ chosen op f3 f7 r
  test_is r plain =
      elim (cases_Bool (eqb r.mask m7)) [
        | inl seven ↦ rw (seven, eqb-true r.mask m7 seven, is_op) refl
        | inr not_seven ↦ elim (cases_Bool (eqb r.mask m10)) [
          | inl ten ↦ rw (not_seven, ten, eqb-true r.mask m10 ten, and10 w, is_op, is_f3) refl
          | inr not_ten ↦
              let seventeen : eqb r.mask m17 ≡ true = rw (not_seven, not_ten) at plain in
              rw (not_seven, not_ten, eqb-true r.mask m17 seventeen, and17 w range, is_op, is_f3, is_f7) refl
        ]
      ]

  row_is : (rows : List Row) → all_plain rows ≡ true → row_in rows w ≡ choose op f3 f7 rows
  row_is [] plain = refl
  row_is (r ∷ rows) plain =
      let parts = and_parts (is_plain r) (all_plain rows) plain in
      rw (test_is r parts.0, row_is rows parts.1) refl

  -- a word's instruction, by its opcode, funct3 and funct7
  pub ins_by : all_plain (at_opcode op table) ≡ true → ins w ≡ option_map (λ r. cut r.format w) (choose op f3 f7 (at_opcode op table))
  unfolding ins row_of
  ins_by plain =
      ap (option_map (λ r. cut r.format w)) (in_opcode w op table refl is_op ∙ row_is (at_opcode op table) plain)

-- ---- no row

abbrev pub Misses : ℕ → ℕ → ℕ → List Row → Type 0
Misses op f3 f7 [] = Unit {0}
Misses op f3 f7 (r ∷ rows) = (chosen op f3 f7 r ≡ false) × Misses op f3 f7 rows

choose-misses : (op f3 f7 : ℕ) (rows : List Row) → Misses op f3 f7 rows → choose op f3 f7 rows ≡ None
choose-misses op f3 f7 [] misses = refl
choose-misses op f3 f7 (r ∷ rows) misses = rw misses.0 (choose-misses op f3 f7 rows misses.1)

-- a word that misses each row of its opcode is of no row
pub no_row : (w op f3 f7 : ℕ) → w < 2 ^ 32 → bit_and w 127 ≡ op → bit_and (w / 4096) 7 ≡ f3 → w / 33554432 ≡ f7 → all_plain (at_opcode op table) ≡ true → Misses op f3 f7 (at_opcode op table) → None ≡ ins w
no_row w op f3 f7 range is_op is_f3 is_f7 plain misses =
    sym (ins_by w op f3 f7 range is_op is_f3 is_f7 plain ∙ ap (option_map (λ (r : Row). cut r.format w)) (choose-misses op f3 f7 (at_opcode op table) misses))

-- ---- no opcode

abbrev is_among : ℕ → List ℕ → Bool
is_among op [] = false
is_among op (x ∷ xs) = eqb x op || is_among op xs

abbrev all_among : List ℕ → List Row → Bool
all_among ops [] = true
all_among ops (r ∷ rows) = is_among (opcode_of r) ops && all_among ops rows

-- the opcodes of RV32I
abbrev opcodes : List ℕ
opcodes = 55 ∷ 23 ∷ 111 ∷ 103 ∷ 99 ∷ 3 ∷ 35 ∷ 19 ∷ 51 ∷ 15 ∷ 115 ∷ []

abbrev pub Differs : ℕ → List ℕ → Type 0
Differs op [] = Unit {0}
Differs op (x ∷ xs) = (x ≡ op → ⊥) × Differs op xs

not_among : (op other : ℕ) (ops : List ℕ) → Differs op ops → is_among other ops ≡ true → eqb other op ≡ false
not_among op other [] differs among = absurd cc
not_among op other (x ∷ xs) differs among =
    elim (or_cases (eqb x other) (is_among other xs) among) [
      | inl here ↦ ne_eqb _ _ (λ same. differs.0 (eqb-true x other here ∙ same))
      | inr there ↦ not_among op other xs differs.1 there
    ]

in_none : (w op : ℕ) (ops : List ℕ) (rows : List Row) → all_have_opcode rows ≡ true → all_among ops rows ≡ true → Differs op ops → bit_and w 127 ≡ op → row_in rows w ≡ None
in_none w op ops [] full among differs is_op = refl
in_none w op ops (r ∷ rows) full among differs is_op =
    let has = and_parts (eqb (r.mask % 128) 127) (all_have_opcode rows) full in
    let parts = and_parts (is_among (opcode_of r) ops) (all_among ops rows) among in
    rw (other_opcode w op r (eqb-true _ _ has.0) is_op (not_among op (opcode_of r) ops differs parts.0)) (in_none w op ops rows has.1 parts.1 differs is_op)

-- a word of none of the opcodes is of no row
pub no_opcode : (w : ℕ) → Differs (bit_and w 127) opcodes → None ≡ ins w
unfolding ins row_of
no_opcode w differs =
    sym (ap (option_map (λ (r : Row). cut r.format w)) (in_none w (bit_and w 127) opcodes table refl refl differs refl))

-- ---- whole words

-- a word of the opcode SYSTEM that is neither ECALL nor EBREAK is of no row
pub no_system : (w : ℕ) → w < 2 ^ 32 → bit_and w 127 ≡ 115 → (w ≡ 115 → ⊥) → (w ≡ 1048691 → ⊥) → None ≡ ins w
unfolding ins row_of
no_system w range is_op not_call not_break =
    let whole : bit_and w 0xFFFFFFFF ≡ w = and_mask w 32 ∙ omega arith in
    let none : row_in (at_opcode 115 table) w ≡ None = rw (whole, ne_eqb w 115 not_call, ne_eqb w 1048691 not_break) refl in
    sym (ap (option_map (λ (r : Row). cut r.format w)) (in_opcode w 115 table refl is_op ∙ none))

pub call_word : ins 115 ≡ Some Ecall
unfolding ins row_of
call_word = refl

pub break_word : ins 1048691 ≡ Some Ebreak
unfolding ins row_of
break_word = refl
