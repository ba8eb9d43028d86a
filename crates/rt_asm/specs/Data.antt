-- The bytes of directives.
use Rattle.std.specs.Prelude.{ℕ, ℤ, ◌-◌, ◌/◌, ◌%◌, ◌^◌, min, unsigned_abs, List, [], ◌∷◌, ◌++◌, replicate, Result, Ok}
use Rattle.std.specs.List.{flat_map}
use Rattle.byteorder.specs.Endian.{little_bytes}
use Rattle.rt_image.specs.ObjectFile.{Label}
use Rattle.rt_text.specs.declared.meaning.Target.{Target}
use Rattle.rt_text.specs.declared.meaning.Directive.{Directive}
use Rattle.rt_text.specs.declared.meaning.Directive.TheVariants.{Nothing, Bytes, Halves, Words, Zero, Align, Text}
use Rattle.rt_text.specs.declared.operations.TextOp.{TextOp}
use Rattle.rt_text.specs.declared.operations.TextOp.TheVariants.{Ascii, Asciz}
use Rattle.rt_asm.specs.Labels.{address_of}
use Rattle.rt_words.specs.Modular.{modulo}
use Rattle.rt_asm.specs.Ranges.{within, bytes as byte_range, halves as half_range, counts, powers}
use Rattle.rt_words.specs.Chain.{◌>>=◌, mapped}
use Rattle.rt_asm.specs.declared.fault.AsmKind.{AsmKind}

-- the bytes of each item in turn
abbrev pub each_item : {A : Type 0} → (A → Result (List ℕ) AsmKind) → List A → Result (List ℕ) AsmKind
each_item f [] = Ok []
each_item f (x ∷ xs) = do
  bytes ← f x
  mapped (λ rest. bytes ++ rest) (each_item f xs)

-- one byte, and two, the lower first
abbrev pub byte_item : ℤ → Result (List ℕ) AsmKind
byte_item n = mapped (λ i. little_bytes 1 (modulo 8 i)) (within byte_range n)

abbrev pub half_item : ℤ → Result (List ℕ) AsmKind
half_item n = mapped (λ i. little_bytes 2 (modulo 16 i)) (within half_range n)

-- four bytes, the lowest first: a number, or a label's address
abbrev pub word_item : List Label → Target → Result (List ℕ) AsmKind
word_item labels t = mapped (λ n. little_bytes 4 n) (address_of labels t)

-- how many bytes the next multiple of m is away
abbrev pub gap : ℕ → ℕ → ℕ
gap m place = (m - place % m) % m

-- up to the next multiple of 2^n: zeros to the next multiple of 4 or to that address, then words of `nop`
abbrev pub padding : ℕ → ℕ → List ℕ
padding n place =
    replicate (min (gap 4 place) (gap (2 ^ n) place)) 0
    ++ flat_map (little_bytes 4) (replicate ((gap (2 ^ n) place - gap 4 place) / 4) 0x13)

-- how many zero bytes, and the power of 2 to align to
abbrev pub zero_count : ℤ → Result ℕ AsmKind
zero_count n = mapped unsigned_abs (within counts n)

abbrev pub alignment : ℤ → Result ℕ AsmKind
alignment n = mapped unsigned_abs (within powers n)

-- what stands behind the bytes of a string
abbrev pub end_of_text : TextOp → List ℕ
end_of_text Ascii = []
end_of_text Asciz = 0 ∷ []

-- the bytes of a directive that stands at place
abbrev pub data_of : List Label → ℕ → Directive → Result (List ℕ) AsmKind
data_of labels place Nothing = Ok []
data_of labels place (Bytes ns) = each_item byte_item ns
data_of labels place (Halves ns) = each_item half_item ns
data_of labels place (Words ts) = each_item (word_item labels) ts
data_of labels place (Zero n) = mapped (λ count. replicate count 0) (zero_count n)
data_of labels place (Align n) = mapped (λ power. padding power place) (alignment n)
data_of labels place (Text op bytes) = Ok (bytes ++ end_of_text op)
