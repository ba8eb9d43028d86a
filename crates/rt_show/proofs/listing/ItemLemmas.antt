-- A listing, item by item.
use Rattle.std.proofs.Common.{◌≡◌, ℕ, ◌+◌, ◌<◌, ◌≤◌, List, [], ◌∷◌, ◌++◌, length, get_or, drop, refl, ap, sym, ◌∙◌, arith, append_assoc, codes}
use Rattle.rt_words.specs.Hex.{hex}
use Rattle.byteorder.specs.Endian.{little_number}
use Rattle.rt_image.specs.ObjectFile.{Label}
use Rattle.rt_show.specs.listing.Listing.{names_at, remark, word_line, byte_line, lines_from}

-- the line of a byte, part by part
pub byte_pushed : (out first second third last : List ℕ) (address b : ℕ) → first ≡ out ++ codes "    .byte 0x" → second ≡ first ++ hex 2 b → third ≡ second ++ remark address → last ≡ third ++ codes "\n" → last ≡ out ++ byte_line address b
byte_pushed out first second third last address b is_first is_second is_third is_last =
    rw (is_last, is_third, is_second, is_first) (
    append_assoc ((out ++ codes "    .byte 0x") ++ hex 2 b) (remark address) (codes "\n")
    ∙ append_assoc (out ++ codes "    .byte 0x") (hex 2 b) (remark address ++ codes "\n")
    ∙ append_assoc out (codes "    .byte 0x") (hex 2 b ++ (remark address ++ codes "\n"))
    ∙ ap (λ (l : List ℕ). out ++ (codes "    .byte 0x" ++ l)) (sym (append_assoc (hex 2 b) (remark address) (codes "\n"))))

-- a byte of the last three
pub first_byte : (bytes : List ℕ) → 0 < length bytes → length bytes < 4 → (symbols : List Label) (address : ℕ) → lines_from symbols address bytes ≡ names_at address symbols ++ byte_line address (get_or bytes 0 0) ++ lines_from symbols (address + 1) (drop 1 bytes)
first_byte [] some few symbols address = absurd (omega arith)
first_byte (b ∷ []) some few symbols address = refl
first_byte (b ∷ c ∷ []) some few symbols address = refl
first_byte (b ∷ c ∷ d ∷ []) some few symbols address = refl
first_byte (b ∷ c ∷ d ∷ e ∷ rest) some few symbols address = absurd (omega arith)

-- a word
pub first_word : (bytes : List ℕ) → 4 ≤ length bytes → (symbols : List Label) (address : ℕ) → lines_from symbols address bytes ≡ names_at address symbols ++ word_line address (little_number 4 bytes) ++ lines_from symbols (address + 4) (drop 4 bytes)
first_word [] many symbols address = absurd (omega arith)
first_word (a ∷ []) many symbols address = absurd (omega arith)
first_word (a ∷ b ∷ []) many symbols address = absurd (omega arith)
first_word (a ∷ b ∷ c ∷ []) many symbols address = absurd (omega arith)
first_word (a ∷ b ∷ c ∷ d ∷ rest) many symbols address = refl

-- only the names at each address matter
pub same_lines : (ls ms : List Label) → ((a : ℕ) → names_at a ls ≡ names_at a ms) → (address : ℕ) (bytes : List ℕ) → lines_from ls address bytes ≡ lines_from ms address bytes
same_lines ls ms same address [] = same address
same_lines ls ms same address (a ∷ b ∷ c ∷ d ∷ rest) = rw (same address, same_lines ls ms same (address + 4) rest) refl
same_lines ls ms same address (a ∷ []) = rw (same address, same (address + 1)) refl
same_lines ls ms same address (a ∷ b ∷ []) = rw (same address, same_lines ls ms same (address + 1) (b ∷ [])) refl
same_lines ls ms same address (a ∷ b ∷ c ∷ []) = rw (same address, same_lines ls ms same (address + 1) (b ∷ c ∷ [])) refl
