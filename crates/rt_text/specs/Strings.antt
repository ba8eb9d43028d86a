-- The bytes that a string means.
use Rattle.std.specs.Prelude.{ℕ, Bool, true, false, ◌==◌, if◌then◌else◌, List, [], ◌∷◌}
use Rattle.std.specs.Str.{byte}

-- what stands for a byte behind '\': 'n' for a line feed, 't' for a tab, '\' and '"' for themselves
abbrev pub escape_value : ℕ → ℕ
escape_value b = if b == byte "n" then byte "\n" else (if b == byte "t" then byte "\t" else b)

-- the bytes up to the last '"'; escaped: a '\' stands before them
abbrev pub bytes_after : Bool → List ℕ → List ℕ
bytes_after escaped [] = []
bytes_after true (b ∷ bs) = escape_value b ∷ bytes_after false bs
bytes_after false (b ∷ bs) =
    if b == byte "\"" then []
    else (if b == byte "\\" then bytes_after true bs
    else b ∷ bytes_after false bs)

-- the bytes of a string with its quotes
abbrev pub string_bytes : List ℕ → List ℕ
string_bytes [] = []
string_bytes (quote ∷ bs) = bytes_after false bs
