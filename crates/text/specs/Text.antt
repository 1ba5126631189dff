-- Numbers and bytes as text: fields, a name and a number each, and lines, which a line feed ends.
use Rattle.std.specs.Prelude.{cond, List, [], ◌∷◌, ◌++◌, ℕ, zero, suc, ◌+◌, ◌/◌, ◌%◌, ltb}

-- a number below 10 to the n in decimal, without leading zeros
unfoldable pub decimal_in : ℕ → ℕ → List ℕ
decimal_in zero x = []
decimal_in (suc n) x = cond (ltb x 10) ((48 + x) ∷ []) (decimal_in n (x / 10) ++ ((48 + x % 10) ∷ []))

-- a number of 64 bits has at most 20 digits
abbrev pub decimal_of : ℕ → List ℕ
decimal_of x = decimal_in 20 x

-- a digit in lower-case hex: 0 to 9 are 48 to 57, a to f are 97 to 102
abbrev pub glyph : ℕ → ℕ
glyph d = cond (ltb d 10) (48 + d) (87 + d)

-- two digits a byte
unfoldable pub hex_of : List ℕ → List ℕ
hex_of [] = []
hex_of (x ∷ xs) = glyph (x / 16) ∷ glyph (x % 16) ∷ hex_of xs

abbrev pub decimal_field : List ℕ → ℕ → List ℕ
decimal_field name x = name ++ decimal_of x

abbrev pub decimal_line : List ℕ → ℕ → List ℕ
decimal_line name x = decimal_field name x ++ (10 ∷ [])

abbrev pub hex_line : List ℕ → List ℕ → List ℕ
hex_line name bytes = name ++ hex_of bytes ++ (10 ∷ [])
