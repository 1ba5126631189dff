-- Lines of text, read: a name, behind it a number in decimal or bytes in hex, and a line feed (02, No. 6: "each line ended by a line feed, no spaces,
-- no leading zeros in decimals, no decimal over 2^64 − 1, hex as printed").
use Rattle.std.specs.Prelude.{Bool, cond, ◌&&◌, ◌||◌, not, List, [], ◌∷◌, ℕ, ◌+◌, ◌*◌, ◌-◌, eqb, leb, length, take, drop}
use Rattle.octets.specs.Octets.{big_endian, same}

-- what comes of reading: a value, and the text that follows it; or nothing, where the text is not in the form asked for
pub data Read (A : Type 0) : Type 0 where
  failed : Read A
  got : A → List ℕ → Read A

-- read on in the text that is left
abbrev pub and_then : {A B : Type 0} → Read A → (A → List ℕ → Read B) → Read B
and_then failed next = failed
and_then (got value left) next = next value left

-- the text begins with the name, and what is behind the name is read
abbrev pub named : {A : Type 0} → List ℕ → (List ℕ → Read A) → List ℕ → Read A
named name behind text = cond (same (take (length name) text) name) (behind (drop (length name) text)) failed

-- ---- a number in decimal, and a line feed

-- 0 to 9 are 48 to 57
abbrev pub is_digit : ℕ → Bool
is_digit c = leb 48 c && leb c 57

-- 2^64 − 1
abbrev pub greatest_decimal : ℕ
greatest_decimal = 18446744073709551615

-- c is a digit that may follow those of x: none follows a 0, and none makes the number too large
abbrev pub may_follow : ℕ → ℕ → Bool
may_follow x c = is_digit c && not (eqb x 0) && leb (x * 10 + (c - 48)) greatest_decimal

-- behind digits that write x
unfoldable pub read_digits : ℕ → List ℕ → Read ℕ
read_digits x [] = failed
read_digits x (c ∷ text) = cond (eqb c 10) (got x text) (cond (may_follow x c) (read_digits (x * 10 + (c - 48)) text) failed)

-- a digit at least
unfoldable pub read_decimal : List ℕ → Read ℕ
read_decimal [] = failed
read_decimal (c ∷ text) = cond (is_digit c) (read_digits (c - 48) text) failed

-- ---- bytes in hex, and a line feed

-- a to f, in lower case, are 97 to 102
abbrev pub is_hex : ℕ → Bool
is_hex c = is_digit c || (leb 97 c && leb c 102)

-- what a digit in hex stands for
abbrev pub value_of : ℕ → ℕ
value_of c = cond (leb c 57) (c - 48) (c - 87)

-- a byte before those that are read
abbrev pub with_first : ℕ → Read (List ℕ) → Read (List ℕ)
with_first x failed = failed
with_first x (got bytes left) = got (x ∷ bytes) left

-- two digits a byte
unfoldable pub read_hex : List ℕ → Read (List ℕ)
read_hex [] = failed
read_hex (a ∷ []) = cond (eqb a 10) (got [] []) failed
read_hex (a ∷ b ∷ text) =
    cond (eqb a 10) (got [] (b ∷ text)) (cond (is_hex a && is_hex b) (with_first (value_of a * 16 + value_of b) (read_hex text)) failed)

-- ---- lines

unfoldable pub read_decimal_line : List ℕ → List ℕ → Read ℕ
read_decimal_line name text = named name read_decimal text

-- any number of bytes, none too
unfoldable pub read_hex_line : List ℕ → List ℕ → Read (List ℕ)
read_hex_line name text = named name read_hex text

-- n bytes
unfoldable pub read_bytes_line : List ℕ → ℕ → List ℕ → Read (List ℕ)
read_bytes_line name n text = and_then (read_hex_line name text) λ bytes left. cond (eqb (length bytes) n) (got bytes left) failed

-- the number that n bytes write
unfoldable pub read_number_line : List ℕ → ℕ → List ℕ → Read ℕ
read_number_line name n text = and_then (read_bytes_line name n text) λ bytes left. got (big_endian n bytes) left
