-- Bytes in lists (01, "The message, big-endian"): the number that bytes write, the bytes of a number, a part of a list, a list with other
-- bytes at a place, and whether two lists are the same.
use Rattle.std.specs.Prelude.{Bool, true, false, ◌&&◌, List, [], ◌∷◌, ◌++◌, ℕ, zero, suc, ◌+◌, ◌*◌, ◌/◌, ◌%◌, ◌<◌, eqb, length, get_or, take, drop}

-- every number of a list is a byte
abbrev pub Bytes : List ℕ → Type 0
Bytes l = (i : ℕ) → get_or l i 0 < 256

-- the number that the first n bytes of a list write, the first byte the highest; past the list's end a byte is 0
unfoldable pub big_endian : ℕ → List ℕ → ℕ
big_endian zero bytes = 0
big_endian (suc n) bytes = big_endian n bytes * 256 + get_or bytes n 0

-- the n lowest bytes of a number, the highest first
unfoldable pub bytes_of : ℕ → ℕ → List ℕ
bytes_of zero x = []
bytes_of (suc n) x = bytes_of n (x / 256) ++ (x % 256 ∷ [])

-- the n bytes at a place of a list
abbrev pub part : ℕ → ℕ → List ℕ → List ℕ
part at n bytes = take n (drop at bytes)

-- a list with other bytes at a place, as many as there are; the rest as it was
abbrev pub put : List ℕ → ℕ → List ℕ → List ℕ
put bytes at new = take at bytes ++ new ++ drop (at + length new) bytes

-- whether two lists are the same, byte for byte
unfoldable pub same : List ℕ → List ℕ → Bool
same [] [] = true
same [] (y ∷ ys) = false
same (x ∷ xs) [] = false
same (x ∷ xs) (y ∷ ys) = eqb x y && same xs ys
