-- Counter mode and check value (GOST R 34.13-2015; 01, "Magma and its two modes") for any block cipher: over the length b of a block in bytes
-- and the function E that the key makes of the numbers of blocks. Then both at Magma.
use Rattle.std.specs.Prelude.{cond, List, [], ◌∷◌, ◌++◌, ℕ, zero, suc, ◌+◌, ◌-◌, ◌*◌, ◌/◌, ◌%◌, ◌^◌, eqb, length, get_or, drop}
use Rattle.std.specs.Int.Bits.{bit_xor}
use Rattle.octets.specs.Octets.{big_endian, bytes_of}
use Rattle.magma.specs.Magma.{encrypted}

-- ---- counter mode

-- byte i of a block, the first the highest
abbrev pub byte_of : ℕ → ℕ → ℕ → ℕ
byte_of b block i = get_or (bytes_of b block) i 0

-- byte k of the gamma: of the block that E makes of the first counter plus k div b, byte k mod b
unfoldable pub gamma : ℕ → (ℕ → ℕ) → ℕ → ℕ → ℕ
gamma b E first k = byte_of b (E (first + k / b)) (k % b)

-- bytes at the places k, k + 1, .., each exclusive or what g has for its place
unfoldable pub masked : (ℕ → ℕ) → ℕ → List ℕ → List ℕ
masked g k [] = []
masked g k (x ∷ xs) = bit_xor x (g k) ∷ masked g (suc k) xs

unfoldable pub counter_mode : ℕ → (ℕ → ℕ) → ℕ → List ℕ → List ℕ
counter_mode b E first bytes = masked (gamma b E first) 0 bytes

-- ---- check value

-- a block shifted left by one, exclusive or c if its top bit was 1
unfoldable pub doubled : ℕ → ℕ → ℕ → ℕ
doubled b c block = bit_xor (block * 2 % 2 ^ (8 * b)) (block / 2 ^ (8 * b - 1) * c)

-- the first subkey is the image of the zero block, doubled; the second is the first, doubled again
unfoldable pub first_subkey : ℕ → ℕ → (ℕ → ℕ) → ℕ
first_subkey b c E = doubled b c (E 0)

unfoldable pub second_subkey : ℕ → ℕ → (ℕ → ℕ) → ℕ
second_subkey b c E = doubled b c (first_subkey b c E)

-- block k of the bytes; after the last byte come a bit 1 and zeros (past a list's end a byte is 0)
unfoldable pub block : ℕ → List ℕ → ℕ → ℕ
block b bytes k = big_endian b (drop (b * k) (bytes ++ (128 ∷ [])))

-- of n bytes, how many blocks stand before the last, which has from 1 to b bytes, or none where n is 0
abbrev pub before : ℕ → ℕ → ℕ
before b n = (n - 1) / b

-- what the first k blocks come to
unfoldable pub chained : ℕ → (ℕ → ℕ) → List ℕ → ℕ → ℕ
chained b E bytes zero = 0
chained b E bytes (suc k) = E (bit_xor (chained b E bytes k) (block b bytes k))

-- of n bytes, a full last block takes the first subkey, a shorter one the second
unfoldable pub last_key : ℕ → ℕ → ℕ → ℕ → ℕ
last_key b first second n = cond (eqb (n - b * before b n) b) first second

-- the check value with two subkeys
unfoldable pub check_with : ℕ → (ℕ → ℕ) → ℕ → ℕ → List ℕ → ℕ
check_with b E first second bytes =
    E
    (bit_xor
    (bit_xor (chained b E bytes (before b (length bytes))) (block b bytes (before b (length bytes))))
    (last_key b first second (length bytes)))

-- the whole check value; c is the constant of the doubling
abbrev pub check_value : ℕ → ℕ → (ℕ → ℕ) → List ℕ → ℕ
check_value b c E bytes = check_with b E (first_subkey b c E) (second_subkey b c E) bytes

-- the leading n bytes of a block of b bytes, as a number (02, No. 5: "each caller cuts what it needs")
abbrev pub cut : ℕ → ℕ → ℕ → ℕ
cut b n block = block / 2 ^ (8 * (b - n))

-- ---- at Magma

-- the first counter is the IV followed by 32 zero bits
abbrev pub magma_counter : List ℕ → ℕ → List ℕ → List ℕ
magma_counter key iv bytes = counter_mode 8 (encrypted key) (iv * 2 ^ 32) bytes

abbrev pub magma_check : List ℕ → List ℕ → ℕ
magma_check key bytes = check_value 8 0x1b (encrypted key) bytes
