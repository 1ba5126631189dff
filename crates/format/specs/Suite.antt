-- Suites (01, "Suites and derived keys": "Each suite has its own ICV length, label and block count."; 02, No. 5: "241 is suite 1 and 242 is suite 2, with
-- an ICV of 8 bytes and their own number as CS, in the derivation too").
use Rattle.std.specs.Prelude.{Bool, true, false, cond, List, [], ◌∷◌, ℕ, ◌*◌, ◌/◌, eqb, None, Option, Some}
use Rattle.format.specs.declared.suite.Suite.{Suite}
use Rattle.format.specs.declared.suite.Suite.TheVariants.{MagmaCtr, MagmaNull, MagmaCtrLong, MagmaNullLong}

-- CS: MAGMA-CTR-CMAC, MAGMA-NULL-CMAC, and the two with a long ICV
abbrev pub number_of : Suite → ℕ
number_of MagmaCtr = 1
number_of MagmaNull = 2
number_of MagmaCtrLong = 241
number_of MagmaNullLong = 242

abbrev pub suites : List Suite
suites = MagmaCtr ∷ MagmaNull ∷ MagmaCtrLong ∷ MagmaNullLong ∷ []

-- the first of some suites with that number
abbrev pub numbered_in : List Suite → ℕ → Option Suite
numbered_in [] cs = None
numbered_in (s ∷ ss) cs = cond (eqb cs (number_of s)) (Some s) (numbered_in ss cs)

unfoldable pub suite_of : ℕ → Option Suite
suite_of cs = numbered_in suites cs

-- bytes of an ICV
abbrev pub icv_length_of : Suite → ℕ
icv_length_of MagmaCtr = 4
icv_length_of MagmaNull = 4
icv_length_of MagmaCtrLong = 8
icv_length_of MagmaNullLong = 8

-- in suite 2 the payload stands in clear, and so it does in 242
abbrev pub enciphers : Suite → Bool
enciphers MagmaCtr = true
enciphers MagmaNull = false
enciphers MagmaCtrLong = true
enciphers MagmaNullLong = false

-- "macenc" and "macmac"
abbrev pub label_of : Suite → List ℕ
label_of s = cond (enciphers s) (0x6d ∷ 0x61 ∷ 0x63 ∷ 0x65 ∷ 0x6e ∷ 0x63 ∷ []) (0x6d ∷ 0x61 ∷ 0x63 ∷ 0x6d ∷ 0x61 ∷ 0x63 ∷ [])

-- bytes of a block of its cipher, which is Magma
abbrev pub block_length_of : Suite → ℕ
block_length_of s = 8

-- how many blocks of derivation make a key, which has 32 bytes: four
abbrev pub key_blocks_of : Suite → ℕ
key_blocks_of s = 32 / block_length_of s

-- for a check key and a cipher key 8, for a check key alone 4
abbrev pub blocks_of : Suite → ℕ
blocks_of s = cond (enciphers s) (2 * key_blocks_of s) (key_blocks_of s)

-- 512 and 256
abbrev pub output_bits_of : Suite → ℕ
output_bits_of s = 8 * block_length_of s * blocks_of s
