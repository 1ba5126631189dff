-- Derived keys (01, "Suites and derived keys"; 000, 7.1.3, 7.1.4 and 7.2.2; 02, No. 4, on SN, and No. 5, on CS).
use Rattle.std.specs.Prelude.{◌≡◌, cond, List, [], ◌∷◌, ◌++◌, ℕ, zero, suc, ◌+◌, ◌/◌, ◌%◌, ◌^◌, ◌<◌, eqb, length, get_or}
use Rattle.octets.specs.Octets.{bytes_of}
use Rattle.modes.specs.Modes.{magma_check}
use Rattle.format.specs.Suite.{label_of, number_of, key_blocks_of, output_bits_of}
use Rattle.format.specs.declared.suite.Suite.{Suite}

-- what keys are derived from: the base key's words, suite, edition, source and SeqNum
pub record Inputs : Type 0 where
  pub base : List ℕ
  pub suite : Suite
  pub edition : ℕ
  pub source : List ℕ
  pub seq_num : ℕ

-- the words of a base key: eight, each of 32 bits
abbrev pub IsBase : List ℕ → Type 0
IsBase ws = (length ws ≡ 8) × ((i : ℕ) → get_or ws i 0 < 2 ^ 32)

-- 35 bits of SeqNum's 48: in edition 1 the low ones, else the top ones
abbrev pub serial_of : ℕ → ℕ → ℕ
serial_of edition seq_num = cond (eqb edition 1) (seq_num % 2 ^ 35) (seq_num / 2 ^ 13)

-- SN: five zero bits and these, in five bytes
abbrev pub sn_of : ℕ → ℕ → List ℕ
sn_of edition seq_num = bytes_of 5 (serial_of edition seq_num)

-- IV: SeqNum's low 32 bits
abbrev pub iv_of : ℕ → ℕ
iv_of seq_num = seq_num % 2 ^ 32

-- what comes after the block's number: label, 06, SN, source, CS, context length, output bits
unfoldable pub data_after : Suite → ℕ → List ℕ → ℕ → List ℕ
data_after s edition source seq_num =
    label_of s ++ bytes_of 1 6 ++ sn_of edition seq_num ++ source ++ bytes_of 1 (number_of s) ++ bytes_of 2 (6 + length source) ++ bytes_of 2 (output_bits_of s)

-- block i: the whole check value, under the base key, of its number and the rest
abbrev pub key_block : Inputs → ℕ → ℕ
key_block d i = magma_check d.base (i ∷ data_after d.suite d.edition d.source d.seq_num)

-- the words of n blocks from a first one on, two a block
unfoldable pub block_words : (ℕ → ℕ) → ℕ → ℕ → List ℕ
block_words block first zero = []
block_words block first (suc n) = block_words block first n ++ (block (first + n) / 2 ^ 32 ∷ block (first + n) % 2 ^ 32 ∷ [])

-- the key that the blocks from a first one on make: of Magma's, 1 to 4 the check key, 5 to 8 the cipher key
abbrev pub key_from : Inputs → ℕ → List ℕ
key_from d first = block_words (key_block d) first (key_blocks_of d.suite)

abbrev pub check_key : Inputs → List ℕ
check_key d = key_from d 1

abbrev pub cipher_key : Inputs → List ℕ
cipher_key d = key_from d (1 + key_blocks_of d.suite)
