-- Of a message an edition settles SN alone: where two editions take the same bits of a number for it, they make the same message.
-- Assumes nothing.
use mathlib.Core.Path.{◌≡◌, ap}
use mathlib.Core.Bool.{cond}
use mathlib.Core.List.{List, ◌∷◌}
use Prim.Native.Nat.{ℕ, ◌+◌}
use Rattle.modes.specs.Modes.{cut, magma_check, magma_counter}
use Rattle.format.specs.Suite.{icv_length_of, block_length_of, key_blocks_of, enciphers}
use Rattle.format.specs.KeyData.{KeyData}
use Rattle.format.specs.declared.suite.Suite.{Suite}
use Rattle.derivation.specs.Derivation.{Inputs, serial_of, iv_of, data_after, block_words}
use Rattle.message.specs.Sealing.{inputs_of, icv_of, enciphered, front_of, sealed}

-- the same key data in another edition
abbrev pub in_edition : ℕ → KeyData → KeyData
in_edition edition k =
    record { flag = k.flag; key_id = k.key_id; source = k.source; suite = k.suite; edition = edition; key = k.key }

module _ (d : Inputs) (f : ℕ) (same : serial_of d.edition d.seq_num ≡ serial_of f d.seq_num) where
  -- the same in another edition
  abbrev other : Inputs
  other = record { base = d.base; suite = d.suite; edition = f; source = d.source; seq_num = d.seq_num }

  same_data : data_after d.suite d.edition d.source d.seq_num ≡ data_after d.suite f d.source d.seq_num
  unfolding data_after
  same_data = rw same

  -- the key of the blocks from a first one on, by what comes after a block's number
  abbrev key_of : List ℕ → ℕ → List ℕ
  key_of rest first = block_words (λ i. magma_check d.base (i ∷ rest)) first (key_blocks_of d.suite)

  same_icv : (front : List ℕ) → icv_of d front ≡ icv_of other front
  unfolding icv_of
  same_icv front =
      ap (λ (rest : List ℕ). cut (block_length_of d.suite) (icv_length_of d.suite) (magma_check (key_of rest 1) front)) same_data

  same_enciphered : (payload : List ℕ) → enciphered d payload ≡ enciphered other payload
  unfolding enciphered
  same_enciphered payload =
      ap (λ (rest : List ℕ). cond (enciphers d.suite) (magma_counter (key_of rest (1 + key_blocks_of d.suite)) (iv_of d.seq_num) payload) payload) same_data

pub same_message : (e f : ℕ) (s : Suite) (k : KeyData) (seq_num : ℕ) (payload : List ℕ) → serial_of e seq_num ≡ serial_of f seq_num
    → sealed s (in_edition e k) seq_num payload ≡ sealed s (in_edition f k) seq_num payload
unfolding sealed front_of
same_message e f s k seq_num payload same =
    let d = inputs_of s (in_edition e k) seq_num in
    simp (same_enciphered d f same, same_icv d f same)
