-- What stands before the ICV of a sealed message: its length, its bytes, and how it and the whole message are written.
-- Assumes nothing.
use mathlib.Core.Path.{◌≡◌, refl, sym, ◌∙◌}
use mathlib.Core.List.{List, ◌++◌}
use Prim.Native.Nat.{ℕ, ◌+◌, ◌*◌, ◌^◌}
use native.Mathlib.Nat.{zero-add}
use native.Mathlib.Omega.{arith}
use lib.ListN.{length, take, length-append}
use Rattle.octets.specs.Octets.{Bytes, bytes_of, put}
use Rattle.octets.proofs.Places.{Written, and_then}
use Rattle.octets.proofs.BigEndian.{bytes_append, bytes_small}
use Rattle.format.specs.Suite.{number_of, icv_length_of}
use Rattle.format.specs.KeyData.{KeyData}
use Rattle.format.specs.Header.{fixed_bytes, header_bytes}
use Rattle.derivation.specs.Derivation.{Inputs}
use Rattle.message.specs.Sealing.{inputs_of, icv_of, enciphered, front_of, sealed}
use Rattle.format.specs.declared.suite.Suite.{Suite}
use Rattle.message.proofs.Payloads.{enciphered_length, enciphered_bytes}
use Rattle.derivation.proofs.Pieces.{take_put}
use Rattle.format.proofs.Written.{header_bytes_length}

-- with the same words of the base key
pub same_inputs : (d : Inputs) {words : List ℕ} → words ≡ d.base → d ≡ record { base = words; suite = d.suite; edition = d.edition; source = d.source; seq_num = d.seq_num }
same_inputs d e = rw e refl

module _ (s : Suite) (k : KeyData) (seq_num : ℕ) (payload : List ℕ) where
  pub front_length : length (front_of s k seq_num payload) ≡ fixed_bytes + length k.key_id + length payload
  unfolding front_of
  front_length =
      rw (
        length-append (header_bytes k.flag s k.key_id seq_num) (enciphered (inputs_of s k seq_num) payload),
        header_bytes_length k.flag s k.key_id seq_num,
        enciphered_length (inputs_of s k seq_num) payload,
      )

  pub front_bytes : Bytes k.key_id → Bytes payload → Bytes (front_of s k seq_num payload)
  unfolding front_of
  front_bytes id sent =
      let front = bytes_append (bytes_of 2 (k.flag * 2 ^ 15)) (bytes_of 1 (number_of s)) (bytes_small 2 (k.flag * 2 ^ 15)) (bytes_small 1 (number_of s)) in
      let named = bytes_append (bytes_of 2 (k.flag * 2 ^ 15) ++ bytes_of 1 (number_of s)) k.key_id front id in
      bytes_append (header_bytes k.flag s k.key_id seq_num) (enciphered (inputs_of s k seq_num) payload)
      (bytes_append (bytes_of 2 (k.flag * 2 ^ 15) ++ bytes_of 1 (number_of s) ++ k.key_id) (bytes_of 6 seq_num) named (bytes_small 6 seq_num))
      (enciphered_bytes (inputs_of s k seq_num) payload sent)

  -- the header is written, and the payload behind it
  pub front_written : (l : List ℕ) {l₁ l₂ : List ℕ} → l₁ ≡ put l 0 (header_bytes k.flag s k.key_id seq_num)
      → l₂ ≡ put l₁ (fixed_bytes + length k.key_id) (enciphered (inputs_of s k seq_num) payload) → l₂ ≡ put l 0 (front_of s k seq_num payload)
  unfolding front_of
  front_written l {l₁} w₁ w₂ =
      let header : Written l 0 (header_bytes k.flag s k.key_id seq_num) l₁ (fixed_bytes + length k.key_id) =
      record { ends = sym (zero-add _ ∙ header_bytes_length k.flag s k.key_id seq_num); is = w₁ } in
      (and_then header (omega arith) (enciphered (inputs_of s k seq_num) payload) _ refl w₂).is

  module _ (l : List ℕ) {done : List ℕ} (is : done ≡ put l 0 (front_of s k seq_num payload)) where
    -- it can be read off the output
    front_taken : take (fixed_bytes + length k.key_id + length payload) done ≡ front_of s k seq_num payload
    front_taken =
        rw is (take_put l 0 (front_of s k seq_num payload) (fixed_bytes + length k.key_id + length payload) (omega arith) (zero-add _ ∙ front_length))

    -- and the ICV comes behind it
    pub sealed_written : {more : List ℕ} (icv n : ℕ) → icv ≡ icv_of (inputs_of s k seq_num) (take (fixed_bytes + length k.key_id + length payload) done) → n ≡ icv_length_of s
        → more ≡ put done (fixed_bytes + length k.key_id + length payload) (bytes_of n icv) → more ≡ put l 0 (sealed s k seq_num payload)
    unfolding sealed
    sealed_written icv n right long written =
        let front : Written l 0 (front_of s k seq_num payload) done (fixed_bytes + length k.key_id + length payload) =
        record { ends = sym (zero-add _ ∙ front_length); is = is } in
        let check = icv_of (inputs_of s k seq_num) (front_of s k seq_num payload) in
        (and_then front (omega arith) (bytes_of (icv_length_of s) check) _ refl (written ∙ rw (long, right, front_taken))).is
