-- What a suite makes of a payload: as long, bytes again, and undone by the same; and its ICV: the leading bytes of the check value.
-- Assumes nothing.
use mathlib.Core.Bool.{Bool, true, false, cond}
use mathlib.Core.Path.{◌≡◌, refl}
use mathlib.Core.List.{List}
use Prim.Native.Nat.{ℕ, ◌*◌, ◌^◌, ◌<◌}
use lib.ListN.{length, take}
use Rattle.octets.specs.Octets.{Bytes, bytes_of}
use Rattle.modes.specs.Modes.{magma_check, magma_counter}
use Rattle.modes.proofs.Cuts.{cut_leading, cut_lt}
use Rattle.modes.proofs.Gamma.{counter_length, bytes_of_counter, counter_twice}
use Rattle.modes.proofs.Widths.{check_lt}
use Rattle.derivation.specs.Derivation.{Inputs, check_key, cipher_key, iv_of}
use Rattle.message.specs.Sealing.{icv_of, enciphered}
use Rattle.format.specs.Suite.{icv_length_of, block_length_of, enciphers}
use Rattle.format.proofs.Suites.{icv_most}

module _ (d : Inputs) where
  -- enciphered or in clear
  abbrev made : Bool → List ℕ → List ℕ
  made b payload = cond b (magma_counter (cipher_key d) (iv_of d.seq_num) payload) payload

  pub enciphered_length : (payload : List ℕ) → length (enciphered d payload) ≡ length payload
  unfolding enciphered
  enciphered_length payload = either (enciphers d.suite)
    where
      either : (b : Bool) → length (made b payload) ≡ length payload
      either true = counter_length _ _ _ payload
      either false = refl

  pub enciphered_bytes : (payload : List ℕ) → Bytes payload → Bytes (enciphered d payload)
  unfolding enciphered
  enciphered_bytes payload h = either (enciphers d.suite)
    where
      either : (b : Bool) → Bytes (made b payload)
      either true = bytes_of_counter _ _ _ payload h
      either false = h

  pub enciphered_twice : (payload : List ℕ) → enciphered d (enciphered d payload) ≡ payload
  unfolding enciphered
  enciphered_twice payload = either (enciphers d.suite)
    where
      either : (b : Bool) → made b (made b payload) ≡ payload
      either true = counter_twice _ _ _ payload
      either false = refl

  pub icv_lt : (front : List ℕ) → Bytes front → icv_of d front < 2 ^ (8 * icv_length_of d.suite)
  unfolding icv_of
  icv_lt front h = cut_lt (block_length_of d.suite) (icv_length_of d.suite) _ (icv_most d.suite) (check_lt front h (check_key d))

  -- as it stands in a message
  pub icv_leading : (front : List ℕ) → bytes_of (icv_length_of d.suite) (icv_of d front)
      ≡ take (icv_length_of d.suite) (bytes_of (block_length_of d.suite) (magma_check (check_key d) front))
  unfolding icv_of
  icv_leading front = cut_leading (block_length_of d.suite) (icv_length_of d.suite) _ (icv_most d.suite)
