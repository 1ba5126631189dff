-- What `sealed` makes is read as its header, is right under the same key and source, and opens to the payload.
-- Assumes nothing.
use mathlib.Core.Path.{◌≡◌, refl, sym, ap, ◌∙◌}
use mathlib.Core.Bool.{true}
use mathlib.Core.List.{List, ◌++◌, append_assoc}
use Prim.Native.Nat.{ℕ, ◌+◌, ◌-◌, ◌≤◌}
use native.Mathlib.Nat.{mod-eq_of_lt}
use native.Mathlib.Omega.{arith}
use lib.ListN.{length, get_or, take, drop, length-append}
use lib.Seq.{take_at, drop_at}
use Rattle.octets.specs.Octets.{Bytes, bytes_of}
use Rattle.octets.proofs.BigEndian.{length_bytes, number_bytes}
use Rattle.format.specs.KeyId.{length_of}
use Rattle.format.specs.Suite.{icv_length_of}
use Rattle.format.specs.KeyData.{KeyData}
use Rattle.format.specs.Header.{greatest_message, fixed_bytes, read_of, header_bytes, payload_length, payload_in}
use Rattle.message.specs.Sealing.{inputs_of, icv_of, enciphered, front_of, sealed, right, opened, opened_under}
use Rattle.format.specs.declared.suite.Suite.{Suite}
use Rattle.message.proofs.Fronts.{front_length, front_bytes}
use Rattle.format.proofs.KeyIds.{length_anywhere}
use Rattle.message.proofs.Opening.{Compared, same_right}
use Rattle.message.proofs.Payloads.{enciphered_length, enciphered_twice, icv_lt}
use Rattle.format.proofs.Written.{Writable, header_for, header_bytes_length, read_written}
use Rattle.std.specs.Prelude.{Ok}

module _ (s : Suite) (k : KeyData) (seq_num : ℕ) (payload : List ℕ) where
  abbrev message : List ℕ
  message = sealed s k seq_num payload

  -- header, payload as it is sent, and ICV
  abbrev sent : List ℕ
  sent = enciphered (inputs_of s k seq_num) payload

  abbrev front : List ℕ
  front = front_of s k seq_num payload

  abbrev icv : ℕ
  icv = icv_of (inputs_of s k seq_num) front

  pub sealed_length : length (sealed s k seq_num payload) ≡ fixed_bytes + length k.key_id + length payload + icv_length_of s
  unfolding sealed
  sealed_length = rw (length-append, length_bytes, front_length s k seq_num payload)

  in_parts : message ≡ header_bytes k.flag s k.key_id seq_num ++ (sent ++ bytes_of (icv_length_of s) icv)
  unfolding sealed front_of
  in_parts = append_assoc (header_bytes k.flag s k.key_id seq_num) sent (bytes_of (icv_length_of s) icv)

  -- where the ICV begins
  icv_place : length front ≡ length message - icv_length_of s
  icv_place = omega (arith, sealed_length, front_length s k seq_num payload)

  front_there : take (length message - icv_length_of s) message ≡ front
  unfolding sealed
  front_there = take_at front (bytes_of (icv_length_of s) icv) (length message - icv_length_of s) icv_place

  icv_there : drop (length message - icv_length_of s) message ≡ bytes_of (icv_length_of s) icv
  unfolding sealed
  icv_there = drop_at front (bytes_of (icv_length_of s) icv) (length message - icv_length_of s) icv_place

  module _ (w : Writable k.flag k.key_id seq_num) (short : fixed_bytes + length k.key_id + length payload + icv_length_of s ≤ greatest_message) where
    pub sealed_reads : read_of (sealed s k seq_num payload) ≡ Ok (header_for k.flag s k.key_id seq_num)
    sealed_reads =
        let rest : length (sent ++ bytes_of (icv_length_of s) icv) ≡ length payload + icv_length_of s =
        rw (length-append, length_bytes, enciphered_length (inputs_of s k seq_num) payload) in
        ap read_of in_parts ∙ read_written k.flag s k.key_id seq_num (sent ++ bytes_of (icv_length_of s) icv) w (omega arith) (omega arith)

    pub sealed_right : Bytes payload → right (header_for k.flag s k.key_id seq_num) k (sealed s k seq_num payload) ≡ true
    sealed_right bytes =
        let small = icv_lt (inputs_of s k seq_num) front (front_bytes s k seq_num payload w.keyid_bytes bytes) in
        let c : Compared (header_for k.flag s k.key_id seq_num) k.edition k.key k.source message icv icv = record {
          carries = rw icv_there (sym (number_bytes (icv_length_of s) icv ∙ mod-eq_of_lt small));
          should = rw front_there;
        } in
        same_right c refl

    -- where the payload begins
    payload_place : fixed_bytes + length_of (header_for k.flag s k.key_id seq_num).keyid ≡ fixed_bytes + length k.key_id
    payload_place = omega (arith, w.keyid_length, length_anywhere (get_or k.key_id 0 0) 3)

    pub sealed_payload_length : payload_length (header_for k.flag s k.key_id seq_num) (sealed s k seq_num payload) ≡ length payload
    sealed_payload_length = omega (arith, sealed_length, payload_place)

    payload_there : payload_in (header_for k.flag s k.key_id seq_num) message ≡ sent
    payload_there =
        rw (sealed_payload_length, payload_place, in_parts)
        (ap (take (length payload)) (drop_at (header_bytes k.flag s k.key_id seq_num) (sent ++ bytes_of (icv_length_of s) icv) (fixed_bytes + length k.key_id) (header_bytes_length k.flag s k.key_id seq_num))
        ∙ take_at sent (bytes_of (icv_length_of s) icv) (length payload) (enciphered_length (inputs_of s k seq_num) payload))

    pub sealed_opens : opened (header_for k.flag s k.key_id seq_num) k (sealed s k seq_num payload) ≡ payload
    unfolding opened_under
    sealed_opens = rw payload_there (enciphered_twice (inputs_of s k seq_num) payload)
