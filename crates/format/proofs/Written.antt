-- A header that is written: its length, its parts one behind the other, and that it is read again as it was.
-- Assumes nothing.
use mathlib.Core.Path.{◌≡◌, refl, sym, ap, ◌∙◌}
use mathlib.Core.List.{List, [], ◌++◌}
use Prim.Native.Nat.{ℕ, ◌+◌, ◌*◌, ◌/◌, ◌^◌, ◌≤◌, ◌<◌}
use native.Mathlib.Omega.{arith}
use lib.ListN.{length, get_or, length-append, get_or-append}
use Rattle.octets.specs.Octets.{Bytes, bytes_of, put}
use Rattle.octets.proofs.BigEndian.{length_bytes, number_there}
use Rattle.octets.proofs.Places.{put_four}
use Rattle.format.specs.KeyId.{key_id_starting, length_asked}
use Rattle.format.specs.Suite.{suite_of, number_of, icv_length_of}
use Rattle.format.specs.Header.{greatest_message, fixed_bytes, read_of, header_bytes}
use Rattle.format.specs.declared.header.Header.{Header}
use Rattle.format.specs.declared.suite.Suite.{Suite}
use Rattle.format.proofs.Headers.{Begun, reads}
use Rattle.format.proofs.KeyIds.{length_anywhere, length_least}
use Rattle.format.proofs.Suites.{number_suite, number_byte, icv_least}
use Rattle.std.specs.Prelude.{Ok}

-- the header that stands for what is written
abbrev pub header_for : ℕ → Suite → List ℕ → ℕ → Header
header_for flag s key_id seq_num = record { flag = flag; suite = s; keyid = key_id_starting (get_or key_id 0 0) 3; seqnum = seq_num }

-- a flag, a KeyId of the length that its first byte asks, and a number of 48 bits
pub record Writable (flag : ℕ) (key_id : List ℕ) (seq_num : ℕ) : Type 0 where
  pub flag_small : flag < 2
  pub keyid_bytes : Bytes key_id
  pub keyid_length : length key_id ≡ length_asked (get_or key_id 0 0)
  pub number_small : seq_num < 2 ^ 48

module _ (flag : ℕ) (s : Suite) (key_id : List ℕ) where
  -- where the KeyId and where SeqNum begins
  keyid_place : length (bytes_of 2 (flag * 2 ^ 15) ++ bytes_of 1 (number_of s)) ≡ 3
  keyid_place = simp (length-append, length_bytes)

  seqnum_place : length (bytes_of 2 (flag * 2 ^ 15) ++ bytes_of 1 (number_of s) ++ key_id) ≡ 3 + length key_id
  seqnum_place = rw (length-append, keyid_place)

  pub header_bytes_length : (seq_num : ℕ) → length (header_bytes flag s key_id seq_num) ≡ fixed_bytes + length key_id
  header_bytes_length seq_num = rw (length-append, seqnum_place, length_bytes) (omega arith)

  -- its four parts, each written behind the one before
  pub parts_put : (out one two three four : List ℕ) (number seq_num : ℕ) → number ≡ number_of s → one ≡ put out 0 (bytes_of 2 (flag * 2 ^ 15))
      → two ≡ put one 2 (bytes_of 1 number) → three ≡ put two 3 key_id → four ≡ put three (3 + length key_id) (bytes_of 6 seq_num)
      → four ≡ put out 0 (header_bytes flag s key_id seq_num)
  parts_put out one two three four number seq_num is a b c d =
      put_four out one two three four 0 2 3 (3 + length key_id) (bytes_of 2 (flag * 2 ^ 15)) (bytes_of 1 (number_of s)) key_id (bytes_of 6 seq_num) (omega arith)
      (rw length_bytes) (rw length_bytes) refl a (rw is at b) c d

pub read_written : (flag : ℕ) (s : Suite) (key_id : List ℕ) (seq_num : ℕ) (rest : List ℕ) → Writable flag key_id seq_num
    → icv_length_of s ≤ length rest → fixed_bytes + length key_id + length rest ≤ greatest_message
    → read_of (header_bytes flag s key_id seq_num ++ rest) ≡ Ok (header_for flag s key_id seq_num)
unfolding bytes_of
read_written flag s key_id seq_num rest w enough short =
    let m = header_bytes flag s key_id seq_num ++ rest in
    let first = get_or key_id 0 0 in
    let some : 1 ≤ length key_id = rw w.keyid_length (length_least (key_id_starting first 0)) in
    let long : length m ≡ fixed_bytes + length key_id + length rest = length-append (header_bytes flag s key_id seq_num) rest ∙ rw (header_bytes_length flag s key_id seq_num) in
    let small : flag * 2 ^ 15 < 2 ^ 16 = omega arith in
    let same : flag * 2 ^ 15 / 2 ^ 15 ≡ flag = omega arith in
    let begun : Begun m (flag * 2 ^ 15) s (key_id_starting first 3) (length key_id) = record {
      least = omega (arith, icv_least s);
      most = omega arith;
      is = sym (number_there 2 (flag * 2 ^ 15) 0 [] (bytes_of 1 (number_of s) ++ key_id ++ bytes_of 6 seq_num ++ rest) refl small);
      version = omega arith;
      known = sym (ap suite_of (number_byte s) ∙ number_suite s);
      found = sym
          (ap (λ (x : ℕ). key_id_starting x 3)
          (get_or-append (key_id ++ bytes_of 6 seq_num) rest 0 0 (rw length-append (omega arith)) ∙ get_or-append key_id (bytes_of 6 seq_num) 0 0 some));
      long = w.keyid_length ∙ sym (length_anywhere first 3);
    } in
    let before = bytes_of 2 (flag * 2 ^ 15) ++ bytes_of 1 (number_of s) ++ key_id in
    let number = number_there 6 seq_num (3 + length key_id) before rest (seqnum_place flag s key_id) w.number_small in
    sym (reads begun (omega arith) seq_num (sym number))
    ∙ ap (λ (f : ℕ). Ok (record { flag = f; suite = s; keyid = key_id_starting first 3; seqnum = seq_num })) same
