-- Bytes in hex of a given count, and the number that they write.
-- Assumes nothing.
use mathlib.Core.Path.{◌≡◌}
use mathlib.Core.List.{List}
use Prim.Native.Nat.{ℕ}
use borrow.Author.Tests.{eq-eqb, ne_eqb}
use lib.ListN.{length}
use Rattle.octets.specs.Octets.{big_endian}
use Rattle.text.specs.Reading.{failed, got, read_hex_line, read_bytes_line, read_number_line}

module _ (name l : List ℕ) (n : ℕ) where
  pub none_read : read_hex_line name l ≡ failed → read_bytes_line name n l ≡ failed
  unfolding read_bytes_line
  none_read e = rw e

  pub other_count : {u rest : List ℕ} → read_hex_line name l ≡ got u rest → (length u ≡ n → ⊥) → read_bytes_line name n l ≡ failed
  unfolding read_bytes_line
  other_count {u} {rest} e h = rw (e, ne_eqb (length u) n h)

  pub this_count : {u rest : List ℕ} → read_hex_line name l ≡ got u rest → length u ≡ n → read_bytes_line name n l ≡ got u rest
  unfolding read_bytes_line
  this_count {u} {rest} e h = rw (e, eq-eqb (length u) n h)

  pub number_fails : read_bytes_line name n l ≡ failed → read_number_line name n l ≡ failed
  unfolding read_number_line
  number_fails e = rw e

  pub a_number : {u rest : List ℕ} → read_bytes_line name n l ≡ got u rest → read_number_line name n l ≡ got (big_endian n u) rest
  unfolding read_number_line
  a_number e = rw e
