-- What a message's header is read as: each refusal by its own test, and the header.
-- Assumes nothing.
use mathlib.Core.Bool.{cond}
use mathlib.Core.Path.{◌≡◌}
use mathlib.Core.List.{List}
use Prim.Native.Nat.{ℕ, ◌+◌, ◌/◌, ◌%◌, ◌^◌, ◌≤◌, ◌<◌}
use native.Mathlib.Omega.{arith}
use borrow.Author.Tests.{lt-ltb, le-ltb, eq-eqb, ne_eqb}
use lib.Dec.{eqb}
use lib.ListN.{length, drop}
use Rattle.octets.specs.Octets.{big_endian}
use Rattle.format.specs.KeyId.{length_of}
use Rattle.format.specs.Suite.{suite_of, icv_length_of}
use Rattle.format.specs.Header.{least_message, greatest_message, fixed_bytes, cs_in, key_id_in, read_as, read_of}
use Rattle.format.specs.declared.key_id.KeyId.{KeyId}
use Rattle.format.specs.declared.suite.Suite.{Suite}
use Rattle.std.specs.Prelude.{Err, None, Ok, Option, Some}
use Rattle.format.specs.declared.header.HeaderError.TheVariants.{BadLength, BadVersion, BadSuite, TooShort}

pub reads_short : (m : List ℕ) → length m < least_message → Err BadLength ≡ read_of m
unfolding read_of
reads_short m h = simp (lt-ltb (length m) least_message h)

pub reads_long : (m : List ℕ) → greatest_message < length m → Err BadLength ≡ read_of m
unfolding read_of
reads_long m h = simp (le-ltb (length m) least_message (omega arith), lt-ltb greatest_message (length m) h)

-- the length is right, and `front` is the number of the first two bytes
module _ (m : List ℕ) (least : least_message ≤ length m) (most : length m ≤ greatest_message) (front : ℕ) (is : front ≡ big_endian 2 m) where
  by_version : cond (eqb (front % 2 ^ 15) 0) (read_as (suite_of (cs_in m)) m) (Err BadVersion) ≡ read_of m
  unfolding read_of
  by_version = simp (le-ltb (length m) least_message least, le-ltb greatest_message (length m) most, is)

  pub reads_version : (front % 2 ^ 15 ≡ 0 → ⊥) → Err BadVersion ≡ read_of m
  reads_version h = rw (← by_version, ne_eqb (front % 2 ^ 15) 0 h)

  by_suite : front % 2 ^ 15 ≡ 0 → (n : Option Suite) → n ≡ suite_of (cs_in m) → read_as n m ≡ read_of m
  by_suite version n e = rw (← by_version, eq-eqb (front % 2 ^ 15) 0 version, e)

  pub reads_suite : front % 2 ^ 15 ≡ 0 → None ≡ suite_of (cs_in m) → Err BadSuite ≡ read_of m
  reads_suite version e = by_suite version None e

-- what is known of a message whose KeyId is found: `front` is the number of the first two bytes, l the KeyId's length
pub record Begun (m : List ℕ) (front : ℕ) (s : Suite) (keyid : KeyId) (l : ℕ) : Type 0 where
  pub least : least_message ≤ length m
  pub most : length m ≤ greatest_message
  pub is : front ≡ big_endian 2 m
  pub version : front % 2 ^ 15 ≡ 0
  pub known : Some s ≡ suite_of (cs_in m)
  pub found : keyid ≡ key_id_in m
  pub long : l ≡ length_of keyid

by_known : {m : List ℕ} {front : ℕ} {s : Suite} {keyid : KeyId} {l : ℕ} → Begun m front s keyid l → read_as (Some s) m ≡ read_of m
by_known {m} {front} {s} b = by_suite m b.least b.most front b.is b.version (Some s) b.known

pub reads_too_short : {m : List ℕ} {front : ℕ} {s : Suite} {keyid : KeyId} {l : ℕ} → Begun m front s keyid l
    → length m < 3 + l + 6 + icv_length_of s → Err TooShort ≡ read_of m
reads_too_short {m} {front} {s} {keyid} {l} b h =
    rw (← by_known b, ← b.found, ← b.long, lt-ltb (length m) (fixed_bytes + l + icv_length_of s) (omega arith))

pub reads : {m : List ℕ} {front : ℕ} {s : Suite} {keyid : KeyId} {l : ℕ} → Begun m front s keyid l
    → 3 + l + 6 + icv_length_of s ≤ length m → (seqnum : ℕ) → seqnum ≡ big_endian 6 (drop (3 + l) m)
    → Ok (record { flag = front / 2 ^ 15; suite = s; keyid = keyid; seqnum = seqnum }) ≡ read_of m
reads {m} {front} {s} {keyid} {l} b h seqnum e =
    rw (← by_known b, ← b.found, ← b.long, le-ltb (length m) (fixed_bytes + l + icv_length_of s) (omega arith), e, b.is)
