-- A message whose header was read has room for the header and the ICV, is no longer than 2048 bytes, and carries the number that was read.
-- Assumes nothing.
use mathlib.Core.Bool.{Bool, true, false, cond, ◌||◌}
use mathlib.Core.List.{List}
use mathlib.Core.Path.{◌≡◌, refl, subst}
use Prim.Native.Nat.{ℕ, ◌+◌, ◌-◌, ◌^◌, ◌≤◌, ◌<◌}
use native.Mathlib.Omega.{arith}
use borrow.Author.Tests.{ltb-false}
use lib.Dec.{eqb, ltb}
use lib.ListN.{length, drop}
use Rattle.numbers.proofs.Tests.{neither_right}
use Rattle.octets.specs.Octets.{Bytes}
use Rattle.octets.proofs.BigEndian.{bytes_drop, number_lt}
use Rattle.format.specs.KeyId.{length_of}
use Rattle.format.specs.Suite.{suite_of, icv_length_of}
use Rattle.format.specs.Header.{least_message, greatest_message, fixed_bytes, flag_in, version_in, cs_in, key_id_in, seq_num_in, read_as, read_of, payload_length}
use Rattle.format.specs.declared.header.Header.{Header}
use Rattle.format.proofs.KeyIds.{length_least}
use Rattle.format.proofs.Suites.{icv_least}
use Rattle.std.specs.Prelude.{Err, None, Ok, Option, Result, Some}
use Rattle.format.specs.declared.header.HeaderError.{HeaderError}
use Rattle.format.specs.declared.header.HeaderError.TheVariants.{BadLength, BadVersion, BadSuite, TooShort}
use Rattle.format.specs.declared.suite.Suite.{Suite}

pub record Room (m : List ℕ) (h : Header) : Type 0 where
  pub short : length m ≤ greatest_message
  pub enough : fixed_bytes + length_of h.keyid + icv_length_of h.suite ≤ length m
  pub number : h.seqnum ≡ seq_num_in m

-- a choice that came out as a header did not come out as a refusal
refused : (why : HeaderError) (h : Header) → ◌≡◌ {A = Result Header HeaderError} (Err why) (Ok h) → ⊥
refused why h e = cc

not_first : (b : Bool) (why : HeaderError) (y : Result Header HeaderError) (h : Header) → cond b (Err why) y ≡ Ok h → (b ≡ false) × (y ≡ Ok h)
not_first true why y h e = absurd (refused why h e)
not_first false why y h e = (refl, e)

module _ (m : List ℕ) (h : Header) where
  -- what of it the last test tells
  abbrev Told : Header → Type 0
  Told g = (fixed_bytes + length_of g.keyid + icv_length_of g.suite ≤ length m) × (g.seqnum ≡ seq_num_in m)

  as_known : (n : Option Suite) → read_as n m ≡ Ok h → Told h
  as_known None e = absurd (refused BadSuite h e)
  as_known (Some s) e =
      let read : Header = record { flag = flag_in m; suite = s; keyid = key_id_in m; seqnum = seq_num_in m } in
      let long = fixed_bytes + length_of (key_id_in m) + icv_length_of s in
      let r = not_first (ltb (length m) long) TooShort (Ok read) h e in
      let same : Ok read ≡ Ok h = r.1 in
      let is : read ≡ h = cc in
      subst Told is (ltb-false (length m) long r.0, refl)

  of_version : (b : Bool) → cond b (read_as (suite_of (cs_in m)) m) (Err BadVersion) ≡ Ok h → Told h
  of_version true e = as_known (suite_of (cs_in m)) e
  of_version false e = absurd (refused BadVersion h e)

pub read_room : (m : List ℕ) {h : Header} → read_of m ≡ Ok h → Room m h
unfolding read_of
read_room m {h} e =
    let version = cond (eqb (version_in m) 0) (read_as (suite_of (cs_in m)) m) (Err BadVersion) in
    let r = not_first (ltb (length m) least_message || ltb greatest_message (length m)) BadLength version h e in
    let told = of_version m h (eqb (version_in m) 0) r.1 in
    record {
      short = ltb-false greatest_message (length m) (neither_right (ltb (length m) least_message) (ltb greatest_message (length m)) r.0);
      enough = told.0;
      number = told.1;
    }

module _ {m : List ℕ} {h : Header} (r : Room m h) where
  -- "payloads have at most 2,039 − L − T bytes": 2,034 with the shortest KeyId and ICV
  pub payload_most : payload_length h m ≤ greatest_message - least_message
  payload_most = omega (arith, r.short, icv_least h.suite, length_least h.keyid)

  pub number_small : Bytes m → h.seqnum < 2 ^ 48
  number_small b =
      let at = 3 + length_of (key_id_in m) in
      rw r.number (number_lt 6 (drop at m) (bytes_drop at m b))
