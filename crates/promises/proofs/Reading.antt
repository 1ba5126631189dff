-- What is said of a header that may not be readable is said by the tests of replies 2, 3, 4 and 5, in that order, and else by what was read.
-- Assumes nothing.
use mathlib.Core.Path.{◌≡◌, refl}
use mathlib.Core.Bool.{Bool, true, false, cond, not, ◌||◌}
use mathlib.Core.List.{List}
use Prim.Native.Nat.{ℕ}
use lib.Dec.{eqb, ltb}
use lib.ListN.{length}
use Rattle.format.specs.Suite.{suite_of}
use Rattle.format.specs.Header.{flag_in, version_in, cs_in, key_id_in, seq_num_in, read_of, read_as, least_message, greatest_message}
use Rattle.format.specs.declared.header.Header.{Header}
use Rattle.format.specs.declared.suite.Suite.{Suite}
use Rattle.promises.specs.Replies.{of_suite, is_short}
use Rattle.std.specs.Prelude.{Err, None, Ok, Option, Result, Some, is_some}
use Rattle.format.specs.declared.header.HeaderError.{HeaderError}
use Rattle.format.specs.declared.header.HeaderError.TheVariants.{BadLength, BadVersion, BadSuite, TooShort}

-- the header of a message of a suite
abbrev pub header_in : Suite → List ℕ → Header
header_in s m = record { flag = flag_in m; suite = s; keyid = key_id_in m; seqnum = seq_num_in m }

module _ {A : Type 0} (says : Result Header HeaderError → A) (m : List ℕ) (rest : A)
    (read : (s : Suite) → Some s ≡ suite_of (cs_in m) → read_of m ≡ Ok (header_in s m) → says (Ok (header_in s m)) ≡ rest) where
  abbrev short : Option Suite → Bool
  short n = of_suite (is_short m) n

  by_tests : (b v : Bool) (n : Option Suite) → read_of m ≡ cond b (Err BadLength) (cond v (read_as n m) (Err BadVersion)) → n ≡ suite_of (cs_in m)
      → says (cond b (Err BadLength) (cond v (read_as n m) (Err BadVersion)))
      ≡ cond b (says (Err BadLength)) (cond (not v) (says (Err BadVersion)) (cond (not (is_some n)) (says (Err BadSuite)) (cond (short n) (says (Err TooShort)) rest)))
  by_tests true v n e q = refl
  by_tests false false n e q = refl
  by_tests false true None e q = refl
  by_tests false true (Some s) e q = by (short (Some s)) e
    where
      by : (c : Bool) → read_of m ≡ cond c (Err TooShort) (Ok (header_in s m)) → says (cond c (Err TooShort) (Ok (header_in s m))) ≡ cond c (says (Err TooShort)) rest
      by true e = refl
      by false e = read s q e

  pub said_by_tests : says (read_of m)
      ≡ cond (ltb (length m) least_message || ltb greatest_message (length m)) (says (Err BadLength))
      (cond (not (eqb (version_in m) 0)) (says (Err BadVersion))
      (cond (not (is_some (suite_of (cs_in m)))) (says (Err BadSuite))
      (cond (short (suite_of (cs_in m))) (says (Err TooShort)) rest)))
  unfolding read_of
  said_by_tests = by_tests (ltb (length m) least_message || ltb greatest_message (length m)) (eqb (version_in m) 0) (suite_of (cs_in m)) refl refl
