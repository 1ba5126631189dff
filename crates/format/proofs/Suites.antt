-- Suites by their numbers and back, and the lengths of their ICVs and labels.
-- Assumes nothing.
use mathlib.Core.Bool.{Bool, true, false, cond}
use mathlib.Core.List.{List, [], ◌∷◌}
use mathlib.Core.Path.{◌≡◌, refl, sym, ap, ◌∙◌}
use Prim.Native.Nat.{ℕ, ◌+◌, ◌%◌, ◌≤◌, ◌<◌}
use native.Mathlib.Nat.{mod-eq_of_lt}
use borrow.Author.Tests.{eqb-true}
use lib.Dec.{eqb, lit<, lit≤}
use lib.ListN.{length}
use Rattle.format.specs.Suite.{number_of, suites, numbered_in, suite_of, icv_length_of, enciphers, label_of, block_length_of}
use Rattle.format.specs.Header.{least_message, fixed_bytes}
use Rattle.format.specs.declared.suite.Suite.{Suite}
use Rattle.format.specs.declared.suite.Suite.TheVariants.{MagmaCtr, MagmaNull, MagmaCtrLong, MagmaNullLong}
use Rattle.std.specs.Prelude.{Some}

-- ---- numbers

pub number_suite : (s : Suite) → suite_of (number_of s) ≡ Some s
unfolding suite_of
number_suite MagmaCtr = refl
number_suite MagmaNull = refl
number_suite MagmaCtrLong = refl
number_suite MagmaNullLong = refl

pub number_lt : (s : Suite) → number_of s < 256
number_lt MagmaCtr = lit< tt
number_lt MagmaNull = lit< tt
number_lt MagmaCtrLong = lit< tt
number_lt MagmaNullLong = lit< tt

pub number_byte : (s : Suite) → number_of s % 256 ≡ number_of s
number_byte s = mod-eq_of_lt (number_lt s)

-- a number's suite has that number
number_in : (ss : List Suite) (cs : ℕ) (s : Suite) → Some s ≡ numbered_in ss cs → number_of s ≡ cs
number_in [] cs s = λ e. cc
number_in (x ∷ xs) cs s = by (number_in xs cs s) (eqb cs (number_of x)) refl
  where
    by : (Some s ≡ numbered_in xs cs → number_of s ≡ cs)
        → (b : Bool) → eqb cs (number_of x) ≡ b → Some s ≡ cond b (Some x) (numbered_in xs cs) → number_of s ≡ cs
    by later true p e = let f : s ≡ x = cc in ap number_of f ∙ sym (eqb-true cs (number_of x) p)
    by later false p e = later e

pub suite_number : (cs : ℕ) (s : Suite) → Some s ≡ suite_of cs → number_of s ≡ cs
unfolding suite_of
suite_number cs s = number_in suites cs s

-- ---- lengths

-- no message that has a header, a KeyId and an ICV is shorter than the least
pub icv_least : (s : Suite) → least_message ≤ fixed_bytes + 1 + icv_length_of s
icv_least MagmaCtr = lit≤ tt
icv_least MagmaNull = lit≤ tt
icv_least MagmaCtrLong = lit≤ tt
icv_least MagmaNullLong = lit≤ tt

-- an ICV is cut from a block
pub icv_most : (s : Suite) → icv_length_of s ≤ block_length_of s
icv_most MagmaCtr = lit≤ tt
icv_most MagmaNull = lit≤ tt
icv_most MagmaCtrLong = lit≤ tt
icv_most MagmaNullLong = lit≤ tt

pub label_length : (s : Suite) → length (label_of s) ≡ 6
label_length s = either (enciphers s)
  where
    either : (b : Bool) → length (cond b (label_of MagmaCtr) (label_of MagmaNull)) ≡ 6
    either true = refl
    either false = refl
