-- The order of a file's numbers: none by each test of the header, and there where none fits.
-- Assumes nothing.
use mathlib.Core.Path.{◌≡◌, refl}
use mathlib.Core.Bool.{Bool, true, false, cond, not}
use mathlib.Core.List.{List}
use Prim.Native.Nat.{ℕ, ◌≤◌, ◌<◌}
use borrow.Author.Tests.{lt-ltb, le-ltb, ltb-false, eq-eqb, ne_eqb}
use lib.ListN.{length, drop}
use Rattle.std.specs.Prelude.{Option, Some, None, is_some}
use Rattle.numbers.proofs.Tests.{neither_left, neither_right}
use Rattle.octets.specs.Octets.{big_endian}
use Rattle.capture.specs.Capture.{little_endian, number_in, header_length, longest_file, magic_of, is_bad, order_of, order_number, order_numbered}
use Rattle.capture.specs.declared.order.Order.{Order}
use Rattle.capture.specs.declared.order.Order.TheVariants.{HighFirst, LowFirst}

module _ (file : List ℕ) where
  -- ---- the magic number

  pub high_first : big_endian 4 file ≡ 0xa1b2c3d4 → Some HighFirst ≡ magic_of file
  unfolding magic_of
  high_first e = rw (eq-eqb (big_endian 4 file) 0xa1b2c3d4 e)

  module _ (other : big_endian 4 file ≡ 0xa1b2c3d4 → ⊥) where
    pub low_first : little_endian 4 file ≡ 0xa1b2c3d4 → Some LowFirst ≡ magic_of file
    unfolding magic_of
    low_first e = rw (ne_eqb (big_endian 4 file) 0xa1b2c3d4 other, eq-eqb (little_endian 4 file) 0xa1b2c3d4 e)

    pub no_magic : (little_endian 4 file ≡ 0xa1b2c3d4 → ⊥) → None ≡ magic_of file
    unfolding magic_of
    no_magic e = rw (ne_eqb (big_endian 4 file) 0xa1b2c3d4 other, ne_eqb (little_endian 4 file) 0xa1b2c3d4 e)

  -- ---- the header

  pub too_short : length file < header_length → None ≡ order_of file
  unfolding order_of
  too_short h = by (magic_of file)
    where
      by : (o : Option Order) → None ≡ cond (is_bad o file) None o
      by (Some o) = rw (lt-ltb (length file) header_length h)
      by None = refl

  module _ (least : header_length ≤ length file) where
    pub too_long : longest_file < length file → None ≡ order_of file
    unfolding order_of
    too_long h = by (magic_of file)
      where
        by : (o : Option Order) → None ≡ cond (is_bad o file) None o
        by (Some o) = rw (le-ltb (length file) header_length least, lt-ltb longest_file (length file) h)
        by None = refl

    pub no_order : None ≡ magic_of file → None ≡ order_of file
    unfolding order_of
    no_order e = rw (← e)

    module _ (most : length file ≤ longest_file) (o : Order) (magic : Some o ≡ magic_of file) where
      pub other_major : (number_in o 2 (drop 4 file) ≡ 2 → ⊥) → None ≡ order_of file
      unfolding order_of
      other_major d =
          rw (← magic, le-ltb (length file) header_length least, le-ltb longest_file (length file) most, ne_eqb (number_in o 2 (drop 4 file)) 2 d)

      module _ (major : number_in o 2 (drop 4 file) ≡ 2) where
        pub other_minor : (number_in o 2 (drop 6 file) ≡ 4 → ⊥) → None ≡ order_of file
        unfolding order_of
        other_minor d =
            rw (← magic, le-ltb (length file) header_length least, le-ltb longest_file (length file) most, major, ne_eqb (number_in o 2 (drop 6 file)) 4 d)

        module _ (minor : number_in o 2 (drop 6 file) ≡ 4) where
          pub other_link : (number_in o 4 (drop 20 file) ≡ 147 → ⊥) → None ≡ order_of file
          unfolding order_of
          other_link d =
              rw (← magic, le-ltb (length file) header_length least, le-ltb longest_file (length file) most, major, minor, ne_eqb (number_in o 4 (drop 20 file)) 147 d)

          pub known : number_in o 4 (drop 20 file) ≡ 147 → Some o ≡ order_of file
          unfolding order_of
          known e = rw (← magic, le-ltb (length file) header_length least, le-ltb longest_file (length file) most, major, minor, e)

-- a file that has an order has a size that is read
pub known_size : (file : List ℕ) {o : Order} → Some o ≡ order_of file → (header_length ≤ length file) × (length file ≤ longest_file)
unfolding order_of
known_size file {o} is = by (magic_of file) is
  where
    at_least : (p : Order) → is_bad (Some p) file ≡ false → (header_length ≤ length file) × (length file ≤ longest_file)
    at_least p e = (ltb-false (length file) header_length (search (neither_left, neither_right)), ltb-false longest_file (length file) (search (neither_left, neither_right)))

    sized : (p : Order) (bad : Bool) → is_bad (Some p) file ≡ bad → Some o ≡ cond bad None (Some p) → (header_length ≤ length file) × (length file ≤ longest_file)
    sized p true e is = absurd (cc)
    sized p false e is = at_least p e

    by : (p : Option Order) → Some o ≡ cond (is_bad p file) None p → (header_length ≤ length file) × (length file ≤ longest_file)
    by (Some p) is = sized p (is_bad (Some p) file) refl is
    by None is = absurd (cc)

-- there is an order unless the header is bad
pub known_unless_bad : (file : List ℕ) → is_some (order_of file) ≡ not (is_bad (magic_of file) file)
unfolding order_of
known_unless_bad file = by (magic_of file)
  where
    either_way : (bad : Bool) (o : Order) → is_some (cond bad None (Some o)) ≡ not bad
    either_way true o = refl
    either_way false o = refl

    by : (o : Option Order) → is_some (cond (is_bad o file) None o) ≡ not (is_bad o file)
    by (Some o) = either_way (is_bad (Some o) file) o
    by None = refl

-- ---- orders by number

pub order_back : (o : Option Order) → order_numbered (order_number o) ≡ o
unfolding order_numbered
order_back (Some HighFirst) = refl
order_back (Some LowFirst) = refl
order_back None = refl

pub other_number : (n : ℕ) → (n ≡ 1 → ⊥) → (n ≡ 2 → ⊥) → None ≡ order_numbered n
unfolding order_numbered
other_number n one two = rw (ne_eqb n 1 one, ne_eqb n 2 two)
