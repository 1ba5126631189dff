-- The text that a load reads (02, No. 6): "the entry part of 01's listing, from `slot=` to `bytes=`, as input, strictly in the printed order, each line
-- ended by a line feed, no spaces, no leading zeros in decimals, no decimal over 2^64 − 1, hex as printed (`highest` 12 digits, `marks` 64, `keyid` and
-- `source` any even count, 0 too)." No. 8: "The listing ends with `replays=` and `forged=`, in decimal, and loading takes them over." The names of the lines
-- are the listing's own.
use Rattle.std.specs.Prelude.{List, [], ◌∷◌, ℕ}
use Rattle.std.proofs.Math.Option.{Option, none, some}
use Rattle.octets.specs.Octets.{big_endian}
use Rattle.text.specs.Reading.{Read, failed, got, and_then, read_decimal_line, read_hex_line, read_bytes_line, read_number_line}
use Rattle.window.specs.declared.Counters.{Counters}
use Rattle.listing.specs.Listing.{slot_name, flag_name, key_id_name, source_name, suite_name, edition_name, size_name, start_name, highest_name, marks_name, accepted_name, bytes_name, replays_name, forged_name}
use Rattle.form.specs.declared.values.TermLines.{TermLines}

-- which entry it is
pub record NamedValues : Type 0 where
  pub slot : ℕ
  pub flag : ℕ
  pub key_id : List ℕ
  pub source : List ℕ

-- with what else an install settled
pub record SettledValues : Type 0 where
  pub named : NamedValues
  pub terms : TermLines

-- what the accepted messages moved
pub record MovedValues : Type 0 where
  pub highest : ℕ
  pub marks : ℕ
  pub accepted : ℕ
  pub bytes : ℕ

-- with how many were turned away
pub record ArrivalValues : Type 0 where
  pub moved : MovedValues
  pub counters : Counters

pub record Listing : Type 0 where
  pub settled : SettledValues
  pub arrivals : ArrivalValues

-- ---- line by line

unfoldable pub read_named : List ℕ → Read NamedValues
read_named text =
    and_then (read_decimal_line slot_name text) λ slot l₁.
    and_then (read_decimal_line flag_name l₁) λ flag l₂.
    and_then (read_hex_line key_id_name l₂) λ key_id l₃.
    and_then (read_hex_line source_name l₃) λ source l₄.
    got (record { slot = slot; flag = flag; key_id = key_id; source = source }) l₄

unfoldable pub read_terms : List ℕ → Read TermLines
read_terms text =
    and_then (read_decimal_line suite_name text) λ suite l₁.
    and_then (read_decimal_line edition_name l₁) λ edition l₂.
    and_then (read_decimal_line size_name l₂) λ size l₃.
    and_then (read_decimal_line start_name l₃) λ start l₄.
    got (record { suite = suite; edition = edition; frame = record { size = size; start = start } }) l₄

unfoldable pub read_settled : List ℕ → Read SettledValues
read_settled text =
    and_then (read_named text) λ named l₁.
    and_then (read_terms l₁) λ terms l₂.
    got (record { named = named; terms = terms }) l₂

-- two digits a byte: 6 bytes of highest, 32 of marks
unfoldable pub read_moved : List ℕ → Read MovedValues
read_moved text =
    and_then (read_number_line highest_name 6 text) λ highest l₁.
    and_then (read_bytes_line marks_name 32 l₁) λ marks l₂.
    and_then (read_decimal_line accepted_name l₂) λ accepted l₃.
    and_then (read_decimal_line bytes_name l₃) λ bytes l₄.
    got (record { highest = highest; marks = big_endian 32 marks; accepted = accepted; bytes = bytes }) l₄

unfoldable pub read_counters : List ℕ → Read Counters
read_counters text =
    and_then (read_decimal_line replays_name text) λ replays l₁.
    and_then (read_decimal_line forged_name l₁) λ forged l₂.
    got (record { replays = replays; forged = forged }) l₂

unfoldable pub read_arrivals : List ℕ → Read ArrivalValues
read_arrivals text =
    and_then (read_moved text) λ moved l₁.
    and_then (read_counters l₁) λ counters l₂.
    got (record { moved = moved; counters = counters }) l₂

-- ---- the text

-- nothing stands behind the last line
abbrev pub at_end : Read Listing → Option Listing
at_end failed = none
at_end (got listing []) = some listing
at_end (got listing (c ∷ left)) = none

unfoldable pub listing_in : List ℕ → Option Listing
listing_in text =
    at_end (and_then (read_settled text) λ settled l₁. and_then (read_arrivals l₁) λ arrivals l₂. got (record { settled = settled; arrivals = arrivals }) l₂)
