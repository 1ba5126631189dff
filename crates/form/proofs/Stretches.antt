-- The stretches of a listing as readings in a row: each of four lines or of two, what an install settled of two stretches, what is by the arrivals of two,
-- and the text of both.
-- Assumes nothing.
use mathlib.Core.Path.{◌≡◌, refl}
use mathlib.Core.List.{List, [], ◌∷◌}
use mathlib.Core.Option.{none, some}
use Prim.Native.Nat.{ℕ, ◌≤◌}
use lib.ListN.{length, drop, drop_of_length-le}
use Rattle.octets.specs.Octets.{big_endian, same}
use Rattle.text.specs.Reading.{Read, failed, got, read_decimal_line, read_hex_line, read_bytes_line, read_number_line}
use Rattle.window.specs.declared.Counters.{Counters}
use Rattle.listing.specs.Listing.{slot_name, flag_name, key_id_name, source_name, suite_name, edition_name, size_name, start_name, highest_name, marks_name, accepted_name, bytes_name, replays_name, forged_name}
use Rattle.form.specs.Form.{NamedValues, SettledValues, MovedValues, ArrivalValues, read_named, read_terms, read_settled, read_moved, read_counters, read_arrivals, listing_in}
use Rattle.form.specs.declared.values.TermLines.{TermLines}
use Rattle.form.proofs.Chains.{four, two}

-- ---- the lines

abbrev pub slot_line : List ℕ → Read ℕ
slot_line = read_decimal_line slot_name

abbrev pub flag_line : List ℕ → Read ℕ
flag_line = read_decimal_line flag_name

abbrev pub keyid_line : List ℕ → Read (List ℕ)
keyid_line = read_hex_line key_id_name

abbrev pub source_line : List ℕ → Read (List ℕ)
source_line = read_hex_line source_name

abbrev pub suite_line : List ℕ → Read ℕ
suite_line = read_decimal_line suite_name

abbrev pub edition_line : List ℕ → Read ℕ
edition_line = read_decimal_line edition_name

abbrev pub size_line : List ℕ → Read ℕ
size_line = read_decimal_line size_name

abbrev pub start_line : List ℕ → Read ℕ
start_line = read_decimal_line start_name

abbrev pub highest_line : List ℕ → Read ℕ
highest_line = read_number_line highest_name 6

abbrev pub marks_line : List ℕ → Read (List ℕ)
marks_line = read_bytes_line marks_name 32

abbrev pub accepted_line : List ℕ → Read ℕ
accepted_line = read_decimal_line accepted_name

abbrev pub bytes_line : List ℕ → Read ℕ
bytes_line = read_decimal_line bytes_name

abbrev pub replays_line : List ℕ → Read ℕ
replays_line = read_decimal_line replays_name

abbrev pub forged_line : List ℕ → Read ℕ
forged_line = read_decimal_line forged_name

-- ---- four lines each

abbrev pub named_of : ℕ → ℕ → List ℕ → List ℕ → NamedValues
named_of slot flag key_id source = record { slot = slot; flag = flag; key_id = key_id; source = source }

abbrev pub terms_of : ℕ → ℕ → ℕ → ℕ → TermLines
terms_of suite edition size start = record { suite = suite; edition = edition; frame = record { size = size; start = start } }

abbrev pub moved_of : ℕ → List ℕ → ℕ → ℕ → MovedValues
moved_of highest marks accepted bytes = record { highest = highest; marks = big_endian 32 marks; accepted = accepted; bytes = bytes }

pub named_four : (l : List ℕ) → read_named l ≡ four slot_line flag_line keyid_line source_line named_of l
unfolding read_named
named_four l = refl

pub terms_four : (l : List ℕ)
    → read_terms l ≡ four suite_line edition_line size_line start_line terms_of l
unfolding read_terms
terms_four l = refl

pub moved_four : (l : List ℕ)
    → read_moved l ≡ four highest_line marks_line accepted_line bytes_line moved_of l
unfolding read_moved
moved_four l = refl

-- ---- two each

abbrev pub counters_from : ℕ → ℕ → Counters
counters_from replays forged = record { replays = replays; forged = forged }

abbrev pub settled_from : NamedValues → TermLines → SettledValues
settled_from named terms = record { named = named; terms = terms }

abbrev pub arrivals_from : MovedValues → Counters → ArrivalValues
arrivals_from moved counters = record { moved = moved; counters = counters }

pub counters_two : (l : List ℕ) → read_counters l ≡ two replays_line forged_line counters_from l
unfolding read_counters
counters_two l = refl

pub settled_two : (l : List ℕ) → read_settled l ≡ two read_named read_terms settled_from l
unfolding read_settled
settled_two l = refl

pub arrivals_two : (l : List ℕ) → read_arrivals l ≡ two read_moved read_counters arrivals_from l
unfolding read_arrivals
arrivals_two l = refl

-- none in a text that has ended
pub named_past : (text : List ℕ) (at : ℕ) → length text ≤ at → read_named (drop at text) ≡ failed
unfolding read_named read_decimal_line same
named_past text at h = rw (drop_of_length-le text {i = at} h)

pub moved_past : (text : List ℕ) (at : ℕ) → length text ≤ at → read_moved (drop at text) ≡ failed
unfolding read_moved read_number_line read_bytes_line read_hex_line same
moved_past text at h = rw (drop_of_length-le text {i = at} h)

-- ---- the text

module _ (text : List ℕ) where
  pub no_settled : read_settled text ≡ failed → listing_in text ≡ none
  unfolding listing_in
  no_settled e = rw e

  module _ {v : SettledValues} {l : List ℕ} (e : read_settled text ≡ got v l) where
    pub no_arrivals : read_arrivals l ≡ failed → listing_in text ≡ none
    unfolding listing_in
    no_arrivals f = rw (e, f)

    pub text_read : {a : ArrivalValues} → read_arrivals l ≡ got a [] → listing_in text ≡ some (record { settled = v; arrivals = a })
    unfolding listing_in
    text_read f = rw (e, f)

    pub more_behind : (a : ArrivalValues) (m : List ℕ) → read_arrivals l ≡ got a m → (m ≡ [] → ⊥) → listing_in text ≡ none
    unfolding listing_in
    more_behind a [] f some_left = absurd (some_left refl)
    more_behind a (c ∷ m) f some_left = rw (e, f)
