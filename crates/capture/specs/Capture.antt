-- Captures (02, No. 1): "classic pcap of up to 65,536 bytes: the 24-byte header in either byte order, microsecond magic a1b2c3d4, version 2.4,
-- link type 147; then records with their 16-byte headers. A record's data is one byte with the length of the SourceIdentifier, the
-- identifier, then the message." All of it is said of the list of the file's bytes, and nothing of tables or of text.
use Rattle.std.specs.Prelude.{Bool, true, cond, not, ◌||◌, List, [], ◌∷◌, ℕ, zero, suc, ◌+◌, ◌-◌, ◌*◌, eqb, ltb, length, get_or, drop, Option, Some, None}
use Rattle.answers.specs.Answers.{bad_capture, cut_short, lengths_differ, unreadable}
use Rattle.octets.specs.Octets.{big_endian, part}
use Rattle.capture.specs.declared.order.Order.{Order}
use Rattle.capture.specs.declared.order.Order.TheVariants.{HighFirst, LowFirst}
use Rattle.capture.specs.declared.record.Record.{Record}

-- ---- numbers in a file

-- the number that the first n bytes of a list write, the first byte the lowest
unfoldable pub little_endian : ℕ → List ℕ → ℕ
little_endian zero bytes = 0
little_endian (suc n) bytes = little_endian n (drop 1 bytes) * 256 + get_or bytes 0 0

abbrev pub number_in : Order → ℕ → List ℕ → ℕ
number_in HighFirst n bytes = big_endian n bytes
number_in LowFirst n bytes = little_endian n bytes

-- ---- the header

-- bytes of a file's header, of the longest file, and of a record's header
abbrev pub header_length : ℕ
header_length = 24

abbrev pub longest_file : ℕ
longest_file = 65536

abbrev pub record_length : ℕ
record_length = 16

-- "the 24-byte header in either byte order, microsecond magic a1b2c3d4": the order in which the first four bytes are that number
unfoldable pub magic_of : List ℕ → Option Order
magic_of file =
    cond (eqb (big_endian 4 file) 0xa1b2c3d4) (Some HighFirst) (cond (eqb (little_endian 4 file) 0xa1b2c3d4) (Some LowFirst) None)

-- "17 header bad or file size outside 24 to 65,536"; version and link type are read in the file's order, and a header that has none is bad;
-- "Other header fields are not looked at."
abbrev pub is_bad : Option Order → List ℕ → Bool
is_bad (Some o) file =
    ltb (length file) header_length
    || ltb longest_file (length file)
    || not (eqb (number_in o 2 (drop 4 file)) 2)
    || not (eqb (number_in o 2 (drop 6 file)) 4)
    || not (eqb (number_in o 4 (drop 20 file)) 147)
is_bad None file = true

-- the order of a file's numbers; none where that is 17
unfoldable pub order_of : List ℕ → Option Order
order_of file = cond (is_bad (magic_of file) file) None (magic_of file)

-- the orders by number, for C
abbrev pub order_number : Option Order → ℕ
order_number (Some HighFirst) = 1
order_number (Some LowFirst) = 2
order_number None = bad_capture

unfoldable pub order_numbered : ℕ → Option Order
order_numbered n = cond (eqb n 1) (Some HighFirst) (cond (eqb n 2) (Some LowFirst) None)

-- ---- a record

-- what stands for a reply where nothing is left
abbrev pub nothing_left : ℕ
nothing_left = 255

-- a record that brings nothing, and the place after it
abbrev pub without : ℕ → ℕ → Record
without reply next = record { reply = reply; source = next; message = next; next = next }

-- the bytes from a place on; the captured and the original length in a record's header
abbrev pub left_at : List ℕ → ℕ → ℕ
left_at file at = length file - at

abbrev pub captured_at : Order → List ℕ → ℕ → ℕ
captured_at o file at = number_in o 4 (drop (at + 8) file)

abbrev pub original_at : Order → List ℕ → ℕ → ℕ
original_at o file at = number_in o 4 (drop (at + 12) file)

-- "18 record header or data runs past the end"
abbrev pub is_cut : Order → List ℕ → ℕ → Bool
is_cut o file at = ltb (left_at file at) record_length || ltb (left_at file (at + record_length)) (captured_at o file at)

-- "20 record empty, or identifier runs past the record", of data from a place to the next record
abbrev pub is_unreadable : List ℕ → ℕ → ℕ → Bool
is_unreadable file at next = eqb at next || ltb next (at + 1 + get_or file at 0)

-- "one byte with the length of the SourceIdentifier, the identifier, then the message"
unfoldable pub data_at : List ℕ → ℕ → ℕ → Record
data_at file at next =
    cond (is_unreadable file at next) (without unreadable next)
    (record { reply = 0; source = at + 1; message = at + 1 + get_or file at 0; next = next })

-- "within a record in the order 18, 19, 20"; after 18 nothing more is read, so the place after it is the file's end
unfoldable pub ordered_at : Order → List ℕ → ℕ → Record
ordered_at o file at =
    cond (eqb (left_at file at) 0) (without nothing_left (length file))
    (cond (is_cut o file at) (without cut_short (length file))
    (let next = at + record_length + captured_at o file at in
    cond (eqb (captured_at o file at) (original_at o file at)) (data_at file (at + record_length) next) (without lengths_differ next)))

-- of a file whose numbers have no order there is no record
abbrev pub record_at : Option Order → List ℕ → ℕ → Record
record_at (Some o) file at = ordered_at o file at
record_at None file at = without bad_capture (length file)

-- ---- the records of a file

-- a record by its reply and by what it brings, which is nothing unless the reply is 0
pub record Item : Type 0 where
  pub reply : ℕ
  pub source : List ℕ
  pub message : List ℕ

abbrev pub item_of : List ℕ → Record → Item
item_of file r = record {
  reply = r.reply;
  source = part r.source (r.message - r.source) file;
  message = part r.message (r.next - r.message) file;
}

-- the records from a place on, n of them at most
unfoldable pub records_in : ℕ → Order → List ℕ → ℕ → List Item
records_in zero o file at = []
records_in (suc n) o file at = cond (ltb at (length file)) (item_of file (ordered_at o file at) ∷ records_in n o file (ordered_at o file at).next) []

-- all of them: a file has fewer records than bytes
abbrev pub records_from : Order → List ℕ → ℕ → List Item
records_from o file at = records_in (length file) o file at

-- "the records of a file": none where its header is bad
abbrev pub records_by : Option Order → List ℕ → List Item
records_by (Some o) file = records_from o file header_length
records_by None file = []

abbrev pub records_of : List ℕ → List Item
records_of file = records_by (order_of file) file
