-- 01's listing of an entry ("Numbers on both sides of the edge"): "Each line ends with a line feed. keyid, source, highest, marks are lower-case hex, two
-- digits a byte, highest 12 digits and marks 64; the rest is decimal." 02, No. 2: "The listing gets `start=` in decimal after `size=`." No. 4: "The listing
-- gets `edition=` after `suite=`." No. 8: "The listing ends with `replays=` and `forged=`, in decimal".
use Rattle.std.specs.Prelude.{◌≡◌, cond, List, [], ◌∷◌, ◌++◌, ℕ, ltb, length}
use Rattle.octets.specs.Octets.{bytes_of, put}
use Rattle.text.specs.Text.{decimal_line, hex_line}
use Rattle.answers.specs.Answers.{refused, output_room, output_small, damaged, no_slot}
use Rattle.answers.specs.declared.Answer.{Answer}
use Rattle.slots.specs.Table.{slot_of, flag_of, cs_of, edition_of, key_id_of, source_of, entry_of, is_held}
use Rattle.slots.specs.Record.{undamaged}

-- the names of the lines: slot= flag= keyid= source= suite= edition= size= start= highest= marks= accepted= bytes= replays= forged=
abbrev pub slot_name : List ℕ
slot_name = 115 ∷ 108 ∷ 111 ∷ 116 ∷ 61 ∷ []

abbrev pub flag_name : List ℕ
flag_name = 102 ∷ 108 ∷ 97 ∷ 103 ∷ 61 ∷ []

abbrev pub key_id_name : List ℕ
key_id_name = 107 ∷ 101 ∷ 121 ∷ 105 ∷ 100 ∷ 61 ∷ []

abbrev pub source_name : List ℕ
source_name = 115 ∷ 111 ∷ 117 ∷ 114 ∷ 99 ∷ 101 ∷ 61 ∷ []

abbrev pub suite_name : List ℕ
suite_name = 115 ∷ 117 ∷ 105 ∷ 116 ∷ 101 ∷ 61 ∷ []

abbrev pub edition_name : List ℕ
edition_name = 101 ∷ 100 ∷ 105 ∷ 116 ∷ 105 ∷ 111 ∷ 110 ∷ 61 ∷ []

abbrev pub size_name : List ℕ
size_name = 115 ∷ 105 ∷ 122 ∷ 101 ∷ 61 ∷ []

abbrev pub start_name : List ℕ
start_name = 115 ∷ 116 ∷ 97 ∷ 114 ∷ 116 ∷ 61 ∷ []

abbrev pub highest_name : List ℕ
highest_name = 104 ∷ 105 ∷ 103 ∷ 104 ∷ 101 ∷ 115 ∷ 116 ∷ 61 ∷ []

abbrev pub marks_name : List ℕ
marks_name = 109 ∷ 97 ∷ 114 ∷ 107 ∷ 115 ∷ 61 ∷ []

abbrev pub accepted_name : List ℕ
accepted_name = 97 ∷ 99 ∷ 99 ∷ 101 ∷ 112 ∷ 116 ∷ 101 ∷ 100 ∷ 61 ∷ []

abbrev pub bytes_name : List ℕ
bytes_name = 98 ∷ 121 ∷ 116 ∷ 101 ∷ 115 ∷ 61 ∷ []

abbrev pub replays_name : List ℕ
replays_name = 114 ∷ 101 ∷ 112 ∷ 108 ∷ 97 ∷ 121 ∷ 115 ∷ 61 ∷ []

abbrev pub forged_name : List ℕ
forged_name = 102 ∷ 111 ∷ 114 ∷ 103 ∷ 101 ∷ 100 ∷ 61 ∷ []

-- ---- the listing

-- which entry it is
unfoldable pub named_lines : ℕ → List ℕ → List ℕ
named_lines i s =
    decimal_line slot_name i ++ decimal_line flag_name (flag_of s) ++ hex_line key_id_name (key_id_of s) ++ hex_line source_name (source_of s)

-- what else an install settled
unfoldable pub term_lines : List ℕ → List ℕ
term_lines s =
    decimal_line suite_name (cs_of s)
    ++ decimal_line edition_name (edition_of s)
    ++ decimal_line size_name (entry_of s).window.frame.size
    ++ decimal_line start_name (entry_of s).window.frame.start

-- what the accepted messages moved
unfoldable pub moved_lines : List ℕ → List ℕ
moved_lines s =
    hex_line highest_name (bytes_of 6 (entry_of s).window.highest)
    ++ hex_line marks_name (bytes_of 32 (entry_of s).window.marks)
    ++ decimal_line accepted_name (entry_of s).accepted
    ++ decimal_line bytes_name (entry_of s).bytes

-- how many were turned away
unfoldable pub counter_lines : List ℕ → List ℕ
counter_lines s = decimal_line replays_name (entry_of s).counters.replays ++ decimal_line forged_name (entry_of s).counters.forged

abbrev pub listing_of : ℕ → List ℕ → List ℕ
listing_of i s = named_lines i s ++ term_lines s ++ moved_lines s ++ counter_lines s

-- what listing leaves in the output
pub record Listed : Type 0 where
  pub answer : Answer
  pub out : List ℕ

-- what a contract says: the answer, and the output that was lent, are those
pub record IsListed (l : Listed) (answer : Answer) (out : List ℕ) : Type 0 where
  pub answers : answer ≡ l.answer
  pub writes : out ≡ l.out

-- 1: output buffer under 2,048 bytes; 16: slot over 15, or free; 7: record damaged. Done, it answers the text's length and the slot.
unfoldable pub listed : List ℕ → ℕ → List ℕ → Listed
listed t i out =
    cond (ltb (length out) output_room) (record { answer = refused output_small; out = out })
    (cond (is_held t i)
    (cond (undamaged (slot_of t i))
    (record { answer = record { reply = 0; length = length (listing_of i (slot_of t i)); slot = i; seqnum = 0 }; out = put out 0 (listing_of i (slot_of t i)) })
    (record { answer = refused damaged; out = out }))
    (record { answer = refused no_slot; out = out }))
