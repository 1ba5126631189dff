-- A capture read on a table (02, No. 1): "Each readable record is an arrival, in file order", and "one line a record: `record=` (counted from
-- 1), `answer=`, `payload=` in lower-case hex, empty unless the answer is 0, separated by one space".
use Rattle.std.specs.Prelude.{◌≡◌, Bool, false, cond, List, [], ◌∷◌, ◌++◌, ℕ, suc, ◌+◌, eqb, ltb, length, take, replicate, is_some, Result, Ok, Err}
use Rattle.answers.specs.Answers.{output_room, output_small, bad_capture, cut_short, refusal_number}
use Rattle.answers.specs.declared.Refusal.{Refusal}
use Rattle.octets.specs.Octets.{put}
use Rattle.text.specs.Text.{decimal_field, hex_line}
use Rattle.capture.specs.Capture.{Item, order_of, records_of}
use Rattle.gateway.specs.Receive.{Received, received}
use Rattle.feed.specs.declared.Done.{Done}
use Rattle.feed.specs.declared.Summary.{Summary}

-- ---- a record

-- what a record comes to: the reply, the payload, which is empty unless the reply is 0, and the table after it
pub record Turn : Type 0 where
  pub reply : ℕ
  pub payload : List ℕ
  pub table : List ℕ

-- the output that is lent to each arrival: 2,048 zeros
abbrev pub blank : List ℕ
blank = replicate output_room 0

-- what an arrival brings: a refusal's length is 0
abbrev pub brought_by : Received → Turn
brought_by r = record { reply = r.answer.reply; payload = take r.answer.length r.out; table = r.table }

-- a record that can be read is an arrival; another one leaves the table
unfoldable pub turn_of : List ℕ → Item → Turn
turn_of t r = cond (eqb r.reply 0) (brought_by (received t r.message r.source blank)) (record { reply = r.reply; payload = []; table = t })

-- ---- lines

-- "record=", " answer=" and " payload="
abbrev pub record_name : List ℕ
record_name = 114 ∷ 101 ∷ 99 ∷ 111 ∷ 114 ∷ 100 ∷ 61 ∷ []

abbrev pub answer_name : List ℕ
answer_name = 32 ∷ 97 ∷ 110 ∷ 115 ∷ 119 ∷ 101 ∷ 114 ∷ 61 ∷ []

abbrev pub payload_name : List ℕ
payload_name = 32 ∷ 112 ∷ 97 ∷ 121 ∷ 108 ∷ 111 ∷ 97 ∷ 100 ∷ 61 ∷ []

unfoldable pub line_of : ℕ → ℕ → List ℕ → List ℕ
line_of n reply payload = decimal_field record_name n ++ decimal_field answer_name reply ++ hex_line payload_name payload

-- the line of what a record comes to
abbrev pub line_for : ℕ → Turn → List ℕ
line_for n u = line_of n u.reply u.payload

-- what a contract says of a record that is taken: where its line ends, and the table and the output that were lent
pub record IsTold (u : Turn) (n at : ℕ) (before : List ℕ) (end : ℕ) (table out : List ℕ) : Type 0 where
  pub ends : end ≡ at + length (line_for n u)
  pub leaves : table ≡ u.table
  pub writes : out ≡ put before at (line_for n u)

-- ---- the records of a file, one after the other

-- the lines, the first of them with number n; and the table at the end
abbrev pub lines_from : ℕ → List ℕ → List Item → List ℕ
lines_from n t [] = []
lines_from n t (r ∷ rs) = line_for n (turn_of t r) ++ lines_from (suc n) (turn_of t r).table rs

abbrev pub table_after : List ℕ → List Item → List ℕ
table_after t [] = t
table_after t (r ∷ rs) = table_after (turn_of t r).table rs

-- whether the last record is one of 18; `before` where there is none
abbrev pub ends_cut : Bool → List Item → Bool
ends_cut before [] = before
ends_cut before (r ∷ rs) = ends_cut (eqb r.reply cut_short) rs

-- ---- a report

-- bytes that the output has to have
abbrev pub text_room : ℕ
text_room = 131072

-- what a report leaves
pub record Reported : Type 0 where
  pub answer : Summary
  pub table : List ℕ
  pub out : List ℕ

-- what a contract says: the answer, and the table and the output that were lent, are those
pub record IsReported (r : Reported) (answer : Summary) (table out : List ℕ) : Type 0 where
  pub answers : answer ≡ r.answer
  pub leaves : table ≡ r.table
  pub writes : out ≡ r.out

abbrev pub refused : ℕ → Summary
refused reply = record { reply = reply; length = 0; records = 0; cut = false }

-- what C sees of an outcome: 0 and what was written, or the refusal's number
abbrev pub summary_of : Result Done Refusal → Summary
summary_of (Ok done) = record { reply = 0; length = done.length; records = done.records; cut = done.cut }
summary_of (Err refusal) = refused (refusal_number refusal)

-- some records are read: the text, how many they are, and whether the last is cut
unfoldable pub read_in : List Item → List ℕ → List ℕ → Reported
read_in rs t out = record {
  answer = record { reply = 0; length = length (lines_from 1 t rs); records = length rs; cut = ends_cut false rs };
  table = table_after t rs;
  out = put out 0 (lines_from 1 t rs);
}

-- 1: output too small; 17: header or size bad
unfoldable pub reported : List ℕ → List ℕ → List ℕ → Reported
reported t file out =
    cond (ltb (length out) text_room) (record { answer = refused output_small; table = t; out = out })
    (cond (is_some (order_of file)) (read_in (records_of file) t out) (record { answer = refused bad_capture; table = t; out = out }))
