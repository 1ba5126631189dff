-- What statements on what is counted speak of, each by one name: a history that goes on, the same of calls that were made, and one that an install or a change
-- began.
use Rattle.std.specs.Prelude.{◌≡◌, List, ◌∷◌, ℕ, ◌+◌, length}
use Rattle.octets.specs.Octets.{Bytes}
use Rattle.answers.specs.declared.Answer.{Answer}
use Rattle.window.specs.declared.Frame.{Frame}
use Rattle.window.specs.Counters.{cut}
use Rattle.format.specs.KeyData.{KeyData}
use Rattle.slots.specs.Table.{slot_of, entry_of, table_length}
use Rattle.entries.specs.Install.{done_at}
use Rattle.gateway.specs.Receive.{Received}
use Rattle.promises.specs.Calls.{Call, install, change, run, Trace}
use Rattle.promises.specs.Counted.{Beginning, Message, Told, told_by}
use Rattle.promises.specs.History.{Begins, Unended, GoesOn, nine_or_ten, eleven, answered_in}

-- A history that goes on: it began in a slot of a table, and the calls since then did not end it.
pub record Ongoing : Type 0 where
  pub beginning : Beginning
  pub slot : ℕ
  pub table : List ℕ
  pub calls : List Call
  pub begins : Begins beginning slot table
  pub goes : GoesOn slot table calls

-- the table that it has reached, and what its calls came to
abbrev pub reached : Ongoing → List ℕ
reached h = run h.table h.calls

abbrev pub told_in : Ongoing → List Told
told_in h = told_by h.beginning h.calls

-- The same of calls that were made: of what came back no more is known than that each function's contract allows it, and that it ended nothing.
pub record Made : Type 0 where
  pub beginning : Beginning
  pub slot : ℕ
  pub table : List ℕ
  pub calls : List Call
  pub came : List Received
  pub begins : Begins beginning slot table
  pub made : Trace table calls came
  pub going : Unended slot calls came

-- An install that was made and was answered 0 at a slot, and calls that were made after it and did not end the history there.
pub record MadeInstall : Type 0 where
  pub table : List ℕ
  pub keys : KeyData
  pub frame : Frame
  pub slot : ℕ
  pub first : Received
  pub calls : List Call
  pub came : List Received
  pub long : length table ≡ table_length
  pub bytes : Bytes keys.key_id
  pub made : Trace table (install keys frame ∷ calls) (first ∷ came)
  pub done : first.answer ≡ done_at slot
  pub going : Unended slot calls came

-- The same of a change.
pub record MadeChange : Type 0 where
  pub table : List ℕ
  pub keys : KeyData
  pub frame : Frame
  pub slot : ℕ
  pub first : Received
  pub calls : List Call
  pub came : List Received
  pub long : length table ≡ table_length
  pub bytes : Bytes keys.key_id
  pub made : Trace table (change slot keys frame ∷ calls) (first ∷ came)
  pub done : first.answer ≡ done_at slot
  pub going : Unended slot calls came

-- The counters of an entry, by the answers of calls that do not end its history: those that stood at the beginning, and how many arrivals of it came back
-- with 9 or 10, and with 11, each cut at the limit.
abbrev pub CountersBy : Beginning → ℕ → List ℕ → List Call → List Received → Type 0
CountersBy b i u cs rs =
    ((entry_of (slot_of u i)).counters.replays ≡ cut (b.counters.replays + answered_in b.keys nine_or_ten cs rs))
    × ((entry_of (slot_of u i)).counters.forged ≡ cut (b.counters.forged + answered_in b.keys eleven cs rs))

-- an answer that hands a message out at slot i
pub record Gives (i : ℕ) (a : Answer) (x : Message) : Type 0 where
  pub done : a.reply ≡ 0
  pub slot : a.slot ≡ i
  pub number : a.seqnum ≡ x.number
  pub payload : a.length ≡ x.payload
