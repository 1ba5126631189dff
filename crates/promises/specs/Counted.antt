-- What is counted (demand 3): "count a message of that entry if it is genuine, came with room, is not below the floor of the highest number
-- counted before, and no counted message had its number." It is told by where the history began and by the calls since then. No table is
-- among the arguments, so no mark, highest number, total or counter of a table can enter. And what is turned away (02, No. 8): "Demand 3 gains them, each
-- defined from the history, cut at that limit".
use Rattle.std.specs.Prelude.{Bool, true, false, cond, not, ◌&&◌, ◌||◌, List, [], ◌∷◌, map, ℕ, ◌+◌, max, eqb, ltb, length, Err, Ok, Result}
use Rattle.answers.specs.Answers.{output_room}
use Rattle.octets.specs.Octets.{same}
use Rattle.window.specs.Window.{floor_at, floor_of, marked}
use Rattle.window.specs.declared.Frame.{Frame}
use Rattle.window.specs.Counters.{cut, none_refused}
use Rattle.window.specs.declared.Counters.{Counters}
use Rattle.window.specs.Entry.{Entry}
use Rattle.format.specs.KeyData.{KeyData}
use Rattle.format.specs.Suite.{number_of}
use Rattle.format.specs.Header.{seq_num_in, read_of, payload_length, key_id_bytes}
use Rattle.message.specs.Sealing.{right}
use Rattle.format.specs.declared.header.Header.{Header}
use Rattle.promises.specs.Calls.{Call, arrival, install, remove, change, load}
use Rattle.format.specs.declared.header.HeaderError.{HeaderError}

-- ---- where a history begins

-- the entry's key data and frame, and what stood there before the first call: its highest number, which numbers were used, its totals and its counters
pub record Beginning : Type 0 where
  pub keys : KeyData
  pub frame : Frame
  pub highest : ℕ
  pub used : ℕ → Bool
  pub accepted : ℕ
  pub bytes : ℕ
  pub counters : Counters

-- an install's: "A fresh entry has highest 0, no mark, totals 0." A change's is the same (02, No. 7: "demand 3 reads it as a removal and an install")
abbrev pub fresh : KeyData → Frame → Beginning
fresh k f = record { keys = k; frame = f; highest = 0; used = λ n. false; accepted = 0; bytes = 0; counters = none_refused }

-- that of any entry: used is what is marked, and all below its floor. So it is after a load, with the listed window, totals and counters (02, No. 6: "A load
-- begins a new history: demand 3's totals start from the listed ones, and listed marks and numbers below the listed floor count as used.")
abbrev pub standing : KeyData → Entry → Beginning
standing k e = record {
  keys = k;
  frame = e.window.frame;
  highest = e.window.highest;
  used = λ n. ltb n (floor_of e.window) || marked e.window n;
  accepted = e.accepted;
  bytes = e.bytes;
  counters = e.counters;
}

-- ---- what calls came to

-- a message by its number and its payload's length
pub record Message : Type 0 where
  pub number : ℕ
  pub payload : ℕ

-- what a call comes to for the entry
pub data Told : Type 0 where
  -- nothing: no arrival, no room, no header that can be read, not of the entry, or of another suite
  apart : Told
  -- its number is below the floor
  below : Told
  -- its number was used
  used : Told
  -- its ICV is wrong
  forged : Told
  -- it is counted
  new : Message → Told

-- What the calls so far came to is the past, the latest first. The messages counted in it, and their numbers:
abbrev pub messages : List Told → List Message
messages [] = []
messages (apart ∷ past) = messages past
messages (below ∷ past) = messages past
messages (used ∷ past) = messages past
messages (forged ∷ past) = messages past
messages (new x ∷ past) = x ∷ messages past

abbrev pub numbers_of : List Message → List ℕ
numbers_of = map (λ (x : Message). x.number)

abbrev pub numbers : List Told → List ℕ
numbers past = numbers_of (messages past)

-- the highest of some numbers, 0 where there is none; and whether a number is one of them
abbrev pub highest_of : List ℕ → ℕ
highest_of [] = 0
highest_of (n ∷ ns) = max (highest_of ns) n

abbrev pub is_in : ℕ → List ℕ → Bool
is_in n [] = false
is_in n (m ∷ ms) = eqb n m || is_in n ms

-- ---- what was turned away

-- refused with 9 or 10; and with 11
abbrev pub is_replay : Told → Bool
is_replay apart = false
is_replay below = true
is_replay used = true
is_replay forged = false
is_replay (new x) = false

abbrev pub is_forgery : Told → Bool
is_forgery apart = false
is_forgery below = false
is_forgery used = false
is_forgery forged = true
is_forgery (new x) = false

-- how many calls of a past came to that
abbrev pub how_many : (Told → Bool) → List Told → ℕ
how_many is [] = 0
how_many is (w ∷ past) = how_many is past + cond (is w) 1 0

-- the counters after a past: those of the beginning and how many were turned away since then, "cut at that limit"
abbrev pub counters_since : Beginning → List Told → Counters
counters_since b past =
    record { replays = cut (b.counters.replays + how_many is_replay past); forged = cut (b.counters.forged + how_many is_forgery past) }

-- ---- a number after a past

-- "the highest number counted before", or the one that stood at the beginning, where that is higher
abbrev pub highest_since : Beginning → List Told → ℕ
highest_since b past = max b.highest (highest_of (numbers past))

-- "below the floor of the highest number counted before"; "Demand 3's floor is this one" (02, No. 2), with the start of the frame in it
abbrev pub is_below : Beginning → List Told → ℕ → Bool
is_below b past n = ltb n (floor_at b.frame (highest_since b past))

-- a "counted message had its number", or it was used at the beginning
abbrev pub is_used : Beginning → List Told → ℕ → Bool
is_used b past n = is_in n (numbers past) || b.used n

-- ---- what a call comes to after a past

-- "A message is of the entry that it leads to": it has the entry's flag and KeyId bytes and, for flag 1, came with its SourceIdentifier
abbrev pub is_of : KeyData → Header → List ℕ → List ℕ → Bool
is_of k h message source = eqb k.flag h.flag && same k.key_id (key_id_bytes h message) && (eqb h.flag 0 || same k.source source)

-- three tests in receive's order: whether the number is below the floor, whether it was used, and whether the ICV is right
abbrev pub tested : Bool → Bool → Bool → Message → Told
tested true met icv x = below
tested false true icv x = used
tested false false false x = forged
tested false false true x = new x

-- an arrival with room, by its header: a message of the entry, and of its suite, is tested
abbrev pub told_of : Beginning → List Told → Result Header HeaderError → List ℕ → List ℕ → Told
told_of b past (Ok h) message source =
    cond (is_of b.keys h message source && eqb b.keys.suite (number_of h.suite))
    (tested (is_below b past h.seqnum) (is_used b past h.seqnum) (right h b.keys message)
    (record { number = h.seqnum; payload = payload_length h message }))
    apart
told_of b past (Err why) message source = apart

abbrev pub told : Beginning → List Told → Call → Told
told b past (arrival message source out) = cond (ltb (length out) output_room) apart (told_of b past (read_of message) message source)
told b past (install k f) = apart
told b past (remove i) = apart
told b past (change i k f) = apart
told b past (load text) = apart

-- the past after further calls, and after all calls since the beginning
abbrev pub told_from : Beginning → List Told → List Call → List Told
told_from b past [] = past
told_from b past (c ∷ cs) = told_from b (told b past c ∷ past) cs

abbrev pub told_by : Beginning → List Call → List Told
told_by b cs = told_from b [] cs

-- all that is counted
abbrev pub counted : Beginning → List Call → List Message
counted b cs = messages (told_by b cs)

-- ---- the demand's sentence, which says the same of a call (`counted_words`)

-- "It is genuine if none of replies 2, 3, 4, 5, 6 and 8 fits it and its ICV is right under that entry's key; the window plays no part."
abbrev pub is_genuine : KeyData → Result Header HeaderError → List ℕ → List ℕ → Bool
is_genuine k (Ok h) message source = is_of k h message source && eqb k.suite (number_of h.suite) && right h k message
is_genuine k (Err why) message source = false

-- "if it is genuine, came with room, is not below the floor of the highest number counted before, and no counted message had its number"
abbrev pub is_counted : Beginning → List Told → Call → Bool
is_counted b past (arrival message source out) =
    is_genuine b.keys (read_of message) message source
    && not (ltb (length out) output_room)
    && not (is_below b past (seq_num_in message))
    && not (is_used b past (seq_num_in message))
is_counted b past (install k f) = false
is_counted b past (remove i) = false
is_counted b past (change i k f) = false
is_counted b past (load text) = false

abbrev pub is_new : Told → Bool
is_new apart = false
is_new below = false
is_new used = false
is_new forged = false
is_new (new x) = true
