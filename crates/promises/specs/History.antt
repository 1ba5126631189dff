-- Demand 3, of a slot of a table: "Exactly the counted messages are handed out, and after each call the entry's two totals are how many
-- different numbers were counted and the sum of their payload lengths"; and its two counters how many arrivals it refused with 9 or 10, and with
-- 11, cut at their limit (02, No. 8). A history begins with any undamaged entry, a fresh one or one that has a past, and goes on until the entry is
-- removed or changed, or takes a listing.
use Rattle.std.specs.Prelude.{◌≡◌, Bool, true, false, cond, ◌&&◌, ◌||◌, List, [], ◌∷◌, ℕ, ◌+◌, ◌≤◌, ◌<◌, eqb, length, take, drop, Err, Ok, Result, Some}
use Rattle.std.proofs.Math.Option.{some}
use Rattle.answers.specs.Answers.{output_room, other_suite, below_floor, repeated, wrong_icv}
use Rattle.answers.specs.declared.Answer.{Answer}
use Rattle.octets.specs.Octets.{Bytes}
use Rattle.window.specs.Window.{floor_of, marked}
use Rattle.window.specs.Counters.{one_replay, one_forgery}
use Rattle.window.specs.declared.Counters.{Counters}
use Rattle.window.specs.Entry.{Entry, taken, counting}
use Rattle.format.specs.Header.{read_of}
use Rattle.format.specs.KeyData.{KeyData}
use Rattle.format.specs.declared.header.Header.{Header}
use Rattle.slots.specs.Table.{slot_of, window_of, entry_of, key_data_of, counters_of, settled_in, raised_in, slot_count, table_length, replays_at, forged_at, spare_at}
use Rattle.slots.specs.Record.{undamaged}
use Rattle.lookup.specs.Lookup.{leads_to}
use Rattle.entries.specs.Install.{is_fair}
use Rattle.form.specs.Form.{Listing, listing_in}
use Rattle.gateway.specs.Receive.{Received}
use Rattle.promises.specs.Calls.{Call, arrival, install, remove, change, load, OfBytes, called, run, results, is_done}
use Rattle.promises.specs.Counted.{Beginning, Message, Told, apart, below, used, forged, new, messages, numbers_of, numbers, is_in, counters_since, highest_since, is_of, told}
use Rattle.format.specs.declared.header.HeaderError.{HeaderError}

-- ---- where a history begins in a table

-- Slot i holds the beginning's entry, undamaged, and messages of its key data lead there. How it came there is not asked.
pub record Begins (b : Beginning) (i : ℕ) (t : List ℕ) : Type 0 where
  pub long : length t ≡ table_length
  pub keys : key_data_of (slot_of t i) ≡ b.keys
  pub leads : leads_to t b.keys.flag b.keys.key_id b.keys.source ≡ Some i
  pub unharmed : undamaged (slot_of t i) ≡ true
  pub frame : (window_of (slot_of t i)).frame ≡ b.frame
  pub highest : (window_of (slot_of t i)).highest ≡ b.highest
  -- below the floor nothing is marked, and whether a number was used is not asked
  pub used : (n : ℕ) → floor_of (window_of (slot_of t i)) ≤ n → marked (window_of (slot_of t i)) n ≡ b.used n
  pub accepted : (entry_of (slot_of t i)).accepted ≡ b.accepted
  pub bytes : (entry_of (slot_of t i)).bytes ≡ b.bytes
  pub counters : (entry_of (slot_of t i)).counters ≡ b.counters

-- ---- how long it goes on, by what came back

-- "a removed entry's history is over": a removal that is done at slot i ends it, and so do a load there, which "begins a new history" (02, No. 6), and
-- a change, which demand 3 reads "as a removal and an install" (02, No. 7); one that is refused does not
abbrev pub ends : ℕ → Call → Answer → Bool
ends i (arrival message source out) a = false
ends i (install k f) a = false
ends i (remove j) a = is_done i a
ends i (change j k f) a = is_done i a
ends i (load text) a = is_done i a

-- calls of bytes, none of which ended it
abbrev pub Unended : ℕ → List Call → List Received → Type 0
Unended i (c ∷ cs) (r ∷ rs) = OfBytes c × (ends i c r.answer ≡ false) × Unended i cs rs
Unended i (c ∷ cs) [] = ⊥
Unended i [] rs = Unit {0}

abbrev pub GoesOn : ℕ → List ℕ → List Call → Type 0
GoesOn i t cs = Unended i cs (results t cs)

-- calls of bytes of which none asks for the removal or a change of slot i, or has its listing, do not end it in any table (`spared`)
abbrev pub Spares : ℕ → Call → Type 0
Spares i (arrival message source out) = Unit {0}
Spares i (install k f) = Unit {0}
Spares i (remove j) = j ≡ i → ⊥
Spares i (change j k f) = j ≡ i → ⊥
Spares i (load text) = (l : Listing) → listing_in text ≡ some l → l.settled.named.slot ≡ i → ⊥

abbrev pub SpareAll : ℕ → List Call → Type 0
SpareAll i [] = Unit {0}
SpareAll i (c ∷ cs) = OfBytes c × Spares i c × SpareAll i cs

-- ---- what calls hand out at slot i, by their answers

-- at most one message
pub data Handed : Type 0 where
  nothing : Handed
  one : Message → Handed

abbrev pub answered : ℕ → Call → Answer → Handed
answered i (arrival message source out) a = cond (is_done i a) (one (record { number = a.seqnum; payload = a.length })) nothing
answered i (install k f) a = nothing
answered i (remove j) a = nothing
answered i (change j k f) a = nothing
answered i (load text) a = nothing

abbrev pub handed : ℕ → List ℕ → Call → Handed
handed i t c = answered i c (called t c).answer

-- a message is added to those before it, the latest first; and all that several calls handed out, after what was handed out before
abbrev pub noted : List Message → Handed → List Message
noted past nothing = past
noted past (one x) = x ∷ past

abbrev pub handed_by : ℕ → List Message → List Call → List Received → List Message
handed_by i past (c ∷ cs) (r ∷ rs) = handed_by i (noted past (answered i c r.answer)) cs rs
handed_by i past (c ∷ cs) [] = past
handed_by i past [] rs = past

-- no number of a message that was handed out in one place is among the numbers that were handed out in another
abbrev pub NotAgain : List Message → List Message → Type 0
NotAgain first second = (n : ℕ) → is_in n (numbers_of first) ≡ true → is_in n (numbers_of second) ≡ false

-- ---- what is told of a call settles what is handed out and what is replied

-- what is counted is handed out
abbrev pub counted_of : Told → Handed
counted_of apart = nothing
counted_of below = nothing
counted_of used = nothing
counted_of forged = nothing
counted_of (new x) = one x

-- the reply to a message of the entry that comes with room and has a header that can be read
abbrev pub reply_to : Told → ℕ
reply_to apart = other_suite
reply_to below = below_floor
reply_to used = repeated
reply_to forged = wrong_icv
reply_to (new x) = 0

-- whether a message of the entry comes with a header that can be read
abbrev pub is_mine : KeyData → Result Header HeaderError → List ℕ → List ℕ → Bool
is_mine k (Ok h) message source = is_of k h message source
is_mine k (Err why) message source = false

-- whether a call is an arrival of the entry that came back with a reply that passes a test; how many of several calls are; and the tests of the two
-- counters
abbrev pub is_answered : KeyData → (ℕ → Bool) → Call → Answer → Bool
is_answered k test (arrival message source out) a = is_mine k (read_of message) message source && test a.reply
is_answered k test (install other f) a = false
is_answered k test (remove j) a = false
is_answered k test (change j other f) a = false
is_answered k test (load text) a = false

abbrev pub answered_in : KeyData → (ℕ → Bool) → List Call → List Received → ℕ
answered_in k test (c ∷ cs) (r ∷ rs) = cond (is_answered k test c r.answer) 1 0 + answered_in k test cs rs
answered_in k test (c ∷ cs) [] = 0
answered_in k test [] rs = 0

abbrev pub nine_or_ten : ℕ → Bool
nine_or_ten reply = eqb reply below_floor || eqb reply repeated

abbrev pub eleven : ℕ → Bool
eleven reply = eqb reply wrong_icv

-- ---- what is told of a call settles what it leaves of the slot, to the byte

-- nothing moves; one counter has one more; or window and totals take the message
abbrev pub slot_by : Told → List ℕ → List ℕ
slot_by apart s = s
slot_by below s = raised_in replays_at s
slot_by used s = raised_in replays_at s
slot_by forged s = raised_in forged_at s
slot_by (new x) s = settled_in (taken (entry_of s) x.number x.payload) s

-- the same of its counters, and of its entry
abbrev pub counters_by : Told → Counters → Counters
counters_by apart c = c
counters_by below c = one_replay c
counters_by used c = one_replay c
counters_by forged c = one_forgery c
counters_by (new x) c = c

abbrev pub entry_by : Told → Entry → Entry
entry_by apart e = e
entry_by below e = counting e (counters_by below e.counters)
entry_by used e = counting e (counters_by used e.counters)
entry_by forged e = counting e (counters_by forged e.counters)
entry_by (new x) e = taken e x.number x.payload

-- every byte of a slot stays but for those of its counters, and these do not fall; and so in every slot of a table
pub record ButCounters (s other : List ℕ) : Type 0 where
  pub before : take replays_at other ≡ take replays_at s
  pub behind : drop spare_at other ≡ drop spare_at s
  pub replays : (counters_of s).replays ≤ (counters_of other).replays
  pub forged : (counters_of s).forged ≤ (counters_of other).forged

pub record TableButCounters (t u : List ℕ) : Type 0 where
  pub long : length u ≡ table_length
  pub slots : (i : ℕ) → i < slot_count → ButCounters (slot_of t i) (slot_of u i)

-- ---- demand 3

-- the different numbers of a list, each once; and the sum of payload lengths
abbrev pub different : List ℕ → List ℕ
different [] = []
different (n ∷ ns) = cond (is_in n ns) (different ns) (n ∷ different ns)

abbrev pub total : List Message → ℕ
total [] = 0
total (x ∷ xs) = total xs + x.payload

-- Slot i of a table accounts for the past.
pub record Accounts (b : Beginning) (i : ℕ) (t : List ℕ) (past : List Told) : Type 0 where
  -- exactly what is counted is handed out at the slot by the next call
  pub exactly : (c : Call) → OfBytes c → handed i t c ≡ counted_of (told b past c)
  -- a message of the entry that comes with room and has a header that can be read meets the reply that is told
  pub replies : (message source out : List ℕ) → Bytes message → output_room ≤ length out → (h : Header) → read_of message ≡ Ok h
      → is_of b.keys h message source ≡ true → (called t (arrival message source out)).answer.reply ≡ reply_to (told b past (arrival message source out))
  -- the totals: what stood there, and how many different numbers were counted, and the sum of their payload lengths
  pub accepted : (entry_of (slot_of t i)).accepted ≡ b.accepted + length (different (numbers past))
  pub bytes : (entry_of (slot_of t i)).bytes ≡ b.bytes + total (messages past)
  -- the counters: what stood there, and how many arrivals were refused with 9 or 10, and with 11, cut at the limit
  pub replays : (entry_of (slot_of t i)).counters.replays ≡ (counters_since b past).replays
  pub forged : (entry_of (slot_of t i)).counters.forged ≡ (counters_since b past).forged
  -- no number was counted twice
  pub once : different (numbers past) ≡ numbers past
  pub highest : (window_of (slot_of t i)).highest ≡ highest_since b past
  -- key data and frame stay, and the record is undamaged
  pub keys : key_data_of (slot_of t i) ≡ b.keys
  pub frame : (window_of (slot_of t i)).frame ≡ b.frame
  pub unharmed : undamaged (slot_of t i) ≡ true

-- ---- two gateways

-- Two tables do the same for an entry in slot i: its window, totals and counters are the same, and the next call hands out the same there; and a message of it
-- is answered alike and leaves the same in the output.
pub record SameFor (k : KeyData) (i : ℕ) (t u : List ℕ) : Type 0 where
  pub entries : entry_of (slot_of t i) ≡ entry_of (slot_of u i)
  pub hands : (c : Call) → OfBytes c → handed i t c ≡ handed i u c
  pub answers : (message source out : List ℕ) → Bytes message → (h : Header) → read_of message ≡ Ok h → is_of k h message source ≡ true
      → let a = called t (arrival message source out) in let b = called u (arrival message source out) in (a.answer ≡ b.answer) × (a.out ≡ b.out)

-- No change of slot i to sound data is asked for: whether such a one is refused hangs on the names in the other slots, which two tables need not share.
abbrev pub NoChangeOf : ℕ → Call → Type 0
NoChangeOf i (arrival message source out) = Unit {0}
NoChangeOf i (install k f) = Unit {0}
NoChangeOf i (remove j) = Unit {0}
NoChangeOf i (change j k f) = j ≡ i → is_fair k f ≡ false
NoChangeOf i (load text) = Unit {0}

abbrev pub Unchanged : ℕ → List Call → Type 0
Unchanged i [] = Unit {0}
Unchanged i (c ∷ cs) = NoChangeOf i c × Unchanged i cs

-- A gateway with table u resumes what one with table t would have gone on with: the calls es do not end the entry's history here, after them both do the same
-- for the entry, and what they handed out at it is the same.
pub record Resumed (k : KeyData) (i : ℕ) (t u : List ℕ) (es : List Call) : Type 0 where
  pub goes : GoesOn i u es
  pub same : SameFor k i (run t es) (run u es)
  pub hands : handed_by i [] es (results t es) ≡ handed_by i [] es (results u es)
