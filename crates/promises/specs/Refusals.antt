-- What a refusal leaves: it answers its number with length, slot and SeqNum 0, and changes nothing; but for 9, 10 and 11 of an arrival, which change one
-- counter.
use Rattle.std.specs.Prelude.{◌≡◌, ◌⊎◌, true, List, [], ℕ, ◌+◌, ◌*◌, ◌≤◌, ◌<◌, drop, length, Ok, Some}
use Rattle.octets.specs.Octets.{big_endian, part}
use Rattle.answers.specs.Answers.{refused, output_room}
use Rattle.answers.specs.declared.Answer.{Answer}
use Rattle.window.specs.Counters.{one_more}
use Rattle.format.specs.Header.{read_of, key_id_bytes}
use Rattle.format.specs.declared.header.Header.{Header}
use Rattle.slots.specs.Table.{slot_of, raised, slot_length, table_length}
use Rattle.slots.specs.Record.{undamaged}
use Rattle.lookup.specs.Lookup.{leads_to}
use Rattle.entries.specs.Install.{Left}
use Rattle.listing.specs.Listing.{Listed}
use Rattle.gateway.specs.Receive.{Received, counter_of}
use Rattle.capture.specs.Capture.{item_of}
use Rattle.capture.specs.declared.record.Record.{Record}
use Rattle.feed.specs.Report.{turn_of, Reported}
use Rattle.feed.specs.Report.{refused as unread}
use Rattle.sender.specs.Protect.{Outcome}
use Rattle.sender.specs.declared.Sender.{Sender}

-- What is said of a call: where its reply is a refusal, the answer is that number with zeros, and something is kept.
pub record OnRefusal (answer : Answer) (Kept : Type 0) : Type 0 where
  pub refusal : (answer.reply ≡ 0 → ⊥) → (answer ≡ refused answer.reply) × Kept

-- ---- receive

-- a refusal that a slot counts: the message leads there, its counter has one more or stays at its limit, and no other byte of the table moves
pub record OneCounter (t m source out : List ℕ) (reply : ℕ) (table : List ℕ) : Type 0 where
  pub header : Header
  pub slot : ℕ
  pub room : output_room ≤ length out
  pub read : read_of m ≡ Ok header
  pub found : leads_to t header.flag (key_id_bytes header m) source ≡ Some slot
  pub unharmed : undamaged (slot_of t slot) ≡ true
  pub leaves : table ≡ raised t slot (counter_of reply)
  pub counter : length t ≡ table_length → let at = slot_length * slot + counter_of reply in big_endian 8 (drop at table) ≡ one_more (big_endian 8 (drop at t))
  pub elsewhere : length t ≡ table_length → let at = slot_length * slot + counter_of reply in
      (b n : ℕ) → b + n ≤ table_length → (b + n ≤ at) ⊎ (at + 8 ≤ b) → part b n table ≡ part b n t

-- any refusal leaves the output; 1 to 8 leave the table; 9, 10 and 11 count
pub record Keeps (t m source out : List ℕ) (r : Received) : Type 0 where
  pub refusal : (r.answer.reply ≡ 0 → ⊥) → (r.answer ≡ refused r.answer.reply) × (r.out ≡ out)
  pub keeps : (r.answer.reply ≡ 0 → ⊥) → r.answer.reply < 9 → r.table ≡ t
  pub counts : 9 ≤ r.answer.reply → OneCounter t m source out r.answer.reply r.table

-- ---- install, remove, change and load; listing; protect

-- the table stays
abbrev pub Stays : List ℕ → Left → Type 0
Stays t l = OnRefusal l.answer (l.table ≡ t)

-- the output stays
abbrev pub Unwritten : List ℕ → Listed → Type 0
Unwritten out l = OnRefusal l.answer (l.out ≡ out)

-- the number and the output stay
abbrev pub Holds : Sender → List ℕ → Outcome → Type 0
Holds s out o = OnRefusal o.answer ((o.current ≡ s.current) × (o.out ≡ out))

-- ---- captures

-- a report that is refused leaves table and output
pub record Unread (t out : List ℕ) (r : Reported) : Type 0 where
  pub refusal : (r.answer.reply ≡ 0 → ⊥) → (r.answer ≡ unread r.answer.reply) × (r.table ≡ t) × (r.out ≡ out)

-- a record that cannot be read has neither source nor message, and is no call: the table stays
pub record Barren (t file : List ℕ) (r : Record) : Type 0 where
  pub brings : (r.reply ≡ 0 → ⊥) → ((item_of file r).source ≡ []) × ((item_of file r).message ≡ []) × ((turn_of t (item_of file r)).table ≡ t)
