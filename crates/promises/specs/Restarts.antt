-- A restart: run calls, print, restart, run further calls.
use Rattle.std.specs.Prelude.{◌≡◌, List, [], ◌∷◌, ℕ, ◌≤◌, length, take}
use Rattle.octets.specs.Octets.{Bytes}
use Rattle.answers.specs.Answers.{output_room}
use Rattle.window.specs.declared.Frame.{Frame}
use Rattle.format.specs.KeyData.{KeyData}
use Rattle.slots.specs.Table.{slot_of, table_length}
use Rattle.entries.specs.Install.{done_at, installed}
use Rattle.listing.specs.Listing.{listed, listing_of}
use Rattle.gateway.specs.Receive.{Received}
use Rattle.promises.specs.Calls.{Call, install, load, after, run, last_of}
use Rattle.promises.specs.Counted.{fresh, counted}
use Rattle.promises.specs.Histories.{Ongoing, reached}
use Rattle.promises.specs.History.{Begins, GoesOn, handed_by, SameFor}

-- A gateway installs key data with a frame in a table, makes calls, and lists the entry into an output with room. Another gateway installs the same in a table
-- of its own, is answered with the same slot, and makes calls that count nothing there.
pub record Restart : Type 0 where
  pub keys : KeyData
  pub frame : Frame
  pub slot : ℕ
  pub table : List ℕ
  pub calls : List Call
  pub out : List ℕ
  pub other_table : List ℕ
  pub other_calls : List Call
  pub keyid : Bytes keys.key_id
  pub source : Bytes keys.source
  pub long : length table ≡ table_length
  pub installs : (installed table keys frame).answer ≡ done_at slot
  pub goes : GoesOn slot (after table (install keys frame)) calls
  pub room : output_room ≤ length out
  pub other_long : length other_table ≡ table_length
  pub other_installs : (installed other_table keys frame).answer ≡ done_at slot
  pub other_goes : GoesOn slot (after other_table (install keys frame)) other_calls
  pub other_counts_nothing : counted (fresh keys frame) other_calls ≡ []

-- the table of the gateway that never stopped, and what it printed
abbrev pub lasting : Restart → List ℕ
lasting r = run r.table (install r.keys r.frame ∷ r.calls)

abbrev pub printed : Restart → List ℕ
printed r = let p = listed (lasting r) r.slot r.out in take p.answer.length p.out

-- the table of the other gateway before it loads that, and after
abbrev pub waiting : Restart → List ℕ
waiting r = run r.other_table (install r.keys r.frame ∷ r.other_calls)

abbrev pub resumed : Restart → List ℕ
resumed r = after (waiting r) (load (printed r))

-- ---- from any beginning

-- Where a history goes on, an entry with a KeyId and a source of bytes; and another gateway that has a fresh entry of the same data in the same slot, and whose
-- calls, which do not end that, count nothing there.
pub record Standby (h : Ongoing) : Type 0 where
  pub keyid : Bytes h.beginning.keys.key_id
  pub source : Bytes h.beginning.keys.source
  pub table : List ℕ
  pub calls : List Call
  pub begins : Begins (fresh h.beginning.keys h.beginning.frame) h.slot table
  pub goes : GoesOn h.slot table calls
  pub counts_nothing : counted (fresh h.beginning.keys h.beginning.frame) calls ≡ []

-- the entry's listing, and the table of the other gateway after it loads that
abbrev pub listing_there : Ongoing → List ℕ
listing_there h = listing_of h.slot (slot_of (reached h) h.slot)

abbrev pub reloaded : (h : Ongoing) → Standby h → List ℕ
reloaded h s = after (run s.table s.calls) (load (listing_there h))

-- After calls that were made on both tables, with what came back, both do the same for the entry, and what they handed out at it is the same.
abbrev pub SameAfter : KeyData → ℕ → List ℕ → List ℕ → List Call → List Received → List Received → Type 0
SameAfter k i t u es rs qs = SameFor k i (last_of t rs) (last_of u qs) × (handed_by i [] es rs ≡ handed_by i [] es qs)
