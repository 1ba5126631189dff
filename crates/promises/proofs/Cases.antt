-- The window rows of the table of cases are about receive: genuine messages with room and the numbers of a row, arriving one after the other
-- at an undamaged entry as the row has it, meet the row's replies and leave its accepted total and marks.
-- Assumes nothing.
use mathlib.Core.Path.{◌≡◌, refl, sym, ap, ap₂, subst, ◌∙◌}
use mathlib.Core.Bool.{Bool, true, false, true≢false, cond, ◌&&◌}
use mathlib.Core.List.{List, [], ◌∷◌}
use Prim.Native.Nat.{ℕ, ◌+◌, ◌≤◌}
use borrow.Author.Tests.{eqb-true, le-ltb}
use lib.Dec.{eqb}
use lib.ListN.{length}
use Rattle.numbers.proofs.Tests.{and_left, and_right}
use Rattle.answers.specs.Answers.{output_room}
use Rattle.octets.specs.Octets.{Bytes}
use Rattle.window.specs.Window.{View, floor_of, judge, verdict_of, accept_of}
use Rattle.window.specs.Counters.{one_replay}
use Rattle.window.specs.Entry.{Entry, taken, counting}
use Rattle.format.specs.Header.{read_of, seq_num_in, payload_length}
use Rattle.format.specs.Suite.{number_of}
use Rattle.format.specs.declared.header.Header.{Header}
use Rattle.format.proofs.Room.{read_room}
use Rattle.message.specs.Sealing.{right}
use Rattle.slots.specs.Table.{slot_of, entry_of}
use Rattle.gateway.specs.Receive.{received, reply_of}
use Rattle.promises.specs.Calls.{Call, arrival, install, remove, change, load, called, after}
use Rattle.promises.specs.Cases.{Step, replied_to, entry_after, Turns, goes, Follows, Like, Row}
use Rattle.promises.specs.Counted.{Beginning, Message, Told, is_below, is_used, is_of, tested, told, is_genuine}
use Rattle.promises.specs.History.{Begins, entry_by, reply_to}
use Rattle.promises.proofs.Runs.{begun}
use Rattle.promises.proofs.Steps.{Stands, replied, step}
use Rattle.promises.proofs.Counting.{verdict_agrees}
use Rattle.std.specs.Prelude.{Err, Ok, Result}
use Rattle.format.specs.declared.header.HeaderError.{HeaderError}

-- ---- one message

module _ {b : Beginning} {i : ℕ} {t : List ℕ} {past : List Told} (now : Stands b i t past) (m source out : List ℕ) (bytes : Bytes m) (room : output_room ≤ length out) where
  abbrev entry : Entry
  entry = entry_of (slot_of t i)

  abbrev call : Call
  call = arrival m source out

  -- the entry after it, by what is told
  moves : {w : Told} → told b past call ≡ w → entry_of (slot_of (called t call).table i) ≡ entry_by w entry
  moves e = (step now call bytes refl).moves ∙ ap (λ (z : Told). entry_by z entry) e

  -- by the two tests on its number
  by_tests : (x : Message) (low met : Bool) → told b past call ≡ tested low met true x → verdict_of entry.window x.number ≡ judge low met
      → (called t call).answer.reply ≡ reply_to (told b past call) → Turns entry i x.number x.payload (called t call)
  by_tests x true met w v r = record { replies = r ∙ rw (w, v); leaves = rw v (moves w) }
  by_tests x false true w v r = record { replies = r ∙ rw (w, v); leaves = rw v (moves w) }
  by_tests x false false w v r = record { replies = r ∙ rw (w, v); leaves = rw v (moves w) }

  of_header : (h : Header) → read_of m ≡ Ok h → is_genuine b.keys (Ok h) m source ≡ true → Turns entry i h.seqnum (payload_length h m) (called t call)
  of_header h read g =
      let k = b.keys in
      let named = is_of k h m source in
      let suite = eqb k.suite (number_of h.suite) in
      let both : (named && suite) ≡ true = and_left (named && suite) (right h k m) g in
      let icv : right h k m ≡ true = and_right (named && suite) (right h k m) g in
      by_tests (record { number = h.seqnum; payload = payload_length h m }) (is_below b past h.seqnum) (is_used b past h.seqnum)
      (rw (le-ltb (length out) output_room room, read, both, icv)) (verdict_agrees now.agrees h.seqnum)
      (replied now m source out bytes room h read (and_left named suite both))

  -- of a message that is genuine for the entry
  turns : is_genuine b.keys (read_of m) m source ≡ true → (n : ℕ) × Turns entry i (seq_num_in m) n (called t call)
  turns genuine = by (read_of m) refl genuine
    where
      by : (p : Result Header HeaderError) → read_of m ≡ p → is_genuine b.keys p m source ≡ true → (n : ℕ) × Turns entry i (seq_num_in m) n (called t call)
      by (Ok h) read g =
          (payload_length h m, subst (λ (n : ℕ). Turns entry i n (payload_length h m) (called t call)) (read_room m read).number (of_header h read g))
      by (Err why) read g = absurd (true≢false (sym g))

-- A genuine message that comes with room to an undamaged entry meets the reply of the window's verdict on its number, and leaves the entry with
-- the message taken where that is 0.
pub genuine_received : {b : Beginning} {i : ℕ} {t : List ℕ} → Begins b i t → (m source out : List ℕ) → Bytes m → output_room ≤ length out
    → (h : Header) → read_of m ≡ Ok h → is_genuine b.keys (Ok h) m source ≡ true
    → Turns (entry_of (slot_of t i)) i h.seqnum (payload_length h m) (received t m source out)
genuine_received begins = of_header (begun begins)

-- ---- a row

replies_alike : {e f : Entry} (n : ℕ) → Like e f → replied_to e n ≡ replied_to f n
replies_alike n l = ap (λ (w : View). reply_of (verdict_of w n)) l.window

alike_after : {e f : Entry} (n a b : ℕ) → Like e f → Like (entry_after e n a) (entry_after f n b)
alike_after {e} {f} n a b l =
    subst (λ (x : ℕ). Like (cond (eqb x 0) (taken e n a) (counting e (one_replay e.counters))) (entry_after f n b)) (sym (replies_alike n l)) (by (eqb (replied_to f n) 0))
  where
    by : (x : Bool) → Like (cond x (taken e n a) (counting e (one_replay e.counters))) (cond x (taken f n b) (counting f (one_replay f.counters)))
    by true = record { window = ap (λ (w : View). accept_of w n) l.window; accepted = ap (λ (y : ℕ). y + 1) l.accepted }
    by false = record { window = l.window; accepted = l.accepted }

module _ {b : Beginning} {i : ℕ} where
  goes_on : {t : List ℕ} {past : List Told} (e : Entry) → Stands b i t past → Like (entry_of (slot_of t i)) e
      → (ss : List Step) (cs : List Call) → Follows b.keys ss cs → (accepted marks : ℕ) → goes e ss accepted marks ≡ true → Row i t cs ss accepted marks
  goes_on e now l [] [] f accepted marks g =
      let total = eqb e.accepted accepted in
      let left = eqb e.window.marks marks in
      record {
        replies = refl;
        floors = refl;
        totals = l.accepted ∙ eqb-true e.accepted accepted (and_left total left g);
        marked = ap (λ (w : View). w.marks) l.window ∙ eqb-true e.window.marks marks (and_right total left g);
      }
  goes_on e now l [] (c ∷ cs) f accepted marks g = absurd f
  goes_on e now l (s ∷ ss) [] f accepted marks g = absurd f
  goes_on e now l (s ∷ ss) (install other frame ∷ cs) f accepted marks g = absurd f
  goes_on e now l (s ∷ ss) (remove j ∷ cs) f accepted marks g = absurd f
  goes_on e now l (s ∷ ss) (change j other frame ∷ cs) f accepted marks g = absurd f
  goes_on e now l (s ∷ ss) (load text ∷ cs) f accepted marks g = absurd f
  goes_on {t} e now l (s ∷ ss) (arrival m source out ∷ cs) f accepted marks g =
      let c = turns now m source out f.0 f.1 f.2 in
      let number : seq_num_in m ≡ s.number = f.3 in
      let next = entry_after e s.number 0 in
      let replied = eqb (replied_to e s.number) s.reply in
      let floor = eqb (floor_of next.window) s.floor in
      let both : (replied && floor) ≡ true = and_left (replied && floor) (goes next ss accepted marks) g in
      let alike : Like (entry_of (slot_of (received t m source out).table i)) next =
      rw (c.1.leaves, number) (alike_after s.number c.0 0 l) in
      let rest = goes_on {t = after t (arrival m source out)} next (step now (arrival m source out) f.0 refl).stands alike ss cs f.4 accepted marks (and_right (replied && floor) (goes next ss accepted marks) g) in
      record {
        replies =
            ap₂ (λ (n : ℕ) (ns : List ℕ). n ∷ ns)
            (c.1.replies ∙ ap (replied_to (entry_of (slot_of t i))) number ∙ replies_alike s.number l ∙ eqb-true (replied_to e s.number) s.reply (and_left replied floor both))
            rest.replies;
        floors =
            ap₂ (λ (n : ℕ) (ns : List ℕ). n ∷ ns)
            (ap floor_of alike.window ∙ eqb-true (floor_of next.window) s.floor (and_right replied floor both))
            rest.floors;
        totals = rest.totals;
        marked = rest.marked;
      }

  -- Any row that holds of the definitions holds of receive.
  pub row_received : {t : List ℕ} (e : Entry) → Begins b i t → Like (entry_of (slot_of t i)) e
      → (ss : List Step) (cs : List Call) → Follows b.keys ss cs → (accepted marks : ℕ) → goes e ss accepted marks ≡ true → Row i t cs ss accepted marks
  row_received e begins l ss cs f accepted marks g = goes_on e (begun begins) l ss cs f accepted marks g
