-- The start of an entry (02, No. 2): a message below it is never handed out, so a key that moves to another gateway with a start above all that was
-- counted at the first lets nothing pass there that the first handed out.
-- Assumes nothing.
use mathlib.Core.Path.{◌≡◌, refl, sym, ◌∙◌}
use mathlib.Core.Bool.{Bool, true, false, true≢false, ◌||◌, not-eq-not}
use mathlib.Core.List.{List, [], ◌∷◌}
use Prim.Native.Nat.{ℕ, ◌≤◌, ◌<◌}
use native.Mathlib.Omega.{arith}
use borrow.Author.Tests.{eqb-true, le-ltb, lt-ltb, ltb-false}
use lib.Dec.{eqb}
use lib.ListN.{length}
use Rattle.answers.specs.Answers.{output_room, below_floor}
use Rattle.octets.specs.Octets.{Bytes}
use Rattle.window.specs.Window.{floor_at}
use Rattle.window.specs.declared.Frame.{Frame}
use Rattle.window.proofs.Floor.{floor_start}
use Rattle.format.specs.Header.{read_of}
use Rattle.format.specs.KeyData.{KeyData}
use Rattle.format.specs.Suite.{number_of}
use Rattle.format.specs.declared.header.Header.{Header}
use Rattle.slots.specs.Table.{slot_of, key_data_of, window_of, entry_of, table_length}
use Rattle.entries.specs.Install.{done_at}
use Rattle.gateway.specs.Receive.{Received, received}
use Rattle.promises.specs.Calls.{Call, arrival, install, OfBytes, called, run, Trace, last_of}
use Rattle.promises.specs.Counted.{Beginning, standing, Message, numbers_of, numbers, highest_of, is_in, highest_since, is_below, is_of, Told, apart, below, used, forged, new, told, told_from, told_by}
use Rattle.promises.specs.History.{Begins, one, handed, handed_by, Unended, GoesOn, NotAgain}
use Rattle.promises.proofs.Arrivals.{taken_new}
use Rattle.promises.proofs.Counting.{counted_new, counted_told}
use Rattle.promises.proofs.History.{history, history_traced, installed_begins}
use Rattle.std.specs.Prelude.{Ok}

-- ---- what is counted

-- what is not below the floor is not below the start
reached_start : (b : Beginning) (past : List Told) (n : ℕ) → is_below b past n ≡ false → b.frame.start ≤ n
reached_start b past n reached =
    let h = highest_since b past in
    omega (arith, floor_start b.frame h, ltb-false n (floor_at b.frame h) reached)

-- all that is counted is not below the start
abbrev Above : Beginning → List Told → Type 0
Above b past = (n : ℕ) → is_in n (numbers past) ≡ true → b.frame.start ≤ n

one_above : (b : Beginning) (past : List Told) → Above b past → (c : Call) → Above b (told b past c ∷ past)
one_above b past all c n e = by (told b past c) refl e
  where
    by : (w : Told) → told b past c ≡ w → is_in n (numbers (w ∷ past)) ≡ true → b.frame.start ≤ n
    by apart p q = all n q
    by below p q = all n q
    by used p q = all n q
    by forged p q = all n q
    by (new x) p q = at (eqb n x.number) refl q
      where
        at : (same : Bool) → eqb n x.number ≡ same → (same || is_in n (numbers past)) ≡ true → b.frame.start ≤ n
        at true r s = rw (eqb-true n x.number r) (reached_start b past x.number (counted_new b past c x p).reached)
        at false r s = all n s

all_above : (b : Beginning) (past : List Told) → Above b past → (cs : List Call) → Above b (told_from b past cs)
all_above b past all [] = all
all_above b past all (c ∷ cs) = all_above b (told b past c ∷ past) (one_above b past all c) cs

-- no number of a list is above its highest
counted_most : (n : ℕ) (ns : List ℕ) → is_in n ns ≡ true → n ≤ highest_of ns
counted_most n [] e = absurd (true≢false (sym e))
counted_most n (m ∷ ms) e = at (eqb n m) refl (counted_most n ms) e
  where
    at : (same : Bool) → eqb n m ≡ same → (is_in n ms ≡ true → n ≤ highest_of ms) → (same || is_in n ms) ≡ true → n ≤ highest_of (m ∷ ms)
    at true r rest s = omega (arith, eqb-true n m r)
    at false r rest s = omega (arith, rest s)

-- ---- what is handed out

-- On any table, whatever else is in it, no message is handed out at an entry whose start lies above its number.
pub taken_from_start : (t : List ℕ) → length t ≡ table_length → (message source out : List ℕ) → Bytes message
    → let a = (received t message source out).answer in a.reply ≡ 0 → (window_of (slot_of t a.slot)).frame.start ≤ a.seqnum
taken_from_start t long message source out bytes done =
    let a = (received t message source out).answer in
    let s = slot_of t a.slot in
    let new = taken_new t long message source out bytes done in
    reached_start (standing (key_data_of s) (entry_of s)) [] a.seqnum (counted_new (standing (key_data_of s) (entry_of s)) [] (arrival message source out) _ new).reached

module _ {b : Beginning} {i : ℕ} {t : List ℕ} (begins : Begins b i t) (cs : List Call) (goes : GoesOn i t cs) where
  -- A message below the start is never handed out at the entry,
  pub none_below_start : (c : Call) → OfBytes c → (x : Message) → handed i (run t cs) c ≡ one x → b.frame.start ≤ x.number
  none_below_start c bytes x gave =
      let past = told_by b cs in
      let is = counted_told (told b past c) x (sym ((history begins cs goes).exactly c bytes) ∙ gave) in
      reached_start b past x.number (counted_new b past c x is).reached

  -- and one of its suite that comes with room is answered 9.
  pub below_start : (message source out : List ℕ) → Bytes message → output_room ≤ length out → (h : Header) → read_of message ≡ Ok h
      → is_of b.keys h message source ≡ true → eqb b.keys.suite (number_of h.suite) ≡ true → h.seqnum < b.frame.start
      → (called (run t cs) (arrival message source out)).answer.reply ≡ below_floor
  below_start message source out bytes room h read mine suite low =
      let past = told_by b cs in
      let under : is_below b past h.seqnum ≡ true =
      lt-ltb h.seqnum (floor_at b.frame (highest_since b past)) (omega (arith, floor_start b.frame (highest_since b past))) in
      (history begins cs goes).replies message source out bytes room h read mine
      ∙ rw (le-ltb (length out) output_room room, read, mine, suite, under)

-- Of calls that were made: no number that they handed out at the entry is below its start.
pub handed_from_start : {b : Beginning} {i : ℕ} {t : List ℕ} → Begins b i t → (cs : List Call) (rs : List Received) → Trace t cs rs → Unended i cs rs
    → (n : ℕ) → is_in n (numbers_of (handed_by i [] cs rs)) ≡ true → b.frame.start ≤ n
handed_from_start {b} begins cs rs trace unended n there =
    all_above b [] (λ m e. absurd (true≢false (sym e))) cs n (rw (history_traced begins cs rs trace unended).1 at there)

-- Of what was handed out elsewhere, at any gateways and under any histories, nothing is handed out where a history begins with a start above its numbers;
pub start_above : {c : Beginning} {j : ℕ} {u : List ℕ} → Begins c j u → (ds : List Call) (qs : List Received) → Trace u ds qs → Unended j ds qs
    → (elsewhere : List Message) → ((n : ℕ) → is_in n (numbers_of elsewhere) ≡ true → n < c.frame.start) → NotAgain elsewhere (handed_by j [] ds qs)
start_above begins ds qs made going elsewhere lower n there =
    not-eq-not.0 (λ here. omega (arith, lower n there, handed_from_start begins ds qs made going n here))

-- nothing, then, of what calls cs handed out at an entry whose highest number after them is below the start.
pub start_above_highest : {c : Beginning} {j : ℕ} {u : List ℕ} → Begins c j u → (ds : List Call) (qs : List Received) → Trace u ds qs → Unended j ds qs
    → {b : Beginning} {i : ℕ} {t : List ℕ} → Begins b i t → (cs : List Call) (rs : List Received) → Trace t cs rs → Unended i cs rs
    → (window_of (slot_of (last_of t rs) i)).highest < c.frame.start → NotAgain (handed_by i [] cs rs) (handed_by j [] ds qs)
start_above_highest here ds qs made going {b} {i} begins cs rs trace unended above =
    let first = history_traced begins cs rs trace unended in
    start_above here ds qs made going (handed_by i [] cs rs) (rw first.1 (λ n e. omega (arith, counted_most n (numbers (told_by b cs)) e, above, first.0.highest)))

-- ---- a key that moves

-- A gateway installs key data with a start and makes calls ds.
module _ (u : List ℕ) (long : length u ≡ table_length) (k : KeyData) (f : Frame) (bytes : Bytes k.key_id) (j : ℕ)
    (r : Received) (ds : List Call) (qs : List Received) (made : Trace u (install k f ∷ ds) (r ∷ qs)) (done : r.answer ≡ done_at j) (going : Unended j ds qs) where
  -- With a start above the numbers of what was handed out elsewhere, nothing of that is handed out here;
  pub moved_key : (elsewhere : List Message) → ((n : ℕ) → is_in n (numbers_of elsewhere) ≡ true → n < f.start) → NotAgain elsewhere (handed_by j [] ds qs)
  moved_key = start_above (installed_begins u long k f bytes j r made.0 done) ds qs made.1 going

  -- nothing, then, of what calls cs handed out at an entry whose highest number after them is below the start.
  pub moved_highest : {b : Beginning} {i : ℕ} {t : List ℕ} → Begins b i t → (cs : List Call) (rs : List Received) → Trace t cs rs → Unended i cs rs
      → (window_of (slot_of (last_of t rs) i)).highest < f.start → NotAgain (handed_by i [] cs rs) (handed_by j [] ds qs)
  moved_highest = start_above_highest (installed_begins u long k f bytes j r made.0 done) ds qs made.1 going
