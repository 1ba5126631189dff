-- Changing an entry (02, No. 7). A change is a removal and an install without the gap. Done, it begins a history; refused, it leaves the table and so every
-- history as it was. With a start above what was handed out before, nothing of that is handed out again. With the same key data and start 0 each message of it
-- is, right after the change; and with the same frame the same calls hand out all of it.
-- Assumes nothing.
use mathlib.Core.Path.{◌≡◌, sym, ap, subst, ◌∙◌}
use mathlib.Core.Bool.{Bool, true, false, false≢true, cond, ◌&&◌}
use mathlib.Core.List.{List, [], ◌∷◌, ◌++◌}
use Prim.Native.Nat.{ℕ, ◌≤◌, ◌<◌}
use native.Mathlib.Omega.{arith}
use borrow.Author.Tests.{le-ltb, ne_eqb}
use lib.Dec.{eqb, ltb}
use lib.ListN.{length}
use Rattle.answers.specs.Answers.{output_room}
use Rattle.answers.specs.declared.Answer.{Answer}
use Rattle.octets.specs.Octets.{Bytes}
use Rattle.window.specs.Window.{floor_at}
use Rattle.window.specs.declared.Frame.{Frame}
use Rattle.window.proofs.Floor.{floor_le}
use Rattle.window.proofs.Undamaged.{frame_facts}
use Rattle.format.specs.Header.{read_of, payload_length}
use Rattle.format.specs.KeyData.{KeyData}
use Rattle.format.specs.Suite.{number_of}
use Rattle.message.specs.Sealing.{right}
use Rattle.slots.specs.Table.{slot_of, window_of, table_length}
use Rattle.entries.specs.Change.{changed}
use Rattle.entries.specs.Install.{Left, done_at}
use Rattle.entries.proofs.AsTwo.{change_is_two}
use Rattle.entries.proofs.Installs.{Fair}
use Rattle.entries.proofs.Outcomes.{change_done}
use Rattle.gateway.specs.Receive.{Received}
use Rattle.promises.specs.Calls.{Call, arrival, install, remove, change, load, OfBytes, AllOfBytes, unwritten, called, after, run, Allowed, Trace, last_of}
use Rattle.promises.specs.Counted.{Beginning, fresh, Message, numbers_of, is_in, is_below, is_used, is_of, Told, apart, new, tested, told_of, told, told_by, counted, is_new}
use Rattle.promises.specs.History.{Begins, one, handed, handed_by, Unended, GoesOn, ends, counted_of, NotAgain, Accounts}
use Rattle.promises.proofs.Beginnings.{change_begins}
use Rattle.promises.proofs.Counting.{counted_told}
use Rattle.promises.proofs.History.{history, history_traced}
use Rattle.promises.proofs.Refusals.{change_keeps}
use Rattle.promises.proofs.Runs.{run_long, run_append}
use Rattle.promises.proofs.Starts.{start_above, start_above_highest}
use Rattle.promises.proofs.Traces.{allowed_called}
use Rattle.std.specs.Prelude.{Err, Ok, Result}
use Rattle.format.specs.declared.header.HeaderError.{HeaderError}
use Rattle.format.specs.declared.header.Header.{Header}

module _ (t : List ℕ) (long : length t ≡ table_length) (i : ℕ) (k : KeyData) (f : Frame) (bytes : Bytes k.key_id) where
  -- ---- a removal and an install

  -- Where both would succeed and the freed slot is the lowest free one, they leave the same table as a change. (`replies_as_two` of entries: it is refused
  -- where one of them would be, with that number.)
  pub leaves_as_two : (called t (remove i)).answer ≡ done_at i → (called (after t (remove i)) (install k f)).answer ≡ done_at i
      → run t (remove i ∷ install k f ∷ []) ≡ run t (change i k f ∷ [])
  leaves_as_two freed entered = ap (λ (l : Left). l.table) (sym (change_is_two t long i k f bytes freed entered))

  -- The same of calls that were made: what comes back from the change is what came back from the install.
  pub made_as_two : (r q c : Received) → Trace t (remove i ∷ install k f ∷ []) (r ∷ q ∷ []) → r.answer ≡ done_at i → q.answer ≡ done_at i
      → Allowed t (change i k f) c → c ≡ q
  made_as_two r q c made freed entered allowed =
      let first = allowed_called t (remove i) r made.0 in
      let second : q ≡ called (after t (remove i)) (install k f) =
      allowed_called r.table (install k f) q made.1.0 ∙ ap (λ (x : Received). called x.table (install k f)) first in
      allowed_called t (change i k f) c allowed
      ∙ ap unwritten
      (change_is_two t long i k f bytes (sym (ap (λ (x : Received). x.answer) first) ∙ freed) (sym (ap (λ (x : Received). x.answer) second) ∙ entered))
      ∙ sym second

  -- ---- refused

  -- "or do nothing": the table stays as it was, and no history ends, this slot's or another's.
  pub refused_change : ((called t (change i k f)).answer.reply ≡ 0 → ⊥)
      → (after t (change i k f) ≡ t) × ((j : ℕ) → ends j (change i k f) (called t (change i k f)).answer ≡ false)
  refused_change refusal =
      let a = (changed t i k f).answer in
      (((change_keeps t i k f).refusal refusal).1, λ j. rw (ne_eqb a.reply 0 refusal))

  -- ---- done

  -- with the slot, as install answers
  pub change_answers : (changed t i k f).answer.reply ≡ 0 → (changed t i k f).answer ≡ done_at i
  change_answers done = ap (λ (l : Left). l.answer) (change_done t i k f done).is

  -- a change that is answered 0 begins a history: after any further calls the slot accounts for them,
  pub history_changed : (changed t i k f).answer ≡ done_at i → (ds : List Call) → GoesOn i (after t (change i k f)) ds
      → Accounts (fresh k f) i (run t (change i k f ∷ ds)) (told_by (fresh k f) ds)
  history_changed done ds goes = history (change_begins t long k f bytes i done) ds goes

  -- a change that was made, and was answered 0
  pub changed_begins : (r : Received) → Allowed t (change i k f) r → r.answer ≡ done_at i → Begins (fresh k f) i r.table
  changed_begins r allowed done =
      let is = allowed_called t (change i k f) r allowed in
      subst (λ (x : Received). Begins (fresh k f) i x.table) (sym is) (change_begins t long k f bytes i (sym (ap (λ (x : Received). x.answer) is) ∙ done))

  module _ (r : Received) (ds : List Call) (qs : List Received) (made : Trace t (change i k f ∷ ds) (r ∷ qs)) (done : r.answer ≡ done_at i) (going : Unended i ds qs) where
    -- and the same of calls that were made, the first of them such a change.
    pub changed_traced : Accounts (fresh k f) i (last_of t (r ∷ qs)) (told_by (fresh k f) ds) × (handed_by i [] ds qs ≡ counted (fresh k f) ds)
    changed_traced = history_traced (changed_begins r made.0 done) ds qs made.1 going

    -- With a start above all numbers that were handed out, at this slot before the change or anywhere else, nothing of that is handed out after it;
    pub changed_not_again : (before : List Message) → ((n : ℕ) → is_in n (numbers_of before) ≡ true → n < f.start) → NotAgain before (handed_by i [] ds qs)
    changed_not_again = start_above (changed_begins r made.0 done) ds qs made.1 going

    -- nothing, then, with one above the highest number of the entry, of what calls cs had handed out at it.
    pub changed_highest : {b : Beginning} {j : ℕ} {u : List ℕ} → Begins b j u → (cs : List Call) (rs : List Received) → Trace u cs rs → Unended j cs rs
        → (window_of (slot_of (last_of u rs) j)).highest < f.start → NotAgain (handed_by j [] cs rs) (handed_by i [] ds qs)
    changed_highest = start_above_highest (changed_begins r made.0 done) ds qs made.1 going

-- The same for a change anywhere in a sequence of calls on a table.
pub changed_within : (t : List ℕ) → length t ≡ table_length → (before : List Call) → AllOfBytes before
    → (i : ℕ) (k : KeyData) (f : Frame) → Bytes k.key_id → (changed (run t before) i k f).answer ≡ done_at i
    → (ds : List Call) → GoesOn i (after (run t before) (change i k f)) ds
    → Accounts (fresh k f) i (run t (before ++ change i k f ∷ ds)) (told_by (fresh k f) ds)
changed_within t long before all i k f bytes done ds goes =
    rw (run_append t before (change i k f ∷ ds)) (history_changed (run t before) (run_long t long before all) i k f bytes done ds goes)

-- ---- the trap

-- Calls that were made since an entry stood fresh, by an install or a change, hand out the same once more after a change to the same key data and frame.
pub all_again : {k : KeyData} {f : Frame} {i : ℕ} {t : List ℕ} → Begins (fresh k f) i t → (cs : List Call) (rs : List Received) → Trace t cs rs → Unended i cs rs
    → (u : List ℕ) → length u ≡ table_length → Bytes k.key_id → (j : ℕ) (q : Received) (qs : List Received) → Trace u (change j k f ∷ cs) (q ∷ qs) → q.answer ≡ done_at j
    → Unended j cs qs → handed_by i [] cs rs ≡ handed_by j [] cs qs
all_again {k} {f} begins cs rs trace unended u long bytes j q qs again done going =
    (history_traced begins cs rs trace unended).1 ∙ sym (changed_traced u long j k f bytes q cs qs again done going).1

-- a message that was counted once is counted by a fresh entry with the same key data and start 0
counted_anew : (b : Beginning) (past : List Told) (f : Frame) → f.start ≡ 0 → 1 ≤ f.size → (c : Call) (x : Message) → told b past c ≡ new x
    → told (fresh b.keys f) [] c ≡ new x
counted_anew b past f start some (arrival m source out) x = by (ltb (length out) output_room) (read_of m)
  where
    below_none : (n : ℕ) → is_below (fresh b.keys f) [] n ≡ false
    below_none n = le-ltb n (floor_at f 0) (omega (arith, floor_le f 0 0 (omega arith) (omega arith)))

    both : (low met icv : Bool) (y : Message) → tested low met icv y ≡ new x → tested false false icv y ≡ new x
    both true met icv y e = absurd (false≢true (ap is_new e))
    both false true icv y e = absurd (false≢true (ap is_new e))
    both false false icv y e = e

    named : (mine low met icv : Bool) (y : Message) → cond mine (tested low met icv y) apart ≡ new x → cond mine (tested false false icv y) apart ≡ new x
    named true low met icv y e = both low met icv y e
    named false low met icv y e = e

    by : (short : Bool) (p : Result Header HeaderError) → cond short apart (told_of b past p m source) ≡ new x → cond short apart (told_of (fresh b.keys f) [] p m source) ≡ new x
    by true p e = e
    by false (Ok h) e =
        rw (below_none h.seqnum)
        (named (is_of b.keys h m source && eqb b.keys.suite (number_of h.suite)) (is_below b past h.seqnum) (is_used b past h.seqnum) (right h b.keys m)
        (record { number = h.seqnum; payload = payload_length h m }) e)
    by false (Err why) e = e
counted_anew b past f start some (install k g) x = λ e. e
counted_anew b past f start some (remove i) x = λ e. e
counted_anew b past f start some (change i k g) x = λ e. e
counted_anew b past f start some (load text) x = λ e. e

-- What was handed out at an entry is handed out once more right after a change of any slot of any table to the same key data with start 0.
pub passes_again : {b : Beginning} {i : ℕ} {t : List ℕ} → Begins b i t → (cs : List Call) → GoesOn i t cs → (c : Call) → OfBytes c → (x : Message)
    → handed i (run t cs) c ≡ one x → (u : List ℕ) → length u ≡ table_length → Bytes b.keys.key_id → (f : Frame) → f.start ≡ 0
    → (j : ℕ) → (changed u j b.keys f).answer ≡ done_at j → handed j (after u (change j b.keys f)) c ≡ one x
passes_again {b} begins cs goes c of-bytes x gave u long bytes f start j done =
    (history_changed u long j b.keys f bytes done [] tt).exactly c of-bytes
    ∙ ap counted_of (counted_anew b (told_by b cs) f start (frame_facts f fair.framed).sized c x is)
  where
    is : told b (told_by b cs) c ≡ new x
    is = counted_told (told b (told_by b cs) c) x (sym ((history begins cs goes).exactly c of-bytes) ∙ gave)

    fair : Fair b.keys f
    fair = (change_done u j b.keys f (ap (λ (a : Answer). a.reply) done)).fair
