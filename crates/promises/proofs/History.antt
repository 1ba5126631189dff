-- Demand 3: from where a history begins in slot i, after any calls that do not end it, the slot hands out exactly what is counted, and its
-- totals are what stood there and what was counted, its counters what stood there and what was refused, cut; what an auditor reads off that; the same of calls that were made; and the case of an install.
-- Assumes nothing.
use mathlib.Core.Path.{◌≡◌, refl, sym, ap, subst, ◌∙◌}
use mathlib.Core.Bool.{Bool, true, false, cond, ◌&&◌, ◌||◌, true≢false, not-eq-not}
use mathlib.Core.List.{List, [], ◌∷◌, ◌++◌}
use Prim.Native.Nat.{ℕ}
use native.Mathlib.Omega.{arith}
use borrow.Author.Tests.{eq-eqb}
use lib.Dec.{eqb, ltb}
use lib.ListN.{length}
use Rattle.answers.specs.Answers.{output_room, below_floor, repeated, wrong_icv}
use Rattle.octets.specs.Octets.{Bytes, put}
use Rattle.numbers.proofs.Tests.{either}
use Rattle.window.specs.declared.Frame.{Frame}
use Rattle.window.specs.Counters.{cut}
use Rattle.window.specs.Entry.{taken, counting}
use Rattle.window.proofs.Entries.{UndamagedEntry}
use Rattle.format.specs.Header.{read_of, payload_length, key_id_bytes}
use Rattle.format.specs.KeyData.{KeyData}
use Rattle.format.specs.Suite.{number_of}
use Rattle.format.specs.declared.header.Header.{Header}
use Rattle.message.specs.Sealing.{right, opened}
use Rattle.slots.specs.Table.{slot_of, counters_of, entry_of, raised_in, slot_length, table_length, replays_at}
use Rattle.slots.proofs.Slots.{length_of_slot}
use Rattle.lookup.specs.Lookup.{leads_to}
use Rattle.entries.specs.Install.{done_at, installed}
use Rattle.gateway.specs.Receive.{Received, kept, parsed, received}
use Rattle.gateway.proofs.Cascade.{NotSeven, never_seven}
use Rattle.promises.specs.Calls.{Call, arrival, install, OfBytes, AllOfBytes, called, after, run, results, Allowed, Trace, last_of}
use Rattle.promises.specs.Counted.{Beginning, fresh, Message, messages, numbers, highest_of, is_in, is_replay, is_forgery, how_many, is_below, is_used, is_of, Told, apart, below, used, forged, new, tested, told_of, told, told_from, told_by, counted, is_genuine}
use Rattle.promises.specs.History.{Begins, nothing, one, handed, handed_by, Unended, GoesOn, counted_of, slot_by, counters_by, entry_by, ButCounters, different, total, Accounts}
use Rattle.promises.specs.Replies.{none_of, receive_replies, led_to, is_at}
use Rattle.promises.proofs.Beginnings.{install_begins}
use Rattle.promises.proofs.Counting.{stays_in, counted_new, counted_told}
use Rattle.promises.proofs.Genuine.{genuine_held}
use Rattle.promises.proofs.Held.{held_small, names_facts, names_test, leads_here, leads_named}
use Rattle.promises.proofs.Refusals.{raised_around}
use Rattle.promises.proofs.Runs.{begun, stands_on, hands_on, accounts, run_long, run_append}
use Rattle.promises.proofs.Steps.{Stands, arrives, step}
use Rattle.promises.proofs.Traces.{allowed_called, trace_results, trace_run}
use Rattle.promises.proofs.Worthless.{nothing_given, one_account}
use Rattle.std.specs.Prelude.{Err, Ok, Result, Some}
use Rattle.format.specs.declared.header.HeaderError.{HeaderError}

-- ---- what is not counted, in a slot

told_entry : (w : Told) (s : List ℕ) → counted_of w ≡ nothing → entry_by w (entry_of s) ≡ counting (entry_of s) (counters_by w (counters_of s))
told_entry apart s none = refl
told_entry below s none = refl
told_entry used s none = refl
told_entry forged s none = refl
told_entry (new x) s none = cc

told_around : (w : Told) (s : List ℕ) → length s ≡ slot_length → UndamagedEntry (entry_of s) → counted_of w ≡ nothing → ButCounters s (slot_by w s)
told_around apart s long whole none = record { before = refl; behind = refl; replays = omega arith; forged = omega arith }
told_around below s long whole none = raised_around s long whole below_floor
told_around used s long whole none = raised_around s long whole repeated
told_around forged s long whole none = raised_around s long whole wrong_icv
told_around (new x) s long whole none = absurd (nothing_given (sym none))

-- ---- a history that begins in slot i of a table

module _ {b : Beginning} {i : ℕ} {t : List ℕ} (begins : Begins b i t) where
  stands : (cs : List Call) → GoesOn i t cs → Stands b i (run t cs) (told_by b cs)
  stands cs goes = stands_on (begun begins) cs goes

  pub history : (cs : List Call) → GoesOn i t cs → Accounts b i (run t cs) (told_by b cs)
  history cs goes = accounts (stands cs goes)

  -- ---- what an auditor reads off it

  -- All that was handed out at the slot is all that was counted.
  pub all_handed : (cs : List Call) → GoesOn i t cs → handed_by i [] cs (results t cs) ≡ counted b cs
  all_handed cs goes = hands_on (begun begins) cs goes

  -- No number is handed out twice: not by a call c and, after any calls ds, by a call d.
  pub no_number_twice : (cs : List Call) → GoesOn i t cs → (c : Call) (ds : List Call) → GoesOn i (run t cs) (c ∷ ds) → (d : Call) → OfBytes d
      → (x y : Message) → handed i (run t cs) c ≡ one x → handed i (run (run t cs) (c ∷ ds)) d ≡ one y → x.number ≡ y.number → ⊥
  no_number_twice cs goes c ds further d bytes x y gave gives same =
      let first = step (stands cs goes) c further.0 further.1 in
      let past = told b (told_by b cs) c ∷ told_by b cs in
      let later = accounts (stands_on first.stands ds further.2) in
      let there : is_in x.number (numbers past) ≡ true =
      rw (counted_told (told b (told_by b cs) c) x (sym first.gives ∙ gave), eq-eqb x.number x.number refl) in
      let end = told_from b past ds in
      let unmet = counted_new b end d y (counted_told (told b end d) y (sym (later.exactly d bytes) ∙ gives)) in
      true≢false (sym (rw same at (stays_in b x.number past there ds)) ∙ unmet.uncounted)

  module _ (cs : List Call) (goes : GoesOn i t cs) where
    -- Nor is a number handed out that was used where the history began.
    pub no_used_number : (c : Call) → OfBytes c → (x : Message) → handed i (run t cs) c ≡ one x → b.used x.number ≡ false
    no_used_number c bytes x gave =
        (counted_new b (told_by b cs) c x (counted_told (told b (told_by b cs) c) x (sym ((history cs goes).exactly c bytes) ∙ gave))).unused

    -- A message leads to the slot exactly if it is of the entry.
    pub of_leads : (h : Header) (message source : List ℕ) → is_of b.keys h message source ≡ true
        → leads_to (run t cs) h.flag (key_id_bytes h message) source ≡ Some i
    of_leads h message source e =
        leads_here (stands cs goes).held h.flag (key_id_bytes h message) source (names_facts b.keys h.flag (key_id_bytes h message) source e)

    pub leads_of : (h : Header) (message source : List ℕ) → leads_to (run t cs) h.flag (key_id_bytes h message) source ≡ Some i
        → is_of b.keys h message source ≡ true
    leads_of h message source e =
        names_test b.keys h.flag (key_id_bytes h message) source (leads_named (stands cs goes).held h.flag (key_id_bytes h message) source e)

    -- "It is genuine if none of replies 2, 3, 4, 5, 6 and 8 fits it and its ICV is right under that entry's key", of the entry that it leads to.
    pub genuine_tests : (message source out : List ℕ)
        → is_genuine b.keys (read_of message) message source
        ≡ (none_of (2 ∷ 3 ∷ 4 ∷ 5 ∷ 6 ∷ 8 ∷ 11 ∷ []) (receive_replies (run t cs) message source out) && is_at i (led_to (run t cs) message source))
    genuine_tests message source out = genuine_held (stands cs goes).held message source out

    -- A message that is handed out stands in the output.
    pub payload_stands : (message source out : List ℕ) → Bytes message → (h : Header) → read_of message ≡ Ok h → (x : Message)
        → handed i (run t cs) (arrival message source out) ≡ one x
        → (called (run t cs) (arrival message source out)).out ≡ put out 0 (opened h b.keys message)
    payload_stands message source out bytes h read x gave =
        let m = arrives (stands cs goes) message source out bytes in
        m.writes x (sym m.does.gives ∙ gave) h read

    -- Reply 7 is never given for it.
    pub never_damaged : (message source out : List ℕ) (h : Header) → read_of message ≡ Ok h
        → leads_to (run t cs) h.flag (key_id_bytes h message) source ≡ Some i → (called (run t cs) (arrival message source out)).answer.reply ≡ 7 → ⊥
    unfolding received
    never_damaged message source out h read leads =
        (either NotSeven (ltb (length out) output_room) (kept (run t cs) out 1) (parsed (read_of message) (run t cs) message source out) (λ _. record { other = λ z. omega arith })
        (λ _. rw (read, leads) (never_seven (run t cs) i h message out (history cs goes).unharmed))).other

    -- What is told of a call settles every byte of the slot after it, and so its entry;
    pub slot_told : (c : Call) → GoesOn i (run t cs) (c ∷ []) → slot_of (after (run t cs) c) i ≡ slot_by (told b (told_by b cs) c) (slot_of (run t cs) i)
    slot_told c further = (step (stands cs goes) c further.0 further.1).leaves

    pub entry_told : (c : Call) → GoesOn i (run t cs) (c ∷ []) → entry_of (slot_of (after (run t cs) c) i) ≡ entry_by (told b (told_by b cs) c) (entry_of (slot_of (run t cs) i))
    entry_told c further = (step (stands cs goes) c further.0 further.1).moves

    -- a call that is counted leaves the entry with its message taken: the number in the window, 1 and the payload's length in the totals;
    pub counted_moves : (c : Call) → GoesOn i (run t cs) (c ∷ []) → (x : Message) → told b (told_by b cs) c ≡ new x
        → entry_of (slot_of (after (run t cs) c) i) ≡ taken (entry_of (slot_of (run t cs) i)) x.number x.payload
    counted_moves c further x is = entry_told c further ∙ ap (λ (w : Told). entry_by w (entry_of (slot_of (run t cs) i))) is

    -- a call that is not counted leaves every byte of the slot but those of its counters, and so window and totals;
    pub uncounted_stays : (c : Call) → GoesOn i (run t cs) (c ∷ []) → counted_of (told b (told_by b cs) c) ≡ nothing
        → let s = slot_of (run t cs) i in
        ButCounters s (slot_of (after (run t cs) c) i)
        × (entry_of (slot_of (after (run t cs) c) i) ≡ counting (entry_of s) (counters_by (told b (told_by b cs) c) (counters_of s)))
    uncounted_stays c further none =
        let s = slot_of (run t cs) i in
        let held = (stands cs goes).held in (
          rw (slot_told c further) (told_around (told b (told_by b cs) c) s (length_of_slot (run t cs) i held.long (held_small held)) (stands cs goes).agrees.unharmed none),
          entry_told c further ∙ told_entry (told b (told_by b cs) c) s none,
        )

    -- one that is nothing to the entry leaves every byte of the slot,
    pub apart_stays : (c : Call) → GoesOn i (run t cs) (c ∷ []) → told b (told_by b cs) c ≡ apart → slot_of (after (run t cs) c) i ≡ slot_of (run t cs) i
    apart_stays c further is = slot_told c further ∙ ap (λ (w : Told). slot_by w (slot_of (run t cs) i)) is

    -- one below the floor, or whose number was counted or used before, genuine or not, every byte but those of the counter of replays: this has one more, or
    -- stays at its limit, if the message came with room and is of the entry and of its suite,
    pub stale_stays : (message source out : List ℕ) → Bytes message → (h : Header) → read_of message ≡ Ok h
        → (is_below b (told_by b cs) h.seqnum || is_used b (told_by b cs) h.seqnum) ≡ true
        → let s = slot_of (run t cs) i in let mine = is_of b.keys h message source && eqb b.keys.suite (number_of h.suite) in
        slot_of (after (run t cs) (arrival message source out)) i ≡ cond (ltb (length out) output_room) s (cond mine (raised_in replays_at s) s)
    stale_stays message source out bytes h read old =
        rw read at (slot_told (arrival message source out) (bytes, refl, tt))
        ∙ by (ltb (length out) output_room) (is_of b.keys h message source && eqb b.keys.suite (number_of h.suite)) (is_below b (told_by b cs) h.seqnum)
        (is_used b (told_by b cs) h.seqnum) (right h b.keys message) (record { number = h.seqnum; payload = payload_length h message }) old
      where
        s : List ℕ
        s = slot_of (run t cs) i

        by : (short mine low met icv : Bool) (x : Message) → (low || met) ≡ true
            → slot_by (cond short apart (cond mine (tested low met icv x) apart)) s ≡ cond short s (cond mine (raised_in replays_at s) s)
        by true mine low met icv x e = refl
        by false false low met icv x e = refl
        by false true true met icv x e = refl
        by false true false true icv x e = refl
        by false true false false icv x e = absurd (true≢false (sym e))

    -- and a message that leads elsewhere every byte.
    pub elsewhere_stays : (message source out : List ℕ) → Bytes message
        → ((h : Header) → read_of message ≡ Ok h → leads_to (run t cs) h.flag (key_id_bytes h message) source ≡ Some i → ⊥)
        → slot_of (after (run t cs) (arrival message source out)) i ≡ slot_of (run t cs) i
    elsewhere_stays message source out bytes away =
        apart_stays (arrival message source out) (bytes, refl, tt) (by (ltb (length out) output_room) (read_of message) refl)
      where
        by : (short : Bool) (p : Result Header HeaderError) → read_of message ≡ p → cond short apart (told_of b (told_by b cs) p message source) ≡ apart
        by true p e = refl
        by false (Ok h) e = rw ((not-eq-not {a = is_of b.keys h message source} {b = false}).0 (λ yes. away h e (of_leads h message source yes)))
        by false (Err why) e = refl

-- Totals, highest number and counters depend on the beginning and the calls after it alone: in any other table, at any other slot, they are the same.
pub same_totals : {b : Beginning} {i j : ℕ} {t u : List ℕ} → Begins b i t → Begins b j u → (cs : List Call) → GoesOn i t cs → GoesOn j u cs
    → let e = entry_of (slot_of (run t cs) i) in let f = entry_of (slot_of (run u cs) j) in
    (e.accepted ≡ f.accepted) × (e.bytes ≡ f.bytes) × (e.window.highest ≡ f.window.highest) × (e.counters ≡ f.counters)
same_totals p q cs on-p on-q = one_account (history p cs on-p) (history q cs on-q)

-- ---- calls that were made

-- Of calls of which each met its function's contract: the slot of the last table accounts for them, and what their answers handed out is what
-- was counted.
pub history_traced : {b : Beginning} {i : ℕ} {t : List ℕ} → Begins b i t → (cs : List Call) (rs : List Received) → Trace t cs rs → Unended i cs rs
    → Accounts b i (last_of t rs) (told_by b cs) × (handed_by i [] cs rs ≡ counted b cs)
history_traced {b} {i} {t} begins cs rs trace unended =
    let same = trace_results t cs rs trace in
    let goes = subst (Unended i cs) same unended in
    (rw (trace_run t cs rs trace) (history begins cs goes), ap (handed_by i [] cs) same ∙ all_handed begins cs goes)

-- ---- from an install on

-- "the entry's two totals are how many different numbers were counted and the sum of their payload lengths", and its counters how many arrivals it refused
-- with 9 or 10, and with 11, cut at their limit
pub fresh_totals : {k : KeyData} {f : Frame} {i : ℕ} {t : List ℕ} {past : List Told} → Accounts (fresh k f) i t past
    → let e = entry_of (slot_of t i) in
    (e.accepted ≡ length (different (numbers past))) × (e.bytes ≡ total (messages past)) × (e.window.highest ≡ highest_of (numbers past))
    × (e.counters.replays ≡ cut (how_many is_replay past)) × (e.counters.forged ≡ cut (how_many is_forgery past))
fresh_totals a = (omega (arith, a.accepted), omega (arith, a.bytes), omega (arith, a.highest), omega (arith, a.replays), omega (arith, a.forged))

module _ (t : List ℕ) (long : length t ≡ table_length) (k : KeyData) (f : Frame) (bytes : Bytes k.key_id) (i : ℕ) where
  -- after an install answered 0 at slot i
  pub history_installed : (installed t k f).answer ≡ done_at i → (cs : List Call) → GoesOn i (after t (install k f)) cs
      → Accounts (fresh k f) i (run t (install k f ∷ cs)) (told_by (fresh k f) cs)
  history_installed done cs goes = history (install_begins t long k f bytes i done) cs goes

  -- an install that was made, and was answered 0, begins a history
  pub installed_begins : (r : Received) → Allowed t (install k f) r → r.answer ≡ done_at i → Begins (fresh k f) i r.table
  installed_begins r allowed done =
      let is = allowed_called t (install k f) r allowed in
      subst (λ (x : Received). Begins (fresh k f) i x.table) (sym is) (install_begins t long k f bytes i (sym (ap (λ (x : Received). x.answer) is) ∙ done))

  -- and of calls that were made, the first of them such an install
  pub installed_traced : (r : Received) (cs : List Call) (rs : List Received) → Trace t (install k f ∷ cs) (r ∷ rs) → r.answer ≡ done_at i → Unended i cs rs
      → Accounts (fresh k f) i (last_of t (r ∷ rs)) (told_by (fresh k f) cs) × (handed_by i [] cs rs ≡ counted (fresh k f) cs)
  installed_traced r cs rs trace done unended = history_traced (installed_begins r trace.0 done) cs rs trace.1 unended

-- The same for an install anywhere in a sequence of calls on a table: whatever calls came before it, a removal of the same slot among them.
pub history_within : (t : List ℕ) → length t ≡ table_length → (before : List Call) → AllOfBytes before
    → (k : KeyData) (f : Frame) → Bytes k.key_id → (i : ℕ) → (installed (run t before) k f).answer ≡ done_at i
    → (cs : List Call) → GoesOn i (after (run t before) (install k f)) cs
    → Accounts (fresh k f) i (run t (before ++ install k f ∷ cs)) (told_by (fresh k f) cs)
history_within t long before all k f bytes i done cs goes =
    rw (run_append t before (install k f ∷ cs)) (history_installed (run t before) (run_long t long before all) k f bytes i done cs goes)
