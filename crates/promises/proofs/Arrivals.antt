-- Arrivals alone, on any table, whatever is damaged in it: where messages lead stays, and so does a damaged record. So a message that has come is
-- refused ever after, and no number is handed out twice at one slot.
-- Assumes nothing.
use mathlib.Core.Path.{◌≡◌, refl, sym, ap, subst, ◌∙◌}
use mathlib.Core.Bool.{Bool, true, false, true≢false, false≢true, not-eq-not, cond, ◌&&◌}
use mathlib.Core.List.{List, [], ◌∷◌, ◌++◌}
use Prim.Native.Nat.{ℕ, ◌≤◌, ◌<◌}
use native.Mathlib.Decide.{ℕ_discrete, dec_lt}
use native.Mathlib.Omega.{arith}
use borrow.Author.Tests.{eq-eqb, ltb-false, le-ltb}
use lib.Dec.{eqb, ltb}
use lib.ListN.{length}
use Rattle.numbers.proofs.Tests.{neither_left, neither_right}
use Rattle.octets.specs.Octets.{Bytes}
use Rattle.answers.specs.Answers.{output_room}
use Rattle.answers.specs.declared.Answer.{Answer}
use Rattle.window.specs.Window.{floor_at}
use Rattle.window.specs.Entry.{taken}
use Rattle.window.proofs.Floor.{floor_mono}
use Rattle.format.specs.Header.{read_of, key_id_bytes, payload_length}
use Rattle.format.specs.Suite.{number_of}
use Rattle.format.specs.declared.header.Header.{Header}
use Rattle.message.specs.Sealing.{right}
use Rattle.slots.specs.Table.{slot_of, entry_of, key_data_of, replaced, slot_count, table_length}
use Rattle.slots.specs.Record.{undamaged}
use Rattle.slots.proofs.Damage.{entry_undamaged}
use Rattle.slots.proofs.Replacing.{length_replaced, slot_own, slot_other}
use Rattle.slots.proofs.Rewriting.{Rewritten, raised_rewritten, rewritten_length, rewritten_slot, rewritten_keys}
use Rattle.slots.proofs.Settled.{settled_rewritten}
use Rattle.slots.proofs.Slots.{length_of_slot}
use Rattle.lookup.specs.Lookup.{matches, leads_to}
use Rattle.lookup.proofs.Firsts.{first_same, leads_small, leads_matches}
use Rattle.lookup.proofs.Matching.{match_facts, same_matches}
use Rattle.gateway.specs.Receive.{Received, received, handed_out, counter_of}
use Rattle.gateway.proofs.Arrivals.{Led, counter_within}
use Rattle.gateway.proofs.Cascade.{of_received}
use Rattle.promises.specs.Calls.{Call, arrival, install, remove, change, load, called, after, run, results}
use Rattle.promises.specs.Captures.{Arrives, AllArrive, NothingHanded, Spared, BooksOnce}
use Rattle.promises.specs.Counted.{Beginning, standing, Message, Told, apart, below, used, forged, new, tested, told, told_from, told_by, numbers, highest_since, is_in, is_below, is_used, is_of, is_new}
use Rattle.promises.specs.History.{Begins, GoesOn, handed, one, reply_to, ButCounters, TableButCounters}
use Rattle.promises.proofs.Beginnings.{slot_begins}
use Rattle.promises.proofs.Counting.{stays_in, counted_new, counted_told}
use Rattle.promises.proofs.Held.{own_leads}
use Rattle.promises.proofs.History.{history, leads_of}
use Rattle.promises.proofs.Refusals.{receive_keeps, raised_around}
use Rattle.promises.proofs.Runs.{begun, run_append}
use Rattle.promises.proofs.Steps.{Stands, step}
use Rattle.std.specs.Prelude.{Ok, Some}

-- ---- what an arrival does to a table

pub record Unmoved (t u : List ℕ) : Type 0 where
  pub long : length u ≡ table_length
  pub leads : (flag : ℕ) (key_id source : List ℕ) → leads_to u flag key_id source ≡ leads_to t flag key_id source
  pub harmed : (i : ℕ) → i < slot_count → undamaged (slot_of t i) ≡ false → slot_of u i ≡ slot_of t i

-- what is done was done at an undamaged slot to which the message leads
record Opens (t m source out : List ℕ) (i : ℕ) : Type 0 where
  header : Header
  led : Led t m source out header i
  unharmed : undamaged (slot_of t i) ≡ true

record Comes (t m source out : List ℕ) (r : Received) : Type 0 where
  unmoved : Unmoved t r.table
  opens : r.answer.reply ≡ 0 → Opens t m source out r.answer.slot

module _ (t : List ℕ) (long : length t ≡ table_length) where
  unmoved : Unmoved t t
  unmoved = record { long = long; leads = λ flag key_id source. refl; harmed = λ i small e. refl }

  -- a slot that was found and is undamaged is written, behind what an install settled
  module _ (i flag : ℕ) (key_id source : List ℕ) (l : leads_to t flag key_id source ≡ Some i) {s u : List ℕ} (w : Rewritten t i s u) where
    small : i < slot_count
    small = leads_small t i flag key_id source l

    alike : (f : ℕ) (k o : List ℕ) → matches f k o s ≡ matches f k o (slot_of t i)
    alike f k o =
        let a = match_facts flag key_id source (slot_of t i) (leads_matches t i flag key_id source l) in
        same_matches (rewritten_keys t i long small w a.keyid_short a.source_short) f k o

    same_name : (f : ℕ) (k o : List ℕ) (j : ℕ) → j < slot_count → Dec (j ≡ i) → matches f k o (slot_of (replaced t i s) j) ≡ matches f k o (slot_of t j)
    same_name f k o j within (yes same) = rw (same, slot_own t i s long small w.full) (alike f k o)
    same_name f k o j within (no other) = rw (slot_other t i s long small w.full j within other)

    moved : undamaged (slot_of t i) ≡ true → Unmoved t u
    unfolding leads_to
    moved unharmed =
        subst (Unmoved t) (sym w.is)
        (record {
          long = length_replaced t i s long small w.full;
          leads = λ f k o. first_same _ _ slot_count 0 (λ j within. same_name f k o j within (ℕ_discrete j i));
          harmed = λ j within harm. slot_other t i s long small w.full j within (λ same. true≢false (sym unharmed ∙ rw same at harm));
        })

  comes : (m source out : List ℕ) → Comes t m source out (received t m source out)
  unfolding handed_out
  comes m source out =
      of_received (Comes t m source out) t out (λ n some small. record { unmoved = unmoved; opens = λ z. absurd (omega arith) }) m source
      (λ h i led unharmed n least most.
      let small = leads_small t i h.flag (key_id_bytes h m) source led.found in
      let within = counter_within n in
      record {
        unmoved = moved i h.flag (key_id_bytes h m) source led.found (raised_rewritten t i long small (counter_of n) within.0 within.1) unharmed;
        opens = λ z. absurd (omega arith);
      })
      (λ h i led unharmed.
      let small = leads_small t i h.flag (key_id_bytes h m) source led.found in
      record {
        unmoved = moved i h.flag (key_id_bytes h m) source led.found (settled_rewritten t i (taken (entry_of (slot_of t i)) h.seqnum (payload_length h m)) long small) unharmed;
        opens = λ z. record { header = h; led = led; unharmed = unharmed };
      })

  -- the history of a slot that a message opens begins there
  opens_begins : (m source out : List ℕ) (i : ℕ) → Opens t m source out i → Begins (standing (key_data_of (slot_of t i)) (entry_of (slot_of t i))) i t
  opens_begins m source out i o =
      slot_begins t long i (own_leads t i o.header.flag (key_id_bytes o.header m) source o.led.found) o.unharmed

-- ---- several

pub arrivals_go_on : (i : ℕ) (t : List ℕ) (cs : List Call) → AllArrive cs → GoesOn i t cs
arrivals_go_on i t [] all = tt
arrivals_go_on i t (arrival m source out ∷ cs) all = (all.0, refl, arrivals_go_on i (after t (arrival m source out)) cs all.1)
arrivals_go_on i t (install k f ∷ cs) all = absurd all.0
arrivals_go_on i t (remove j ∷ cs) all = absurd all.0
arrivals_go_on i t (change j k f ∷ cs) all = absurd all.0
arrivals_go_on i t (load text ∷ cs) all = absurd all.0

pub arrivals_append : (cs ds : List Call) → AllArrive cs → AllArrive ds → AllArrive (cs ++ ds)
arrivals_append [] ds a b = b
arrivals_append (c ∷ cs) ds a b = (a.0, arrivals_append cs ds a.1 b)

arrivals_unmoved : (t : List ℕ) → length t ≡ table_length → (cs : List Call) → AllArrive cs → Unmoved t (run t cs)
arrivals_unmoved t long [] all = unmoved t long
arrivals_unmoved t long (arrival m source out ∷ cs) all =
    let first = (comes t long m source out).unmoved in
    let rest = arrivals_unmoved (after t (arrival m source out)) first.long cs all.1 in
    record {
      long = rest.long;
      leads = λ flag key_id s. rest.leads flag key_id s ∙ first.leads flag key_id s;
      harmed = λ i small harm. let same = first.harmed i small harm in rest.harmed i small (rw same harm) ∙ same;
    }
arrivals_unmoved t long (install k f ∷ cs) all = absurd all.0
arrivals_unmoved t long (remove j ∷ cs) all = absurd all.0
arrivals_unmoved t long (change j k f ∷ cs) all = absurd all.0
arrivals_unmoved t long (load text ∷ cs) all = absurd all.0

-- ---- a message that has come is refused ever after

-- the highest number since a beginning does not fall
highest_rises : (b : Beginning) (past : List Told) (w : Told) → highest_since b past ≤ highest_since b (w ∷ past)
highest_rises b past apart = omega arith
highest_rises b past below = omega arith
highest_rises b past used = omega arith
highest_rises b past forged = omega arith
highest_rises b past (new x) = omega arith

highest_never_falls : (b : Beginning) (past : List Told) (cs : List Call) → highest_since b past ≤ highest_since b (told_from b past cs)
highest_never_falls b past [] = omega arith
highest_never_falls b past (c ∷ cs) = omega (arith, highest_rises b past (told b past c), highest_never_falls b (told b past c ∷ past) cs)

module _ (b : Beginning) (m source out : List ℕ) where
  abbrev c : Call
  c = arrival m source out

  -- What is new was not used, and is new by any tests of its number that it passes too.
  abbrev outcome : Bool → Bool → Bool → Bool → Bool → Message → Told
  outcome short mine low met icv x = cond short apart (cond mine (tested low met icv x) apart)

  by_tests : (short mine low met icv first old : Bool) (x y : Message) → outcome short mine low met icv x ≡ new y
      → (low ≡ false → first ≡ false) → (met ≡ false → old ≡ false) → (met ≡ false) × (outcome short mine first old icv x ≡ new x)
  by_tests true mine low met icv first old x y e p q = absurd (false≢true (ap is_new e))
  by_tests false false low met icv first old x y e p q = absurd (false≢true (ap is_new e))
  by_tests false true true met icv first old x y e p q = absurd (false≢true (ap is_new e))
  by_tests false true false true icv first old x y e p q = absurd (false≢true (ap is_new e))
  by_tests false true false false false first old x y e p q = absurd (false≢true (ap is_new e))
  by_tests false true false false true first old x y e p q = (refl, rw (p refl, q refl))

  module _ (h : Header) (read : read_of m ≡ Ok h) where
    abbrev message : Message
    message = record { number = h.seqnum; payload = payload_length h m }

    abbrev short : Bool
    short = ltb (length out) output_room

    abbrev mine : Bool
    mine = is_of b.keys h m source && eqb b.keys.suite (number_of h.suite)

    told_read : (past : List Told) → told b past c ≡ outcome short mine (is_below b past h.seqnum) (is_used b past h.seqnum) (right h b.keys m) message
    told_read past = rw read

    -- so a message is not counted once more
    not_again : (ds : List Call) (y : Message) → told b (told_by b (c ∷ ds)) c ≡ new y → ⊥
    not_again ds y e =
        let past = told_by b (c ∷ ds) in
        let n = h.seqnum in
        let tests =
        by_tests short mine (is_below b past n) (is_used b past n) (right h b.keys m) (is_below b [] n) (is_used b [] n) message y (sym (told_read past) ∙ e)
        (λ reached. le-ltb n (floor_at b.frame (highest_since b []))
        (omega (arith, ltb-false n (floor_at b.frame (highest_since b past)) reached, floor_mono b.frame (highest_never_falls b [] (c ∷ ds)))))
        (λ fresh. neither_right (is_in n (numbers past)) (b.used n) fresh) in
        let first : told b [] c ≡ new message = told_read [] ∙ tests.1 in
        let met = stays_in b n (told b [] c ∷ []) (rw (first, eq-eqb n n refl)) ds in
        true≢false (sym met ∙ neither_left (is_in n (numbers past)) (b.used n) tests.0)

    no_reply : (ds : List Call) → reply_to (told b (told_by b (c ∷ ds)) c) ≡ 0 → ⊥
    no_reply ds e = by (told b (told_by b (c ∷ ds)) c) refl e
      where
        by : (w : Told) → told b (told_by b (c ∷ ds)) c ≡ w → reply_to w ≡ 0 → ⊥
        by apart p z = omega arith
        by below p z = omega arith
        by used p z = omega arith
        by forged p z = omega arith
        by (new y) p z = not_again ds y p

module _ (t : List ℕ) (long : length t ≡ table_length) where
  -- whatever came between
  pub refused_again : (c : Call) → Arrives c → (ds : List Call) → AllArrive ds → (called (run t (c ∷ ds)) c).answer.reply ≡ 0 → ⊥
  refused_again (arrival m source out) bytes ds all done =
      let call = arrival m source out in
      let u = run t (call ∷ ds) in
      let moves = arrivals_unmoved t long (call ∷ ds) (bytes, all) in
      let o = (comes u moves.long m source out).opens done in
      let i = (called u call).answer.slot in
      let h = o.header in
      let found = sym (moves.leads h.flag (key_id_bytes h m) source) ∙ o.led.found in
      let unharmed : undamaged (slot_of t i) ≡ true =
      not-eq-not.0 (λ harm. true≢false (sym o.unharmed ∙ ap undamaged (moves.harmed i (leads_small t i h.flag (key_id_bytes h m) source found) harm) ∙ harm)) in
      let here : Opens t m source out i = record { header = h; led = record { room = o.led.room; read = o.led.read; found = found }; unharmed = unharmed } in
      let begins = opens_begins t long m source out i here in
      let mine = leads_of begins [] tt h m source found in
      let replies = (history begins (call ∷ ds) (arrivals_go_on i t (call ∷ ds) (bytes, all))).replies in
      no_reply (standing (key_data_of (slot_of t i)) (entry_of (slot_of t i))) m source out h o.led.read ds (sym (replies m source out bytes o.led.room h o.led.read mine) ∙ done)
  refused_again (install k f) bytes ds all done = absurd bytes
  refused_again (remove j) bytes ds all done = absurd bytes
  refused_again (change j k f) bytes ds all done = absurd bytes
  refused_again (load text) bytes ds all done = absurd bytes

-- ---- the same arrivals again

-- cs came after pre, and now come again, after others
again : (t : List ℕ) → length t ≡ table_length → (pre cs others : List Call) → AllArrive pre → AllArrive cs → AllArrive others → (u : List ℕ) → u ≡ run (run (run t pre) cs) others
    → NothingHanded (results u cs)
again t long pre [] others before all between u e = tt
again t long pre (c ∷ cs) others before all between u e =
    let first = run t pre in
    let one : AllArrive (c ∷ []) = (all.0, tt) in (
      λ done.
          refused_again first (arrivals_unmoved t long pre before).long c all.0 (cs ++ others) (arrivals_append cs others all.1 between)
          (subst (λ (x : List ℕ). (called x c).answer.reply ≡ 0) (e ∙ sym (run_append (after first c) cs others)) done),
      again t long (pre ++ (c ∷ [])) cs (others ++ (c ∷ [])) (arrivals_append pre (c ∷ []) before one) all.1 (arrivals_append others (c ∷ []) between one) (after u c)
          (ap (λ (x : List ℕ). after x c) e ∙ sym (run_append (run first (c ∷ cs)) others (c ∷ []))
          ∙ ap (λ (x : List ℕ). run (run x cs) (others ++ (c ∷ []))) (sym (run_append t pre (c ∷ [])))),
    )

-- Arrivals that come a second time, whatever arrivals came between, are all refused,
pub nothing_again : (t : List ℕ) → length t ≡ table_length → (cs others : List Call) → AllArrive cs → AllArrive others → NothingHanded (results (run (run t cs) others) cs)
nothing_again t long cs others all between = again t long [] cs others tt all between (run (run t cs) others) refl

but_none : (s : List ℕ) → ButCounters s s
but_none s = record { before = refl; behind = refl; replays = omega arith; forged = omega arith }

at_slot : (t : List ℕ) (long : length t ≡ table_length) (i : ℕ) (small : i < slot_count) {s u : List ℕ} → Rewritten t i s u → ButCounters (slot_of t i) s
    → (j : ℕ) → j < slot_count → Dec (j ≡ i) → ButCounters (slot_of t j) (slot_of u j)
at_slot t long i small w own j inside (yes same) = rw (same, rewritten_slot t i long small w) own
at_slot t long i small {s} w own j inside (no other) =
    rw (ap (λ (x : List ℕ). slot_of x j) w.is ∙ slot_other t i s long small w.full j inside other) (but_none (slot_of t j))

refused_moves : (t : List ℕ) → length t ≡ table_length → (m source out : List ℕ) → ((received t m source out).answer.reply ≡ 0 → ⊥) → TableButCounters t (received t m source out).table
refused_moves t long m source out denied = by (dec_lt (received t m source out).answer.reply 9)
  where
    r : Received
    r = received t m source out

    by : Dec (r.answer.reply < 9) → TableButCounters t r.table
    by (yes low) = subst (TableButCounters t) (sym ((receive_keeps t m source out).keeps denied low)) (record { long = long; slots = λ j within. but_none (slot_of t j) })
    by (no high) =
        let c = (receive_keeps t m source out).counts (omega arith) in
        let i = c.slot in
        let at = counter_of r.answer.reply in
        let small = leads_small t i c.header.flag (key_id_bytes c.header m) source c.found in
        let within = counter_within r.answer.reply in
        let w = raised_rewritten t i long small at within.0 within.1 in
        let own = raised_around (slot_of t i) (length_of_slot t i long small) (entry_undamaged (slot_of t i) c.unharmed) r.answer.reply in
        subst (TableButCounters t) (sym c.leaves) (record { long = rewritten_length t i long small w; slots = λ j inside. at_slot t long i small w own j inside (ℕ_discrete j i) })

-- and where nothing is handed out nothing moves but counters.
pub nothing_moves : (t : List ℕ) → length t ≡ table_length → (cs : List Call) → AllArrive cs → NothingHanded (results t cs) → TableButCounters t (run t cs)
nothing_moves t long [] all none = record { long = long; slots = λ i small. but_none (slot_of t i) }
nothing_moves t long (arrival m source out ∷ cs) all none =
    let first = refused_moves t long m source out none.0 in
    let rest = nothing_moves (received t m source out).table first.long cs all.1 none.1 in
    record {
      long = rest.long;
      slots =
          λ i small.
          let p = first.slots i small in
          let q = rest.slots i small in
          record {
            before = q.before ∙ p.before;
            behind = q.behind ∙ p.behind;
            replays = omega (arith, p.replays, q.replays);
            forged = omega (arith, p.forged, q.forged);
          };
    }
nothing_moves t long (install k f ∷ cs) all none = absurd all.0
nothing_moves t long (remove j ∷ cs) all none = absurd all.0
nothing_moves t long (change j k f ∷ cs) all none = absurd all.0
nothing_moves t long (load text ∷ cs) all none = absurd all.0

-- ---- no number twice at one slot

-- an arrival that is done at slot i hands out its number there
handed_at : (i : ℕ) (t m source out : List ℕ) → let a = (received t m source out).answer in a.reply ≡ 0 → i ≡ a.slot
    → handed i t (arrival m source out) ≡ one (record { number = a.seqnum; payload = a.length })
handed_at i t m source out done at = let a = (received t m source out).answer in rw (eq-eqb a.reply 0 done, eq-eqb a.slot i (sym at))

-- On any table, an arrival that is answered 0 is new to what stood in its slot.
pub taken_new : (t : List ℕ) → length t ≡ table_length → (m source out : List ℕ) → Bytes m
    → let a = (received t m source out).answer in let s = slot_of t a.slot in
    a.reply ≡ 0 → told (standing (key_data_of s) (entry_of s)) [] (arrival m source out) ≡ new (record { number = a.seqnum; payload = a.length })
taken_new t long m source out bytes done =
    let call = arrival m source out in
    let a = (received t m source out).answer in
    let begins = opens_begins t long m source out a.slot ((comes t long m source out).opens done) in
    counted_told (told (standing (key_data_of (slot_of t a.slot)) (entry_of (slot_of t a.slot))) [] call) (record { number = a.seqnum; payload = a.length })
    (sym (step (begun begins) call bytes refl).gives ∙ handed_at a.slot t m source out done refl)

-- none of those that follow hands out a number that was counted
spared : (b : Beginning) (a : Answer) {t : List ℕ} {past : List Told} → Stands b a.slot t past → is_in a.seqnum (numbers past) ≡ true
    → (cs : List Call) → AllArrive cs → Spared a (results t cs)
spared b a now met [] all = tt
spared b a {t} {past} now met (arrival m source out ∷ cs) all =
    let call = arrival m source out in
    let next = step now call all.0 refl in
    let q = (received t m source out).answer in (
      λ done at same.
          let y : Message = record { number = q.seqnum; payload = q.length } in
          let counted = counted_told (told b past call) y (sym next.gives ∙ handed_at a.slot t m source out done at) in
          true≢false (sym (rw same at met) ∙ (counted_new b past call y counted).uncounted),
      spared b a {t = after t call} next.stands (stays_in b a.seqnum past met (call ∷ [])) cs all.1,
    )
spared b a now met (install k f ∷ cs) all = absurd all.0
spared b a now met (remove j ∷ cs) all = absurd all.0
spared b a now met (change j k f ∷ cs) all = absurd all.0
spared b a now met (load text ∷ cs) all = absurd all.0

-- On any table, arrivals hand out no number twice at one slot.
pub books_once : (t : List ℕ) → length t ≡ table_length → (cs : List Call) → AllArrive cs → BooksOnce (results t cs)
books_once t long [] all = tt
books_once t long (arrival m source out ∷ cs) all =
    let call = arrival m source out in
    let coming = comes t long m source out in
    let a = (called t call).answer in (
      λ done.
          let i = a.slot in
          let begins = opens_begins t long m source out i (coming.opens done) in
          let b = standing (key_data_of (slot_of t i)) (entry_of (slot_of t i)) in
          spared b a (step (begun begins) call all.0 refl).stands (rw (taken_new t long m source out all.0 done, eq-eqb a.seqnum a.seqnum refl)) cs all.1,
      books_once (after t call) coming.unmoved.long cs all.1,
    )
books_once t long (install k f ∷ cs) all = absurd all.0
books_once t long (remove j ∷ cs) all = absurd all.0
books_once t long (change j k f ∷ cs) all = absurd all.0
books_once t long (load text ∷ cs) all = absurd all.0
