-- Calls one after the other: from where a history begins, after any calls that do not end it, the entry agrees with what was counted; which calls
-- cannot end it; and that every call leaves a table as long as it was.
-- Assumes nothing.
use mathlib.Core.Path.{◌≡◌, refl, ap, subst, ◌∙◌}
use mathlib.Core.Bool.{false}
use mathlib.Core.List.{List, [], ◌∷◌, ◌++◌}
use mathlib.Core.Logic.{◌⊎◌, inl, inr}
use Prim.Native.Nat.{ℕ}
use native.Mathlib.Omega.{arith}
use borrow.Author.Tests.{ne_eqb}
use lib.ListN.{length, length-map}
use Rattle.format.proofs.Soundness.{Sound}
use Rattle.window.specs.declared.Counters.{Counters}
use Rattle.slots.specs.Table.{slot_of, counters_of, table_length}
use Rattle.slots.proofs.Damage.{undamaged_sound, entry_undamaged}
use Rattle.entries.specs.Change.{changed}
use Rattle.entries.specs.Install.{Left, removed}
use Rattle.entries.proofs.Outcomes.{Refuses, Frees, Changes, remove_outcome, change_outcome, install_length, remove_length, change_length}
use Rattle.form.specs.Form.{Listing}
use Rattle.loading.specs.Load.{loaded}
use Rattle.loading.proofs.Outcomes.{Takes, load_outcome, load_length}
use Rattle.gateway.proofs.Cascade.{received_length}
use Rattle.promises.specs.Calls.{Call, arrival, install, remove, change, load, OfBytes, AllOfBytes, called, after, run, results, is_done}
use Rattle.promises.specs.Counted.{Beginning, Message, Told, messages, counters_since, told, told_from}
use Rattle.promises.specs.History.{Begins, Handed, handed, noted, handed_by, ends, GoesOn, Spares, SpareAll, counted_of, Accounts}
use Rattle.promises.proofs.Counting.{grown, counters_alike}
use Rattle.promises.proofs.Steps.{Stands, arrives, replied, step, unharmed}

pub begun : {b : Beginning} {i : ℕ} {t : List ℕ} → Begins b i t → Stands b i t []
begun {b} {i} {t} g =
    let s = slot_of t i in
    let whole = entry_undamaged s g.unharmed in
    let counters : counters_of s ≡ counters_since b [] =
    counters_alike (omega (arith, whole.few_replays, ap (λ (c : Counters). c.replays) g.counters)) (omega (arith, whole.few_forged, ap (λ (c : Counters). c.forged) g.counters)) in
    record {
      held = record {
        long = g.long;
        sound = subst Sound g.keys (undamaged_sound s g.unharmed);
        keys = g.keys;
        leads = g.leads;
      };
      agrees = record {
        framed = g.frame;
        high = omega (arith, g.highest);
        marks = g.used;
        once = refl;
        number = omega (arith, g.accepted);
        sum = omega (arith, g.bytes);
        counters = counters;
        unharmed = whole;
      };
    }

module _ {b : Beginning} {i : ℕ} where
  pub stands_on : {t : List ℕ} {past : List Told} → Stands b i t past → (cs : List Call) → GoesOn i t cs → Stands b i (run t cs) (told_from b past cs)
  stands_on now [] goes = now
  stands_on {t} now (c ∷ cs) goes = stands_on {t = after t c} (step now c goes.0 goes.1).stands cs goes.2

  pub hands_on : {t : List ℕ} {past : List Told} → Stands b i t past → (cs : List Call) → GoesOn i t cs
      → handed_by i (messages past) cs (results t cs) ≡ messages (told_from b past cs)
  hands_on now [] goes = refl
  hands_on {t} {past} now (c ∷ cs) goes =
      let d = step now c goes.0 goes.1 in
      ap (λ (x : Handed). handed_by i (noted (messages past) x) cs (results (after t c) cs)) d.gives
      ∙ ap (λ (xs : List Message). handed_by i xs cs (results (after t c) cs)) (grown (told b past c) past)
      ∙ hands_on {t = after t c} d.stands cs goes.2

  pub accounts : {t : List ℕ} {past : List Told} → Stands b i t past → Accounts b i t past
  accounts {t} {past} now =
      let a = now.agrees in record {
        exactly = exactly;
        replies = λ message source out bytes. replied now message source out bytes;
        accepted = omega (arith, a.number, ap length a.once, length-map (messages past) (λ (x : Message). x.number));
        bytes = a.sum;
        replays = ap (λ (c : Counters). c.replays) a.counters;
        forged = ap (λ (c : Counters). c.forged) a.counters;
        once = a.once;
        highest = a.high;
        keys = now.held.keys;
        frame = a.framed;
        unharmed = unharmed now;
      }
    where
      exactly : (c : Call) → OfBytes c → handed i t c ≡ counted_of (told b past c)
      exactly (arrival message source out) bytes = (arrives now message source out bytes).does.gives
      exactly (install k f) bytes = refl
      exactly (remove j) bytes = refl
      exactly (change j k f) bytes = refl
      exactly (load text) bytes = refl

-- ---- calls that do not ask for the removal or a change of the slot, or have its listing

-- what is refused is done at no slot
pub done_nowhere : {t : List ℕ} {l : Left} → Refuses t l → (i : ℕ) → is_done i l.answer ≡ false
done_nowhere r i = rw (r.is, ne_eqb r.reply 0 (λ z. omega (arith, r.some)))

pub spares : (i : ℕ) (t : List ℕ) (c : Call) → Spares i c → ends i c (called t c).answer ≡ false
spares i t (arrival message source out) s = refl
spares i t (install k f) s = refl
spares i t (remove j) s = by (remove_outcome t j)
  where
    by : Refuses t (removed t j) ⊎ Frees t j → is_done i (removed t j).answer ≡ false
    by (inl r) = done_nowhere r i
    by (inr f) = rw (f.is, ne_eqb j i s)
spares i t (change j k f) s = by (change_outcome t j k f)
  where
    by : Refuses t (changed t j k f) ⊎ Changes t j k f → is_done i (changed t j k f).answer ≡ false
    by (inl r) = done_nowhere r i
    by (inr c) = rw (c.is, ne_eqb j i s)
spares i t (load text) s = by (load_outcome t text)
  where
    by : Refuses t (loaded t text) ⊎ ((l : Listing) × Takes t text l) → is_done i (loaded t text).answer ≡ false
    by (inl r) = done_nowhere r i
    by (inr (l, n)) = rw (n.is, ne_eqb l.settled.named.slot i (s l n.read))

pub spared : (i : ℕ) (t : List ℕ) (cs : List Call) → SpareAll i cs → GoesOn i t cs
spared i t [] s = tt
spared i t (c ∷ cs) s = (s.0, spares i t c s.1, spared i (after t c) cs s.2)

-- ---- tables

after_long : (t : List ℕ) → length t ≡ table_length → (c : Call) → OfBytes c → length (after t c) ≡ table_length
after_long t long (arrival m source out) bytes = received_length t long m source out
after_long t long (install k f) bytes = install_length t long k f bytes
after_long t long (remove i) bytes = remove_length t long i
after_long t long (change i k f) bytes = change_length t long i k f bytes
after_long t long (load text) bytes = load_length t text long

pub run_long : (t : List ℕ) → length t ≡ table_length → (cs : List Call) → AllOfBytes cs → length (run t cs) ≡ table_length
run_long t long [] bytes = long
run_long t long (c ∷ cs) bytes = run_long (after t c) (after_long t long c bytes.0) cs bytes.1

-- a run in two parts is one run
pub run_append : (t : List ℕ) (cs ds : List Call) → run t (cs ++ ds) ≡ run (run t cs) ds
run_append t [] ds = refl
run_append t (c ∷ cs) ds = run_append (after t c) cs ds
