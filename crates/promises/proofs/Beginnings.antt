-- How a history begins: with an install or a change that is answered 0, and with whatever stands undamaged in a slot to which it leads itself.
-- Assumes nothing.
use mathlib.Core.Path.{◌≡◌, refl, sym, ap, subst, ◌∙◌}
use mathlib.Core.Bool.{true, false}
use mathlib.Core.List.{List}
use mathlib.Core.Logic.{◌⊎◌, inl, inr}
use Prim.Native.Nat.{ℕ, ◌<◌}
use native.Mathlib.Omega.{arith}
use borrow.Author.Tests.{le-ltb}
use lib.ListN.{length}
use Rattle.octets.specs.Octets.{Bytes}
use Rattle.answers.specs.declared.Answer.{Answer}
use Rattle.window.specs.Window.{floor_of, marked, fresh_of}
use Rattle.window.specs.declared.Frame.{Frame}
use Rattle.window.specs.Entry.{Entry}
use Rattle.window.proofs.Marks.{no_mark}
use Rattle.window.proofs.Undamaged.{frame_facts}
use Rattle.format.specs.KeyData.{KeyData}
use Rattle.format.proofs.Soundness.{sound_facts}
use Rattle.slots.specs.Table.{slot_of, window_of, entry_of, key_data_of, replaced, slot_count, table_length}
use Rattle.slots.specs.Record.{undamaged}
use Rattle.slots.proofs.Replacing.{length_replaced, slot_own, slot_other}
use Rattle.lookup.specs.Lookup.{leads_to}
use Rattle.lookup.proofs.Firsts.{lowest, leads_nowhere, elsewhere_nowhere, free_small}
use Rattle.entries.specs.Change.{changed}
use Rattle.entries.specs.Fresh.{fresh_slot}
use Rattle.entries.specs.Install.{Left, done_at, installed}
use Rattle.entries.proofs.Fresh.{length_fresh, fresh_entry_is, fresh_keydata, fresh_matches, fresh_undamaged}
use Rattle.entries.proofs.Installs.{Fair}
use Rattle.entries.proofs.Outcomes.{Refuses, Enters, not_done, install_outcome, change_done}
use Rattle.promises.specs.Calls.{install, change, after}
use Rattle.promises.specs.Counted.{fresh, standing}
use Rattle.promises.specs.History.{Begins}
use Rattle.promises.proofs.Held.{is_named}
use Rattle.std.specs.Prelude.{Some}

module _ (t : List ℕ) (long : length t ≡ table_length) (k : KeyData) (f : Frame) (bytes : Bytes k.key_id) where
  -- a fresh entry in a slot below which none matches its key data
  pub fresh_begins : Fair k f → (i : ℕ) → i < slot_count → ((j : ℕ) → j < i → is_named k (slot_of t j) ≡ false)
      → Begins (fresh k f) i (replaced t i (fresh_slot k f))
  unfolding leads_to
  fresh_begins fair i small none =
      let sound = sound_facts k fair.sound in
      let slot = fresh_slot k f in
      let full = length_fresh sound (bytes 0) f in
      let own = slot_own t i slot long small full in
      let entry = ap entry_of own ∙ fresh_entry_is sound (bytes 0) f (frame_facts f fair.framed) in
      record {
        long = length_replaced t i slot long small full;
        keys = ap key_data_of own ∙ fresh_keydata sound (bytes 0) f;
        leads =
            lowest (λ j. is_named k (slot_of (replaced t i slot) j)) i small (rw own (fresh_matches sound (bytes 0) f))
            (λ j l. rw (slot_other t i slot long small full j (omega arith) (λ e. omega arith)) (none j l));
        unharmed = rw own (fresh_undamaged sound (bytes 0) f fair.framed);
        frame = ap (λ (e : Entry). e.window.frame) entry;
        highest = ap (λ (e : Entry). e.window.highest) entry;
        used = λ n l. ap (λ (e : Entry). marked e.window n) entry ∙ no_mark (fresh_of f) n refl;
        accepted = ap (λ (e : Entry). e.accepted) entry;
        bytes = ap (λ (e : Entry). e.bytes) entry;
        counters = ap (λ (e : Entry). e.counters) entry;
      }

  -- an install answered 0
  pub install_begins : (i : ℕ) → (installed t k f).answer ≡ done_at i → Begins (fresh k f) i (after t (install k f))
  install_begins i done = by (install_outcome t k f)
    where
      by : Refuses t (installed t k f) ⊎ ((j : ℕ) × Enters t k f j) → Begins (fresh k f) i (installed t k f).table
      by (inl r) = absurd (not_done r (ap (λ (a : Answer). a.reply) done))
      by (inr (j, n)) =
          let small = free_small t j n.free in
          subst (λ (x : ℕ). Begins (fresh k f) x (installed t k f).table) (ap (λ (a : Answer). a.slot) (rw n.is at done))
          (rw n.is (fresh_begins n.fair j small (λ x l. leads_nowhere t x k.flag k.key_id k.source n.alone (omega arith))))

  -- a change answered 0
  pub change_begins : (i : ℕ) → (changed t i k f).answer ≡ done_at i → Begins (fresh k f) i (after t (change i k f))
  change_begins i done =
      let c = change_done t i k f (ap (λ (a : Answer). a.reply) done) in
      let small = c.small in
      subst (Begins (fresh k f) i) (sym (ap (λ (l : Left). l.table) c.is))
      (fresh_begins c.fair i small (λ j l. elsewhere_nowhere t j i k.flag k.key_id k.source c.alone (omega arith) (λ same. omega arith)))

-- what stands undamaged in a slot to which its key data leads
pub slot_begins : (t : List ℕ) → length t ≡ table_length → (i : ℕ)
    → let k = key_data_of (slot_of t i) in leads_to t k.flag k.key_id k.source ≡ Some i
    → undamaged (slot_of t i) ≡ true → Begins (standing k (entry_of (slot_of t i))) i t
slot_begins t long i leads unharmed = record {
  long = long;
  keys = refl;
  leads = leads;
  unharmed = unharmed;
  frame = refl;
  highest = refl;
  used = λ n l. rw (le-ltb n (floor_of (window_of (slot_of t i))) l);
  accepted = refl;
  bytes = refl;
  counters = refl;
}
