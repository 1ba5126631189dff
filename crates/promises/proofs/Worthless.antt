-- What demand 3 shuts out, without a look into what a receive does: where a slot accounts for what is told, a counted message is handed out,
-- it moves the slot, a refusal is not forgotten, and neither totals nor counters can be invented.
-- Assumes nothing.
use mathlib.Core.Path.{◌≡◌, refl, sym, ap, ◌∙◌}
use mathlib.Core.Bool.{Bool, true, false, cond}
use mathlib.Core.List.{List, ◌∷◌}
use mathlib.Core.Logic.{◌⊎◌, inl, inr}
use Prim.Native.Nat.{ℕ, ◌<◌}
use native.Mathlib.Omega.{arith}
use borrow.Author.Tests.{eqb-true}
use lib.Dec.{eqb}
use lib.ListN.{length}
use Rattle.numbers.proofs.Tests.{and_left, and_right}
use Rattle.answers.specs.declared.Answer.{Answer}
use Rattle.window.specs.Counters.{counter_limit}
use Rattle.slots.specs.Table.{slot_of, entry_of}
use Rattle.promises.specs.Calls.{Call, arrival, install, remove, change, load, OfBytes, called, is_done}
use Rattle.promises.specs.Counted.{Beginning, Message, Told, new, is_replay, is_forgery, told}
use Rattle.promises.proofs.Counting.{counters_alike}
use Rattle.promises.specs.Histories.{Gives}
use Rattle.promises.specs.History.{nothing, one, answered, counted_of, Accounts}

pub nothing_given : {x : Message} → nothing ≡ one x → ⊥
nothing_given e = let z : ◌≡◌ {A = ℕ} 0 1 = cc in omega arith

pub answered_gives : (i : ℕ) (c : Call) (a : Answer) (x : Message) → answered i c a ≡ one x → Gives i a x
answered_gives i (arrival m source out) a x e = by (is_done i a) refl e
  where
    by : (d : Bool) → is_done i a ≡ d → cond d (one (record { number = a.seqnum; payload = a.length })) nothing ≡ one x → Gives i a x
    by true d e =
        let same : record { number = a.seqnum; payload = a.length } ≡ x = cc in
        record {
          done = eqb-true a.reply 0 (and_left (eqb a.reply 0) (eqb a.slot i) d);
          slot = eqb-true a.slot i (and_right (eqb a.reply 0) (eqb a.slot i) d);
          number = ap (λ (y : Message). y.number) same;
          payload = ap (λ (y : Message). y.payload) same;
        }
    by false d e = absurd (nothing_given e)
answered_gives i (install k f) a x e = absurd (nothing_given e)
answered_gives i (remove j) a x e = absurd (nothing_given e)
answered_gives i (change j k f) a x e = absurd (nothing_given e)
answered_gives i (load text) a x e = absurd (nothing_given e)

module _ {b : Beginning} {i : ℕ} {t : List ℕ} {past : List Told} (a : Accounts b i t past) where
  -- Not all is refused: a counted message is handed out at the slot.
  pub must_hand : (c : Call) → OfBytes c → (x : Message) → told b past c ≡ new x → Gives i (called t c).answer x
  must_hand c bytes x is = answered_gives i c (called t c).answer x (a.exactly c bytes ∙ ap counted_of is)

  -- Nor is nothing done: with what stood in the slot before, no table accounts for one message more.
  pub must_move : (u : List ℕ) (x : Message) → Accounts b i u (new x ∷ past) → slot_of u i ≡ slot_of t i → ⊥
  must_move u x later same =
      omega (arith, a.accepted, later.accepted, ap length a.once, ap length later.once, ap (λ (s : List ℕ). (entry_of s).accepted) same)

  -- Nor are totals or counters invented: in any table and any slot that account for the same, they are the same.
  pub one_account : {j : ℕ} {u : List ℕ} → Accounts b j u past
      → let e = entry_of (slot_of t i) in let f = entry_of (slot_of u j) in
      (e.accepted ≡ f.accepted) × (e.bytes ≡ f.bytes) × (e.window.highest ≡ f.window.highest) × (e.counters ≡ f.counters)
  one_account other = (
    a.accepted ∙ sym other.accepted,
    a.bytes ∙ sym other.bytes,
    a.highest ∙ sym other.highest,
    counters_alike (a.replays ∙ sym other.replays) (a.forged ∙ sym other.forged),
  )

  -- Nor is a refusal forgotten: below the limit, no table accounts for one more with what stood in the slot before.
  pub must_count : (u : List ℕ) (w : Told) → let c = (entry_of (slot_of t i)).counters in
      ((is_replay w ≡ true) × (c.replays < counter_limit)) ⊎ ((is_forgery w ≡ true) × (c.forged < counter_limit))
      → Accounts b i u (w ∷ past) → slot_of u i ≡ slot_of t i → ⊥
  must_count u w (inl (is, low)) later same =
      let more = rw is at later.replays in
      omega (arith, a.replays, more, ap (λ (s : List ℕ). (entry_of s).counters.replays) same)
  must_count u w (inr (is, low)) later same =
      let more = rw is at later.forged in
      omega (arith, a.forged, more, ap (λ (s : List ℕ). (entry_of s).counters.forged) same)
