-- What remove comes to, by the test of 16; and that test as facts.
-- Assumes nothing.
use mathlib.Core.Path.{◌≡◌}
use mathlib.Core.Bool.{true, false}
use mathlib.Core.List.{List}
use Prim.Native.Nat.{ℕ, ◌<◌}
use borrow.Author.Tests.{lt-ltb, ltb-true}
use lib.Dec.{ltb}
use Rattle.numbers.proofs.Tests.{and_left, and_right, and_both}
use Rattle.answers.specs.Answers.{refused, no_slot}
use Rattle.slots.specs.Table.{slot_of, occupied, replaced, empty_slot, slot_count, is_held}
use Rattle.entries.specs.Install.{done_at, removed}

module _ (t : List ℕ) (i : ℕ) where
  pub removes_not : is_held t i ≡ false → removed t i ≡ record { answer = refused no_slot; table = t }
  unfolding removed
  removes_not e = rw e

  pub removes : is_held t i ≡ true → removed t i ≡ record { answer = done_at i; table = replaced t i empty_slot }
  unfolding removed
  removes e = rw e

  -- the test, as facts
  pub held_small : is_held t i ≡ true → i < slot_count
  held_small e = ltb-true i slot_count (and_left (ltb i slot_count) (occupied (slot_of t i)) e)

  pub held_occupied : is_held t i ≡ true → occupied (slot_of t i) ≡ true
  held_occupied e = and_right (ltb i slot_count) (occupied (slot_of t i)) e

  pub held_is_true : i < slot_count → occupied (slot_of t i) ≡ true → is_held t i ≡ true
  held_is_true small busy = and_both (ltb i slot_count) (occupied (slot_of t i)) (lt-ltb i slot_count small) busy
