-- The damage rule on a slot: what each part of it says, and how small it keeps the totals.
-- Assumes nothing.
use mathlib.Core.Path.{◌≡◌}
use mathlib.Core.Bool.{true, false}
use mathlib.Core.List.{List}
use Prim.Native.Nat.{ℕ, ◌≤◌, ◌<◌}
use native.Mathlib.Omega.{arith}
use lib.ListN.{length, length-take, length-drop}
use Rattle.numbers.proofs.Tests.{and_left, and_right}
use Rattle.format.specs.KeyData.{sound_of}
use Rattle.format.proofs.Soundness.{Sound, sound_facts, unsound}
use Rattle.window.specs.Entry.{undamaged_entry}
use Rattle.window.proofs.Entries.{UndamagedEntry, entry_facts}
use Rattle.slots.specs.Table.{source_length_of, entry_of, slot_length, key_data_of, source_room}
use Rattle.slots.specs.Record.{undamaged}

module _ (s : List ℕ) where
  -- ---- the key data

  pub long_source : length s ≡ slot_length → source_room < source_length_of s → false ≡ sound_of (key_data_of s)
  long_source n h = unsound (key_data_of s) (λ k. omega (arith, simp (length-take, length-drop) at k.source_most))

  -- ---- both

  pub damaged_unsound : false ≡ sound_of (key_data_of s) → false ≡ undamaged s
  unfolding undamaged
  damaged_unsound e = rw (← e)

  pub undamaged_by_entry : sound_of (key_data_of s) ≡ true → undamaged_entry (entry_of s) ≡ undamaged s
  unfolding undamaged
  undamaged_by_entry e = rw e

  module _ (u : undamaged s ≡ true) where
    pub undamaged_sound : Sound (key_data_of s)
    unfolding undamaged
    undamaged_sound = sound_facts (key_data_of s) (and_left _ (undamaged_entry (entry_of s)) u)

    pub entry_passes : undamaged_entry (entry_of s) ≡ true
    unfolding undamaged
    entry_passes = and_right (sound_of (key_data_of s)) (undamaged_entry (entry_of s)) u

    pub entry_undamaged : UndamagedEntry (entry_of s)
    entry_undamaged = entry_facts (entry_of s) entry_passes

    pub source_short : length s ≡ slot_length → source_length_of s ≤ source_room
    source_short n = omega (arith, simp (length-take, length-drop) at undamaged_sound.source_most)
