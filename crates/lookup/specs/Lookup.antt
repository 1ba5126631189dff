-- Which slot a message leads to (01, "Key lookup, window and totals"), and which is free.
use Rattle.std.specs.Prelude.{None, Option, Some, Bool, cond, ◌&&◌, ◌||◌, not, List, ℕ, zero, suc, eqb, leb}
use Rattle.octets.specs.Octets.{same}
use Rattle.slots.specs.Table.{slot_of, occupied, flag_of, key_id_length_of, key_id_of, source_length_of, source_of, slot_count, key_id_room, source_room}

-- an occupied slot with the flag and the KeyId bytes and, for flag 1, the source. "A slot whose stored length is over 128 for the KeyId, or
-- over 32 for the identifier, matches nothing."
unfoldable pub matches : ℕ → List ℕ → List ℕ → List ℕ → Bool
matches flag key_id source s =
    occupied s
    && leb (key_id_length_of s) key_id_room
    && leb (source_length_of s) source_room
    && eqb (flag_of s) flag
    && same (key_id_of s) key_id
    && (eqb flag 0 || same (source_of s) source)

-- of n slots from i on, the lowest whose number passes a test
abbrev pub first_from : (ℕ → Bool) → ℕ → ℕ → Option ℕ
first_from test zero i = None
first_from test (suc n) i = cond (test i) (Some i) (first_from test n (suc i))

-- the lowest slot that matches
unfoldable pub leads_to : List ℕ → ℕ → List ℕ → List ℕ → Option ℕ
leads_to t flag key_id source = first_from (λ i. matches flag key_id source (slot_of t i)) slot_count 0

-- the lowest that matches and is not slot i
unfoldable pub leads_elsewhere : List ℕ → ℕ → ℕ → List ℕ → List ℕ → Option ℕ
leads_elsewhere t i flag key_id source = first_from (λ j. not (eqb j i) && matches flag key_id source (slot_of t j)) slot_count 0

-- the lowest free slot
unfoldable pub first_free : List ℕ → Option ℕ
first_free t = first_from (λ i. not (occupied (slot_of t i))) slot_count 0
