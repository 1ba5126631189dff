use Rattle.std.proofs.Common.{◌≡◌, ◌-◌, ◌<◌, ℕ, Bool}
use Rattle.slots.specs.Table.{slot_count}
use Rattle.lookup.specs.Lookup.{first_from}
use Rattle.lookup.proofs.first_slot.Given as goal

-- the slots that were tried are not it
abbrev pub invariant-loop-number : goal.invariant-loop-number
invariant-loop-number g l =
    (passes : ℕ → Bool) → ((i : ℕ) (b : Bool) → i < slot_count → goal.F-post g l.test i b → b ≡ passes i)
    → first_from passes slot_count 0 ≡ first_from passes (slot_count - l.number) l.number
