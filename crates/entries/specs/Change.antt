-- Change (02, No. 7): "change the slot's entry to new key data, Size and start, or do nothing. Done, it and a load return the slot as install
-- does. .. Refusals: 16, 13, 14 in that order, 14 looking at the other slots only."
use Rattle.std.specs.Prelude.{Some, cond, List, ℕ}
use Rattle.answers.specs.Answers.{refused, unsound, no_slot}
use Rattle.format.specs.KeyData.{KeyData}
use Rattle.window.specs.declared.Frame.{Frame}
use Rattle.slots.specs.Table.{is_held}
use Rattle.lookup.specs.Lookup.{leads_elsewhere}
use Rattle.entries.specs.Fresh.{fresh_slot}
use Rattle.entries.specs.Install.{Left, placed, unless_twin, is_fair}

-- the entry is placed as an install places it, in the slot that is named
unfoldable pub changed : List ℕ → ℕ → KeyData → Frame → Left
changed t i k f =
    cond (is_held t i)
    (cond (is_fair k f) (unless_twin t (placed t (fresh_slot k f) (Some i)) (leads_elsewhere t i k.flag k.key_id k.source))
    (record { answer = refused unsound; table = t }))
    (record { answer = refused no_slot; table = t })
