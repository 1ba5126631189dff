-- Install and remove (01, "Replies"): install refuses with 13, 14, 15 in that order, remove with 16. 02, No. 2: "a larger start gives 13 at
-- install", No. 4: "another edition, or 1 with a suite other than 1, gives 13 at install".
use Rattle.std.specs.Prelude.{None, Option, Some, ◌≡◌, Bool, cond, ◌&&◌, List, ℕ}
use Rattle.answers.specs.Answers.{refused, unsound, twin, full, no_slot}
use Rattle.answers.specs.declared.Answer.{Answer}
use Rattle.format.specs.KeyData.{KeyData, sound_of}
use Rattle.window.specs.Window.{sound_frame}
use Rattle.window.specs.declared.Frame.{Frame}
use Rattle.slots.specs.Table.{replaced, empty_slot, is_held}
use Rattle.lookup.specs.Lookup.{leads_to, first_free}
use Rattle.entries.specs.Fresh.{fresh_slot}

-- what a call on the table leaves
pub record Left : Type 0 where
  pub answer : Answer
  pub table : List ℕ

-- what a contract says: the answer, and the table that was lent, are those
pub record IsLeft (l : Left) (answer : Answer) (table : List ℕ) : Type 0 where
  pub answers : answer ≡ l.answer
  pub leaves : table ≡ l.table

-- done at slot i: "install the slot taken and remove the slot freed, with length and SeqNum 0"
abbrev pub done_at : ℕ → Answer
done_at i = record { reply = 0; length = 0; slot = i; seqnum = 0 }

-- whether key data, and Size and start with it, are sound: else 13
abbrev pub is_fair : KeyData → Frame → Bool
is_fair k f = sound_of k && sound_frame f

-- "Install takes the lowest free slot, freed ones included, and starts fresh"
abbrev pub placed : List ℕ → List ℕ → Option ℕ → Left
placed t fresh (Some i) = record { answer = done_at i; table = replaced t i fresh }
placed t fresh None = record { answer = refused full; table = t }

-- where no slot was found that has the same flag and KeyId and, for flag 1, source
abbrev pub unless_twin : List ℕ → Left → Option ℕ → Left
unless_twin t done (Some i) = record { answer = refused twin; table = t }
unless_twin t done None = done

unfoldable pub installed : List ℕ → KeyData → Frame → Left
installed t k f =
    cond (is_fair k f) (unless_twin t (placed t (fresh_slot k f) (first_free t)) (leads_to t k.flag k.key_id k.source))
    (record { answer = refused unsound; table = t })

-- "16: slot over 15, or free"; "A freed slot holds zeros only"
unfoldable pub removed : List ℕ → ℕ → Left
removed t i =
    cond (is_held t i) (record { answer = done_at i; table = replaced t i empty_slot })
    (record { answer = refused no_slot; table = t })
