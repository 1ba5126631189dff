-- An entry's window with its two totals (01, "Key lookup, window and totals"; 02, No. 2) and its two counters (02, No. 8).
use Rattle.std.specs.Prelude.{Bool, ◌&&◌, ℕ, ◌+◌, ◌-◌, ◌*◌, leb}
use Rattle.window.specs.Window.{View, view_of, floor_of, accept_of, count_of, undamaged_window, fresh_of}
use Rattle.window.specs.Counters.{none_refused, undamaged_counters}
use Rattle.window.specs.declared.Counters.{Counters}
use Rattle.window.specs.declared.Frame.{Frame}
use Rattle.window.specs.declared.Entry.{Entry as Held}

pub record Entry : Type 0 where
  pub window : View
  pub accepted : ℕ
  pub bytes : ℕ
  pub counters : Counters

-- What an entry of the code stands for.
abbrev pub entry_view : Held → Entry
entry_view e = record { window = view_of e.window; accepted = e.accepted; bytes = e.bytes; counters = e.counters }

-- "A fresh entry has highest 0, no mark, totals 0", and nothing refused
abbrev pub fresh_entry : Frame → Entry
fresh_entry f = record { window = fresh_of f; accepted = 0; bytes = 0; counters = none_refused }

-- the entry after a message with number n and a payload of so many bytes: "Accepted grows by 1, bytes by the payload's length."
abbrev pub taken : Entry → ℕ → ℕ → Entry
taken e n payload = record { window = accept_of e.window n; accepted = e.accepted + 1; bytes = e.bytes + payload; counters = e.counters }

-- the entry with other counters
abbrev pub counting : Entry → Counters → Entry
counting e c = record { window = e.window; accepted = e.accepted; bytes = e.bytes; counters = c }

-- the most bytes that a payload can have, with a KeyId of one byte
abbrev pub longest_payload : ℕ
longest_payload = 2034

-- the damage rule but for the key data: that of the window; accepted is below the number of marks, or above "the marks plus floor minus start";
-- "or bytes exceed 2,034 × accepted"; or a counter is over its limit
unfoldable pub undamaged_entry : Entry → Bool
undamaged_entry e =
    undamaged_window e.window
    && leb (count_of e.window) e.accepted
    && leb e.accepted (count_of e.window + floor_of e.window - e.window.frame.start)
    && leb e.bytes (longest_payload * e.accepted)
    && undamaged_counters e.counters
