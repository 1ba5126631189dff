-- A window's contracts speak of the number that its four words write; there is one window for it. So do an entry's of its window, and there is one entry.
-- Assumes nothing.
use mathlib.Core.Path.{◌≡◌, sym, ap, ◌∙◌}
use mathlib.Core.List.{List}
use Prim.Native.Nat.{ℕ, ◌*◌, ◌/◌, ◌%◌, ◌^◌}
use lib.ListN.{length}
use lib.Seq.{ext_get_or}
use Rattle.numbers.proofs.FromDigits.{Digits, digit_at}
use Rattle.window.specs.Window.{View, view_of}
use Rattle.window.specs.Entry.{Entry, entry_view}
use Rattle.window.specs.declared.Window.{Window}
use Rattle.window.specs.declared.Entry.{Entry as Held}

pub record FourWords (w : Window) : Type 0 where
  pub four : length w.marks ≡ 4
  pub words : Digits 64 w.marks

pub window_determined : {v w : Window} → FourWords v → FourWords w → view_of v ≡ view_of w → v ≡ w
window_determined {v} {w} p q e =
    let marks : v.marks ≡ w.marks =
    ext_get_or 0 v.marks w.marks (p.four ∙ sym q.four)
    (λ j h. sym (digit_at 64 v.marks p.words j) ∙ ap (λ (x : View). x.marks / 2 ^ (64 * j) % 2 ^ 64) e ∙ digit_at 64 w.marks q.words j) in
    ap (λ (m : List ℕ). record { frame = v.frame; highest = v.highest; marks = m }) marks
    ∙ ap (λ (x : View). record { frame = x.frame; highest = x.highest; marks = w.marks }) e

pub entry_determined : {d e : Held} → FourWords d.window → FourWords e.window → entry_view d ≡ entry_view e → d ≡ e
entry_determined {d} {e} p q same =
    ap (λ (w : Window). record { window = w; accepted = d.accepted; bytes = d.bytes; counters = d.counters }) (window_determined p q (ap (λ (x : Entry). x.window) same))
    ∙ ap (λ (x : Entry). record { window = e.window; accepted = x.accepted; bytes = x.bytes; counters = x.counters }) same
