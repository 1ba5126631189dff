-- What change comes to, by the test that leads there.
-- Assumes nothing.
use mathlib.Core.Path.{◌≡◌, ap, ◌∙◌}
use mathlib.Core.Bool.{true, false}
use mathlib.Core.List.{List}
use Prim.Native.Nat.{ℕ}
use Rattle.answers.specs.Answers.{refused, unsound, no_slot}
use Rattle.format.specs.KeyData.{KeyData}
use Rattle.window.specs.declared.Frame.{Frame}
use Rattle.slots.specs.Table.{replaced, is_held}
use Rattle.lookup.specs.Lookup.{leads_elsewhere}
use Rattle.entries.specs.Change.{changed}
use Rattle.entries.specs.Fresh.{fresh_slot}
use Rattle.entries.specs.Install.{done_at, placed, unless_twin, is_fair}
use Rattle.std.specs.Prelude.{None, Some}

module _ (t : List ℕ) (i : ℕ) (k : KeyData) (f : Frame) where
  pub changes_not : is_held t i ≡ false → changed t i k f ≡ record { answer = refused no_slot; table = t }
  unfolding changed
  changes_not e = rw e

  module _ (held : is_held t i ≡ true) where
    pub changes_unfair : is_fair k f ≡ false → changed t i k f ≡ record { answer = refused unsound; table = t }
    unfolding changed
    changes_unfair e = rw (held, e)

    pub changes : is_fair k f ≡ true
        → changed t i k f ≡ unless_twin t (placed t (fresh_slot k f) (Some i)) (leads_elsewhere t i k.flag k.key_id k.source)
    unfolding changed
    changes e = rw (held, e)

    pub changes_alone : is_fair k f ≡ true → leads_elsewhere t i k.flag k.key_id k.source ≡ None
        → changed t i k f ≡ record { answer = done_at i; table = replaced t i (fresh_slot k f) }
    changes_alone e none = changes e ∙ ap (unless_twin t (placed t (fresh_slot k f) (Some i))) none
