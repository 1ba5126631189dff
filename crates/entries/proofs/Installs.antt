-- What install comes to, by the test that leads there.
-- Assumes nothing.
use mathlib.Core.Path.{◌≡◌, ap, ◌∙◌}
use mathlib.Core.Bool.{true, false}
use mathlib.Core.List.{List}
use Prim.Native.Nat.{ℕ}
use Rattle.window.specs.Window.{sound_frame}
use Rattle.window.specs.declared.Frame.{Frame}
use Rattle.numbers.proofs.Tests.{and_left, and_right, and_both}
use Rattle.answers.specs.Answers.{refused, unsound}
use Rattle.format.specs.KeyData.{sound_of, KeyData}
use Rattle.lookup.specs.Lookup.{leads_to, first_free}
use Rattle.entries.specs.Fresh.{fresh_slot}
use Rattle.entries.specs.Install.{placed, unless_twin, installed, is_fair}
use Rattle.std.specs.Prelude.{None}

-- what 13 refuses is not there
pub record Fair (k : KeyData) (f : Frame) : Type 0 where
  pub sound : sound_of k ≡ true
  pub framed : sound_frame f ≡ true

-- the test of 13, as facts
pub fair_facts : (k : KeyData) (f : Frame) → is_fair k f ≡ true → Fair k f
fair_facts k f h = record { sound = and_left (sound_of k) (sound_frame f) h; framed = and_right (sound_of k) (sound_frame f) h }

pub fair_is_true : {k : KeyData} {f : Frame} → Fair k f → is_fair k f ≡ true
fair_is_true {k} {f} fair = and_both (sound_of k) (sound_frame f) fair.sound fair.framed

module _ (t : List ℕ) (k : KeyData) (f : Frame) where
  pub installs_unfair : is_fair k f ≡ false → installed t k f ≡ record { answer = refused unsound; table = t }
  unfolding installed
  installs_unfair e = rw e

  pub installs : Fair k f → installed t k f ≡ unless_twin t (placed t (fresh_slot k f) (first_free t)) (leads_to t k.flag k.key_id k.source)
  unfolding installed
  installs fair = rw (fair_is_true fair)

  pub installs_alone : Fair k f → leads_to t k.flag k.key_id k.source ≡ None → installed t k f ≡ placed t (fresh_slot k f) (first_free t)
  installs_alone fair none = installs fair ∙ ap (unless_twin t (placed t (fresh_slot k f) (first_free t))) none
