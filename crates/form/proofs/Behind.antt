-- The place behind what was read: what is left there is the end of the whole text.
-- Assumes nothing.
use mathlib.Core.Path.{◌≡◌, sym, ap, ◌∙◌}
use mathlib.Core.Bool.{true}
use mathlib.Core.List.{List, [], ◌++◌, append_assoc}
use Prim.Native.Nat.{ℕ, ◌-◌, ◌≤◌}
use native.Mathlib.Omega.{arith}
use borrow.Author.Tests.{eq-eqb, eqb-true}
use lib.Dec.{eqb}
use lib.ListN.{length, take, drop, length-append, length-drop, take-append-drop, drop_of_length-le}
use lib.Seq.{take_all, drop-append_seam}

-- the text from a place on
pub from_place : (text : List ℕ) (at : ℕ) → take (length text - at) (drop at text) ≡ drop at text
from_place text at = take_all (length text - at) (drop at text) (omega (arith, length-drop at text))

module _ (text u rest : List ℕ) (at : ℕ) (e : take (length text - at) (drop at text) ≡ u ++ rest) where
  pub rest_within : length rest ≤ length text
  rest_within = omega (arith, ap length (sym (from_place text at) ∙ e), length-append u rest, length-drop at text)

  pub rest_is : drop (length text - length rest) text ≡ rest
  rest_is =
      let whole : take at text ++ u ++ rest ≡ text =
      append_assoc (take at text) u rest ∙ ap (λ (m : List ℕ). take at text ++ m) (sym e ∙ from_place text at) ∙ take-append-drop at text in
      let place : length text - length rest ≡ length (take at text ++ u) = omega (arith, ap length whole, length-append (take at text ++ u) rest) in
      rw place (ap (λ (m : List ℕ). drop (length (take at text ++ u)) m) (sym whole) ∙ drop-append_seam (take at text ++ u) rest)

-- nothing is left at the end of the text, and nowhere else
pub none_left : (text : List ℕ) (at : ℕ) → eqb at (length text) ≡ true → drop at text ≡ []
none_left text at e = drop_of_length-le text {i = at} (omega (arith, eqb-true at (length text) e))

pub is_the_end : (text : List ℕ) (at : ℕ) → at ≤ length text → drop at text ≡ [] → eqb at (length text) ≡ true
is_the_end text at h e = eq-eqb at (length text) (omega (arith, ap length e, length-drop at text))
