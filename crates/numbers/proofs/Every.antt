-- A test that passes at every element of a list, and so at whatever is read from it.
-- Assumes nothing.
use mathlib.Core.Path.{◌≡◌}
use mathlib.Core.Bool.{Bool, true, ◌&&◌}
use mathlib.Core.List.{List, [], ◌∷◌}
use Prim.Native.Nat.{ℕ, zero, suc}
use lib.ListN.{get_or}
use Rattle.numbers.proofs.Tests.{and_left, and_right}

abbrev pub every : {A : Type 0} → (A → Bool) → List A → Bool
every f [] = true
every f (x ∷ xs) = f x && every f xs

-- past the end the default is read, so the test has to pass there too
pub at_each : {A : Type 0} (f : A → Bool) (l : List A) (d : A) → f d ≡ true → every f l ≡ true → (i : ℕ) → f (get_or l i d) ≡ true
at_each f [] d e t i = e
at_each f (x ∷ xs) d e t zero = and_left (f x) (every f xs) t
at_each f (x ∷ xs) d e t (suc i) = at_each f xs d e (and_right (f x) (every f xs) t) i
