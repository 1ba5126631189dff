-- Numbers by their digits: a digit of a number, and the number that digits write.
use Rattle.std.specs.Prelude.{Bool, List, [], ◌∷◌, ℕ, ◌+◌, ◌*◌, ◌/◌, ◌%◌, ◌^◌, eqb}

-- whether the digit of value 2 ^ i of a number is 1
unfoldable pub bit : ℕ → ℕ → Bool
bit m i = eqb (m / 2 ^ i % 2) 1

-- the number that digits of k bits write, the lowest first
abbrev pub from_digits : ℕ → List ℕ → ℕ
from_digits k [] = 0
from_digits k (x ∷ xs) = x + 2 ^ k * from_digits k xs
