-- The bytes that digits in hex write, where they stand, and what the readers of lines answer of them.
use Rattle.std.specs.Prelude.{◌≡◌, List, ◌∷◌, ◌++◌, ℕ, Option, Some, None}
use Rattle.std.specs.Borrow.{Bor}
use Rattle.text.specs.Reading.{Read, failed, got}
use Rattle.text.specs.Found.{unhexed}
use Rattle.text.specs.declared.hexed.Hex.{Hex}

abbrev pub written : Hex → List ℕ
written hex = unhexed hex.digits.now

-- the bytes and what is left, or nothing
abbrev pub found_bytes : Option (Hex × Bor (List ℕ)) → Read (List ℕ)
found_bytes (Some (hex, rest)) = got (written hex) rest.now
found_bytes None = failed

-- where the digits stand: behind the name, up to the line feed, behind which is what is left
abbrev pub Stands : List ℕ → List ℕ → Option (Hex × Bor (List ℕ)) → Type 0
Stands name text (Some (hex, rest)) = name ++ (hex.digits.now ++ (10 ∷ rest.now)) ≡ text
Stands name text None = Unit {0}
