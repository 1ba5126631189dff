-- What the readers of lines answer, as their contracts say it: a value and the text that is left behind it, or nothing; and what digits in hex write.
use Rattle.std.specs.Prelude.{cond, List, [], ◌∷◌, ℕ, ◌+◌, ◌*◌, ◌-◌, Option, Some, None}
use Rattle.std.specs.Borrow.{Bor}
use Rattle.std.specs.List.{AllPass}
use Rattle.text.specs.Reading.{Read, failed, got, may_follow, is_hex, value_of}

-- a value and what is left, or nothing
abbrev pub found : {A : Type 0} → Option (A × Bor (List ℕ)) → Read A
found (Some (value, rest)) = got value rest.now
found None = failed

-- x with a digit behind it, where that may follow
abbrev pub next_of : ℕ → ℕ → Option ℕ
next_of x c = cond (may_follow x c) (Some (x * 10 + (c - 48))) None

-- digits in hex
abbrev pub Digits : List ℕ → Type 0
Digits text = AllPass is_hex text

-- the bytes that digits in hex write, two a byte
unfoldable pub unhexed : List ℕ → List ℕ
unhexed [] = []
unhexed (a ∷ []) = []
unhexed (a ∷ b ∷ text) = (value_of a * 16 + value_of b) ∷ unhexed text
