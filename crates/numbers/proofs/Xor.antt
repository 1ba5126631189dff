-- Exclusive or with the same number twice changes nothing.
-- Assumes nothing.
use mathlib.Core.Path.{◌≡◌, refl, ap, ap₂, ◌∙◌}
use Prim.Native.Nat.{ℕ, zero, suc, ◌+◌, ◌*◌, ◌/◌, ◌%◌, ◌<◌}
use native.Mathlib.Nat.{mod-lt, div-add-mod'}
use native.Mathlib.Omega.{arith}
use lib.Arith.{bin_ind}
use lib.Bits.{bit_xor, differ, xor_step, xor_shr, xor_mod, xor_self}
use lib.Dec.{lit<}

-- of single digits
digit : (x y : ℕ) → x < 2 → y < 2 → differ (bit_xor x y) y ≡ x
digit zero zero h k = refl
digit zero (suc zero) h k = refl
digit zero (suc (suc y)) h k = absurd (omega arith)
digit (suc zero) zero h k = refl
digit (suc zero) (suc zero) h k = refl
digit (suc zero) (suc (suc y)) h k = absurd (omega arith)
digit (suc (suc x)) y h k = absurd (omega arith)

pub xor_twice : (a g : ℕ) → bit_xor (bit_xor a g) g ≡ a
xor_twice =
    bin_ind (λ (a : ℕ). (g : ℕ) → bit_xor (bit_xor a g) g ≡ a) xor_self
    (λ a ih g.
    xor_step (bit_xor a g) g
    ∙ ap₂ (λ (u v : ℕ). u * 2 + v)
    (ap (λ (u : ℕ). bit_xor u (g / 2)) (xor_shr a g 1) ∙ ih (g / 2))
    (ap (λ (u : ℕ). differ u (g % 2)) (xor_mod a g 1) ∙ digit (a % 2) (g % 2) (mod-lt a (lit< tt)) (mod-lt g (lit< tt)))
    ∙ div-add-mod' a 2)
