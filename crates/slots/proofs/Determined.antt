-- What `SlotIndex::new` says of a number determines its answer: the slot of that number, or none.
-- Assumes nothing.
use mathlib.Core.Path.{◌≡◌, refl, sym, ap, ◌∙◌}
use mathlib.Core.Logic.{◌↔◌}
use Prim.Native.Nat.{ℕ, ◌<◌, ◌≤◌}
use native.Mathlib.Omega.{arith}
use Rattle.std.specs.Prelude.{Option, Some, None, IsSome, IfSome, IfNone}
use Rattle.slots.specs.Table.{slot_count}

-- its three clauses
pub record Numbered (number : ℕ) (answer : Option ℕ) : Type 0 where
  pub within : IsSome answer ↔ (number < slot_count)
  pub same : IfSome answer (λ slot. slot ≡ number)
  pub past : IfNone answer (slot_count ≤ number)

pub index_determined : (number : ℕ) (a b : Option ℕ) → Numbered number a → Numbered number b → a ≡ b
index_determined number (Some x) (Some y) p q = ap (λ (n : ℕ). Some n) (p.same ∙ sym q.same)
index_determined number (Some x) None p q = absurd (omega (arith, p.within.0 refl, q.past))
index_determined number None (Some y) p q = absurd (omega (arith, q.within.0 refl, p.past))
index_determined number None None p q = refl
