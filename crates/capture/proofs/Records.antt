-- The records of a file one by one: those from a place on are the one that stands there and those behind it.
-- Assumes nothing.
use mathlib.Core.Path.{◌≡◌, refl, sym, ap, ◌∙◌}
use mathlib.Core.List.{List, [], ◌∷◌}
use Prim.Native.Nat.{ℕ, zero, suc, ◌+◌, ◌≤◌, ◌<◌}
use native.Mathlib.Decide.{dec_lt}
use native.Mathlib.Omega.{arith}
use borrow.Author.Tests.{lt-ltb, le-ltb}
use lib.ListN.{length}
use Rattle.capture.specs.Capture.{Item, item_of, ordered_at, records_in, records_from}
use Rattle.capture.specs.declared.order.Order.{Order}
use Rattle.capture.proofs.Places.{placed}

module _ (o : Order) (file : List ℕ) where
  abbrev next : ℕ → ℕ
  next at = (ordered_at o file at).next

  abbrev item : ℕ → Item
  item at = item_of file (ordered_at o file at)

  pub no_more : (n at : ℕ) → length file ≤ at → records_in n o file at ≡ []
  unfolding records_in
  no_more zero at h = refl
  no_more (suc n) at h = rw (le-ltb at (length file) h)

  pub one_further : (n at : ℕ) → at < length file → records_in (suc n) o file at ≡ item at ∷ records_in n o file (next at)
  unfolding records_in
  one_further n at h = rw (lt-ltb at (length file) h)

  -- as many as there are bytes left are all
  enough : (n m at : ℕ) → length file ≤ at + n → length file ≤ at + m → records_in n o file at ≡ records_in m o file at
  enough zero m at p q = no_more zero at (omega arith) ∙ sym (no_more m at (omega arith))
  enough (suc n) zero at p q = no_more (suc n) at (omega arith) ∙ sym (no_more zero at (omega arith))
  enough (suc n) (suc m) at p q = go (dec_lt at (length file)) (λ h. enough n m (next at) (omega (arith, (placed o file at h).further)) (omega (arith, (placed o file at h).further)))
    where
      go : Dec (at < length file) → (at < length file → records_in n o file (next at) ≡ records_in m o file (next at))
          → records_in (suc n) o file at ≡ records_in (suc m) o file at
      go (yes h) rest = one_further n at h ∙ ap (λ (rs : List Item). item at ∷ rs) (rest h) ∙ sym (one_further m at h)
      go (no h) rest = no_more (suc n) at (omega arith) ∙ sym (no_more (suc m) at (omega arith))

  pub records_end : (at : ℕ) → length file ≤ at → records_from o file at ≡ []
  records_end at h = no_more (length file) at h

  pub records_next : (at : ℕ) → at < length file → records_from o file at ≡ item at ∷ records_from o file (next at)
  records_next at h =
      enough (length file) (suc (length file)) at (omega arith) (omega arith) ∙ one_further (length file) at h
